-- Only whether a code is one of the five's counts: two lists of codes that agree on that go the same way.
use mathlib.Core.Path.{◌≡◌, refl, ap, ◌∙◌}
use mathlib.Core.Bool.{Bool, true, false, false≢true}
use mathlib.Core.List.{List, [], ◌∷◌, ◌++◌}
use Prim.Native.Nat.{ℕ, ◌<◌}
use lib.ListN.{length, drop}
use Rattle.base.proofs.Cases.{by_cases}
use Rattle.vcd_words.specs.Words.{alike, among, closed}
use Rattle.std.specs.Prelude.{Option, Some, None}
use Rattle.vcd_values.specs.Levels.{level}
use Rattle.vcd_declarations.specs.declared.head.Begun.{Begun}
use Rattle.vcd_declarations.specs.Codes.{five_in}
use Rattle.vcd_declarations.specs.Begun.{all_by, Begins}
use Rattle.vcd_declarations.proofs.Settled.{settled_five, settled_all}
use Rattle.vcd_simulation.specs.declared.body.Wanted.{Wanted}
use Rattle.vcd_simulation.specs.declared.body.Wanted.TheVariants as want
use Rattle.vcd_simulation.specs.declared.body.Body.{Body}
use Rattle.vcd_simulation.specs.Feed.{codes_by}
use Rattle.vcd_simulation.specs.Simulation.{Codes, changes, is_code, code_word, next_of, joined, value_word, command_word, word_by, word_done, words_done}

pub record Same (c d : Codes) : Type 0 where
  pub five_same : c.five ≡ d.five
  pub all_same : (code : List ℕ) → alike code [] ≡ false → among c.all code ≡ among d.all code

module _ (c d : Codes) (s : Same c d) where
  changes_same : (next : Wanted) (code : List ℕ) (v : ℕ) (b : Body) → alike code [] ≡ false → changes c next code v b ≡ changes d next code v b
  unfolding changes
  changes_same x code v b e = rw (s.all_same code e, s.five_same)

  code_some : (code : List ℕ) → is_code code ≡ true → alike code [] ≡ false
  unfolding is_code
  code_some [] e = absurd (false≢true e)
  code_some (x ∷ code) e = refl

  code_same : (next : Wanted) (code : List ℕ) (v : ℕ) (b : Body) → code_word c next code v b ≡ code_word d next code v b
  code_same next code v b = by_cases (is_code code) (λ e. rw e (changes_same next code v b (code_some code e))) (λ e. rw e)

  joined_same : (section : Bool) (x : ℕ) (w : List ℕ) (b : Body) (v : Option ℕ) → joined c section x w b v ≡ joined d section x w b v
  joined_same section x w b (Some v) = code_same (next_of section) w v b
  joined_same section x w b None = refl

  value_same : (section : Bool) (w : List ℕ) (b : Body) → value_word c section w b ≡ value_word d section w b
  unfolding value_word
  value_same section [] b = refl
  value_same section (x ∷ w) b = joined_same section x w b (level x)

  command_same : (w : List ℕ) (b : Body) → command_word c w b ≡ command_word d w b
  unfolding command_word
  command_same [] b = refl
  command_same (x ∷ w) b = rw (value_same false (x ∷ w) b)

  by_same : (x : Wanted) (w : List ℕ) (b : Body) → word_by x c w b ≡ word_by x d w b
  by_same want.Command w b = command_same w b
  by_same want.Section w b = rw (value_same true w b)
  by_same want.Text w b = refl
  by_same (want.Code v) w b = code_same want.Command w v b
  by_same (want.SectionCode v) w b = code_same want.Section w v b
  by_same want.Broken w b = refl

  word_same : (w : List ℕ) (b : Body) → word_done c w b ≡ word_done d w b
  unfolding word_done
  word_same w b = by_same b.wanted w b

  pub words_same : (ws : List (List ℕ)) (b : Body) → words_done c ws b ≡ words_done d ws b
  words_same [] b = refl
  words_same (w ∷ ws) b = rw (word_same w b, words_same ws (word_done d w b).body)

-- the codes of a dump's first bytes are those of the dump, once a word after the declarations is closed in them
pub codes_settled : (h : List ℕ) (b : Begun) → Begins h b → 0 < length (closed (drop b.next h)) → (more : List ℕ)
    → codes_by (h ++ more) b.head ≡ codes_by h b.head
codes_settled h b g k more =
    ap (λ (l : List (List ℕ)). record { five = l; all = all_by (h ++ more) b.head }) (settled_five h more b.head.codes g.codes_in_lem)
    ∙ ap (λ (l : List (List ℕ)). record { five = five_in h b.head.codes; all = l }) (settled_all h b g k more)
