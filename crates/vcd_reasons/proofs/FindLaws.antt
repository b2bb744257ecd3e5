-- Newlines counted one by one; and the first word that breaks: the words read so far, which do not break, and then the next one.
use mathlib.Core.Path.{◌≡◌, refl, sym, ap, ◌∙◌}
use mathlib.Core.Bool.{true, false, cond}
use mathlib.Core.List.{List, [], ◌∷◌, ◌++◌, append_assoc, append_cancel_right}
use Prim.Native.Nat.{ℕ, ◌+◌, ◌≤◌, ◌<◌}
use native.Mathlib.Omega.{arith}
use lib.ListN.{length, take, drop, take-append-drop}
use lib.Seq.{length-take-le, drop-append-le}
use lib.Dec.{eqb}
use Rattle.std.specs.List.{count_by}
use Rattle.std.proofs.lemmas.List.Recursion.{is_count_by}
use Rattle.base.proofs.Cases.{by_cases}
use Rattle.vcd_words.specs.Words.{words}
use Rattle.vcd_words.specs.Places.{part}
use Rattle.vcd_words.specs.declared.Span.{Span}
use Rattle.vcd_words.proofs.SpanLaws.{Next}
use Rattle.vcd_words.proofs.Cutting.{words_join}
use Rattle.vcd_simulation.specs.declared.body.Body.{Body}
use Rattle.vcd_simulation.specs.declared.feeding.Fed.{Fed}
use Rattle.vcd_simulation.specs.Simulation.{Codes, Went, words_done}
use Rattle.vcd_simulation.specs.Feed.{Feeds}
use Rattle.vcd_reasons.specs.Finding.{is_broken, newlines, Breaks}

-- ---- newlines
pub newlines_counted : (l : List ℕ) → newlines l ≡ count_by (λ b. eqb b 10) l
newlines_counted l = is_count_by newlines (λ b. eqb b 10) refl step l
  where
    step : (b : ℕ) (l : List ℕ) → newlines (b ∷ l) ≡ cond (eqb b 10) (1 + newlines l) (newlines l)
    step b l = by_cases (eqb b 10) (λ e. rw e) (λ e. rw e (omega arith))

-- ---- words
words_more : (codes : Codes) (ws : List (List ℕ)) (w : List ℕ) (b : Body)
    → (words_done codes (ws ++ (w ∷ [])) b).body ≡ (words_done codes (w ∷ []) (words_done codes ws b).body).body
words_more codes [] w b = refl
words_more codes (v ∷ ws) w b = words_more codes ws w _

-- the words before a place, after which the body is that one and not broken
pub record Sofar (codes : Codes) (bytes : List ℕ) (at : ℕ) (b : Body) (next : ℕ) (body : Body) : Type 0 where
  pub before : List (List ℕ)
  pub words_are : words (drop at bytes) ≡ before ++ words (drop next bytes)
  pub body_is : body ≡ (words_done codes before b).body
  pub fine : is_broken b.wanted ≡ false → is_broken body.wanted ≡ false

pub sofar_start : (codes : Codes) (bytes : List ℕ) (at : ℕ) (b : Body) → Sofar codes bytes at b at b
sofar_start codes bytes at b = record { before = []; words_are = refl; body_is = refl; fine = λ h. h }

module _ (codes : Codes) (bytes : List ℕ) (at : ℕ) (b : Body) (next : ℕ) (body : Body) (s : Sofar codes bytes at b next body)
    (w : Span) (n : Next bytes next w) (some : w.from < w.to)
    (body' : Body) (e : body' ≡ (words_done codes (part bytes w.from w.to ∷ []) body).body) where
  word : List ℕ
  word = part bytes w.from w.to

  next_body : body' ≡ (words_done codes (s.before ++ (word ∷ [])) b).body
  unfolding word
  next_body = e ∙ ap (λ (x : Body). (words_done codes (word ∷ []) x).body) s.body_is ∙ sym (words_more codes s.before word b)

  split : words (drop at bytes) ≡ s.before ++ (word ∷ words (drop w.to bytes))
  unfolding word
  split = s.words_are ∙ ap (λ (l : List (List ℕ)). s.before ++ l) (n.some some)

  pub sofar_more : is_broken body'.wanted ≡ false → Sofar codes bytes at b w.to body'
  sofar_more h = record {
    before = s.before ++ (word ∷ []);
    words_are = split ∙ sym (append_assoc s.before (word ∷ []) (words (drop w.to bytes)));
    body_is = next_body;
    fine = λ k. h;
  }

  pub sofar_breaks : is_broken body'.wanted ≡ true → Breaks codes bytes at b w
  unfolding word
  sofar_breaks h = record {
    before = s.before;
    behind = words (drop w.to bytes);
    words_are = split;
    fine = λ k. ap (λ (x : Body). is_broken x.wanted) (sym s.body_is) ∙ s.fine k;
    broken = ap (λ (x : Body). is_broken x.wanted) (sym next_body) ∙ h;
  }

-- ---- one word read by itself
module _ (bytes : List ℕ) (at : ℕ) (w : Span) (n : Next bytes at w) (some : w.from < w.to) where
  joins : drop at (take w.to bytes) ++ drop w.to bytes ≡ drop at bytes
  joins =
      let inside : at ≤ length (take w.to bytes) =
      omega (arith, n.behind, n.ordered, n.inside, length-take-le w.to bytes n.inside) in
      sym (drop-append-le at (take w.to bytes) (drop w.to bytes) inside) ∙ ap (drop at) (take-append-drop w.to bytes)

  one_word : words (drop at (take w.to bytes)) ≡ part bytes w.from w.to ∷ []
  one_word =
      append_cancel_right (words (drop at (take w.to bytes))) (part bytes w.from w.to ∷ []) (words (drop w.to bytes))
      (sym (words_join (drop at (take w.to bytes)) (drop w.to bytes) n.shuts) ∙ ap words joins ∙ n.some some)

  pub one_fed : (codes : Codes) (b : Body) (f : Fed) (out out' : List ℕ) → Feeds codes (take w.to bytes) at true b f out out'
      → f.held + 20 ≤ length out → f.body ≡ (words_done codes (part bytes w.from w.to ∷ []) b).body
  one_fed codes b f out out' g h =
      sym
      (ap (λ (ws : List (List ℕ)). (words_done codes ws b).body) (sym one_word)
      ∙ ap (λ (x : Went). x.body) g.all
      ∙ ap (λ (ws : List (List ℕ)). (words_done codes ws f.body).body) (g.stops h))
