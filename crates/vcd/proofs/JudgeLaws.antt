-- A dump by what reading it gives: the places tell the codes, and the words after the declarations are those that are left.
use mathlib.Core.Path.{◌≡◌, refl, ap, ◌∙◌}
use mathlib.Core.Bool.{Bool, true, false, ◌||◌}
use mathlib.Core.List.{List, []}
use Prim.Native.Nat.{ℕ, ◌≤◌}
use lib.ListN.{length, drop, drop_of_length-le}
use Rattle.vcd_words.specs.Words.{words, closed, opened, alike}
use Rattle.vcd_declarations.specs.declared.head.Begun.{Begun}
use Rattle.vcd_declarations.specs.Codes.{code_in}
use Rattle.vcd_declarations.specs.Begun.{Begins}
use Rattle.vcd_declarations.proofs.HeadLaws.{empty_is}
use Rattle.vcd_simulation.specs.declared.body.Body.{Body}
use Rattle.vcd_simulation.specs.Simulation.{Codes, Went, begun, words_done}
use Rattle.vcd_simulation.specs.Feed.{codes_by}
use Rattle.vcd_simulation.proofs.SameCodes.{Same, words_same}
use Rattle.vcd.specs.Dump.{head_in, codes_in, simulated, malformed, unsignalled, judged}
use Rattle.vcd.specs.Judging.{body_after, malformed_by, unsignalled_by, judged_by}

module _ (dump : List ℕ) (b : Begun) (g : Begins dump b) where
  -- the codes by their places are those that the declarations give
  pub same_codes : Same (codes_by dump b.head) (codes_in dump)
  same_codes = record { five_same = g.codes_are; all_same = g.all_are }

  pub simulated_is : words_done (codes_by dump b.head) (words (drop b.next dump)) begun ≡ simulated dump
  unfolding simulated
  simulated_is = words_same (codes_by dump b.head) (codes_in dump) same_codes (words (drop b.next dump)) begun
      ∙ ap (λ (ws : List (List ℕ)). words_done (codes_in dump) ws begun) g.rest_is

  body_is : body_after dump b.head b.next ≡ (simulated dump).body
  unfolding body_after
  body_is = ap (λ (w : Went). w.body) simulated_is

  pub malformed_is : (body : Body) → body ≡ body_after dump b.head b.next → malformed_by b body ≡ malformed dump
  unfolding malformed
  malformed_is body e = rw (g.broken_is, g.scaled_is, g.ended_is, e, body_is)

  pub unsignalled_is : unsignalled_by b.head ≡ unsignalled dump
  unfolding unsignalled
  unsignalled_is =
      let c = b.head.codes in
      rw (
        g.bad_is,
        ← g.codes_are,
        ← empty_is dump c.cs g.codes_in_lem.cs_in,
        ← empty_is dump c.dc g.codes_in_lem.dc_in,
        ← empty_is dump c.clk g.codes_in_lem.clk_in,
        ← empty_is dump c.mosi g.codes_in_lem.mosi_in,
        ← empty_is dump c.rst g.codes_in_lem.rst_in,
      )
      (ap (λ (t : Bool). (head_in dump).bad || (alike (code_in dump c.cs) [] || (alike (code_in dump c.dc) [] || (alike (code_in dump c.clk) [] || (alike (code_in dump c.mosi) [] || t))))) (or_none (alike (code_in dump c.rst) [])))
    where
      or_none : (t : Bool) → t ≡ (t || false)
      or_none true = refl
      or_none false = refl

  pub judged_is : (body : Body) → body ≡ body_after dump b.head b.next → judged_by b body ≡ judged dump
  unfolding judged_by judged
  judged_is body e = rw (malformed_is body e, unsignalled_is)

-- ---- no word is left
pub rest_none : (codes : Codes) (ws : List (List ℕ)) (body : Body) {x : Body} → body ≡ x → ws ≡ [] → body ≡ (words_done codes ws x).body
rest_none codes ws body e n = rw n e

pub over_none : (codes : Codes) (dump : List ℕ) (at : ℕ) (body : Body) → length dump ≤ at → body ≡ (words_done codes (words (drop at dump)) body).body
unfolding words closed opened
over_none codes dump at body h = rw (drop_of_length-le dump h)
