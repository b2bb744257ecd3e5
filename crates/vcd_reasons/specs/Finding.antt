-- Where a dump breaks: newlines counted, and the first word after which nothing mends the syntax.
use Rattle.std.specs.Prelude.{◌≡◌, Bool, true, false, List, [], ◌∷◌, ◌++◌, ℕ, ◌+◌, eqb, drop}
use Rattle.base.specs.Pick.{pick}
use Rattle.vcd_words.specs.Words.{words}
use Rattle.vcd_words.specs.Places.{part}
use Rattle.vcd_words.specs.declared.Span.{Span}
use Rattle.vcd_simulation.specs.declared.body.Wanted.{Wanted}
use Rattle.vcd_simulation.specs.declared.body.Wanted.TheVariants as want
use Rattle.vcd_simulation.specs.declared.body.Body.{Body}
use Rattle.vcd_simulation.specs.Simulation.{Codes, words_done}

abbrev pub is_broken : Wanted → Bool
is_broken want.Command = false
is_broken want.Section = false
is_broken want.Text = false
is_broken (want.Code v) = false
is_broken (want.SectionCode v) = false
is_broken want.Broken = true

abbrev pub counted : ℕ → ℕ
counted b = pick (eqb b 10) 1 0

abbrev pub newlines : List ℕ → ℕ
newlines [] = 0
newlines (b ∷ bytes) = counted b + newlines bytes

-- after a word of some bytes from a place on, from the body b on, the syntax is broken; after those before it it was not
pub record Breaks (codes : Codes) (bytes : List ℕ) (at : ℕ) (b : Body) (r : Span) : Type 0 where
  pub before : List (List ℕ)
  pub behind : List (List ℕ)
  pub words_are : words (drop at bytes) ≡ before ++ (part bytes r.from r.to ∷ behind)
  pub fine : is_broken b.wanted ≡ false → is_broken (words_done codes before b).body.wanted ≡ false
  pub broken : is_broken (words_done codes (before ++ (part bytes r.from r.to ∷ [])) b).body.wanted ≡ true
