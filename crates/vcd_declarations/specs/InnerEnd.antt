-- The words before the first `$end`, those behind it, and whether there is one.
use Rattle.std.specs.Prelude.{◌≡◌, Bool, true, false, List, [], ◌∷◌, ℕ, ◌≤◌, ltb, length, drop}
use Rattle.base.specs.Pick.{pick}
use Rattle.vcd_words.specs.Words.{words}
use Rattle.vcd_words.specs.Places.{part}
use Rattle.vcd_words.specs.declared.Span.{Span}
use Rattle.vcd_declarations.specs.Declarations.{is_end}

abbrev pub has_end : List (List ℕ) → Bool
has_end [] = false
has_end (w ∷ ws) = pick (is_end w) true (has_end ws)

abbrev pub before : List (List ℕ) → List (List ℕ)
before [] = []
before (w ∷ ws) = pick (is_end w) [] (w ∷ before ws)

abbrev pub past : List (List ℕ) → List (List ℕ)
past [] = []
past (w ∷ ws) = pick (is_end w) ws (past ws)

-- s is the next `$end` from a place on, by its places; without bytes there is none
pub record EndAt (bytes : List ℕ) (at : ℕ) (s : Span) : Type 0 where
  pub found : ltb s.from s.to ≡ has_end (words (drop at bytes))
  pub before_is : ltb s.from s.to ≡ true → words (part bytes at s.from) ≡ before (words (drop at bytes))
  pub past_is : ltb s.from s.to ≡ true → words (drop s.to bytes) ≡ past (words (drop at bytes))
  pub behind : at ≤ s.from
  pub ordered : s.from ≤ s.to
  pub inside : s.to ≤ length bytes
