-- The codes of the five signals, by their places in some bytes.
use Rattle.std.specs.Prelude.{◌≡◌, List, [], ◌∷◌, ◌++◌, ℕ, ◌≤◌, length, map}
use Rattle.vcd_words.specs.declared.Span.{Span}
use Rattle.vcd_words.specs.Places.{part}
use Rattle.vcd_declarations.specs.declared.codes.Codes.{Codes}
use Rattle.vcd_declarations.specs.declared.codes.Further.{Further}

abbrev pub code_in : List ℕ → Span → List ℕ
code_in bytes s = part bytes s.from s.to

abbrev pub five_in : List ℕ → Codes → List (List ℕ)
five_in bytes c =
    code_in bytes c.cs ∷ code_in bytes c.dc ∷ code_in bytes c.clk ∷ code_in bytes c.mosi ∷ code_in bytes c.rst ∷ []

abbrev pub further_in : List ℕ → Further → List (List ℕ)
further_in bytes f = map (code_in bytes) f.codes

-- the first codes of the five, and the others
abbrev pub placed_in : List ℕ → Codes → Further → List (List ℕ)
placed_in bytes c f = five_in bytes c ++ further_in bytes f

-- a place in so many bytes
pub record Within (s : Span) (size : ℕ) : Type 0 where
  pub ordered : s.from ≤ s.to
  pub inside : s.to ≤ size

pub record AllWithin (c : Codes) (size : ℕ) : Type 0 where
  pub cs_in : Within c.cs size
  pub dc_in : Within c.dc size
  pub clk_in : Within c.clk size
  pub mosi_in : Within c.mosi size
  pub rst_in : Within c.rst size

abbrev pub EachWithin : List Span → ℕ → Type 0
EachWithin [] size = Unit {0}
EachWithin (s ∷ places) size = Within s size × EachWithin places size

-- eight places
pub record FurtherWithin (f : Further) (size : ℕ) : Type 0 where
  pub eight : length f.codes ≡ 8
  pub each_in : EachWithin f.codes size
