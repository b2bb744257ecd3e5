-- What reading gives. Which bytes the system hands over is free.
use Rattle.std.specs.Prelude.{◌≡◌, Bool, true, false, ◌&&◌, not, List, [], ◌∷◌, ℕ, ◌≤◌, ◌<◌, eqb, length, take, drop}
use Rattle.std.specs.Prelude.{Option, Some, None, Result, Ok, Err}
use Rattle.base.specs.Pick.{pick}
use Rattle.input.specs.Within.{IsPrefixLen}
use Rattle.files.specs.declared.reading.Line.{Line}
use Rattle.files.specs.declared.reading.Line.TheVariants.{Whole, TooLong}
use Rattle.files.specs.declared.reading.Got.{Got}

-- `-` is standard input
abbrev pub is_input : List ℕ → Bool
is_input [] = false
is_input (b ∷ []) = eqb b 0x2d
is_input (b ∷ (c ∷ name)) = false

-- a file: n bytes at the buffer's start, and how many there are in all; where they do not fill the buffer, these are all
abbrev pub Gives : Got → List ℕ → Type 0
Gives got buffer =
    IsPrefixLen got.held buffer × ((got.held ≤ got.bytes) × (got.held < length buffer → got.bytes ≡ got.held))

abbrev pub no_newline : List ℕ → Bool
no_newline [] = true
no_newline (b ∷ bytes) = not (eqb b 10) && no_newline bytes

-- n bytes were put at a buffer's start, none of them a newline; the others are as they were
pub record Fills (n : ℕ) (line line' : List ℕ) : Type 0 where
  pub inside : n ≤ length line'
  pub bare : no_newline (take n line') ≡ true
  pub rest : drop n line' ≡ drop n line

pub record FillsSome (line line' : List ℕ) : Type 0 where
  pub n : ℕ
  pub fills : Fills n line line'

-- a line of n bytes; one that is too long fills the buffer; at the end of the input there is none; behind a read that fails some bytes stand
abbrev pub ReadsLine : {E : Type 0} → Result (Option Line) E → List ℕ → List ℕ → Type 0
ReadsLine (Ok (Some (Whole n))) line line' = Fills n line line'
ReadsLine (Ok (Some TooLong)) line line' = Fills (length line) line line'
ReadsLine (Ok None) line line' = line' ≡ line
ReadsLine (Err error) line line' = FillsSome line line'

-- what follows n bytes of a line
abbrev pub line_of : ℕ → Option Line
line_of n = pick (eqb n 0) None (Some (Whole n))

abbrev pub Ends : {E : Type 0} → ℕ → Result (Option Line) E → Type 0
Ends n (Ok (Some (Whole k))) = k ≡ n
Ends n (Ok (Some TooLong)) = Unit
Ends n (Ok None) = n ≡ 0
Ends n (Err error) = Unit
