-- A variable by places in the words behind its `$var`.
use Rattle.std.specs.Prelude.{◌≡◌, Bool, true, false, ◌&&◌, List, ℕ, ◌<◌, length, drop, Option, Some, None}
use Rattle.base.specs.Pick.{pick}
use Rattle.vcd_words.specs.Words.{words, printable}
use Rattle.vcd_words.specs.Places.{part}
use Rattle.vcd_words.specs.declared.Span.{Span}
use Rattle.vcd_values.specs.declared.times.Width.{Width}
use Rattle.vcd_values.specs.declared.times.Width.TheVariants.{Bit, Wide}
use Rattle.vcd_values.specs.Names.{name_of, signal_of, pin_number, other_signal, no_name}
use Rattle.vcd_declarations.specs.declared.variable.Variable.{Variable}
use Rattle.vcd_declarations.specs.declared.variable.Variable.TheVariants as var
use Rattle.vcd_declarations.specs.Codes.{code_in, Within}
use Rattle.vcd_declarations.specs.Declarations.{signal_in, wide_in, code_of}

-- a size that is none
abbrev pub is_size : Option Width → Bool
is_size (Some w) = true
is_size None = false

abbrev pub is_wide : Option Width → Bool
is_wide (Some Bit) = false
is_wide (Some Wide) = true
is_wide None = false

-- one of the five, another one, or none
abbrev pub variable_number : Option Variable → ℕ
variable_number (Some (var.Of pin wide code)) = pin_number pin
variable_number (Some var.Other) = other_signal
variable_number None = no_name

-- what is said of one of the five
abbrev pub IfFive : Option Variable → (Bool → Span → Type 0) → Type 0
IfFive (Some (var.Of pin wide code)) P = P wide code
IfFive (Some var.Other) P = Unit {0}
IfFive None P = Unit {0}

-- a code and a reference by their places, behind a size
pub record Refers (text : List ℕ) (size : Option Width) (code : Span) (from to : ℕ) (v : Option Variable) : Type 0 where
  pub number_is : variable_number v
      ≡ pick (is_size size && (printable (code_in text code) && printable (part text from to)))
      (signal_of (name_of (part text from to) (words (drop to text)))) no_name
  pub five : IfFive v (λ wide place. (wide ≡ is_wide size) × (place ≡ code))

pub record Found (text : List ℕ) (wide : Bool) (code : Span) : Type 0 where
  pub wide_is : wide ≡ wide_in (words text)
  pub code_is : code_in text code ≡ code_of (words text)
  pub code_in_lem : Within code (length text)
  pub code_some : code.from < code.to

-- the whole declaration
pub record Varies (text : List ℕ) (v : Option Variable) : Type 0 where
  pub number_is : variable_number v ≡ signal_in (words text)
  pub five : IfFive v (Found text)
