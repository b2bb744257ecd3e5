-- How the code reads a select, byte by byte. proofs/SelectLaws.antt shows that it takes what `is_select` says, so no public contract
-- speaks of it.
use Rattle.std.specs.Prelude.{Bool, true, false, List, [], ◌∷◌, ℕ, eqb}
use Rattle.base.specs.Pick.{pick}
use Rattle.vcd_words.specs.Words.{is_blank}
use Rattle.vcd_values.specs.Numbers.{is_digit}
use Rattle.vcd_values.specs.declared.selects.State.{State}
use Rattle.vcd_values.specs.declared.selects.State.TheVariants.{Before, First, FirstSigned, FirstDigits}
use Rattle.vcd_values.specs.declared.selects.State.TheVariants.{Second, SecondSigned, SecondDigits, Closed, Wrong}

-- a digit; a minus or a digit; the ]
abbrev pub digit : State → ℕ → State
digit digits b = pick (is_digit b) digits Wrong

abbrev pub index : State → State → ℕ → State
index signed digits b = pick (eqb b 45) signed (digit digits b)

abbrev pub close : ℕ → State
close b = pick (eqb b 93) Closed Wrong

-- one byte more
abbrev pub next : State → ℕ → State
next Before b = pick (eqb b 91) First Wrong
next First b = index FirstSigned FirstDigits b
next FirstSigned b = digit FirstDigits b
next FirstDigits b = pick (is_digit b) FirstDigits (pick (eqb b 58) Second (close b))
next Second b = index SecondSigned SecondDigits b
next SecondSigned b = digit SecondDigits b
next SecondDigits b = pick (is_digit b) SecondDigits (close b)
next Closed b = Wrong
next Wrong b = Wrong

abbrev pub run : State → List ℕ → State
run s [] = s
run s (b ∷ w) = run (next s b) w

abbrev pub is_before : State → Bool
is_before Before = true
is_before First = false
is_before FirstSigned = false
is_before FirstDigits = false
is_before Second = false
is_before SecondSigned = false
is_before SecondDigits = false
is_before Closed = false
is_before Wrong = false

abbrev pub is_closed : State → Bool
is_closed Before = false
is_closed First = false
is_closed FirstSigned = false
is_closed FirstDigits = false
is_closed Second = false
is_closed SecondSigned = false
is_closed SecondDigits = false
is_closed Closed = true
is_closed Wrong = false

-- bytes without their blanks
abbrev pub solid : List ℕ → List ℕ
solid [] = []
solid (b ∷ bytes) = pick (is_blank b) (solid bytes) (b ∷ solid bytes)
