-- Decimal numbers, and the real numbers of a dump.
use Rattle.std.specs.Prelude.{Bool, true, false, ◌&&◌, ◌||◌, List, [], ◌∷◌, ℕ, suc, ◌+◌, ◌-◌, ◌*◌, eqb, ltb, drop, Option, Some, None}
use Rattle.base.specs.Pick.{pick, between}
use Rattle.text.specs.Text.{ascii}
use Rattle.vcd_words.specs.Words.{alike, every}
use Rattle.vcd_values.specs.declared.times.Width.{Width}
use Rattle.vcd_values.specs.declared.times.Width.TheVariants.{Bit, Wide}

-- 0 to 9
abbrev pub is_digit : ℕ → Bool
is_digit b = between 48 57 b

-- a decimal number: one digit or more
abbrev pub is_number : List ℕ → Bool
is_number [] = false
is_number (b ∷ w) = every is_digit (b ∷ w)

-- its value, behind digits that had the value n
abbrev pub value_from : ℕ → List ℕ → ℕ
value_from n [] = n
value_from n (b ∷ w) = value_from (10 * n + (b - 48)) w

unfoldable pub value_of : List ℕ → ℕ
value_of w = value_from 0 w

-- how many digits a word begins with
abbrev pub leading : List ℕ → ℕ
leading [] = 0
leading (b ∷ w) = pick (is_digit b) (suc (leading w)) 0

-- what follows these digits
abbrev pub past_digits : List ℕ → List ℕ
past_digits w = drop (leading w) w

-- what follows one sign, if there is one: + or -
abbrev pub past_sign : List ℕ → List ℕ
past_sign [] = []
past_sign (b ∷ w) = pick (eqb b 43 || eqb b 45) w (b ∷ w)

-- nothing, or e or E, perhaps a sign, and digits
abbrev pub is_exponent : List ℕ → Bool
is_exponent [] = true
is_exponent (b ∷ w) = (eqb b 69 || eqb b 101) && is_number (past_sign w)

-- perhaps a point with digits, then perhaps an exponent
abbrev pub is_fraction : List ℕ → Bool
is_fraction [] = true
is_fraction (b ∷ w) = pick (eqb b 46) (ltb 0 (leading w) && is_exponent (past_digits w)) (is_exponent (b ∷ w))

-- a letter as a small one
abbrev pub small : ℕ → ℕ
small b = pick (between 65 90 b) (b + 32) b

abbrev pub smalls : List ℕ → List ℕ
smalls [] = []
smalls (b ∷ w) = small b ∷ smalls w

-- nan or inf in any case
abbrev pub is_nameless : List ℕ → Bool
is_nameless w = alike (ascii "nan") (smalls w) || alike (ascii "inf") (smalls w)

-- a real number: perhaps a sign; digits, perhaps a point with digits, perhaps an exponent; or nan or inf
unfoldable pub is_real : List ℕ → Bool
is_real w = is_nameless (past_sign w) || (ltb 0 (leading (past_sign w)) && is_fraction (past_digits (past_sign w)))

-- a time: a number of 64 bits
unfoldable pub time_of : List ℕ → Option ℕ
time_of w = pick (is_number w && ltb (value_of w) 0x1_0000_0000_0000_0000) (Some (value_of w)) None

-- a size: 0 and 1 are no wider than a bit
unfoldable pub size_of : List ℕ → Option Width
size_of w = pick (is_number w) (Some (pick (ltb 1 (value_of w)) Wide Bit)) None
