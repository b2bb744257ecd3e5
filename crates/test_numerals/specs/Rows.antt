-- The decimal numbers of a text: words and spaces are passed over, and the digits that follow make a number.
use Rattle.std.specs.Prelude.{Bool, cond, ◌&&◌, List, [], ◌∷◌, ℕ, ◌+◌, ◌-◌, ◌*◌, min, leb, length, drop}
use Rattle.base.specs.Word.{top}
use Rattle.test_numerals.specs.declared.scan.Number.{Number}

-- '0' to '9'
abbrev pub is_digit : ℕ → Bool
is_digit b = leb 48 b && leb b 57

-- the place of the first digit of bytes that stand from place i on, or of their end
abbrev pub first_digit : ℕ → List ℕ → ℕ
first_digit i [] = i
first_digit i (b ∷ s) = cond (is_digit b) i (first_digit (i + 1) s)

-- the same in a text s, from the place p or its end on
unfoldable pub skipped : List ℕ → ℕ → ℕ
skipped s p = first_digit (min p (length s)) (drop p s)

-- a number with one digit more; each step is held to 2^64 - 1
abbrev pub more : ℕ → Number → Number
more b n = record { value = min (min (n.value * 10) top + (b - 48)) top; next = n.next + 1 }

-- a number with the digits in front of the bytes that follow it
abbrev pub taken : Number → List ℕ → Number
taken n [] = n
taken n (b ∷ s) = cond (is_digit b) (taken (more b n) s) n

-- the number whose digits begin at the place i of the text s
abbrev pub digits_at : List ℕ → ℕ → Number
digits_at s i = taken (record { value = 0; next = i }) (drop i s)

-- the first number at or after the place p; where there is none, 0 and the length
abbrev pub number_at : List ℕ → ℕ → Number
number_at s p = digits_at s (skipped s p)
