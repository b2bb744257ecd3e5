-- Numbers in decimal with a comma between groups of three digits.
use Rattle.std.specs.Prelude.{List, [], ◌∷◌, ◌++◌, ℕ, zero, suc, ◌+◌, ◌/◌, ◌%◌, ltb}
use Rattle.base.specs.Pick.{pick}
use Rattle.text.specs.Text.{ascii, digits}

-- hundreds, tens and ones, zeros in front too
abbrev pub three : ℕ → List ℕ
three x = (48 + x / 100) ∷ (48 + x / 10 % 10) ∷ (48 + x % 10) ∷ []

-- below 1,000 the digits, else the thousands, a comma and three digits; k groups are enough
abbrev pub grouped_in : ℕ → ℕ → List ℕ
grouped_in zero x = []
grouped_in (suc k) x =
    let thousands = grouped_in k (x / 1000) in
    pick (ltb x 1000) (digits x) (thousands ++ ascii "," ++ three (x % 1000))

-- no number has more groups than one more than itself
unfoldable pub grouped : ℕ → List ℕ
grouped x = grouped_in (suc x) x
