-- A number with its commas: below 1,000 its digits, any other that of its thousands, a comma and three digits.
-- Without the commas these are its digits, since three more digits are the tens of a tenth, thrice.
use mathlib.Core.Path.{◌≡◌, refl, sym, ap, ◌∙◌}
use mathlib.Core.List.{List, [], ◌∷◌, ◌++◌, append_assoc}
use Prim.Native.Nat.{ℕ, zero, suc, ◌+◌, ◌/◌, ◌%◌, ◌≤◌, ◌<◌}
use native.Mathlib.Nat.{not-suc-le-zero}
use native.Mathlib.Omega.{arith}
use lib.Dec.{eqb, ltb}
use borrow.Author.Tests.{lt-ltb, le-ltb, ltb-false, ne_eqb}
use Rattle.base.specs.Pick.{pick}
use Rattle.base.proofs.Cases.{by_cases}
use Rattle.text.specs.Text.{ascii, digits_in, digits}
use Rattle.text.proofs.Digits.{digits_more}
use Rattle.reasons.specs.Groups.{three, grouped_in, grouped}

-- any count of groups that is above the number is enough
enough : (k l x : ℕ) → x < k → x < l → grouped_in k x ≡ grouped_in l x
enough zero l x h j = absurd (not-suc-le-zero h)
enough (suc k) zero x h j = absurd (not-suc-le-zero j)
enough (suc k) (suc l) x h j =
    by_cases (ltb x 1000)
    (λ t. rw t)
    (λ f. let m : 1000 ≤ x = ltb-false x 1000 f in
    rw (f, enough k l (x / 1000) (omega arith) (omega arith)))

pub grouped_few : (x : ℕ) → x < 1000 → grouped x ≡ digits x
unfolding grouped
grouped_few x h = rw (lt-ltb x 1000 h)

pub grouped_more : (x : ℕ) → 1000 ≤ x → grouped x ≡ grouped (x / 1000) ++ (44 ∷ three (x % 1000))
unfolding grouped
grouped_more x h =
    rw (le-ltb x 1000 h, enough x (suc (x / 1000)) (x / 1000) (omega arith) (omega arith))
    (append_assoc (grouped_in (suc (x / 1000)) (x / 1000)) (ascii ",") (three (x % 1000)))

-- ---- without the commas
abbrev pub bare : List ℕ → List ℕ
bare [] = []
bare (c ∷ l) = pick (eqb c 44) (bare l) (c ∷ bare l)

bare_then : (l m : List ℕ) → bare (l ++ m) ≡ bare l ++ bare m
bare_then [] m = refl
bare_then (c ∷ l) m = by_cases (eqb c 44) (λ t. rw (t, bare_then l m)) (λ f. rw (f, bare_then l m))

-- a digit is no comma
bare_one : (d : ℕ) (l : List ℕ) → bare ((48 + d) ∷ l) ≡ (48 + d) ∷ bare l
bare_one d l = rw (ne_eqb (48 + d) 44 (λ e. omega arith))

bare_three : (x : ℕ) → bare (three x) ≡ three x
bare_three x = rw (bare_one (x / 100), bare_one (x / 10 % 10), bare_one (x % 10))

bare_in : (k x : ℕ) → bare (digits_in k x) ≡ digits_in k x
bare_in zero x = refl
bare_in (suc k) x =
    by_cases (ltb x 10)
    (λ t. rw t (bare_one x []))
    (λ f. rw (f, bare_then (digits_in k (x / 10)) ((48 + x % 10) ∷ []), bare_in k (x / 10), bare_one (x % 10) []))

bare_digits : (x : ℕ) → bare (digits x) ≡ digits x
unfolding digits
bare_digits x = bare_in (suc x) x

-- three more digits
three_more : (x : ℕ) → 1000 ≤ x → digits x ≡ digits (x / 1000) ++ three (x % 1000)
three_more x h =
    let thousands : x / 10 / 10 / 10 ≡ x / 1000 = omega arith in
    let hundreds : x / 10 / 10 % 10 ≡ x % 1000 / 100 = omega arith in
    let tens : x / 10 % 10 ≡ x % 1000 / 10 % 10 = omega arith in
    let ones : x % 10 ≡ x % 1000 % 10 = omega arith in
    rw (digits_more x (omega arith), digits_more (x / 10) (omega arith), digits_more (x / 10 / 10) (omega arith))
    (rw (thousands, hundreds, tens, ones)
    (ap (λ (l : List ℕ). l ++ ((48 + x % 1000 % 10) ∷ []))
    (append_assoc (digits (x / 1000)) ((48 + x % 1000 / 100) ∷ []) ((48 + x % 1000 / 10 % 10) ∷ []))
    ∙ append_assoc (digits (x / 1000)) ((48 + x % 1000 / 100) ∷ (48 + x % 1000 / 10 % 10) ∷ []) ((48 + x % 1000 % 10) ∷ [])))

bare_grouped_in : (k x : ℕ) → x < k → bare (grouped_in k x) ≡ digits x
bare_grouped_in zero x h = absurd (not-suc-le-zero h)
bare_grouped_in (suc k) x h =
    by_cases (ltb x 1000)
    (λ t. rw t (bare_digits x))
    (λ f. let m : 1000 ≤ x = ltb-false x 1000 f in
    rw (f, append_assoc (grouped_in k (x / 1000)) (ascii ",") (three (x % 1000)))
    (bare_then (grouped_in k (x / 1000)) (44 ∷ three (x % 1000))
    ∙ rw (bare_grouped_in k (x / 1000) (omega arith), bare_three (x % 1000)) (sym (three_more x m))))

-- removing the commas gives the digits
pub bare_grouped : (x : ℕ) → bare (grouped x) ≡ digits x
unfolding grouped
bare_grouped x = bare_grouped_in (suc x) x (omega arith)
