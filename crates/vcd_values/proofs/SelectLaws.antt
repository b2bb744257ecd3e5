-- A select read byte by byte is a select: from each state what is left is taken exactly if the plain definition says so of it.
use mathlib.Core.Path.{◌≡◌, refl, ◌∙◌}
use mathlib.Core.Bool.{Bool, true, false, ◌&&◌, ◌||◌}
use mathlib.Core.List.{List, [], ◌∷◌}
use Prim.Native.Nat.{ℕ, suc, ◌≤◌}
use native.Mathlib.Omega.{arith}
use lib.Dec.{eqb, ltb}
use lib.ListN.{length, drop, drop_of_length-le}
use borrow.Author.Tests.{eqb-true, lt-ltb}
use Rattle.base.proofs.Cases.{by_cases}
use Rattle.vcd_words.specs.Words.{alike}
use Rattle.vcd_values.specs.declared.selects.State.{State}
use Rattle.vcd_values.specs.declared.selects.State.TheVariants.{Before, First, FirstSigned, FirstDigits}
use Rattle.vcd_values.specs.declared.selects.State.TheVariants.{Second, SecondSigned, SecondDigits, Closed, Wrong}
use Rattle.vcd_values.specs.Numbers.{is_digit, leading, past_digits}
use Rattle.vcd_values.specs.Names.{has_index, past_index, is_closing, is_range, is_select}
use Rattle.vcd_values.specs.Selects.{next, run, is_before, is_closed}

-- what may stand behind the first index, and behind the second
abbrev behind : Bool → List ℕ → Bool
behind true w = is_closing w || is_range w
behind false w = is_closing w

-- what must be left in each state
abbrev pub left : State → List ℕ → Bool
left Before w = is_select w
left First w = has_index w && behind true (past_index w)
left FirstSigned w = ltb 0 (leading w) && behind true (past_digits w)
left FirstDigits w = behind true (past_digits w)
left Second w = has_index w && behind false (past_index w)
left SecondSigned w = ltb 0 (leading w) && behind false (past_digits w)
left SecondDigits w = behind false (past_digits w)
left Closed w = alike w []
left Wrong w = false

-- ---- one byte
or_false : (t : Bool) → t || false ≡ t
or_false true = refl
or_false false = refl

-- digits, with one more in front of them or none
digits_more : (t : Bool) (b : ℕ) (w : List ℕ) → is_digit b ≡ true
    → (ltb 0 (leading (b ∷ w)) && behind t (past_digits (b ∷ w))) ≡ behind t (past_digits w)
digits_more t b w e = rw (e, lt-ltb 0 (suc (leading w)) (omega arith))

digits_none : (t : Bool) (b : ℕ) (w : List ℕ) → is_digit b ≡ false
    → (ltb 0 (leading (b ∷ w)) && behind t (past_digits (b ∷ w))) ≡ false
digits_none t b w e = rw e

colon_open : (b : ℕ) → eqb b 58 ≡ true → eqb b 93 ≡ false
colon_open b e = rw (eqb-true b 58 e)

pub left_next : (s : State) (b : ℕ) (w : List ℕ) → left s (b ∷ w) ≡ left (next s b) w
left_next Before b w = by_cases (eqb b 91) (λ e. rw e) (λ e. rw e)
left_next First b w =
    by_cases (eqb b 45)
    (λ e. rw e)
    (λ e. rw e (by_cases (is_digit b) (λ d. digits_more true b w d ∙ rw d) (λ d. digits_none true b w d ∙ rw d)))
left_next FirstSigned b w = by_cases (is_digit b) (λ d. digits_more true b w d ∙ rw d) (λ d. digits_none true b w d ∙ rw d)
left_next FirstDigits b w =
    by_cases (is_digit b)
    (λ d. rw d)
    (λ d. rw d
    (by_cases (eqb b 58)
    (λ e. rw (e, colon_open b e))
    (λ e. by_cases (eqb b 93) (λ f. rw (e, f) (or_false (alike w []))) (λ f. rw (e, f)))))
left_next Second b w =
    by_cases (eqb b 45)
    (λ e. rw e)
    (λ e. rw e (by_cases (is_digit b) (λ d. digits_more false b w d ∙ rw d) (λ d. digits_none false b w d ∙ rw d)))
left_next SecondSigned b w = by_cases (is_digit b) (λ d. digits_more false b w d ∙ rw d) (λ d. digits_none false b w d ∙ rw d)
left_next SecondDigits b w =
    by_cases (is_digit b)
    (λ d. rw d)
    (λ d. rw d (by_cases (eqb b 93) (λ f. rw f) (λ f. rw f)))
left_next Closed b w = refl
left_next Wrong b w = refl

-- nothing is left
pub left_none : (s : State) → left s [] ≡ is_closed s
left_none Before = refl
left_none First = refl
left_none FirstSigned = refl
left_none FirstDigits = refl
left_none Second = refl
left_none SecondSigned = refl
left_none SecondDigits = refl
left_none Closed = refl
left_none Wrong = refl

-- ---- all bytes
pub left_run : (s : State) (w : List ℕ) → left s w ≡ is_closed (run s w)
left_run s [] = left_none s
left_run s (b ∷ w) = left_next s b w ∙ left_run (next s b) w

pub select_run : (w : List ℕ) → is_select w ≡ is_closed (run Before w)
select_run w = left_run Before w

begun : (s : State) (b : ℕ) → is_before (next s b) ≡ false
begun Before b = by_cases (eqb b 91) (λ e. rw e) (λ e. rw e)
begun First b = by_cases (eqb b 45) (λ e. rw e) (λ e. rw e (by_cases (is_digit b) (λ d. rw d) (λ d. rw d)))
begun FirstSigned b = by_cases (is_digit b) (λ d. rw d) (λ d. rw d)
begun FirstDigits b =
    by_cases (is_digit b)
    (λ d. rw d)
    (λ d. rw d (by_cases (eqb b 58) (λ e. rw e) (λ e. rw e (by_cases (eqb b 93) (λ f. rw f) (λ f. rw f)))))
begun Second b = by_cases (eqb b 45) (λ e. rw e) (λ e. rw e (by_cases (is_digit b) (λ d. rw d) (λ d. rw d)))
begun SecondSigned b = by_cases (is_digit b) (λ d. rw d) (λ d. rw d)
begun SecondDigits b = by_cases (is_digit b) (λ d. rw d) (λ d. rw d (by_cases (eqb b 93) (λ f. rw f) (λ f. rw f)))
begun Closed b = refl
begun Wrong b = refl

pub run_begun : (s : State) (b : ℕ) (w : List ℕ) → is_before (run s (b ∷ w)) ≡ false
run_begun s b [] = begun s b
run_begun s b (d ∷ w) = run_begun (next s b) d w

-- ---- what a state is not
pub before_not : (s : State) → (s ≡ Before → ⊥) → is_before s ≡ false
before_not Before n = absurd (n refl)
before_not First n = refl
before_not FirstSigned n = refl
before_not FirstDigits n = refl
before_not Second n = refl
before_not SecondSigned n = refl
before_not SecondDigits n = refl
before_not Closed n = refl
before_not Wrong n = refl

pub closed_not : (s : State) → (s ≡ Closed → ⊥) → is_closed s ≡ false
closed_not Before n = refl
closed_not First n = refl
closed_not FirstSigned n = refl
closed_not FirstDigits n = refl
closed_not Second n = refl
closed_not SecondSigned n = refl
closed_not SecondDigits n = refl
closed_not Closed n = absurd (n refl)
closed_not Wrong n = refl

-- ---- at the end
pub run_over : (s : State) (w : List ℕ) (i : ℕ) → length w ≤ i → run s (drop i w) ≡ s
run_over s w i h = rw (drop_of_length-le w h)
