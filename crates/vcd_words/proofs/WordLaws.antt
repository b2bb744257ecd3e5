-- The words of some bytes: the first one and those of what follows it; and that a cut between two parts changes none of them.
use mathlib.Core.Path.{◌≡◌, refl, sym, ap, ◌∙◌}
use mathlib.Core.Bool.{Bool, true, false}
use mathlib.Core.List.{List, [], ◌∷◌, ◌++◌, append_assoc, append-nil}
use Prim.Native.Nat.{ℕ, suc, ◌≤◌}
use native.Mathlib.Omega.{arith}
use borrow.Author.Tests.{lt-ltb, le-ltb, ltb-true, ltb-false}
use lib.Dec.{ltb}
use lib.ListN.{length, take, drop}
use Rattle.base.specs.Pick.{pick}
use Rattle.base.proofs.Cases.{by_cases}
use Rattle.vcd_words.specs.Words.{is_blank, shut, closed_from, open_from, closed, opened, words}
use Rattle.vcd_words.specs.Places.{front, is_solid}

-- ---- blanks before a word are passed over
past_blank : (b : ℕ) (l : List ℕ) → is_blank b ≡ true → words (b ∷ l) ≡ words l
unfolding words closed opened
past_blank b l e = rw e

closed_blank : (b : ℕ) (l : List ℕ) → is_blank b ≡ true → closed (b ∷ l) ≡ closed l
unfolding closed
closed_blank b l e = rw e

pub past_blanks : (l : List ℕ) → words l ≡ words (drop (front is_blank l) l)
past_blanks [] = refl
past_blanks (b ∷ l) = by_cases (is_blank b) (λ e. rw e (past_blank b l e ∙ past_blanks l)) (λ e. rw e)

pub closed_blanks : (l : List ℕ) → closed l ≡ closed (drop (front is_blank l) l)
closed_blanks [] = refl
closed_blanks (b ∷ l) = by_cases (is_blank b) (λ e. rw e (closed_blank b l e ∙ closed_blanks l)) (λ e. rw e)

-- ---- a word that is open takes the bytes up to the next blank
words_from : List ℕ → List ℕ → List (List ℕ)
words_from w l = closed_from w l ++ shut (open_from w l) []

open_on : (a : ℕ) (v l : List ℕ) → words_from (a ∷ v) l ≡ (a ∷ v ++ take (front is_solid l) l) ∷ words (drop (front is_solid l) l)
unfolding words_from words closed opened
open_on a v [] = ap (λ (x : List ℕ). (a ∷ x) ∷ []) (sym (append-nil v))
open_on a v (b ∷ l) =
    by_cases (is_blank b)
    (λ e. rw (e, append-nil v) (ap (λ (x : List (List ℕ)). (a ∷ v) ∷ x) (sym (past_blank b l e))))
    (λ e. rw e (open_on a (v ++ b ∷ []) l ∙ ap (λ (x : List ℕ). (a ∷ x) ∷ words (drop (front is_solid l) l)) (append_assoc v (b ∷ []) (take (front is_solid l) l))))

ltb_suc : (m n : ℕ) → ltb m n ≡ ltb (suc m) (suc n)
ltb_suc m n =
    by_cases (ltb m n)
    (λ e. e ∙ sym (lt-ltb (suc m) (suc n) (omega (arith, ltb-true m n e))))
    (λ e. e ∙ sym (le-ltb (suc m) (suc n) (omega (arith, ltb-false m n e))))

-- the same of the words that a blank closes
closed_on : (a : ℕ) (v l : List ℕ)
    → closed_from (a ∷ v) l ≡ pick (ltb (front is_solid l) (length l)) ((a ∷ v ++ take (front is_solid l) l) ∷ closed (drop (front is_solid l) l)) []
unfolding closed
closed_on a v [] = refl
closed_on a v (b ∷ l) =
    by_cases (is_blank b)
    (λ e. rw (e, append-nil v, lt-ltb 0 (suc (length l)) (omega arith)) (ap (λ (x : List (List ℕ)). (a ∷ v) ∷ x) (sym (closed_blank b l e))))
    (λ e. rw e (closed_on a (v ++ b ∷ []) l ∙ rw (append_assoc v (b ∷ []) (take (front is_solid l) l), ltb_suc (front is_solid l) (length l)) refl))

solid_first : (b : ℕ) (l : List ℕ) → is_blank b ≡ false
    → words (b ∷ l) ≡ take (front is_solid (b ∷ l)) (b ∷ l) ∷ words (drop (front is_solid (b ∷ l)) (b ∷ l))
unfolding words closed opened words_from
solid_first b l e = rw e (open_on b [] l)

solid_here : (b : ℕ) (l : List ℕ) → front is_blank (b ∷ l) ≡ 0 → is_blank b ≡ false
solid_here b l h =
    by_cases (is_blank b)
    (λ e. absurd (omega (arith, sym (ap (λ (t : Bool). pick t (suc (front is_blank l)) 0) e) ∙ h)))
    (λ e. e)

-- ---- where a word begins: it, and the words of what follows; none where nothing is left
pub first_word : (l : List ℕ) → front is_blank l ≡ 0
    → words l ≡ pick (ltb 0 (front is_solid l)) (take (front is_solid l) l ∷ words (drop (front is_solid l) l)) []
unfolding words closed opened
first_word [] h = refl
first_word (b ∷ l) h =
    let e = solid_here b l h in
    solid_first b l e ∙ rw (e, lt-ltb 0 (suc (front is_solid l)) (omega arith))

pub closed_first : (l : List ℕ) → front is_blank l ≡ 0
    → closed l ≡ pick (ltb (front is_solid l) (length l)) (take (front is_solid l) l ∷ closed (drop (front is_solid l) l)) []
unfolding closed
closed_first [] h = refl
closed_first (b ∷ l) h =
    let e = solid_here b l h in
    rw e (closed_on b [] l ∙ rw (ltb_suc (front is_solid l) (length l)))

-- ---- by places
pub front_none : (t : ℕ → Bool) (l : List ℕ) → front t (drop (front t l) l) ≡ 0
front_none t [] = refl
front_none t (b ∷ l) = by_cases (t b) (λ e. rw e (front_none t l)) (λ e. rw e (rw e))

pub front_most : (t : ℕ → Bool) (l : List ℕ) → front t l ≤ length l
front_most t [] = omega arith
front_most t (b ∷ l) = by_cases (t b) (λ e. rw e (omega (arith, front_most t l))) (λ e. rw e (omega arith))
