-- Codes by their places: one that is put in an empty place, or before others.
use mathlib.Core.Path.{◌≡◌, refl, sym, ap, ◌∙◌}
use mathlib.Core.Bool.{Bool, true, false, ◌&&◌, ◌||◌, not, false≢true}
use mathlib.Core.List.{List, [], ◌∷◌, ◌++◌}
use Prim.Native.Nat.{ℕ, zero, suc, ◌<◌}
use native.Mathlib.Omega.{arith}
use borrow.Author.Tests.{eqb-true}
use lib.Dec.{eqb}
use lib.ListN.{length, get_or, set}
use mathlib.Core.List.{map}
use Rattle.std.specs.List.{list_any}
use Rattle.vcd_words.specs.declared.Span.{Span}
use Rattle.base.specs.Pick.{pick}
use Rattle.base.proofs.Cases.{by_cases}
use Rattle.vcd_words.specs.Words.{alike, among}

pub or_none : (a b : Bool) → (a || b) ≡ false → (a ≡ false) × (b ≡ false)
or_none true b e = absurd (false≢true (sym e))
or_none false b e = (refl, e)

pub not_none : (a : Bool) → not a ≡ false → a ≡ true
not_none true e = refl
not_none false e = absurd (false≢true (sym e))

pub alike_is : (v w : List ℕ) → alike v w ≡ true → v ≡ w
alike_is [] [] e = refl
alike_is [] (b ∷ w) e = absurd (false≢true e)
alike_is (a ∷ v) [] e = absurd (false≢true e)
alike_is (a ∷ v) (b ∷ w) e =
    by_cases (eqb a b)
    (λ t. ap (λ (x : ℕ). x ∷ v) (eqb-true a b t) ∙ ap (λ (l : List ℕ). b ∷ l) (alike_is v w (ap (λ (x : Bool). x && alike v w) (sym t) ∙ e)))
    (λ t. absurd (false≢true (ap (λ (x : Bool). x && alike v w) (sym t) ∙ e)))

-- ---- a code put in an empty place
turned : (s t : Bool) (r : Bool) → pick s true (pick t true r) ≡ pick t true (pick s true r)
turned true true r = refl
turned true false r = refl
turned false true r = refl
turned false false r = refl

none_empty : (v code : List ℕ) → alike v [] ≡ true → alike code [] ≡ false → alike code v ≡ false
none_empty [] code e f = f
none_empty (x ∷ v) code e f = absurd (false≢true e)

pub put_in : (l : List (List ℕ)) (i : ℕ) (c code : List ℕ) → i < length l → alike (get_or l i []) [] ≡ true → alike code [] ≡ false
    → among (set l i c) code ≡ pick (alike code c) true (among l code)
put_in [] i c code h e f = absurd (omega (arith, h))
put_in (v ∷ l) zero c code h e f = rw (none_empty v code e f)
put_in (v ∷ l) (suc i) c code h e f = rw (put_in l i c code (omega (arith, h)) e f) (turned (alike code v) (alike code c) (among l code))

-- ---- one before others
pub put_before : (l k : List (List ℕ)) (c code : List ℕ) → among (l ++ (c ∷ k)) code ≡ pick (alike code c) true (among (l ++ k) code)
put_before [] k c code = refl
put_before (v ∷ l) k c code = rw (put_before l k c code) (turned (alike code v) (alike code c) (among (l ++ k) code))

-- the last place is empty
pub none_last : (l : List (List ℕ)) (v code : List ℕ) → alike v [] ≡ true → alike code [] ≡ false → among (l ++ (v ∷ [])) code ≡ among l code
none_last [] v code e f = rw (none_empty v code e f)
none_last (u ∷ l) v code e f = rw (none_last l v code e f)

-- ---- some, and then others
pub among_join : (l k : List (List ℕ)) (code : List ℕ) → among (l ++ k) code ≡ pick (among l code) true (among k code)
among_join [] k code = refl
among_join (v ∷ l) k code =
    by_cases (alike code v) (λ e. rw e) (λ e. rw e (among_join l k code))

-- the codes at some places
pub among_map : (f : Span → List ℕ) (l : List Span) (code : List ℕ) → among (map f l) code ≡ list_any (λ s. alike code (f s)) l
among_map f [] code = refl
among_map f (s ∷ l) code = by_cases (alike code (f s)) (λ e. rw e) (λ e. rw e (among_map f l code))

pub placed_is : (k : List (List ℕ)) (f : Span → List ℕ) (l : List Span) (code : List ℕ)
    → among (k ++ map f l) code ≡ pick (among k code) true (list_any (λ s. alike code (f s)) l)
placed_is k f l code = among_join k (map f l) code ∙ ap (pick (among k code) true) (among_map f l code)
