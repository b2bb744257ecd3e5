-- A `match` on a number, held against a definition: what is computed at each number of an arm,
-- or of a range less the keys tested before, holds of the number matched.
use mathlib.Core.Path.{◌≡◌, refl, sym, subst}
use mathlib.Core.Bool.{Bool, true, false}
use mathlib.Core.List.{List, [], ◌∷◌, ◌++◌}
use mathlib.Core.Logic.{⊎_elim, inl, inr}
use Prim.Native.Nat.{ℕ, zero, suc, ◌+◌, ◌≤◌, ◌<◌}
use native.Mathlib.Omega.{arith}
use native.Mathlib.Decide.{dec_le}
use lib.Dec.{T}
use borrow.Author.Tests.{ne_eqb}
use types.Run.{OneOf}
use Rattle.base.specs.Pick.{pick, one_of}

-- ---- an arm of single numbers: P at each
abbrev pub Each : (ℕ → Type 0) → List ℕ → Type 0
Each P [] = Unit
Each P (k ∷ ks) = P k × Each P ks

pub at_key : (P : ℕ → Type 0) (ks : List ℕ) (x : ℕ) → Each P ks → OneOf ks x → P x
at_key P [] x a h = absurd h
at_key P (k ∷ []) x a h = subst P (sym h) a.0
at_key P (k ∷ l ∷ ks) x a h = ⊎_elim (λ e. subst P (sym e) a.0) (λ t. at_key P (l ∷ ks) x a.1 t) h

-- ---- the rest of a `match`: none of the arms' keys, the last arm first
abbrev pub Rest : List (List ℕ) → ℕ → Type 0
Rest [] x = Unit
Rest (ks ∷ arms) x = Rest arms x × (OneOf ks x → ⊥)

abbrev pub keys_of : List (List ℕ) → List ℕ
keys_of [] = []
keys_of (ks ∷ arms) = ks ++ keys_of arms

none_before : (ks l : List ℕ) (x : ℕ) → (OneOf ks x → ⊥) → one_of l x ≡ false → one_of (ks ++ l) x ≡ false
none_before [] l x h e = e
none_before (k ∷ []) l x h e = simp (ne_eqb x k h, e)
none_before (k ∷ m ∷ ks) l x h e = simp (ne_eqb x k (λ q. h (inl q)), none_before (m ∷ ks) l x (λ t. h (inr t)) e)

pub no_key : (arms : List (List ℕ)) (x : ℕ) → Rest arms x → one_of (keys_of arms) x ≡ false
no_key [] x r = refl
no_key (ks ∷ arms) x r = none_before ks (keys_of arms) x r.1 (no_key arms x r.0)

-- ---- a range: P at each of the n numbers from lo that is none of the keys
abbrev pub Unless : Bool → Type 0 → Type 0
Unless true A = Unit
Unless false A = A

abbrev pub EachBut : (ℕ → Type 0) → List ℕ → ℕ → ℕ → Type 0
EachBut P keys lo zero = Unit
EachBut P keys lo (suc n) = Unless (one_of keys lo) (P lo) × EachBut P keys (suc lo) n

met : (t : Bool) (A : Type 0) → t ≡ false → Unless t A → A
met true A e a = absurd (subst T e tt)
met false A e a = a

pub in_range : (P : ℕ → Type 0) (keys : List ℕ) (lo n x : ℕ) → EachBut P keys lo n → one_of keys x ≡ false → lo ≤ x → x < lo + n → P x
in_range P keys lo zero x a e h k = absurd (omega arith)
in_range P keys lo (suc n) x a e h k = elim (dec_le x lo) [
  | yes m ↦
      let s : x ≡ lo = omega arith in
      subst P (sym s) (met (one_of keys lo) (P lo) (rw s at e) a.0)
  | no m ↦ in_range P keys (suc lo) n x a.1 e (omega arith) (omega arith)
]

-- the same for a test, in one computation
abbrev pub each_but : (ℕ → Bool) → List ℕ → ℕ → ℕ → Bool
each_but f keys lo zero = true
each_but f keys lo (suc n) = pick (pick (one_of keys lo) true (f lo)) (each_but f keys (suc lo) n) false

here : (s t r : Bool) → T (pick (pick s true t) r false) → Unless s (T t) × T r
here true t true h = (tt, tt)
here true t false h = absurd h
here false true r h = (tt, h)
here false false r h = absurd h

computed : (f : ℕ → Bool) (keys : List ℕ) (lo n : ℕ) → T (each_but f keys lo n) → EachBut (λ k. T (f k)) keys lo n
computed f keys lo zero t = tt
computed f keys lo (suc n) t =
    let p = here (one_of keys lo) (f lo) (each_but f keys (suc lo) n) t in
    (p.0, computed f keys (suc lo) n p.1)

pub test_in_range : (f : ℕ → Bool) (keys : List ℕ) (lo n x : ℕ) → T (each_but f keys lo n) → one_of keys x ≡ false → lo ≤ x → x < lo + n
    → T (f x)
test_in_range f keys lo n x t = in_range (λ k. T (f k)) keys lo n x (computed f keys lo n t)
