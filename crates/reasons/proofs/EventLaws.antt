-- The first event that is not listed, looked for one event after the other: it is not listed, and each before it is.
-- A kind is called listed exactly if some value is listed for it.
use mathlib.Core.Path.{◌≡◌, refl, sym, subst, ◌∙◌}
use mathlib.Core.Bool.{Bool, true, false, not, true≢false}
use Rattle.std.proofs.Common.{Option, Some, None}
use mathlib.Core.List.{List}
use Prim.Native.Nat.{ℕ, zero, suc, ◌+◌, ◌-◌, ◌≤◌, ◌<◌}
use native.Mathlib.Nat.{zero-add}
use native.Mathlib.Decide.{dec_le}
use native.Mathlib.Omega.{arith}
use native.Mathlib.Numerals.{add-one}
use lib.Dec.{eqb, leb}
use borrow.Author.Tests.{leb-true, leb-false, ne_eqb}
use Rattle.base.specs.Pick.{pick}
use Rattle.base.proofs.Cases.{by_cases}
use Rattle.capture.specs.Layout.{kind_at, value_at}
use Rattle.capture.specs.Refused.{listed, all_listed}
use Rattle.capture.proofs.ListedLaws.{unlisted_seen, listed_all}
use Rattle.reasons.specs.declared.causes.Reason.{Reason}
use Rattle.reasons.specs.declared.causes.Reason.TheVariants as reason
use Rattle.reasons.specs.Reasons.{known, fault, first_fault, refusal_of}

-- ---- what is picked has what its test has
pub picked : {A : Type 0} (P : A → Type 0) (t : Bool) {a b : A} → (t ≡ true → P a) → (t ≡ false → P b) → P (pick t a b)
picked P true p q = p refl
picked P false p q = q refl

-- ---- a kind is listed for this value, or for none
abbrev pub some_value : ℕ → ℕ
some_value kind = pick (eqb kind 6) 1 0

one_to_six : (kind : ℕ) → 1 ≤ kind → kind ≤ 6 → listed kind (some_value kind) ≡ true
unfolding listed
one_to_six zero l m = absurd (omega arith)
one_to_six (suc zero) l m = refl
one_to_six (suc (suc zero)) l m = refl
one_to_six (suc (suc (suc zero))) l m = refl
one_to_six (suc (suc (suc (suc zero)))) l m = refl
one_to_six (suc (suc (suc (suc (suc zero))))) l m = refl
one_to_six (suc (suc (suc (suc (suc (suc zero)))))) l m = refl
one_to_six (suc (suc (suc (suc (suc (suc (suc k))))))) l m = absurd (omega arith)

none_else : (kind value : ℕ) → ((k : ℕ) → 1 ≤ k → k ≤ 6 → kind ≡ k → ⊥) → listed kind value ≡ false
unfolding listed
none_else kind value other =
    simp (
      ne_eqb kind 1 (other 1 (omega arith) (omega arith)),
      ne_eqb kind 2 (other 2 (omega arith) (omega arith)),
      ne_eqb kind 3 (other 3 (omega arith) (omega arith)),
      ne_eqb kind 4 (other 4 (omega arith) (omega arith)),
      ne_eqb kind 5 (other 5 (omega arith) (omega arith)),
      ne_eqb kind 6 (other 6 (omega arith) (omega arith)),
    )

pub known_some : (kind : ℕ) → known kind ≡ true → listed kind (some_value kind) ≡ true
known_some kind e =
    by_cases (leb 1 kind)
    (λ l. by_cases (leb kind 6)
    (λ m. one_to_six kind (leb-true _ _ l) (leb-true _ _ m))
    (λ m. absurd (true≢false (sym e ∙ simp (l, m)))))
    (λ l. absurd (true≢false (sym e ∙ simp l)))

pub known_none : (kind value : ℕ) → known kind ≡ false → listed kind value ≡ false
known_none kind value e =
    by_cases (leb 1 kind)
    (λ l. by_cases (leb kind 6)
    (λ m. absurd (true≢false (sym (simp (l, m)) ∙ e)))
    (λ m. none_else kind value (λ k g h p. omega (arith, leb-false kind 6 m))))
    (λ l. none_else kind value (λ k g h p. omega (arith, leb-false 1 kind l)))

-- ---- one event after the other
module _ (file : List ℕ) (i n : ℕ) (h : i < n) where
  -- it is event i
  pub fault_here : {kind value : ℕ} → kind ≡ kind_at file i → value ≡ value_at file i → listed kind value ≡ false
      → Some (fault i kind value) ≡ first_fault file i (n - i)
  fault_here k v e =
      let m : n - i ≡ suc (n - (i + 1)) = omega arith in
      rw (m, ← k, ← v, e)

  -- it is none before event i + 1
  pub fault_later : {kind value : ℕ} → kind ≡ kind_at file i → value ≡ value_at file i → listed kind value ≡ true
      → first_fault file i (n - i) ≡ first_fault file (i + 1) (n - (i + 1))
  fault_later k v e =
      let m : n - i ≡ suc (n - (i + 1)) = omega arith in
      rw (m, ← k, ← v, e, add-one i)

-- ---- what the reason says of n events
pub record First (file : List ℕ) (n i : ℕ) : Type 0 where
  pub inside : i < n
  pub unlisted : listed (kind_at file i) (value_at file i) ≡ false
  pub before : (k : ℕ) → k < i → listed (kind_at file k) (value_at file k) ≡ true

-- the first that is not listed, for its kind or for its value; or each is
abbrev pub Faulty : List ℕ → ℕ → Option Reason → Type 0
Faulty file n (Some (reason.Kind i kind)) = First file n i × (kind ≡ kind_at file i) × (known kind ≡ false)
Faulty file n (Some (reason.Value i kind value)) = First file n i × (kind ≡ kind_at file i) × (value ≡ value_at file i) × (known kind ≡ true)
Faulty file n None = (k : ℕ) → k < n → listed (kind_at file k) (value_at file k) ≡ true
Faulty file n (Some (reason.Short bytes)) = ⊥
Faulty file n (Some (reason.Long bytes)) = ⊥
Faulty file n (Some (reason.Offset offset count)) = ⊥
Faulty file n (Some (reason.Length bytes offset)) = ⊥
Faulty file n (Some (reason.Variant v)) = ⊥
Faulty file n (Some (reason.Flags f)) = ⊥

-- one event more that is listed
one_more : (file : List ℕ) (i : ℕ) → ((k : ℕ) → k < i → listed (kind_at file k) (value_at file k) ≡ true)
    → listed (kind_at file i) (value_at file i) ≡ true
    → (k : ℕ) → k < suc i → listed (kind_at file k) (value_at file k) ≡ true
one_more file i b e k h = elim (dec_le i k) [
  | yes l ↦
      let s : k ≡ i = omega arith in
      rw s e
  | no l ↦ b k (omega arith)
]

first_faulty : (file : List ℕ) (i n : ℕ) → ((k : ℕ) → k < i → listed (kind_at file k) (value_at file k) ≡ true)
    → Faulty file (i + n) (first_fault file i n)
first_faulty file i zero b = λ k h. b k (omega arith)
first_faulty file i (suc n) b =
    picked (Faulty file (i + suc n)) (listed (kind_at file i) (value_at file i))
    (λ yes.
    let m : suc i + n ≡ i + suc n = omega arith in
    subst (λ (m : ℕ). Faulty file m (first_fault file (suc i) n)) m (first_faulty file (suc i) n (one_more file i b yes)))
    (λ no.
    let first : First file (i + suc n) i = record { inside = omega arith; unlisted = no; before = b } in
    picked (λ (r : Reason). Faulty file (i + suc n) (Some r)) (known (kind_at file i)) (λ yes. (first, refl, refl, yes)) (λ no. (first, refl, no)))

pub events_faulty : (file : List ℕ) (n : ℕ) → Faulty file n (first_fault file 0 n)
events_faulty file n =
    subst (λ (m : ℕ). Faulty file m (first_fault file 0 n)) (zero-add n) (first_faulty file 0 n (λ k h. absurd (omega arith)))

-- so it is of refusal 9 exactly if not all are listed
faulty_number : (file : List ℕ) (n : ℕ) (r : Option Reason) → Faulty file n r → refusal_of r ≡ pick (not (all_listed file n)) 9 0
faulty_number file n (Some (reason.Kind i kind)) f = rw (unlisted_seen file n i f.0.inside f.0.unlisted)
faulty_number file n (Some (reason.Value i kind value)) f = rw (unlisted_seen file n i f.0.inside f.0.unlisted)
faulty_number file n None f = rw (listed_all file n f)
faulty_number file n (Some (reason.Short bytes)) f = absurd f
faulty_number file n (Some (reason.Long bytes)) f = absurd f
faulty_number file n (Some (reason.Offset offset count)) f = absurd f
faulty_number file n (Some (reason.Length bytes offset)) f = absurd f
faulty_number file n (Some (reason.Variant v)) f = absurd f
faulty_number file n (Some (reason.Flags v)) f = absurd f

pub events_number : (file : List ℕ) (n : ℕ) → refusal_of (first_fault file 0 n) ≡ pick (not (all_listed file n)) 9 0
events_number file n = faulty_number file n (first_fault file 0 n) (events_faulty file n)
