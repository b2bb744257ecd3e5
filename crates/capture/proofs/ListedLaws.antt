-- The test of all events passes exactly if each event is listed.
use mathlib.Core.Path.{◌≡◌, refl, sym, ◌∙◌}
use mathlib.Core.Bool.{Bool, true, false, ◌&&◌, true≢false}
use mathlib.Core.List.{List}
use Prim.Native.Nat.{ℕ, zero, suc, ◌+◌, ◌<◌}
use native.Mathlib.Omega.{arith}
use native.Mathlib.Numerals.{add-one}
use native.Mathlib.Decide.{dec_le}
use Rattle.base.proofs.Cases.{by_cases}
use Rattle.capture.specs.Layout.{kind_at, value_at}
use Rattle.capture.specs.Refused.{listed, all_listed}

no_second : (a : Bool) → (a && false) ≡ false
no_second true = refl
no_second false = refl

pub unlisted_seen : (file : List ℕ) (n k : ℕ) → k < n → listed (kind_at file k) (value_at file k) ≡ false → all_listed file n ≡ false
unlisted_seen file zero k h e = absurd (omega arith)
unlisted_seen file (suc n) k h e = elim (dec_le n k) [
  | yes m ↦
      let s : n ≡ k = omega arith in
      rw (s, e) (no_second (all_listed file k))
  | no m ↦ rw (unlisted_seen file n k (omega arith) e)
]

pub each_listed : (file : List ℕ) (n : ℕ) → all_listed file n ≡ true → (k : ℕ) → k < n → listed (kind_at file k) (value_at file k) ≡ true
each_listed file n e k h =
    by_cases (listed (kind_at file k) (value_at file k))
    (λ yes. yes)
    (λ no. absurd (true≢false (sym e ∙ unlisted_seen file n k h no)))

pub listed_all : (file : List ℕ) (n : ℕ) → ((k : ℕ) → k < n → listed (kind_at file k) (value_at file k) ≡ true) → all_listed file n ≡ true
listed_all file zero f = refl
listed_all file (suc n) f = rw (listed_all file n (λ k h. f k (omega arith)), f n (omega arith))

-- one event more
pub listed_more : (file : List ℕ) (n : ℕ) → all_listed file n ≡ true → listed (kind_at file n) (value_at file n) ≡ true
    → all_listed file (n + 1) ≡ true
listed_more file n e f = rw (add-one n, e, f)
