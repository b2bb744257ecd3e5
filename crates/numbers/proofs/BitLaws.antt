-- The bits of a byte and the number of a pixel, by tests that antt computes at every byte and bit:
-- the other bits of a byte are 255 less it, and a number is 4 less 1 for an old white and less 2 for a new one.
use mathlib.Core.Path.{◌≡◌}
use Prim.Native.Nat.{ℕ, ◌-◌, ◌<◌}
use native.Mathlib.Omega.{arith}
use lib.Dec.{T, eqb, eqb→eq}
use borrow.Author.Tests.{eq-eqb, ne_eqb, eqb-true, eqb-false}
use Rattle.base.proofs.Below.{below, at}
use Rattle.base.proofs.Cases.{by_cases}
use Rattle.ram.specs.Plane.{bit_of}
use Rattle.ram.proofs.ByteLaws.{bit_small}
use Rattle.numbers.specs.Number.{transition_of}
use Rattle.numbers.specs.InnerRow.{number_of_bit}

-- ---- the bits that are white
other_test : T (below 256 (λ b. below 8 (λ k. eqb (bit_of (255 - b) k) (1 - bit_of b k))))
other_test = tt

other : (b k : ℕ) → b < 256 → k < 8 → bit_of (255 - b) k ≡ 1 - bit_of b k
other b k hb hk =
    eqb→eq (bit_of (255 - b) k) (1 - bit_of b k)
    (at 8 (λ k. eqb (bit_of (255 - b) k) (1 - bit_of b k))
    (at 256 (λ b. below 8 (λ k. eqb (bit_of (255 - b) k) (1 - bit_of b k))) other_test b hb) k hk)

less_than_one : (v : ℕ) → eqb (1 - v) 1 ≡ eqb v 0
less_than_one v = by_cases (eqb v 0)
    (λ e. rw e (eq-eqb (1 - v) 1 (omega (arith, eqb-true v 0 e))))
    (λ e. rw e (ne_eqb (1 - v) 1 (λ q. eqb-false v 0 e (omega arith))))

pub zero_white : (b k : ℕ) → b < 256 → k < 8 → eqb (bit_of (255 - b) k) 1 ≡ eqb (bit_of b k) 0
zero_white b k hb hk = rw (other b k hb hk) (less_than_one (bit_of b k))

-- ---- a number without a branch
number_test : T (below 2 (λ o. below 2 (λ n. eqb (4 - o - n - n) (transition_of (eqb o 1) (eqb n 1)))))
unfolding transition_of
number_test = tt

pub number_of_ones : (old new k : ℕ) → 4 - bit_of old k - bit_of new k - bit_of new k ≡ number_of_bit old new 1 k
number_of_ones old new k =
    let o = bit_of old k in
    let n = bit_of new k in
    eqb→eq (4 - o - n - n) (transition_of (eqb o 1) (eqb n 1))
    (at 2 (λ n. eqb (4 - o - n - n) (transition_of (eqb o 1) (eqb n 1)))
    (at 2 (λ o. below 2 (λ n. eqb (4 - o - n - n) (transition_of (eqb o 1) (eqb n 1)))) number_test o (bit_small old k)) n (bit_small new k))
