-- The bits of a byte: one that is put is read back and the others stay, by one test that antt computes at every byte, bit and value;
-- and a byte is known by its bits.
use mathlib.Core.Path.{◌≡◌, refl, sym, ap, ◌∙◌}
use mathlib.Core.Bool.{Bool, ◌&&◌}
use Prim.Native.Nat.{ℕ, zero, suc, ◌+◌, ◌-◌, ◌*◌, ◌/◌, ◌%◌, ◌^◌, ◌<◌, ◌≤◌}
use native.Mathlib.Nat.{zero-add, mod-lt, mod-le, mod-eq_of_lt, div-mul-le_self, le_trans, mul-le-mul_right}
use native.Mathlib.Omega.{arith}
use native.Mathlib.Decide.{dec_le}
use borrow.Author.Tests.{eq-eqb, ne_eqb}
use lib.Dec.{T, eqb, eqb→eq, ltb, ltb→lt}
use Rattle.base.specs.Pick.{pick}
use Rattle.base.specs.Turns.{turns}
use Rattle.base.proofs.Below.{below, both, at}
use Rattle.base.proofs.Turns.{turns_same, turns_keep}
use Rattle.ram.specs.Plane.{bit_of, with_bit}
use Rattle.ram.specs.InnerBytewise.{merge}

-- of a byte b with bit k put to v, bit j is v where j is k, and else as it was
right_bit : ℕ → ℕ → ℕ → ℕ → Bool
unfolding with_bit
right_bit b k v j = eqb (bit_of (with_bit b k v) j) (pick (eqb j k) v (bit_of b j))

-- and it is a byte
right_byte : ℕ → ℕ → ℕ → Bool
unfolding with_bit
right_byte b k v = ltb (with_bit b k v) 256 && below 8 (right_bit b k v)

tested : T (below 256 (λ b. below 8 (λ k. below 2 (right_byte b k))))
unfolding right_byte right_bit with_bit
tested = tt

right : (b k v : ℕ) → b < 256 → k < 8 → v < 2 → T (right_byte b k v)
right b k v hb hk hv =
    at 2 (right_byte b k)
    (at 8 (λ k. below 2 (right_byte b k)) (at 256 (λ b. below 8 (λ k. below 2 (right_byte b k))) tested b hb) k hk)
    v hv

pub with_bit_byte : (b k v : ℕ) → b < 256 → k < 8 → v < 2 → with_bit b k v < 256
unfolding right_byte
with_bit_byte b k v hb hk hv =
    ltb→lt (with_bit b k v) 256 (both (ltb (with_bit b k v) 256) (below 8 (right_bit b k v)) (right b k v hb hk hv)).0

pub with_bit_reads : (b k v j : ℕ) → b < 256 → k < 8 → v < 2 → j < 8 → bit_of (with_bit b k v) j ≡ pick (eqb j k) v (bit_of b j)
unfolding right_byte right_bit
with_bit_reads b k v j hb hk hv hj =
    eqb→eq (bit_of (with_bit b k v) j) (pick (eqb j k) v (bit_of b j))
    (at 8 (right_bit b k v) (both (ltb (with_bit b k v) 256) (below 8 (right_bit b k v)) (right b k v hb hk hv)).1 j hj)

-- a bit is 0 or 1
pub bit_small : (b k : ℕ) → bit_of b k < 2
bit_small b k = mod-lt (b / 2 ^ (7 - k)) (omega arith)

-- a bit and its weight lie within the byte, and a shift by less than eight loses none of it
pub bit_within : (b k : ℕ) → bit_of b k * 2 ^ (7 - k) ≤ b
bit_within b k = le_trans (mul-le-mul_right (2 ^ (7 - k)) (mod-le (b / 2 ^ (7 - k)) 2)) (div-mul-le_self b (2 ^ (7 - k)))

shifted_test : T (below 8 (λ k. below 2 (λ v. ltb (v * 2 ^ (7 - k)) 256)))
shifted_test = tt

pub shifted : (k v : ℕ) → k < 8 → v < 2 → v * 2 ^ (7 - k) % 256 ≡ v * 2 ^ (7 - k)
shifted k v hk hv =
    mod-eq_of_lt (ltb→lt (v * 2 ^ (7 - k)) 256
    (at 2 (λ v. ltb (v * 2 ^ (7 - k)) 256) (at 8 (λ k. below 2 (λ v. ltb (v * 2 ^ (7 - k)) 256)) shifted_test k hk) v hv))

-- ---- a byte is known by its bits
abbrev total : ℕ → ℕ
total b = turns 8 (λ k s. s + bit_of b k * 2 ^ (7 - k)) 0

total_test : T (below 256 (λ b. eqb b (total b)))
total_test = tt

total_is : (b : ℕ) → b < 256 → b ≡ total b
total_is b h = eqb→eq b (total b) (at 256 (λ b. eqb b (total b)) total_test b h)

pub by_bits : (b c : ℕ) → b < 256 → c < 256 → ((k : ℕ) → k < 8 → bit_of b k ≡ bit_of c k) → b ≡ c
by_bits b c hb hc e =
    total_is b hb
    ∙ turns_same 8 (λ k s. s + bit_of b k * 2 ^ (7 - k)) (λ k s. s + bit_of c k * 2 ^ (7 - k)) 0
    (λ k s h. ap (λ (v : ℕ). s + v * 2 ^ (7 - k)) (e k h))
    ∙ sym (total_is c hc)

-- ---- bits of one byte put into another
pub merge_byte : (old new k n : ℕ) → old < 256 → k + n ≤ 8 → merge old new k n < 256
merge_byte old new k n h l =
    turns_keep (λ (b : ℕ). b < 256) n (λ i b. with_bit b (k + i) (bit_of new (k + i))) old
    (λ i b m s. with_bit_byte b (k + i) (bit_of new (k + i)) s (omega arith) (bit_small new (k + i))) h

merge_new : (old new k n i : ℕ) → old < 256 → k + n ≤ 8 → i < n → bit_of (merge old new k n) (k + i) ≡ bit_of new (k + i)
merge_new old new k zero i h l m = absurd (omega arith)
merge_new old new k (suc n) i h l m =
    let put =
    with_bit_reads (merge old new k n) (k + n) (bit_of new (k + n)) (k + i)
    (merge_byte old new k n h (omega arith)) (omega arith) (bit_small new (k + n)) (omega arith) in
    elim (dec_le n i) [
      | yes e ↦ let s : i ≡ n = omega arith in put ∙ rw s (rw (eq-eqb (k + n) (k + n) refl))
      | no ne ↦ put ∙ rw (ne_eqb (k + i) (k + n) (λ s. omega arith)) (merge_new old new k n i h (omega arith) (omega arith))
    ]

-- all eight bits of a byte are the byte
pub merge_whole : (old new : ℕ) → old < 256 → new < 256 → merge old new 0 8 ≡ new
merge_whole old new h l =
    by_bits (merge old new 0 8) new (merge_byte old new 0 8 h (omega arith)) l
    (λ k m. rw (zero-add k) at (merge_new old new 0 8 k h (omega arith) m))
