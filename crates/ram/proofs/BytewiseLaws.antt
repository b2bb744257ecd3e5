-- Bits that are put one after the other into one byte of a plane are that byte stored once,
-- and whole bytes copied bit by bit are stored one after the other.
use mathlib.Core.Path.{◌≡◌, refl, sym, ap, ◌∙◌}
use mathlib.Core.Bool.{true, ◌&&◌}
use mathlib.Core.List.{List}
use Prim.Native.Nat.{ℕ, zero, suc, ◌+◌, ◌*◌, ◌%◌, ◌<◌, ◌≤◌}
use native.Mathlib.Nat.{zero-add, add_assoc}
use native.Mathlib.Omega.{arith}
use native.Mathlib.Decide.{dec_le}
use lib.Dec.{eqb}
use lib.ListN.{length, get_or, set}
use lib.Seq.{get_or-set_same, set-set, set_out, set-get_or}
use borrow.Author.Tests.{eqb-true}
use Rattle.base.specs.Turns.{turns}
use Rattle.base.proofs.Turns.{turns_join, turns_same, turns_keep}
use Rattle.registers.specs.declared.Area.{Area}
use Rattle.registers.specs.Area.{inside}
use Rattle.ram.specs.Plane.{bit_of, with_bit, place, bit_at, put_bit, Bytes}
use Rattle.ram.specs.InnerBytewise.{merge, whole_byte, copied_bytes}
use Rattle.ram.specs.Write.{put_inside, written}
use Rattle.ram.specs.Copy.{copied_bits}
use Rattle.ram.proofs.AreaLaws.{and_both, inside_between}
use Rattle.ram.proofs.ByteLaws.{merge_whole}
use Rattle.ram.proofs.PlaneLaws.{bytes_set}

-- the byte and the bit of a column that lies in the same byte
pub same_place : (x y i : ℕ) → x % 8 + i < 8 → place (x + i) y ≡ place x y
same_place x y i h = omega arith

pub same_bit : (x i : ℕ) → x % 8 + i < 8 → (x + i) % 8 ≡ x % 8 + i
same_bit x i h = omega arith

-- one bit more in the byte that was stored last
put_again : (p : List ℕ) (x y i c v : ℕ) → x % 8 + i < 8
    → put_bit (set p (place x y) c) (x + i) y v ≡ set p (place x y) (with_bit c (x % 8 + i) v)
unfolding put_bit
put_again p x y i c v h = rw (same_place x y i h, same_bit x i h) (elim (dec_le (length p) (place x y)) [
  | yes out ↦ rw (set_out p (place x y) c out) (set_out p (place x y) _ out ∙ sym (set_out p (place x y) _ out))
  | no in_List ↦ rw (get_or-set_same p (place x y) c 0 (omega arith)) (set-set p (place x y) c _)
])

-- n bits in one byte
pub bits_stored : (p : List ℕ) (x y n b : ℕ) → x % 8 + n ≤ 8
    → turns n (λ i q. put_bit q (x + i) y (bit_of b (x % 8 + i))) p ≡ set p (place x y) (merge (get_or p (place x y) 0) b (x % 8) n)
bits_stored p x y zero b h = sym (set-get_or p (place x y) 0)
bits_stored p x y (suc n) b h =
    rw (bits_stored p x y n b (omega arith))
    (put_again p x y n (merge (get_or p (place x y) 0) b (x % 8) n) (bit_of b (x % 8 + n)) (omega arith))

-- a byte of the plane that lies inside the area is stored whole
pub whole_written : (p : List ℕ) (a : Area) (x y b : ℕ) → Bytes p → b < 256 → whole_byte a x y ≡ true
    → written p a x y b ≡ set p (place x y) b
unfolding written put_inside whole_byte
whole_written p a x y b hp hb e =
    let r = and_both (eqb (x % 8) 0 && inside a x y) (inside a (x + 7) y) e in
    let s = and_both (eqb (x % 8) 0) (inside a x y) r.0 in
    let aligned : x % 8 ≡ 0 = eqb-true (x % 8) 0 s.0 in
    turns_same 8 (λ k q. put_inside a q (x + k) y (bit_of b k)) (λ k q. put_bit q (x + k) y (bit_of b (x % 8 + k))) p
    (λ k q h. rw (inside_between a x 7 k y s.1 r.1 (omega arith), aligned, zero-add k))
    ∙ bits_stored p x y 8 b (omega arith)
    ∙ ap (set p (place x y)) (rw aligned (merge_whole (get_or p (place x y) 0) b (hp (place x y)) hb))

-- n bits copied within one byte
pub bits_copied : (old new : List ℕ) (x y n : ℕ) → x % 8 + n ≤ 8
    → copied_bits old new x y n ≡ set old (place x y) (merge (get_or old (place x y) 0) (get_or new (place x y) 0) (x % 8) n)
unfolding bit_at
bits_copied old new x y n h =
    turns_same n (λ i q. put_bit q (x + i) y (bit_at new (x + i) y))
    (λ i q. put_bit q (x + i) y (bit_of (get_or new (place x y) 0) (x % 8 + i))) old
    (λ i q l. rw (same_place x y i (omega arith), same_bit x i (omega arith)))
    ∙ bits_stored old x y n (get_or new (place x y) 0) h

-- bits copied in two runs are copied in one
pub copied_join : (old new : List ℕ) (x y m n : ℕ) → copied_bits (copied_bits old new x y m) new (x + m) y n ≡ copied_bits old new x y (m + n)
copied_join old new x y m n =
    turns_same n (λ i q. put_bit q (x + m + i) y (bit_at new (x + m + i) y))
    (λ i q. put_bit q (x + (m + i)) y (bit_at new (x + (m + i)) y)) (copied_bits old new x y m)
    (λ i q l. rw (add_assoc x m i))
    ∙ turns_join m n (λ i q. put_bit q (x + i) y (bit_at new (x + i) y)) old

still_bytes : (old new : List ℕ) (at n : ℕ) → Bytes old → Bytes new → Bytes (copied_bytes old new at n)
still_bytes old new at n h l =
    turns_keep Bytes n (λ i p. set p (at + i) (get_or new (at + i) 0)) old
    (λ i p m s. bytes_set p (at + i) (get_or new (at + i) 0) s (l (at + i))) h

-- whole bytes copied bit by bit are copied byte by byte
pub whole_copied : (old new : List ℕ) (x y n : ℕ) → x % 8 ≡ 0 → Bytes old → Bytes new
    → copied_bits old new x y (n * 8) ≡ copied_bytes old new (place x y) n
whole_copied old new x y zero z h l = refl
whole_copied old new x y (suc n) z h l =
    let p = copied_bytes old new (place x y) n in
    let at : place (x + n * 8) y ≡ place x y + n = omega arith in
    let aligned : (x + n * 8) % 8 ≡ 0 = omega arith in
    ap (copied_bits old new x y) {x = suc n * 8} {y = n * 8 + 8} (omega arith)
    ∙ sym (copied_join old new x y (n * 8) 8)
    ∙ ap (λ (q : List ℕ). copied_bits q new (x + n * 8) y 8) (whole_copied old new x y n z h l)
    ∙ bits_copied p new (x + n * 8) y 8 (omega arith)
    ∙ rw (at, aligned)
    (ap (set p (place x y + n))
    (merge_whole (get_or p (place x y + n) 0) (get_or new (place x y + n) 0)
    (still_bytes old new (place x y) n h l (place x y + n)) (l (place x y + n))))
