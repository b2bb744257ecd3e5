-- What an area that is copied makes of every bit of the old plane.
use mathlib.Core.Path.{◌≡◌, refl, sym, subst, ◌∙◌}
use mathlib.Core.Bool.{true, true≢false}
use mathlib.Core.List.{List}
use Prim.Native.Nat.{ℕ, zero, suc, ◌+◌, ◌-◌, ◌<◌, ◌≤◌}
use native.Mathlib.Omega.{arith}
use native.Mathlib.Decide.{dec_le, ℕ_discrete}
use lib.ListN.{length}
use Rattle.base.specs.Pick.{pick}
use Rattle.base.specs.Turns.{turns}
use Rattle.base.proofs.Cases.{by_cases}
use Rattle.base.proofs.Turns.{turns_keep}
use Rattle.registers.specs.declared.Area.{Area}
use Rattle.registers.specs.Area.{inside}
use Rattle.ram.specs.Plane.{place, bit_at, Bytes}
use Rattle.ram.specs.Copy.{copied_bits, copied_row, copied}
use Rattle.ram.proofs.AreaLaws.{inside_within, within_inside}
use Rattle.ram.proofs.PlaneLaws.{bit_at_small, length_row, bytes_row, row_other, row_same}

-- ---- bits along a row
module _ (new : List ℕ) (x y n : ℕ) where
  length_bits : (old : List ℕ) → length (copied_bits old new x y n) ≡ length old
  length_bits old = length_row x y (λ k. true) (λ k. bit_at new (x + k) y) (λ k. bit_at_small new (x + k) y) old n

  bytes_bits : (old : List ℕ) → Bytes old → Bytes (copied_bits old new x y n)
  bytes_bits old = bytes_row x y (λ k. true) (λ k. bit_at new (x + k) y) (λ k. bit_at_small new (x + k) y) old n

  bits_other : (old : List ℕ) (x' y' : ℕ) → Bytes old → x + n ≤ 800 → x' < 800 → (x ≤ x' → x' < x + n → y' ≡ y → ⊥)
      → bit_at (copied_bits old new x y n) x' y' ≡ bit_at old x' y'
  bits_other old x' y' h room hx apart =
      row_other x y (λ k. true) (λ k. bit_at new (x + k) y) (λ k. bit_at_small new (x + k) y) old n x' y' h (λ k l t. omega arith) hx
      (λ k l t e. apart (omega arith) (omega arith))

  bits_same : (old : List ℕ) (x' : ℕ) → Bytes old → x + n ≤ 800 → x ≤ x' → x' < x + n → place x' y < length old
      → bit_at (copied_bits old new x y n) x' y ≡ bit_at new x' y
  bits_same old x' h room first last within =
      let column : x + (x' - x) ≡ x' = omega arith in
      subst (λ (c : ℕ). bit_at (copied_bits old new x y n) c y ≡ bit_at new c y) column
      (row_same x y (λ k. true) (λ k. bit_at new (x + k) y) (λ k. bit_at_small new (x + k) y) old n
      (x' - x) h (λ k l t. omega arith) (omega arith) refl
      (rw column within))

-- the first m rows of the area
abbrev rows_to : List ℕ → List ℕ → Area → ℕ → List ℕ
rows_to old new a m = turns m (λ j p. copied_row p new a (a.y0 + j)) old

module _ (old new : List ℕ) (a : Area) where
  length_rows : (m : ℕ) → length (rows_to old new a m) ≡ length old
  length_rows m =
      turns_keep (λ (q : List ℕ). length q ≡ length old) m (λ j p. copied_row p new a (a.y0 + j)) old
      (λ j p l e. length_bits new a.x0 (a.y0 + j) (a.x1 + 1 - a.x0) p ∙ e) refl

  bytes_rows : (m : ℕ) → Bytes old → Bytes (rows_to old new a m)
  bytes_rows m =
      turns_keep Bytes m (λ j p. copied_row p new a (a.y0 + j)) old
      (λ j p l. bytes_bits new a.x0 (a.y0 + j) (a.x1 + 1 - a.x0) p)

  module _ (h : Bytes old) (hc : a.x1 ≤ 799) (x' y' : ℕ) (hx : x' < 800) where
    -- the bit of a column or a row that is not among those of the area
    row_kept : (m : ℕ) → (a.x0 ≤ x' → x' ≤ a.x1 → y' ≡ a.y0 + m → ⊥)
        → bit_at (rows_to old new a (suc m)) x' y' ≡ bit_at (rows_to old new a m) x' y'
    row_kept m apart = elim (dec_le a.x0 a.x1) [
      | yes some ↦
          bits_other new a.x0 (a.y0 + m) (a.x1 + 1 - a.x0) (rows_to old new a m) x' y' (bytes_rows m h) (omega arith) hx
          (λ f l. apart f (omega arith))
      | no none ↦
          let empty : a.x1 + 1 - a.x0 ≡ 0 = omega arith in
          rw empty
    ]

    rows_other : (m : ℕ) → (a.x0 ≤ x' → x' ≤ a.x1 → a.y0 ≤ y' → y' < a.y0 + m → ⊥) → bit_at (rows_to old new a m) x' y' ≡ bit_at old x' y'
    rows_other zero apart = refl
    rows_other (suc m) apart =
        row_kept m (λ f l e. apart f l (omega arith) (omega arith))
        ∙ rows_other m (λ f l g k. apart f l g (omega arith))

    rows_same : (m : ℕ) → a.x0 ≤ x' → x' ≤ a.x1 → a.y0 ≤ y' → y' < a.y0 + m → place x' y' < length old
        → bit_at (rows_to old new a m) x' y' ≡ bit_at new x' y'
    rows_same zero f l g k within = absurd (omega arith)
    rows_same (suc m) f l g k within = elim (ℕ_discrete y' (a.y0 + m)) [
      | yes e ↦
          rw e
          (bits_same new a.x0 (a.y0 + m) (a.x1 + 1 - a.x0) (rows_to old new a m) x' (bytes_rows m h) (omega arith) f (omega arith)
          (rw (length_rows m) (rw e at within)))
      | no ne ↦ row_kept m (λ s t e. ne e) ∙ rows_same m f l g (omega (arith, ne)) within
    ]

pub length_copied : (old new : List ℕ) (a : Area) → length (copied old new a) ≡ length old
unfolding copied
length_copied old new a = length_rows old new a (a.y1 + 1 - a.y0)

pub bytes_copied : (old new : List ℕ) (a : Area) → Bytes old → Bytes (copied old new a)
unfolding copied
bytes_copied old new a = bytes_rows old new a (a.y1 + 1 - a.y0)

-- a bit inside the area is new's, and every other bit is as it was
pub copied_bit : (old new : List ℕ) (a : Area) (x' y' : ℕ) → Bytes old → a.x1 ≤ 799 → x' < 800 → place x' y' < length old
    → bit_at (copied old new a) x' y' ≡ pick (inside a x' y') (bit_at new x' y') (bit_at old x' y')
unfolding copied
copied_bit old new a x' y' h hc hx within =
    by_cases (inside a x' y')
    (λ t.
    let w = inside_within a x' y' t in
    rw t (rows_same old new a h hc x' y' hx (a.y1 + 1 - a.y0) w.left w.right w.top (omega arith) within))
    (λ t. rw t (rows_other old new a h hc x' y' hx (a.y1 + 1 - a.y0)
    (λ f l g k. true≢false (sym (within_inside a x' y' (record { left = f; right = l; top = g; bottom = omega arith })) ∙ t))))
