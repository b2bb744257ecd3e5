-- What a byte that is written makes of every bit of a plane.
use mathlib.Core.Path.{◌≡◌, sym, subst, ◌∙◌}
use mathlib.Core.Bool.{true, false, ◌&&◌, true≢false}
use mathlib.Core.List.{List}
use Prim.Native.Nat.{ℕ, ◌+◌, ◌-◌, ◌<◌, ◌≤◌}
use native.Mathlib.Omega.{arith}
use lib.Dec.{eqb, leb}
use lib.ListN.{length}
use borrow.Author.Tests.{eqb-true, leb-true, eq-eqb, le-leb}
use Rattle.base.specs.Pick.{pick}
use Rattle.base.proofs.Cases.{by_cases}
use Rattle.registers.specs.declared.Area.{Area}
use Rattle.registers.specs.Area.{inside}
use Rattle.ram.specs.Plane.{bit_of, place, bit_at, Bytes}
use Rattle.ram.specs.Write.{put_inside, written}
use Rattle.ram.proofs.AreaLaws.{and_both, inside_within}
use Rattle.ram.proofs.ByteLaws.{bit_small}
use Rattle.ram.proofs.PlaneLaws.{length_row, bytes_row, row_other, row_same}

pub length_written : (p : List ℕ) (a : Area) (x y b : ℕ) → length (written p a x y b) ≡ length p
unfolding written put_inside
length_written p a x y b = length_row x y (λ k. inside a (x + k) y) (bit_of b) (bit_small b) p 8

pub bytes_written : (p : List ℕ) (a : Area) (x y b : ℕ) → Bytes p → Bytes (written p a x y b)
unfolding written put_inside
bytes_written p a x y b = bytes_row x y (λ k. inside a (x + k) y) (bit_of b) (bit_small b) p 8

-- the eight columns from x of row y that lie inside the area have the bits of b, and every other bit is as it was
pub written_bit : (p : List ℕ) (a : Area) (x y b x' y' : ℕ) → Bytes p → a.x1 ≤ 799 → x' < 800 → place x' y' < length p
    → bit_at (written p a x y b) x' y' ≡ pick (eqb y' y && leb x x' && leb x' (x + 7) && inside a x' y') (bit_of b (x' - x)) (bit_at p x' y')
unfolding written put_inside
written_bit p a x y b x' y' h hc hx within =
    by_cases (eqb y' y && leb x x' && leb x' (x + 7) && inside a x' y') (λ t. rw t (put t)) (λ t. rw t (kept t))
  where
    room : (k : ℕ) → k < 8 → inside a (x + k) y ≡ true → x + k < 800
    room k l t = let w = inside_within a (x + k) y t in omega arith

    put : (eqb y' y && leb x x' && leb x' (x + 7) && inside a x' y') ≡ true → bit_at (written p a x y b) x' y' ≡ bit_of b (x' - x)
    put t =
        let s = and_both (eqb y' y && leb x x' && leb x' (x + 7)) (inside a x' y') t in
        let r = and_both (eqb y' y && leb x x') (leb x' (x + 7)) s.0 in
        let q = and_both (eqb y' y) (leb x x') r.0 in
        let row : y' ≡ y = eqb-true y' y q.0 in
        let first : x ≤ x' = leb-true x x' q.1 in
        let last : x' ≤ x + 7 = leb-true x' (x + 7) r.1 in
        let column : x' ≡ x + (x' - x) = omega arith in
        subst (λ (c : ℕ). bit_at (written p a x y b) c y' ≡ bit_of b (x' - x)) (sym column)
        (rw row (row_same x y (λ k. inside a (x + k) y) (bit_of b) (bit_small b) p 8 (x' - x) h room (omega arith)
        (subst (λ (c : ℕ). inside a c y ≡ true) column (rw row at s.1))
        (subst (λ (c : ℕ). place c y < length p) column (rw row at within))))

    kept : (eqb y' y && leb x x' && leb x' (x + 7) && inside a x' y') ≡ false → bit_at (written p a x y b) x' y' ≡ bit_at p x' y'
    kept t =
        row_other x y (λ k. inside a (x + k) y) (bit_of b) (bit_small b) p 8 x' y' h room hx
        (λ k l i e f.
        let there : inside a x' y' ≡ true = rw (e, f) i in
        true≢false (sym (simp (eq-eqb y' y f, le-leb x x' (omega arith), le-leb x' (x + 7) (omega arith), there)) ∙ t))
