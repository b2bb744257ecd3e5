-- A place lies inside an area exactly if its column and its row lie between the first and the last.
use mathlib.Core.Path.{◌≡◌, refl, sym}
use mathlib.Core.Bool.{Bool, true, false, ◌&&◌, and-false, true≢false}
use Prim.Native.Nat.{ℕ, ◌+◌, ◌≤◌, ◌<◌}
use native.Mathlib.Omega.{arith}
use lib.Dec.{leb}
use borrow.Author.Tests.{leb-true, le-leb, lt-leb}
use Rattle.registers.specs.declared.Area.{Area}
use Rattle.registers.specs.Area.{inside}

pub record Within (a : Area) (x y : ℕ) : Type 0 where
  pub left : a.x0 ≤ x
  pub right : x ≤ a.x1
  pub top : a.y0 ≤ y
  pub bottom : y ≤ a.y1

pub and_both : (s t : Bool) → (s && t) ≡ true → (s ≡ true) × (t ≡ true)
and_both true t e = (refl, e)
and_both false t e = absurd (true≢false (sym e))

pub inside_within : (a : Area) (x y : ℕ) → inside a x y ≡ true → Within a x y
unfolding inside
inside_within a x y e =
    let r = and_both (leb a.x0 x && leb x a.x1 && leb a.y0 y) (leb y a.y1) e in
    let q = and_both (leb a.x0 x && leb x a.x1) (leb a.y0 y) r.0 in
    let p = and_both (leb a.x0 x) (leb x a.x1) q.0 in
    record {
      left = leb-true a.x0 x p.0;
      right = leb-true x a.x1 p.1;
      top = leb-true a.y0 y q.1;
      bottom = leb-true y a.y1 r.1;
    }

pub within_inside : (a : Area) (x y : ℕ) → Within a x y → inside a x y ≡ true
unfolding inside
within_inside a x y w = simp (le-leb _ _ w.left, le-leb _ _ w.right, le-leb _ _ w.top, le-leb _ _ w.bottom)

-- what lies between two columns of a row that lie inside
pub inside_between : (a : Area) (x n k y : ℕ) → inside a x y ≡ true → inside a (x + n) y ≡ true → k ≤ n → inside a (x + k) y ≡ true
inside_between a x n k y e f h =
    let v = inside_within a x y e in
    let w = inside_within a (x + n) y f in
    within_inside a (x + k) y (record { left = omega arith; right = omega arith; top = v.top; bottom = v.bottom })

-- past the last column nothing lies inside
pub inside_past : (a : Area) (x y : ℕ) → a.x1 < x → inside a x y ≡ false
unfolding inside
inside_past a x y h = simp (lt-leb _ _ h, and-false)
