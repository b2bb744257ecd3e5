-- A pixel's number by rows is its number: inside both areas is a row inside both and a column inside both.
use mathlib.Core.Path.{◌≡◌, refl, sym, subst}
use mathlib.Core.Bool.{Bool, true, false, ◌&&◌}
use mathlib.Core.List.{List}
use Prim.Native.Nat.{ℕ, zero, suc, ◌+◌, ◌*◌, ◌/◌, ◌%◌, ◌<◌, min, max}
use native.Mathlib.Omega.{arith}
use lib.Dec.{T, leb, eqb}
use borrow.Author.Tests.{le-leb, lt-leb, leb-true, leb-false}
use Rattle.base.specs.Pick.{pick}
use Rattle.base.proofs.Cases.{by_cases}
use Rattle.registers.specs.Area.{inside}
use Rattle.registers.specs.declared.Area.{Area}
use Rattle.ram.specs.Plane.{place, bit_at}
use Rattle.numbers.specs.declared.Scan.{Scan}
use Rattle.numbers.specs.declared.Row.{Row}
use Rattle.numbers.specs.declared.Mapping.{Mapping}
use Rattle.numbers.specs.Number.{shown_at, transition_of, number_of}
use Rattle.numbers.specs.InnerRow.{row_at, number_in, number_from, in_order, Outside, Whole}

-- ---- tests of a larger and of a smaller end
leb_max : (a b c : ℕ) → leb (max a b) c ≡ leb a c && leb b c
leb_max a b c = by_cases (leb a c)
    (λ p. by_cases (leb b c)
    (λ q. rw (p, q) (le-leb (max a b) c (omega (arith, leb-true a c p, leb-true b c q))))
    (λ q. rw (p, q) (lt-leb (max a b) c (omega (arith, leb-false b c q)))))
    (λ p. rw p (lt-leb (max a b) c (omega (arith, leb-false a c p))))

leb_min : (a b c : ℕ) → leb c (min a b) ≡ leb c a && leb c b
leb_min a b c = by_cases (leb c a)
    (λ p. by_cases (leb c b)
    (λ q. rw (p, q) (le-leb c (min a b) (omega (arith, leb-true c a p, leb-true c b q))))
    (λ q. rw (p, q) (lt-leb c (min a b) (omega (arith, leb-false c b q)))))
    (λ p. rw p (lt-leb c (min a b) (omega (arith, leb-false c a p))))

-- ---- the tests of two areas, rows first
never : (t : Bool) → t && false ≡ false
never true = refl
never false = refl

-- columns of both, p and q the first area's, s and t the second's
columns_both : (p q s t : Bool) → (p && s) && (q && t) ≡ (p && q) && (s && t)
columns_both true true s t = refl
columns_both true false true t = refl
columns_both true false false t = refl
columns_both false q s t = refl

-- no column lies in an empty row
none_in : (c : ℕ) → leb 1 c && leb c 0 ≡ false
none_in zero = refl
none_in (suc c) = rw (lt-leb (suc c) 0 (omega arith)) (never (leb 1 (suc c)))

always : (t : Bool) → t && true ≡ t
always true = refl
always false = refl

-- p q u v the first area's tests, columns then rows, and s t w z the second's
both : (p q u v s t w z : Bool) → (p && q && u && v) && (s && t && w && z) ≡ ((p && s) && (q && t)) && (u && v && w && z)
both false q u v s t w z = refl
both true false u v true t w z = refl
both true false u v false t w z = refl
both true true false v s t w z = sym (never (s && t))
both true true true false s t w z = sym (never (s && t))
both true true true true true true w z = refl
both true true true true true false w z = refl
both true true true true false t w z = refl

module _ (a b : Area) (c r : ℕ) where
  areas : inside a c r && inside b c r
      ≡ ((leb a.x0 c && leb b.x0 c) && (leb c a.x1 && leb c b.x1))
      && (leb a.y0 r && leb r a.y1 && leb b.y0 r && leb r b.y1)
  unfolding inside
  areas =
      both (leb a.x0 c) (leb c a.x1) (leb a.y0 r) (leb r a.y1) (leb b.x0 c) (leb c b.x1) (leb b.y0 r) (leb r b.y1)

  by_row : (n : ℕ → ℕ)
      → pick (leb (row_at a b r).lo c && leb c (row_at a b r).hi) (n (row_at a b r).row) 255 ≡ pick (inside a c r && inside b c r) (n r) 255
  unfolding row_at
  by_row n = by_cases (leb a.y0 r && leb r a.y1 && leb b.y0 r && leb r b.y1)
      (λ h. rw (areas, h, always, leb_max, leb_min))
      (λ h. rw (areas, h, none_in, never))

pub number_by_row : (p : Mapping) (old new : List ℕ) (y x : ℕ) →
    number_in (row_at p.active p.area (shown_at p.rows p.active.y0 p.active.y1 y)) p.white old new
    (shown_at p.columns p.active.x0 p.active.x1 x)
    ≡ number_of p old new x y
unfolding number_in number_of
number_by_row p old new y x =
    let c = shown_at p.columns p.active.x0 p.active.x1 x in
    by_row p.active p.area c (shown_at p.rows p.active.y0 p.active.y1 y)
    (λ r. transition_of (eqb (bit_at old c r) p.white) (eqb (bit_at new c r) p.white))

-- ---- columns in their order, outside, and of whole bytes
no_test : {X : Type 0} → ◌≡◌ {A = Bool} false true → X
no_test e = absurd (subst (λ (b : Bool). T b) (sym e) tt)

both_flags : (r s : Bool) → pick r false s ≡ true → (r ≡ false) × (s ≡ true)
both_flags true s e = no_test e
both_flags false s e = (refl, e)

pub shown_in_order : (s : Scan) (first last v : ℕ) → in_order s ≡ true → v ≡ shown_at s first last v
unfolding shown_at
shown_in_order s first last v h =
    let e = both_flags s.reversed s.straight h in
    rw (e.1, e.0)

-- ---- where a column lies
module _ (q : Row) (white : ℕ) (old new : List ℕ) (x n count : ℕ) where
  pub outside_numbers : Outside q x n count → (k : ℕ) → k < n → 255 ≡ number_in q white old new (x + k)
  unfolding number_in
  outside_numbers h k l = rw (h.none k l)

  pub whole_numbers : Whole q x n count → (k : ℕ) → k < n * 8 → number_from old new (q.row * 100 + x / 8) white k ≡ number_in q white old new (x + k)
  unfolding number_in bit_at
  whole_numbers h k l =
      let z : x % 8 ≡ 0 = h.begins (omega arith) in
      let at : place (x + k) q.row ≡ q.row * 100 + x / 8 + k / 8 = omega arith in
      let bit : (x + k) % 8 ≡ k % 8 = omega arith in
      rw (h.inside k l, at, bit)
