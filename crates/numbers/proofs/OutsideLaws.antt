-- Whether a picture is partial, by areas alone: a number is 255 exactly where its column or its row shows one outside, and
-- what a panel's columns or rows show lies side by side, so that the first and the last tell.
use mathlib.Core.Path.{◌≡◌, refl, sym, ap, ◌∙◌}
use mathlib.Core.Bool.{Bool, true, false, ◌&&◌, ◌||◌, not, false≢true}
use mathlib.Core.List.{List, [], ◌∷◌, ◌++◌}
use Prim.Native.Nat.{ℕ, zero, suc, ◌+◌, ◌-◌, ◌≤◌, ◌<◌}
use native.Mathlib.Decide.{dec_le}
use native.Mathlib.Omega.{arith}
use lib.Dec.{leb, eqb}
use borrow.Author.Tests.{le-leb, leb-true, not-false, ne_eqb}
use Rattle.base.specs.InTurn.{in_turn}
use Rattle.base.specs.Listed.{listed}
use Rattle.base.specs.Pick.{pick}
use Rattle.base.proofs.Cases.{by_cases}
use Rattle.registers.specs.Area.{inside}
use Rattle.ram.specs.Plane.{bit_at}
use Rattle.numbers.specs.declared.Scan.{Scan}
use Rattle.numbers.specs.declared.Mapping.{Mapping}
use Rattle.numbers.specs.Number.{nowhere, shown_at, transition_of, number_of, some_undriven}
use Rattle.numbers.specs.Number.{panel_numbers, some_below, between_both, outside_at, outside_some}

-- ---- some of a list, some below a number
or_or : (a b c : Bool) → a || (b || c) ≡ (a || b) || c
or_or true b c = refl
or_or false b c = refl

or-true : (a : Bool) → a || true ≡ true
or-true true = refl
or-true false = refl

or_false : (a : Bool) → a || false ≡ a
or_false true = refl
or_false false = refl

-- what is or'd to each of two
or_both : (a b c : Bool) → (a || c) || (b || c) ≡ (a || b) || c
or_both true b c = refl
or_both false true true = refl
or_both false true false = refl
or_both false false true = refl
or_both false false false = refl

both_or : (a b c : Bool) → (a || b) || (a || c) ≡ a || (b || c)
both_or true b c = refl
both_or false b c = refl

undriven_both : (a b : List ℕ) → some_undriven (a ++ b) ≡ some_undriven a || some_undriven b
undriven_both [] b = refl
undriven_both (x ∷ a) b = ap (λ (t : Bool). eqb x 255 || t) (undriven_both a b) ∙ or_or (eqb x 255) (some_undriven a) (some_undriven b)

undriven_listed : (n : ℕ) (f : ℕ → ℕ) → some_undriven (listed n f) ≡ some_below n (λ x. eqb (f x) 255)
undriven_listed zero f = refl
undriven_listed (suc n) f = undriven_both (listed n f) (f n ∷ []) ∙ (λ i. undriven_listed n f i || or_false (eqb (f n) 255) i)

undriven_in_turn : (m : ℕ) (f : ℕ → List ℕ) → some_undriven (in_turn m f) ≡ some_below m (λ y. some_undriven (f y))
undriven_in_turn zero f = refl
undriven_in_turn (suc m) f = undriven_both (in_turn m f) (f m) ∙ ap (λ (t : Bool). t || some_undriven (f m)) (undriven_in_turn m f)

some_same : (n : ℕ) (t u : ℕ → Bool) → ((x : ℕ) → t x ≡ u x) → some_below n t ≡ some_below n u
some_same zero t u e = refl
some_same (suc n) t u e = λ i. some_same n t u e i || e n i

some_none : (n : ℕ) → some_below n (λ x. false) ≡ false
some_none zero = refl
some_none (suc n) = rw (some_none n)

-- a test beside one that is the same at each number, of which there is one at least
some_or : (n : ℕ) (t : ℕ → Bool) (b : Bool) → some_below (suc n) (λ x. t x || b) ≡ some_below (suc n) t || b
some_or zero t b = refl
some_or (suc n) t b = ap (λ (s : Bool). s || (t (suc n) || b)) (some_or n t b) ∙ or_both (some_below (suc n) t) (t (suc n)) b

or_some : (n : ℕ) (a : Bool) (t : ℕ → Bool) → some_below (suc n) (λ x. a || t x) ≡ a || some_below (suc n) t
or_some zero a t = refl
or_some (suc n) a t = ap (λ (s : Bool). s || (a || t (suc n))) (or_some n a t) ∙ both_or a (some_below (suc n) t) (t (suc n))

-- rows of numbers, each 255 where one of two tests passes
some_rows : (n m : ℕ) (f : ℕ → ℕ → ℕ) (t u : ℕ → Bool) → ((x y : ℕ) → eqb (f x y) 255 ≡ t x || u y)
    → some_undriven (in_turn m (λ y. listed n (λ x. f x y))) ≡ pick (eqb n 0) false (pick (eqb m 0) false (some_below n t || some_below m u))
some_rows zero m f t u e = undriven_in_turn m (λ y. []) ∙ some_none m
some_rows (suc n) zero f t u e = rw (ne_eqb (suc n) 0 (λ q. absurd (omega arith)))
some_rows (suc n) (suc m) f t u e =
    rw (ne_eqb (suc n) 0 (λ q. absurd (omega arith)), ne_eqb (suc m) 0 (λ q. absurd (omega arith)))
    (undriven_in_turn (suc m) (λ y. listed (suc n) (λ x. f x y))
    ∙ some_same (suc m) (λ y. some_undriven (listed (suc n) (λ x. f x y))) (λ y. some_below (suc n) t || u y)
    (λ y. undriven_listed (suc n) (λ x. f x y) ∙ some_same (suc n) (λ x. eqb (f x y) 255) (λ x. t x || u y) (λ x. e x y) ∙ some_or n t (u y))
    ∙ or_some m (some_below (suc n) t) u)

-- ---- one number
-- p q u v the first area's tests, columns then rows, and s t w z the second's
columns_rows : (p q u v s t w z : Bool) → not ((p && q && u && v) && (s && t && w && z)) ≡ not (p && q && s && t) || not (u && v && w && z)
columns_rows false q u v s t w z = refl
columns_rows true false u v s t w z = refl
columns_rows true true false v s t w z = sym (or-true (not (s && t)))
columns_rows true true true false s t w z = sym (or-true (not (s && t)))
columns_rows true true true true false t w z = refl
columns_rows true true true true true false w z = refl
columns_rows true true true true true true w z = refl

transition_driven : (old new : Bool) → eqb (transition_of old new) 255 ≡ false
unfolding transition_of
transition_driven true true = refl
transition_driven true false = refl
transition_driven false true = refl
transition_driven false false = refl

left_alone : (t : Bool) (k : ℕ) → eqb k 255 ≡ false → eqb (pick t k 255) 255 ≡ not t
left_alone true k e = e
left_alone false k e = refl

module _ (p : Mapping) (old new : List ℕ) where
  number_outside : (x y : ℕ) → eqb (number_of p old new x y) 255
      ≡ outside_at p.columns p.active.x0 p.active.x1 p.area.x0 p.area.x1 x
      || outside_at p.rows p.active.y0 p.active.y1 p.area.y0 p.area.y1 y
  unfolding number_of inside
  number_outside x y =
      let a = p.active in
      let b = p.area in
      let c = shown_at p.columns a.x0 a.x1 x in
      let r = shown_at p.rows a.y0 a.y1 y in
      left_alone (inside a c r && inside b c r) (transition_of (eqb (bit_at old c r) p.white) (eqb (bit_at new c r) p.white))
      (transition_driven (eqb (bit_at old c r) p.white) (eqb (bit_at new c r) p.white))
      ∙ columns_rows (leb a.x0 c) (leb c a.x1) (leb a.y0 r) (leb r a.y1) (leb b.x0 c) (leb c b.x1) (leb b.y0 r) (leb r b.y1)

  -- some number is 255 exactly where a column or a row of the panel falls outside
  pub outside_some_lem : some_undriven (panel_numbers p old new) ≡ outside_some p
  unfolding panel_numbers outside_some
  outside_some_lem =
      some_rows p.columns.count p.rows.count (number_of p old new)
      (outside_at p.columns p.active.x0 p.active.x1 p.area.x0 p.area.x1)
      (outside_at p.rows p.active.y0 p.active.y1 p.area.y0 p.area.y1) number_outside

-- ---- the first and the last tell
some_at : (n : ℕ) (t : ℕ → Bool) (x : ℕ) → x < n → t x ≡ true → some_below n t ≡ true
some_at zero t x h e = absurd (omega arith)
some_at (suc n) t x h e = elim (dec_le n x) [
  | yes k ↦
      let same : n ≡ x = omega arith in
      rw (ap t same ∙ e) (or-true (some_below n t))
  | no k ↦ rw (some_at n t x (omega arith) e)
]

none_below : (n : ℕ) (t : ℕ → Bool) → ((x : ℕ) → x < n → t x ≡ false) → some_below n t ≡ false
none_below zero t e = refl
none_below (suc n) t e = rw (none_below n t (λ x h. e x (omega arith)), e n (omega arith))

and_true : (a b : Bool) → a && b ≡ true → (a ≡ true) × (b ≡ true)
and_true true b e = (refl, e)
and_true false b e = absurd (false≢true e)

module _ (first last from to : ℕ) where
  record Between (c : ℕ) : Type 0 where
    at_first : first ≤ c
    at_last : c ≤ last
    at_from : from ≤ c
    at_to : c ≤ to

  between : (c : ℕ) → not (between_both first last from to c) ≡ false → Between c
  between c e =
      let four = and_true (leb first c && leb c last && leb from c) (leb c to) (not-false (between_both first last from to c) e) in
      let three = and_true (leb first c && leb c last) (leb from c) four.0 in
      let two = and_true (leb first c) (leb c last) three.0 in
      record {
        at_first = leb-true first c two.0;
        at_last = leb-true c last two.1;
        at_from = leb-true from c three.1;
        at_to = leb-true c to four.1;
      }

  within : (c : ℕ) → Between c → not (between_both first last from to c) ≡ false
  within c b = rw (le-leb first c b.at_first, le-leb c last b.at_last, le-leb from c b.at_from, le-leb c to b.at_to)

  -- what the mirror makes of a column or row
  abbrev mirrored : ℕ → ℕ
  mirrored v = pick (leb v (first + last)) (first + last - v) nowhere

  -- nowhere is not between
  mirror_reaches : (v : ℕ) → last < nowhere → Between (mirrored v) → v ≤ first + last
  mirror_reaches v h b = by_cases (leb v (first + last))
      (λ e. leb-true v (first + last) e)
      (λ e. absurd (past (rw e at b.at_last)))
    where
      past : nowhere ≤ last → ⊥
      past k = omega arith

  mirror_is : (v : ℕ) → v ≤ first + last → mirrored v ≡ first + last - v
  mirror_is v h = rw (le-leb v (first + last) h)

  mirror_between : (a b v : ℕ) → last < nowhere → a ≤ v → v ≤ b → Between (mirrored a) → Between (mirrored b) → Between (mirrored v)
  mirror_between a b v h la lb ba bb =
      let reach : b ≤ first + last = mirror_reaches b h bb in
      let ea = mirror_is a (omega arith) in
      let eb = mirror_is b reach in
      let ev = mirror_is v (omega arith) in
      record {
        at_first = omega (arith, eb, ev, bb.at_first);
        at_last = omega (arith, ea, ev, ba.at_last);
        at_from = omega (arith, eb, ev, bb.at_from);
        at_to = omega (arith, ea, ev, ba.at_to);
      }

  -- straight or mirrored
  turned_between : (straight : Bool) (a b v : ℕ) → last < nowhere → a ≤ v → v ≤ b
      → Between (pick straight a (mirrored a)) → Between (pick straight b (mirrored b)) → Between (pick straight v (mirrored v))
  turned_between true a b v h la lb ba bb = record {
    at_first = omega (arith, ba.at_first);
    at_last = omega (arith, bb.at_last);
    at_from = omega (arith, ba.at_from);
    at_to = omega (arith, bb.at_to);
  }
  turned_between false a b v h la lb ba bb = mirror_between a b v h la lb ba bb

  -- reversed in the panel, the first is the last
  ends_between : (reversed straight : Bool) (n v : ℕ) → last < nowhere → v < n →
      let s : Scan = record { reversed = reversed; count = n; straight = straight } in
      Between (shown_at s first last 0) → Between (shown_at s first last (n - 1)) → Between (shown_at s first last v)
  unfolding shown_at
  ends_between true straight n v h l b0 b1 =
      turned_between straight (n - 1 - (n - 1)) (n - 1 - 0) (n - 1 - v) h (omega arith) (omega arith) b1 b0
  ends_between false straight n v h l b0 b1 = turned_between straight 0 (n - 1) v h (omega arith) (omega arith) b0 b1

  pub ends_tell : (s : Scan) → last < nowhere → 0 < s.count →
      outside_at s first last from to 0 || outside_at s first last from to (s.count - 1) ≡ some_below s.count (outside_at s first last from to)
  ends_tell s h some = by_cases (outside_at s first last from to 0)
      (λ e. rw e (sym (some_at s.count (outside_at s first last from to) 0 some e)))
      (λ e. rw e (by_cases (outside_at s first last from to (s.count - 1))
      (λ q. rw q (sym (some_at s.count (outside_at s first last from to) (s.count - 1) (omega arith) q)))
      (λ q. rw q (sym (none_below s.count (outside_at s first last from to)
      (λ v l. within (shown_at s first last v)
      (ends_between s.reversed s.straight s.count v h l (between (shown_at s first last 0) e) (between (shown_at s first last (s.count - 1)) q))))))))
