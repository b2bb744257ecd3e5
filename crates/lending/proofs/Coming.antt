-- A call that comes: the number of refusal 7; one that is not turned back knows the swing and, where it ends a refresh, the states; and
-- what is lent after either.
use mathlib.Core.Path.{◌≡◌, refl, sym, ap, ◌∙◌}
use mathlib.Core.Bool.{Bool, true, false, ◌&&◌, ◌||◌, not, false≢true}
use mathlib.Core.List.{List}
use Prim.Native.Nat.{ℕ, ◌≤◌}
use native.Mathlib.Omega.{arith}
use lib.Dec.{eqb}
use lib.IntN.{ℤ}
use borrow.Author.Tests.{eqb-true}
use Rattle.base.specs.Pick.{pick}
use Rattle.base.specs.declared.refusals.Refusal.{Refusal}
use Rattle.base.specs.RefusalNumbers.{refusal_number}
use Rattle.base.proofs.RefusalWords.{taken, turned}
use Rattle.config.specs.Refusal.{refusal}
use Rattle.config.proofs.RefusalLaws.{accepted}
use Rattle.pixels.specs.States.{most, every_state}
use Rattle.controller.specs.declared.Uc8253.{Uc8253}
use Rattle.controller.specs.World.{World, Buffers, buffers, world}
use Rattle.controller.specs.Counting.{own}
use Rattle.controller.specs.Glass.{driven_at, states_by, picture_by}
use Rattle.controller.specs.Planes.{old_arrived}
use Rattle.controller.specs.TurnedBack.{bad_config, foreign_record, lent_fits, ends_refresh, foreign_contents, turned_back}
use Rattle.lending.specs.InnerSteps.{seven}
use Rattle.lending.specs.Settled.{settled, come_to}

-- ---- refusal 7
pub not_both : {a : Bool} (b : Bool) → a ≡ false → (a && b) ≡ false
not_both b e = simp e

sevens : (s : Bool) → ◌≡◌ {A = ℕ} (pick s 0 7) (pick (not s) 7 0)
sevens true = refl
sevens false = refl

pub contents : {a : Bool} {r : ℕ} (swing : ℕ) (states : List ℤ) → a ≡ true → r ≡ seven swing states
    → r ≡ pick (a && not (every_state swing states)) 7 0
unfolding seven
contents swing states e q = rw e (q ∙ sevens (every_state swing states))

-- ---- what 6 and 7 leave
none_of : (f l c : Bool) → ◌≡◌ {A = ℕ} (pick f 6 (pick l (pick c 7 0) 5)) 0 → (f ≡ false) × (c ≡ false)
none_of true l c e = absurd (omega arith)
none_of false true true e = absurd (omega arith)
none_of false true false e = (refl, refl)
none_of false false c e = absurd (omega arith)

neither : (b r : Bool) → (b || r) ≡ false → b ≡ false
neither true r e = e
neither false r e = refl

denied : (b : Bool) → not b ≡ false → b ≡ true
denied true e = refl
denied false e = sym e

swing_fits : (p : Uc8253) → foreign_record p ≡ false → p.config.optics.full_swing ≤ most
unfolding foreign_record bad_config
swing_fits p e =
    let z : refusal p.config ≡ 0 = eqb-true (refusal p.config) 0 (denied _ (neither (not (eqb (refusal p.config) 0)) _ e)) in
    (accepted p.config z).swing_most

clean : (x y : Bool) → x ≡ true → x && not y ≡ false → y ≡ true
clean true y h e = denied y e
clean false y h e = absurd (false≢true h)

ready : (a : Bool) (t : ℕ) (w : World) → turned_back a t w ≡ 0
    → (w.chip.config.optics.full_swing ≤ most)
    × (ends_refresh a t w.chip ≡ true → every_state w.chip.config.optics.full_swing w.lent.states ≡ true)
unfolding turned_back
ready a t w e =
    let swing = w.chip.config.optics.full_swing in
    let ends = ends_refresh a t w.chip in
    let k = none_of (foreign_record w.chip) (lent_fits w.chip.config w.lent) (ends && foreign_contents swing w.lent) e in
    (swing_fits w.chip k.0, λ h. clean ends (every_state swing w.lent.states) h k.1)

-- ---- a call that has come
module _ (a : Bool) (t : ℕ) (p : Uc8253) (b : Buffers) where
  -- what driving asks
  pub come_ready : 0 ≡ turned_back a t (world p b) → (p.config.optics.full_swing ≤ most)
      × (ends_refresh a t p ≡ true → every_state p.config.optics.full_swing b.states ≡ true)
  come_ready number = ready a t (world p b) (sym number)

  -- and what is lent after it
  pub come_no : (r : Refusal) → refusal_number r ≡ turned_back a t (world p b) → b ≡ come_to a t p b
  unfolding come_to
  come_no r number = rw (turned r number)

  pub come_yes : {m : Buffers} → 0 ≡ turned_back a t (world p b)
      → m.old ≡ old_arrived t p b.old b.new
      → m.new ≡ b.new
      → m.states ≡ states_by (driven_at own a t p) p b.old b.new b.states
      → m.picture ≡ picture_by (driven_at own a t p) p m.states b.picture
      → m.rows ≡ b.rows
      → m ≡ come_to a t p b
  unfolding come_to settled
  come_yes number eo en es ep er =
      rw (taken number)
      (λ i. buffers (eo i) (en i) (es i)
      ((ep ∙ ap (λ (s : List ℤ). picture_by (driven_at own a t p) p s b.picture) es) i) (er i))
