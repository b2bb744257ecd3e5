-- A call arrives: the controller's clock, its ends and the copy of new to old, seen as the machine's.
use mathlib.Core.Path.{◌≡◌, refl, ap, ◌∙◌}
use mathlib.Core.Bool.{Bool, true, false, ◌&&◌, true≢false}
use mathlib.Core.List.{List}
use Prim.Native.Nat.{ℕ, max}
use lib.Dec.{leb}
use Rattle.base.specs.Pick.{pick}
use Rattle.base.proofs.Cases.{by_cases}
use Rattle.registers.specs.Flags.{copies_new_to_old}
use Rattle.controller.specs.declared.Power.{Power}
use Rattle.controller.specs.declared.Power.TheVariants as power
use Rattle.controller.specs.declared.Refresh.{Refresh}
use Rattle.controller.specs.declared.Uc8253.{Uc8253}
use Rattle.controller.specs.declared.Work.{Work}
use Rattle.controller.specs.declared.Work.TheVariants as work
use Rattle.controller.specs.Command.{busy}
use Rattle.controller.specs.Arrives.{timed, ended_by, ended, arrived}
use Rattle.controller.specs.Refresh.{ended_refresh}
use Rattle.controller.specs.Planes.{old_arrived}
use Rattle.walk.specs.Machine.{settled}
use Rattle.walk.proofs.Seen.{seen, Calm}

module _ (t : ℕ) (p : Uc8253) (old new : List ℕ) (calm : Calm (seen p old new)) where
  abbrev Settles : Type 0
  Settles = seen (arrived t p) (old_arrived t p old new) new ≡ (settled p.config t (seen p old new)).machine

  asleep_ends : (y : Power) → p.operation.work ≡ work.DeepSleep → p.mode.power ≡ y → leb p.operation.until (max p.now t) ≡ true → Settles
  unfolding arrived ended settled old_arrived
  asleep_ends power.Running e k l = rw (e, k, l)
  asleep_ends power.Asleep e k l = rw (e, k, l)
  asleep_ends power.InReset e k l = absurd (true≢false (rw (e, k) at calm.still refl))

  refresh_ends : (r : Refresh) → p.operation.work ≡ work.Refresh r → Settles
  unfolding arrived ended settled old_arrived ended_refresh
  refresh_ends r e =
      by_cases (leb p.operation.until (max p.now t))
      (λ l. by_cases (copies_new_to_old p.config.variant p.regs) (λ k. rw (e, l, k)) (λ k. rw (e, l, k)))
      (λ l. rw (e, l))

  settles_by : (x : Work) → p.operation.work ≡ x → Settles
  unfolding arrived ended settled old_arrived
  settles_by work.Nothing e = by_cases (leb p.operation.until (max p.now t)) (λ l. rw (e, l)) (λ l. rw (e, l))
  settles_by work.PowerOn e = by_cases (leb p.operation.until (max p.now t)) (λ l. rw (e, l)) (λ l. rw (e, l))
  settles_by work.PowerOff e = by_cases (leb p.operation.until (max p.now t)) (λ l. rw (e, l)) (λ l. rw (e, l))
  settles_by work.DeepSleep e =
      by_cases (leb p.operation.until (max p.now t)) (λ l. asleep_ends p.mode.power e refl l) (λ l. rw (e, l))
  settles_by work.SoftReset e = by_cases (leb p.operation.until (max p.now t)) (λ l. rw (e, l)) (λ l. rw (e, l))
  settles_by work.HardwareReset e = by_cases (leb p.operation.until (max p.now t)) (λ l. rw (e, l)) (λ l. rw (e, l))
  settles_by (work.Refresh r) e = refresh_ends r e

  pub seen_arrived : seen (arrived t p) (old_arrived t p old new) new ≡ (settled p.config t (seen p old new)).machine
  seen_arrived = settles_by p.operation.work refl

-- after it what still runs has its end above the clock
abbrev pub Waits : Uc8253 → Type 0
Waits p = (busy p.operation.work && leb p.operation.until p.now) ≡ false

and-false : (a : Bool) → (a && false) ≡ false
and-false true = refl
and-false false = refl

module _ (p : Uc8253) where
  waits_by : (x : Work) → p.operation.work ≡ x → Waits (ended_by x p)
  waits_by work.Nothing e = ap (λ (y : Work). busy y && leb p.operation.until p.now) e
  waits_by work.PowerOn e = refl
  waits_by work.PowerOff e = refl
  waits_by work.DeepSleep e = refl
  waits_by work.SoftReset e = refl
  waits_by work.HardwareReset e = refl
  waits_by (work.Refresh r) e = refl

  waits_picked : (t : Bool) → leb p.operation.until p.now ≡ t → Waits (pick t (ended_by p.operation.work p) p)
  waits_picked true e = waits_by p.operation.work refl
  waits_picked false e = ap (λ (t : Bool). busy p.operation.work && t) e ∙ and-false (busy p.operation.work)

  waits_ended : Waits (ended p)
  unfolding ended
  waits_ended = waits_picked (leb p.operation.until p.now) refl

pub waits_arrived : (t : ℕ) (p : Uc8253) → Waits (arrived t p)
unfolding arrived
waits_arrived t p = waits_ended (timed t p)
