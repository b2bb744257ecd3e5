-- The reset line: what the controller makes of its edges, seen as what the machine makes of them.
use mathlib.Core.Path.{◌≡◌, refl, ◌∙◌}
use mathlib.Core.Bool.{true, false}
use mathlib.Core.List.{List}
use Prim.Native.Nat.{ℕ}
use Rattle.controller.specs.declared.Power.{Power}
use Rattle.controller.specs.declared.Power.TheVariants as power
use Rattle.controller.specs.declared.Uc8253.{Uc8253}
use Rattle.controller.specs.declared.Work.{Work}
use Rattle.controller.specs.declared.Work.TheVariants as work
use Rattle.controller.specs.Refresh.{cut_refresh}
use Rattle.controller.specs.Reset as rst
use Rattle.controller.specs.Counting.{own}
use Rattle.walk.specs.Machine.{quiet, cleared, lowered, raised}
use Rattle.walk.proofs.Seen.{seen}

module _ (p : Uc8253) (old new : List ℕ) where
  -- release
  seen_raised : (y : Power) → p.mode.power ≡ y → seen (rst.raised_by own y p) old new ≡ raised p.config (seen p old new)
  unfolding raised
  seen_raised power.Running e = rw e
  seen_raised power.Asleep e = rw e
  seen_raised power.InReset e = rw e

  pub seen_high : seen (rst.reset_edge own false p) old new ≡ raised p.config (seen p old new)
  unfolding rst.reset_edge
  seen_high = seen_raised p.mode.power refl

  -- assertion: what runs is dropped
  seen_cleared : (x : Work) → seen (rst.cleared (rst.cut_by x p)) old new ≡ cleared p.config (seen p old new)
  unfolding rst.cleared cleared cut_refresh
  seen_cleared work.Nothing = refl
  seen_cleared work.PowerOn = refl
  seen_cleared work.PowerOff = refl
  seen_cleared work.DeepSleep = refl
  seen_cleared work.SoftReset = refl
  seen_cleared work.HardwareReset = refl
  seen_cleared (work.Refresh r) = refl

  seen_lowered : (y : Power) → p.mode.power ≡ y → seen (rst.lowered_by y p) old new ≡ (lowered p.config (quiet (seen p old new))).machine
  unfolding lowered
  seen_lowered power.Running e = seen_cleared p.operation.work ∙ rw e
  seen_lowered power.Asleep e = seen_cleared p.operation.work ∙ rw e
  seen_lowered power.InReset e = rw e

  pub seen_low : seen (rst.reset_edge own true p) old new ≡ (lowered p.config (quiet (seen p old new))).machine
  unfolding rst.reset_edge
  seen_low = seen_lowered p.mode.power refl
