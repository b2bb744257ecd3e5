-- What holds of a record that making gave and that calls gave back, and of what is lent to them: no call on it is turned back.
use Rattle.std.specs.Prelude.{◌≡◌, true, false, ◌≤◌}
use Rattle.config.specs.Refusal.{refusal}
use Rattle.registers.specs.Range.{InRange}
use Rattle.pixels.specs.States.{every_state}
use Rattle.controller.specs.declared.Uc8253.{Uc8253}
use Rattle.controller.specs.World.{World}
use Rattle.controller.specs.TurnedBack.{bad_stage, bad_work, lent_fits}

-- the record by itself
pub record SoundChip (p : Uc8253) : Type 0 where
  pub config : refusal p.config ≡ 0
  pub regs : InRange p.regs
  pub stage : bad_stage p.stage ≡ false
  pub work : bad_work p.operation.work p.waveform.frame_ns p.waveform.levels ≡ false
  pub stored : p.log.stored ≤ 1024

pub record Sound (w : World) : Type 0 where
  pub chip : SoundChip w.chip
  pub fits : lent_fits w.chip.config w.lent ≡ true
  pub states : every_state w.chip.config.optics.full_swing w.lent.states ≡ true
