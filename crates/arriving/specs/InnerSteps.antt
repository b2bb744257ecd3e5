-- The record in smaller steps, as the code takes them: parts of the definitions of `controller`, each under a name.
use Rattle.std.specs.Prelude.{false}
use Rattle.controller.specs.declared.Power.TheVariants as power
use Rattle.controller.specs.declared.Work.TheVariants as work
use Rattle.controller.specs.declared.Uc8253.{Uc8253}
use Rattle.controller.specs.declared.notes.Notes.{Notes}
use Rattle.controller.specs.Setters.{with_operation, with_power, with_powered}
use Rattle.controller.specs.Tell.{notes}
use Rattle.controller.specs.Arrives.{rest, starting}
use Rattle.controller.specs.Command.{close_note}
use Rattle.controller.specs.Reset.{cut_by, cut_note, cleared}
use Rattle.controller.specs.Counting.{own}

-- deep sleep
abbrev pub fallen_asleep : Uc8253 → Uc8253
fallen_asleep p = with_operation rest (with_power power.Asleep (with_powered false p))

-- out of reset, the line falls; in reset, it rises
abbrev pub fallen : Uc8253 → Uc8253
fallen p = cleared (cut_by p.operation.work p)

abbrev pub fallen_notes : Uc8253 → Notes
fallen_notes p = notes (cut_note p.operation.work) (close_note p.stage.current)

abbrev pub risen : Uc8253 → Uc8253
risen p = starting own work.HardwareReset p.config.timing.hardware_reset (with_power power.Running p)
