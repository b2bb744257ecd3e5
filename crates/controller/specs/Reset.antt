-- Document 01, "A call arrives": the reset line.
use Rattle.std.specs.Prelude.{None, Some, Bool, true, false}
use Rattle.registers.specs.Luts.{reset_luts}
use Rattle.registers.specs.Reset.{reset_of}
use Rattle.diagnostic.specs.declared.DiagnosticKind.TheVariants.{ResetDuringRefresh}
use Rattle.controller.specs.declared.Power.{Power}
use Rattle.controller.specs.declared.Power.TheVariants as power
use Rattle.controller.specs.declared.Work.{Work}
use Rattle.controller.specs.declared.Work.TheVariants as work
use Rattle.controller.specs.declared.Current.TheVariants as current
use Rattle.controller.specs.declared.Uc8253.{Uc8253}
use Rattle.controller.specs.Maybe.{Note}
use Rattle.controller.specs.declared.notes.Notes.{Notes}
use Rattle.controller.specs.Setters.{with_current, with_regs, with_luts, with_power, with_powered, with_operation}
use Rattle.controller.specs.Tell.{notes, silent}
use Rattle.controller.specs.Arrives.{rest, starting}
use Rattle.controller.specs.Command.{close_note}
use Rattle.controller.specs.Refresh.{cut_refresh}
use Rattle.controller.specs.Counting.{Counting}

-- in mid-refresh it makes a picture marked interrupted
abbrev pub cut_by : Work → Uc8253 → Uc8253
cut_by work.Nothing p = p
cut_by work.PowerOn p = p
cut_by work.PowerOff p = p
cut_by work.DeepSleep p = p
cut_by work.SoftReset p = p
cut_by work.HardwareReset p = p
cut_by (work.Refresh r) p = cut_refresh r p

-- the running operation is dropped, registers restored, power cut; RAM, data flag and VCOM's rule stay, and no command is under way
unfoldable pub cleared : Uc8253 → Uc8253
cleared p =
    with_current current.Idle
    (with_operation rest (with_powered false (with_power power.InReset (with_luts reset_luts (with_regs (reset_of p.config.variant) p)))))

-- asserting reset; asserted again, only the clock moves
abbrev pub lowered_by : Power → Uc8253 → Uc8253
lowered_by power.Running p = cleared (cut_by p.operation.work p)
lowered_by power.Asleep p = cleared (cut_by p.operation.work p)
lowered_by power.InReset p = p

-- release starts the hardware reset; out of reset, release is an advance
abbrev pub raised_by : (Uc8253 → Counting) → Power → Uc8253 → Uc8253
raised_by clock power.Running p = p
raised_by clock power.Asleep p = p
raised_by clock power.InReset p = starting clock work.HardwareReset p.config.timing.hardware_reset (with_power power.Running p)

abbrev pub edge : (Uc8253 → Counting) → Bool → Uc8253 → Uc8253
edge clock true p = lowered_by p.mode.power p
edge clock false p = raised_by clock p.mode.power p

-- the reset line asserted or released
unfoldable pub reset_edge : (Uc8253 → Counting) → Bool → Uc8253 → Uc8253
reset_edge clock asserted p = edge clock asserted p

-- what it tells: in mid-refresh first kind 15; then the command closes
abbrev pub cut_note : Work → Note
cut_note work.Nothing = None
cut_note work.PowerOn = None
cut_note work.PowerOff = None
cut_note work.DeepSleep = None
cut_note work.SoftReset = None
cut_note work.HardwareReset = None
cut_note (work.Refresh r) = Some ResetDuringRefresh

abbrev pub lowered_notes : Power → Uc8253 → Notes
lowered_notes power.Running p = notes (cut_note p.operation.work) (close_note p.stage.current)
lowered_notes power.Asleep p = notes (cut_note p.operation.work) (close_note p.stage.current)
lowered_notes power.InReset p = silent

abbrev pub edge_notes : Bool → Uc8253 → Notes
edge_notes true p = lowered_notes p.mode.power p
edge_notes false p = silent
