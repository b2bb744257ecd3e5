-- Document 01, "A call arrives": the clock, the end of an operation, the busy pin.
use Rattle.std.specs.Prelude.{Bool, true, false, ℕ, ◌+◌, min, max, leb, ltb}
use Rattle.base.specs.Word.{top}
use Rattle.base.specs.Pick.{pick}
use Rattle.controller.specs.declared.Power.{Power}
use Rattle.controller.specs.declared.Power.TheVariants as power
use Rattle.controller.specs.declared.Work.{Work}
use Rattle.controller.specs.declared.Work.TheVariants as work
use Rattle.controller.specs.declared.Operation.{Operation}
use Rattle.controller.specs.declared.Uc8253.{Uc8253}
use Rattle.controller.specs.Setters.{with_now, with_operation, with_power, with_powered}
use Rattle.controller.specs.Refresh.{ended_refresh}
use Rattle.controller.specs.Counting.{Counting}

-- the clock becomes the larger of itself and the time given
abbrev pub timed : ℕ → Uc8253 → Uc8253
timed t p = with_now (max p.now t) p

-- nothing runs
abbrev pub rest : Operation
rest = record { work = work.Nothing; started = 0; until = 0 }

-- an operation from the clock on; its end is start plus duration in cycles, held at 2^64 - 1
abbrev pub starting : (Uc8253 → Counting) → Work → ℕ → Uc8253 → Uc8253
starting clock x ns p = with_operation (record { work = x; started = p.now; until = min (p.now + (clock p).cycles ns) top }) p

-- the end of each: 04 has brought the supplies up, 02 has taken them down, 07 sleeps without them; the resets leave all as it is
abbrev pub ended_by : Work → Uc8253 → Uc8253
ended_by work.Nothing p = p
ended_by work.PowerOn p = with_operation rest (with_powered true p)
ended_by work.PowerOff p = with_operation rest (with_powered false p)
ended_by work.DeepSleep p = with_operation rest (with_power power.Asleep (with_powered false p))
ended_by work.SoftReset p = with_operation rest p
ended_by work.HardwareReset p = with_operation rest p
ended_by (work.Refresh r) p = with_operation rest (ended_refresh r p)

-- an operation whose end is at or below the clock ends, once
unfoldable pub ended : Uc8253 → Uc8253
ended p = pick (leb p.operation.until p.now) (ended_by p.operation.work p) p

-- before anything else
unfoldable pub arrived : ℕ → Uc8253 → Uc8253
arrived t p = ended (timed t p)

-- an operation's end lies above the time asked
abbrev pub works : Work → ℕ → ℕ → Bool
works work.Nothing until t = false
works work.PowerOn until t = ltb t until
works work.PowerOff until t = ltb t until
works work.DeepSleep until t = ltb t until
works work.SoftReset until t = ltb t until
works work.HardwareReset until t = ltb t until
works (work.Refresh r) until t = ltb t until

-- busy is low while in reset or while an operation's end lies above the time asked
abbrev pub busy_at : Power → Operation → ℕ → Bool
busy_at power.InReset o t = true
busy_at power.Running o t = works o.work o.until t
busy_at power.Asleep o t = works o.work o.until t
