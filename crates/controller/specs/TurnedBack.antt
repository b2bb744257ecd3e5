-- Document 01, "Making a panel, and being turned back": refusals 5, 6 and 7.
use Rattle.std.specs.Prelude.{Bool, true, false, ◌||◌, ◌&&◌, not, ℕ, ◌*◌, max, eqb, ltb, leb, length}
use Rattle.base.specs.Pick.{pick}
use Rattle.config.specs.declared.Uc8253Config.{Uc8253Config}
use Rattle.config.specs.Refusal.{refusal}
use Rattle.registers.specs.declared.Area.{Area}
use Rattle.registers.specs.declared.Pair.{Pair}
use Rattle.registers.specs.declared.Registers.{Registers}
use Rattle.waveform.specs.declared.Levels.{Levels}
use Rattle.pixels.specs.States.{every_state}
use Rattle.controller.specs.declared.Power.{Power}
use Rattle.controller.specs.declared.Power.TheVariants as power
use Rattle.controller.specs.declared.Work.{Work}
use Rattle.controller.specs.declared.Work.TheVariants as work
use Rattle.controller.specs.declared.Current.{Current}
use Rattle.controller.specs.declared.Current.TheVariants as current
use Rattle.controller.specs.declared.Stage.{Stage}
use Rattle.controller.specs.declared.Uc8253.{Uc8253}
use Rattle.controller.specs.World.{World, Buffers}

-- 6: its configuration meets 1 to 4 or 13
unfoldable pub bad_config : Uc8253Config → Bool
bad_config c = not (eqb (refusal c) 0)

-- a window or refresh-area column > 799 or row > 599
unfoldable pub bad_area : Area → Bool
bad_area a = ltb 799 a.x0 || (ltb 599 a.y0 || (ltb 799 a.x1 || ltb 599 a.y1))

-- a resolution or start value > 1,023
unfoldable pub bad_pair : Pair → Bool
bad_pair p = ltb 1023 p.h || ltb 1023 p.v

unfoldable pub bad_registers : Registers → Bool
bad_registers r = bad_area r.window || (bad_pair r.resolution || bad_pair r.start)

-- a cursor column > 799 or row > 600
abbrev pub bad_current : Current → Bool
bad_current current.Idle = false
bad_current current.Ignoring = false
bad_current (current.Active a) = ltb 799 a.cursor.x || ltb 600 a.cursor.y

abbrev pub bad_stage : Stage → Bool
bad_stage s = bad_current s.current

-- a level beyond 15,000 mV either way; the second is kept as how far it lies below 0
unfoldable pub bad_levels : Levels → Bool
bad_levels l = ltb 15000 l.vdh || (ltb 15000 l.vdl || ltb 15000 l.vdhr)

-- a running refresh's area, period of 0 or levels
abbrev pub bad_work : Work → ℕ → Levels → Bool
bad_work work.Nothing period l = false
bad_work work.PowerOn period l = false
bad_work work.PowerOff period l = false
bad_work work.DeepSleep period l = false
bad_work work.SoftReset period l = false
bad_work work.HardwareReset period l = false
bad_work (work.Refresh r) period l = bad_area r.area || (eqb period 0 || bad_levels l)

-- or stored rows > 1,024
unfoldable pub foreign_record : Uc8253 → Bool
foreign_record p =
    bad_config p.config
    || (bad_registers p.regs
    || (bad_stage p.stage
    || (bad_work p.operation.work p.waveform.frame_ns p.waveform.levels
    || ltb 1024 p.log.stored)))

-- 5: old or new plane is not 60,000 bytes; states or picture not sources × gates entries; diagnostics not 5,120 numbers
unfoldable pub lengths_fit : Uc8253Config → ℕ → ℕ → ℕ → ℕ → ℕ → Bool
lengths_fit c old new states picture rows =
    let pixels = c.panel.sources * c.panel.gates in
    eqb old 60000 && (eqb new 60000 && (eqb states pixels && (eqb picture pixels && eqb rows 5120)))

abbrev pub lent_fits : Uc8253Config → Buffers → Bool
lent_fits c b =
    lengths_fit c (length b.old) (length b.new) (length b.states) (length b.picture) (length b.rows)

-- 7: the call ends a refresh: its end has come, or the call asserts reset and the line was not low
abbrev pub cuts : Power → Bool → Bool
cuts power.Running asserted = asserted
cuts power.Asleep asserted = asserted
cuts power.InReset asserted = false

abbrev pub refresh_runs : Work → Bool
refresh_runs work.Nothing = false
refresh_runs work.PowerOn = false
refresh_runs work.PowerOff = false
refresh_runs work.DeepSleep = false
refresh_runs work.SoftReset = false
refresh_runs work.HardwareReset = false
refresh_runs (work.Refresh r) = true

unfoldable pub ends_refresh : Bool → ℕ → Uc8253 → Bool
ends_refresh asserted t p =
    refresh_runs p.operation.work && (leb p.operation.until (max p.now t) || cuts p.mode.power asserted)

-- a state is outside 0 .. full swing
abbrev pub foreign_contents : ℕ → Buffers → Bool
foreign_contents swing b = not (every_state swing b.states)

-- a later call tests 6, 5, 7; 0 if it is not turned back
unfoldable pub turned_back : Bool → ℕ → World → ℕ
turned_back asserted t w =
    pick (foreign_record w.chip) 6
    (pick (lent_fits w.chip.config w.lent)
    (pick (ends_refresh asserted t w.chip && foreign_contents w.chip.config.optics.full_swing w.lent) 7 0)
    5)

-- making tests 1, 2, 3, 4, 13, 5
unfoldable pub making_refused : Uc8253Config → Buffers → ℕ
making_refused c b = pick (eqb (refusal c) 0) (pick (lent_fits c b) 0 5) (refusal c)

-- what is lent alone: 6, then 5 for it
unfoldable pub lent_refused : Uc8253 → Bool → ℕ
lent_refused p fits = pick (foreign_record p) 6 (pick fits 0 5)
