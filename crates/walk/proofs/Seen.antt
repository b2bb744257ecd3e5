-- What demand 3 sees of a record and its planes: the machine that they show.
use mathlib.Core.Path.{◌≡◌, refl}
use mathlib.Core.Bool.{Bool, true, false, not, ◌&&◌, true≢false}
use mathlib.Core.List.{List}
use Prim.Native.Nat.{ℕ}
use lib.Dec.{eqb}
use lib.IntN.{ℤ}
use lib.ListN.{take}
use Rattle.base.specs.Pick.{pick}
use Rattle.command.specs.declared.kinds.Params.{Params}
use Rattle.command.specs.declared.kinds.Params.TheVariants as params
use Rattle.command.specs.declared.kinds.Kind.{Kind}
use Rattle.command.specs.declared.kinds.Kind.TheVariants as kind
use Rattle.waveform.specs.declared.Waveform.{Waveform}
use Rattle.waveform.specs.Frames.{frames_of}
use Rattle.numbers.specs.Number.{panel_numbers}
use Rattle.controller.specs.declared.Active.{Active}
use Rattle.controller.specs.declared.Current.{Current}
use Rattle.controller.specs.declared.Current.TheVariants as current
use Rattle.controller.specs.declared.Work.{Work}
use Rattle.controller.specs.declared.Work.TheVariants as work
use Rattle.controller.specs.declared.Uc8253.{Uc8253}
use Rattle.controller.specs.World.{World}
use Rattle.controller.specs.Command.{in_reset, asleep}
use Rattle.controller.specs.Refresh.{mapping_now}
use Rattle.controller.specs.Glass.{walked}
use Rattle.controller.specs.TurnedBack.{refresh_runs}
use Rattle.walk.specs.Machine.{Ended, nothing, whole, cut}
use Rattle.walk.specs.Kept.{Order, Hearing, none, ignored, under, Job, idle, until, powers_up}
use Rattle.walk.specs.Kept.{powers_down, falls_asleep, resets_softly, resets_hardly, drives, Machine}

abbrev pub order_of : Active → Order
order_of a = record { byte = a.command; kind = a.kind; count = a.received; cursor = a.cursor }

-- after a soft reset the controller keeps 00 as a command that takes a single byte: it takes no later one, and is as good as ignored
abbrev pub one_byte : Params → Bool
one_byte (params.Exactly n) = eqb n 1
one_byte (params.Between n m) = false
one_byte params.Stream = false

abbrev pub single : Kind → Bool
single (kind.Write n) = one_byte n
single kind.Read = false
single (kind.Unsupported n) = false
single kind.Unknown = false

abbrev pub over : Active → Bool
over a = eqb a.command 0 && single a.kind

abbrev pub hearing_of : Current → Hearing
hearing_of current.Idle = none
hearing_of current.Ignoring = ignored
hearing_of (current.Active a) = pick (over a) ignored (under (order_of a))

-- such a command has had its byte
abbrev pub apt : Current → Bool
apt current.Idle = true
apt current.Ignoring = true
apt (current.Active a) = pick (over a) (not (eqb a.received 0)) true

-- work, its start and its end; the waveform is that of the refresh started last
abbrev pub job_of : Work → ℕ → ℕ → Waveform → List ℕ → Job
job_of work.Nothing s e v ns = idle
job_of work.PowerOn s e v ns = until e powers_up
job_of work.PowerOff s e v ns = until e powers_down
job_of work.DeepSleep s e v ns = until e falls_asleep
job_of work.SoftReset s e v ns = until e resets_softly
job_of work.HardwareReset s e v ns = until e resets_hardly
job_of (work.Refresh r) s e v ns = until e (drives (record { since = s; wave = v; area = r.area; numbers = ns }))

-- the numbers are worked out from the registers and planes as they stand
abbrev pub seen : Uc8253 → List ℕ → List ℕ → Machine
seen p old new = record {
  clock = p.now;
  low = in_reset p.mode.power;
  sleep = asleep p.mode.power;
  power = p.mode.powered;
  regs = p.regs;
  luts = p.luts;
  hears = hearing_of p.stage.current;
  old = old;
  new = new;
  job = job_of p.operation.work p.operation.started p.operation.until p.waveform (panel_numbers (mapping_now p) old new);
  by_frame = p.mode.vcom_by_frame;
}

abbrev pub machine_of : World → Machine
machine_of w = seen w.chip w.lent.old w.lent.new

-- with no refresh running, numbers are seen nowhere
pub job_free : (x : Work) (s e : ℕ) (v : Waveform) (ns ms : List ℕ) → refresh_runs x ≡ false → job_of x s e v ns ≡ job_of x s e v ms
job_free work.Nothing s e v ns ms f = refl
job_free work.PowerOn s e v ns ms f = refl
job_free work.PowerOff s e v ns ms f = refl
job_free work.DeepSleep s e v ns ms f = refl
job_free work.SoftReset s e v ns ms f = refl
job_free work.HardwareReset s e v ns ms f = refl
job_free (work.Refresh r) s e v ns ms f = absurd (true≢false f)

-- the states after a refresh's end
abbrev pub states_after : ℕ → Bool → Ended → List ℤ → List ℤ
states_after swing black nothing ss = ss
states_after swing black (whole r) ss = walked swing (λ n. frames_of r.wave black n) r.numbers ss
states_after swing black (cut k r) ss = walked swing (λ n. take k (frames_of r.wave black n)) r.numbers ss

abbrev pub live : Hearing → Bool
live none = false
live ignored = false
live (under o) = true

abbrev pub works : Job → Bool
works idle = false
works (until e k) = true

-- in reset nothing runs, and no command is under way
pub record Calm (m : Machine) : Type 0 where
  pub still : m.low ≡ true → works m.job ≡ false
  pub deaf : m.low ≡ true → live m.hears ≡ false
