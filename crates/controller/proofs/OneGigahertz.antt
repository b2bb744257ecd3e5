-- Request 2026-05: at 1 GHz no conversion changes anything, so that a panel at that rate does what it did before there was a rate. Each
-- call by the record's own clock is the call with identities in place of the two conversions.
use Rattle.std.proofs.Common.{None, Some}
use mathlib.Core.Path.{◌≡◌, refl, ap, ◌∙◌}
use mathlib.Core.Bool.{Bool, true, false}
use Prim.Native.Nat.{ℕ, ◌+◌, ◌-◌, ◌/◌, ◌≤◌, min, max}
use native.Mathlib.Omega.{arith}
use lib.Dec.{eqb, leb}
use lib.ListN.{get_or}
use Rattle.base.specs.Word.{top}
use Rattle.base.specs.Pick.{pick}
use Rattle.base.proofs.Cases.{both}
use Rattle.clock.specs.Clock.{billion, cycles_of, nanos_of}
use Rattle.clock.proofs.ClockLaws.{cycles_same, nanos_same}
use Rattle.config.specs.declared.Uc8253Config.{Uc8253Config}
use Rattle.registers.specs.Luts.{reset_luts}
use Rattle.registers.specs.Reset.{reset_of}
use Rattle.waveform.specs.Tables.{duration_of}
use Rattle.command.specs.declared.kinds.Kind.{Kind}
use Rattle.command.specs.declared.kinds.Kind.TheVariants as kind
use Rattle.command.specs.Kinds.{kind_of}
use Rattle.controller.specs.declared.Power.{Power}
use Rattle.controller.specs.declared.Power.TheVariants as power
use Rattle.controller.specs.declared.Work.{Work}
use Rattle.controller.specs.declared.Work.TheVariants as work
use Rattle.controller.specs.declared.Active.{Active}
use Rattle.controller.specs.declared.Current.{Current}
use Rattle.controller.specs.declared.Current.TheVariants as current
use Rattle.controller.specs.declared.Uc8253.{Uc8253}
use Rattle.controller.specs.declared.drives.Drive.{Drive}
use Rattle.controller.specs.declared.drives.Drive.TheVariants as drive
use Rattle.controller.specs.Maybe.{Note}
use Rattle.controller.specs.declared.uses.Use.{Use}
use Rattle.controller.specs.declared.uses.Use.TheVariants as use-for
use Rattle.controller.specs.World.{World, Buffers, world}
use Rattle.controller.specs.Setters.{with_operation, with_waveform, with_regs, with_luts, with_powered, with_power, with_log}
use Rattle.controller.specs.Tell.{log_told}
use Rattle.controller.specs.Counting.{own, same}
use Rattle.controller.specs.Arrives.{timed, arrived, starting}
use Rattle.controller.specs.Refresh.{waveform_now, refresh_note, refreshing, refresh_started, refreshed_by, refreshed, elapsed}
use Rattle.controller.specs.Command.{barred_note, begun, executed, sorted_by, passed_by, command_byte}
use Rattle.controller.specs.DataByte.{more_of, soft_of, purpose_of, under, used_by, given_by, data_byte}
use Rattle.controller.specs.Reset.{raised_by, reset_edge}
use Rattle.controller.specs.Glass.{driven_at, states_by, picture_by}
use Rattle.controller.specs.TurnedBack.{ends_refresh}
use Rattle.controller.specs.Ask.{Ask, command, datum, reading, advance, reset, vcom_rule, taking, ask_busy, ask_deadline, ask_bit, ask_row, ask_picture}
use Rattle.controller.specs.Ask.{When, at, whenever, when_of, clock_when, chip_after, told_by, record_after, old_after, new_after, rows_after}
use Rattle.controller.specs.Ask.{driven_when, driven_by, lent_after, refused_by, did_by}
use Rattle.controller.proofs.Keeps.{kept_arrived, config_after, clock_after_lem}

-- the record's clock is one of 1 GHz
abbrev pub Gigahertz : Uc8253 → Type 0
Gigahertz p = p.config.timing.rate ≡ billion

-- ---- the two conversions
cycles_stay : (p : Uc8253) (ns : ℕ) → Gigahertz p → (own p).cycles ns ≡ ns
cycles_stay p ns e = ap (λ (r : ℕ). cycles_of r ns) e ∙ cycles_same ns

elapsed_same : (p : Uc8253) → Gigahertz p → p.now ≤ top → elapsed own p ≡ elapsed same p
elapsed_same p e h =
    ap (λ (n : ℕ). n / p.waveform.frame_ns)
    (ap (λ (r : ℕ). nanos_of r (p.now - p.operation.started)) e ∙ nanos_same (p.now - p.operation.started) (omega (arith, h)))

-- ---- an operation and a refresh begin
starting_same : (x : Work) (ns : ℕ) (p : Uc8253) → Gigahertz p → starting own x ns p ≡ starting same x ns p
starting_same x ns p e =
    ap (λ (n : ℕ). with_operation (record { work = x; started = p.now; until = min (p.now + n) top }) p) (cycles_stay p ns e)

started_same : (p : Uc8253) → Gigahertz p → refresh_started own p ≡ refresh_started same p
unfolding refresh_started refreshing
started_same p e =
    ap
    (λ (n : ℕ).
    with_operation (record { work = (refreshing same p).work; started = p.now; until = min (p.now + n) top }) (with_waveform (waveform_now p) p))
    (cycles_stay p (duration_of (waveform_now p)) e)

refreshed_by_same : (n : Note) (p : Uc8253) → Gigahertz p → refreshed_by own n p ≡ refreshed_by same n p
refreshed_by_same (Some k) p e = refl
refreshed_by_same None p e = started_same p e

refreshed_same : (p : Uc8253) → Gigahertz p → refreshed own p ≡ refreshed same p
unfolding refreshed
refreshed_same p e = refreshed_by_same (refresh_note (get_or p.regs.psr 0 0) p.mode.powered) p e

-- ---- a command byte
executed_same : (c : ℕ) (p : Uc8253) → Gigahertz p → executed own c p ≡ executed same c p
unfolding executed
executed_same c p e =
    rw (
      starting_same work.PowerOn p.config.timing.power_on p e,
      starting_same work.PowerOff p.config.timing.power_off p e,
      refreshed_same p e,
    )

sorted_by_same : (k : Kind) (c : ℕ) (p : Uc8253) → Gigahertz p → sorted_by own k c p ≡ sorted_by same k c p
unfolding begun
sorted_by_same kind.Unknown c p e = refl
sorted_by_same (kind.Unsupported n) c p e = refl
sorted_by_same (kind.Write n) c p e = executed_same c (begun c (kind.Write n) p) e
sorted_by_same kind.Read c p e = executed_same c (begun c kind.Read p) e

passed_by_same : (n : Note) (c : ℕ) (p : Uc8253) → Gigahertz p → passed_by own n c p ≡ passed_by same n c p
passed_by_same (Some k) c p e = refl
passed_by_same None c p e = sorted_by_same (kind_of c p.config.variant) c p e

command_same : (c : ℕ) (p : Uc8253) → Gigahertz p → command_byte own c p ≡ command_byte same c p
unfolding command_byte
command_same c p e = passed_by_same (barred_note p.mode.power p.operation.work c) c p e

-- ---- a data byte
used_by_same : (u : Use) (a : Active) (b : ℕ) (p : Uc8253) → Gigahertz p → used_by own u a b p ≡ used_by same u a b p
used_by_same use-for.Extra a b p e = refl
used_by_same use-for.Quiet a b p e = refl
used_by_same use-for.Soft a b p e =
    ap (under (soft_of (more_of a)))
    (starting_same work.SoftReset p.config.timing.soft_reset
    (with_powered false (with_luts reset_luts (with_regs (reset_of p.config.variant) p))) e)
used_by_same use-for.Sleep a b p e = ap (under (more_of a)) (starting_same work.DeepSleep p.config.timing.deep_sleep p e)
used_by_same use-for.Wrong a b p e = refl
used_by_same use-for.Register a b p e = refl
used_by_same use-for.Older a b p e = refl
used_by_same use-for.Newer a b p e = refl

given_by_same : (x : Current) (b : ℕ) (p : Uc8253) → Gigahertz p → given_by own x b p ≡ given_by same x b p
given_by_same current.Idle b p e = refl
given_by_same current.Ignoring b p e = refl
given_by_same (current.Active a) b p e = used_by_same (purpose_of a b) a b p e

data_same : (b : ℕ) (p : Uc8253) → Gigahertz p → data_byte own b p ≡ data_byte same b p
unfolding data_byte
data_same b p e = given_by_same p.stage.current b p e

-- ---- the reset line
raised_by_same : (y : Power) (p : Uc8253) → Gigahertz p → raised_by own y p ≡ raised_by same y p
raised_by_same power.Running p e = refl
raised_by_same power.Asleep p e = refl
raised_by_same power.InReset p e = starting_same work.HardwareReset p.config.timing.hardware_reset (with_power power.Running p) e

edge_same : (asserted : Bool) (p : Uc8253) → Gigahertz p → reset_edge own asserted p ≡ reset_edge same asserted p
unfolding reset_edge
edge_same true p e = refl
edge_same false p e = raised_by_same p.mode.power p e

-- ---- the glass
driven_same : (asserted : Bool) (t : ℕ) (p : Uc8253) → Gigahertz p → p.now ≤ top → t ≤ top
    → driven_at own asserted t p ≡ driven_at same asserted t p
unfolding driven_at
driven_same asserted t p e h k =
    ap (λ (n : ℕ). pick (ends_refresh asserted t p) (pick (leb p.operation.until (max p.now t)) drive.Whole (drive.First n)) drive.Nothing)
    (elapsed_same (timed t p) e (omega (arith, h, k)))

-- the time of a call; one that has none counts as at 0
abbrev pub time_of : Ask → ℕ
time_of (command t c) = t
time_of (datum t b) = t
time_of (reading t) = t
time_of (advance t) = t
time_of (reset t asserted) = t
time_of (vcom_rule t by_frame) = t
time_of taking = 0
time_of (ask_busy t) = t
time_of ask_deadline = 0
time_of (ask_bit older x y) = 0
time_of (ask_row y) = 0
time_of (ask_picture top wide) = 0

-- ---- the parts of every call, of a record whose rate is 1 GHz
chip_same : (a : Ask) (p : Uc8253) → Gigahertz p → chip_after own a p ≡ chip_after same a p
chip_same (command t c) p e = command_same c (arrived t p) (rw (kept_arrived t p).config e)
chip_same (datum t b) p e = data_same b (arrived t p) (rw (kept_arrived t p).config e)
chip_same (reading t) p e = refl
chip_same (advance t) p e = refl
chip_same (reset t asserted) p e = edge_same asserted (arrived t p) (rw (kept_arrived t p).config e)
chip_same (vcom_rule t x) p e = refl
chip_same taking p e = refl
chip_same (ask_busy t) p e = refl
chip_same ask_deadline p e = refl
chip_same (ask_bit older x y) p e = refl
chip_same (ask_row y) p e = refl
chip_same (ask_picture top wide) p e = refl

record_same : (a : Ask) (p : Uc8253) → Gigahertz p → record_after own a p ≡ record_after same a p
unfolding record_after
record_same a p e = ap (λ (q : Uc8253). with_log (log_told (told_by a p) q.log) q) (chip_same a p e)

-- clock and time are 64-bit numbers
drive_same : (a : Ask) (p : Uc8253) → Gigahertz p → p.now ≤ top → time_of a ≤ top → driven_by own a p ≡ driven_by same a p
drive_same (command t c) p e h k = driven_same false t p e h k
drive_same (datum t b) p e h k = driven_same false t p e h k
drive_same (reading t) p e h k = driven_same false t p e h k
drive_same (advance t) p e h k = driven_same false t p e h k
drive_same (reset t asserted) p e h k = driven_same asserted t p e h k
drive_same (vcom_rule t x) p e h k = driven_same false t p e h k
drive_same taking p e h k = refl
drive_same (ask_busy t) p e h k = refl
drive_same ask_deadline p e h k = refl
drive_same (ask_bit older x y) p e h k = refl
drive_same (ask_row y) p e h k = refl
drive_same (ask_picture top wide) p e h k = refl

lent_same : (a : Ask) (p : Uc8253) (b : Buffers) → driven_by own a p ≡ driven_by same a p → lent_after own a p b ≡ lent_after same a p b
unfolding lent_after
lent_same a p b e =
    ap {B = Buffers}
    (λ (d : Drive).
    let states = states_by d p b.old b.new b.states in
    record {
      old = old_after a p b.old b.new;
      new = new_after a p b.new;
      states = states;
      picture = picture_by d p states b.picture;
      rows = rows_after a p b.rows;
    })
    e

-- every call of demand 3's lists. Its refusal and its answer take no conversion
pub did_same : (a : Ask) (w : World) → Gigahertz w.chip → w.chip.now ≤ top → time_of a ≤ top → did_by own a w ≡ did_by same a w
unfolding did_by
did_same a w e h k =
    λ i. pick (eqb (refused_by a w) 0)
    (world (record_same a w.chip e i) (lent_same a w.chip w.lent (drive_same a w.chip e h k) i)) w

-- ---- a run of calls: each leaves the configuration, and the clock a 64-bit number
-- what is left for the next call
pub record Ready (w : World) : Type 0 where
  pub rate : Gigahertz w.chip
  pub clock : w.chip.now ≤ top

when_within : (a : Ask) (now : ℕ) → now ≤ top → time_of a ≤ top → clock_when (when_of a) now ≤ top
when_within (command t c) now h k = omega (arith, h, k)
when_within (datum t b) now h k = omega (arith, h, k)
when_within (reading t) now h k = omega (arith, h, k)
when_within (advance t) now h k = omega (arith, h, k)
when_within (reset t asserted) now h k = omega (arith, h, k)
when_within (vcom_rule t x) now h k = omega (arith, h, k)
when_within taking now h k = h
when_within (ask_busy t) now h k = h
when_within ask_deadline now h k = h
when_within (ask_bit older x y) now h k = h
when_within (ask_row y) now h k = h
when_within (ask_picture top wide) now h k = h

pub ready : (a : Ask) (w : World) → time_of a ≤ top → Ready w → Ready (did_by own a w)
unfolding did_by
ready a w k r =
    both Ready (eqb (refused_by a w) 0)
    (record {
      rate = ap (λ (x : Uc8253Config). x.timing.rate) (config_after a w.chip) ∙ r.rate;
      clock = omega (arith, clock_after_lem a w.chip, when_within a w.chip.now r.clock k);
    })
    r
