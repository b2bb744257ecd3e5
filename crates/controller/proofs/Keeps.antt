-- What every call's own part leaves of the record: its configuration, its clock, its log and VCOM's rule. Only event kind 6, which has no
-- part here, changes the last.
use Rattle.std.proofs.Common.{None, Some}
use mathlib.Core.Path.{◌≡◌, refl, ◌∙◌}
use mathlib.Core.Bool.{Bool, true, false}
use mathlib.Core.List.{[], ◌∷◌}
use Prim.Native.Nat.{ℕ}
use lib.Dec.{eqb, leb}
use lib.ListN.{get_or}
use Rattle.base.specs.Pick.{one_of}
use Rattle.base.proofs.Cases.{both}
use Rattle.registers.specs.Written.{written_of}
use Rattle.command.specs.declared.kinds.Kind.{Kind}
use Rattle.command.specs.declared.kinds.Kind.TheVariants as kind
use Rattle.command.specs.Kinds.{kind_of}
use Rattle.controller.specs.declared.Power.{Power}
use Rattle.controller.specs.declared.Power.TheVariants as power
use Rattle.controller.specs.declared.Work.{Work}
use Rattle.controller.specs.declared.Work.TheVariants as work
use Rattle.controller.specs.declared.Active.{Active}
use Rattle.controller.specs.declared.Current.{Current}
use Rattle.controller.specs.declared.Current.TheVariants as current
use Rattle.controller.specs.declared.Uc8253.{Uc8253}
use Rattle.controller.specs.Maybe.{Note}
use Rattle.controller.specs.declared.uses.Use.{Use}
use Rattle.controller.specs.declared.uses.Use.TheVariants as use-for
use Rattle.controller.specs.Arrives.{timed, ended_by, ended, arrived}
use Rattle.controller.specs.Refresh.{refresh_note, refresh_started, refreshed_by, refreshed, ended_refresh, cut_refresh}
use Rattle.controller.specs.Command.{barred_note, begun, executed, sorted_by, passed_by, command_byte}
use Rattle.controller.specs.DataByte.{more_of, purpose_of, past_row, pixel_chip, pixel_byte, used_by, given_by, data_byte}
use Rattle.controller.specs.Reading as byte
use Rattle.controller.specs.Reset.{cut_by, cleared, lowered_by, raised_by, reset_edge}
use Rattle.controller.specs.Counting.{own}
use Rattle.controller.specs.Ask.{Ask, command, datum, reading, advance, reset, vcom_rule, taking, ask_busy, ask_deadline, ask_bit, ask_row, ask_picture}
use Rattle.controller.specs.Ask.{when_of, clock_when, record_after}

pub record Kept (p q : Uc8253) : Type 0 where
  pub config : q.config ≡ p.config
  pub clock : q.now ≡ p.now
  pub rule : q.mode.vcom_by_frame ≡ p.mode.vcom_by_frame
  pub log : q.log ≡ p.log

pub kept : {p q : Uc8253} → q.config ≡ p.config → q.now ≡ p.now → q.mode.vcom_by_frame ≡ p.mode.vcom_by_frame
    → q.log ≡ p.log → Kept p q
kept c t r l = record { config = c; clock = t; rule = r; log = l }

pub then : {p q r : Uc8253} → Kept p q → Kept q r → Kept p r
then k l = record { config = l.config ∙ k.config; clock = l.clock ∙ k.clock; rule = l.rule ∙ k.rule; log = l.log ∙ k.log }

-- a command byte, a data byte and a read leave the head of the picture too
pub record KeptAll (p q : Uc8253) : Type 0 where
  pub kept_most : Kept p q
  pub image : q.image ≡ p.image

abbrev same : {p q : Uc8253} → q.config ≡ p.config → q.now ≡ p.now → q.mode.vcom_by_frame ≡ p.mode.vcom_by_frame
    → q.log ≡ p.log → q.image ≡ p.image → KeptAll p q
same c t r l i = record { kept_most = kept c t r l; image = i }

both_then : {p q r : Uc8253} → KeptAll p q → KeptAll q r → KeptAll p r
both_then k l = record { kept_most = then k.kept_most l.kept_most; image = l.image ∙ k.image }

-- ---- the end of an operation
kept_ended_by : (x : Work) (p : Uc8253) → Kept p (ended_by x p)
unfolding ended_refresh
kept_ended_by work.Nothing p = kept refl refl refl refl
kept_ended_by work.PowerOn p = kept refl refl refl refl
kept_ended_by work.PowerOff p = kept refl refl refl refl
kept_ended_by work.DeepSleep p = kept refl refl refl refl
kept_ended_by work.SoftReset p = kept refl refl refl refl
kept_ended_by work.HardwareReset p = kept refl refl refl refl
kept_ended_by (work.Refresh r) p = kept refl refl refl refl

pub kept_ended : (p : Uc8253) → Kept p (ended p)
unfolding ended
kept_ended p = both (Kept p) (leb p.operation.until p.now) (kept_ended_by p.operation.work p) (kept refl refl refl refl)

pub kept_arrived : (t : ℕ) (p : Uc8253) → Kept (timed t p) (arrived t p)
unfolding arrived
kept_arrived t p = kept_ended (timed t p)

-- ---- a command byte
kept_refreshed_by : (n : Note) (p : Uc8253) → KeptAll p (refreshed_by own n p)
unfolding refresh_started
kept_refreshed_by (Some k) p = same refl refl refl refl refl
kept_refreshed_by None p = same refl refl refl refl refl

kept_executed : (c : ℕ) (p : Uc8253) → KeptAll p (executed own c p)
unfolding executed refreshed
kept_executed c p =
    let here : KeptAll p p = same refl refl refl refl refl in
    both (KeptAll p) (eqb c 0x04) (both (KeptAll p) p.mode.powered here (same refl refl refl refl refl))
    (both (KeptAll p) (eqb c 0x02) (both (KeptAll p) p.mode.powered (same refl refl refl refl refl) here)
    (both (KeptAll p) (eqb c 0x12) (kept_refreshed_by (refresh_note (get_or p.regs.psr 0 0) p.mode.powered) p)
    (both (KeptAll p) (eqb c 0x91) (same refl refl refl refl refl)
    (both (KeptAll p) (eqb c 0x92) (same refl refl refl refl refl)
    (both (KeptAll p) (one_of (0x10 ∷ 0x13 ∷ []) c) (same refl refl refl refl refl)
    (both (KeptAll p) (eqb c 0x11) (same refl refl refl refl refl)
    here))))))

kept_begun : (c : ℕ) (k : Kind) (p : Uc8253) → KeptAll p (begun c k p)
unfolding begun
kept_begun c k p = same refl refl refl refl refl

kept_sorted_by : (k : Kind) (c : ℕ) (p : Uc8253) → KeptAll p (sorted_by own k c p)
kept_sorted_by kind.Unknown c p = same refl refl refl refl refl
kept_sorted_by (kind.Unsupported n) c p = kept_begun c (kind.Unsupported n) p
kept_sorted_by (kind.Write n) c p = both_then (kept_begun c (kind.Write n) p) (kept_executed c (begun c (kind.Write n) p))
kept_sorted_by kind.Read c p = both_then (kept_begun c kind.Read p) (kept_executed c (begun c kind.Read p))

kept_passed_by : (n : Note) (c : ℕ) (p : Uc8253) → KeptAll p (passed_by own n c p)
kept_passed_by (Some k) c p = same refl refl refl refl refl
kept_passed_by None c p = kept_sorted_by (kind_of c p.config.variant) c p

pub all_command : (c : ℕ) (p : Uc8253) → KeptAll p (command_byte own c p)
unfolding command_byte
all_command c p = kept_passed_by (barred_note p.mode.power p.operation.work c) c p

-- ---- a data byte
kept_pixel : (a : Active) (p : Uc8253) → KeptAll p (pixel_byte a p)
unfolding pixel_byte pixel_chip
kept_pixel a p = both (KeptAll p) (past_row (written_of p.regs) a.cursor) (same refl refl refl refl refl) (same refl refl refl refl refl)

kept_used_by : (u : Use) (a : Active) (b : ℕ) (p : Uc8253) → KeptAll p (used_by own u a b p)
kept_used_by use-for.Extra a b p = same refl refl refl refl refl
kept_used_by use-for.Quiet a b p = same refl refl refl refl refl
kept_used_by use-for.Soft a b p = same refl refl refl refl refl
kept_used_by use-for.Sleep a b p = same refl refl refl refl refl
kept_used_by use-for.Wrong a b p = same refl refl refl refl refl
kept_used_by use-for.Register a b p = same refl refl refl refl refl
kept_used_by use-for.Older a b p = kept_pixel (more_of a) p
kept_used_by use-for.Newer a b p = kept_pixel (more_of a) p

kept_given_by : (x : Current) (b : ℕ) (p : Uc8253) → KeptAll p (given_by own x b p)
kept_given_by current.Idle b p = same refl refl refl refl refl
kept_given_by current.Ignoring b p = same refl refl refl refl refl
kept_given_by (current.Active a) b p = kept_used_by (purpose_of a b) a b p

pub all_data : (b : ℕ) (p : Uc8253) → KeptAll p (data_byte own b p)
unfolding data_byte
all_data b p = kept_given_by p.stage.current b p

-- ---- a read
kept_after_read : (k : Kind) (a : Active) (p : Uc8253) → KeptAll p (byte.after_read k a p)
kept_after_read (kind.Write n) a p = same refl refl refl refl refl
kept_after_read kind.Read a p = same refl refl refl refl refl
kept_after_read (kind.Unsupported n) a p = same refl refl refl refl refl
kept_after_read kind.Unknown a p = same refl refl refl refl refl

kept_reading_by : (x : Current) (p : Uc8253) → KeptAll p (byte.reading_by x p)
kept_reading_by current.Idle p = same refl refl refl refl refl
kept_reading_by current.Ignoring p = same refl refl refl refl refl
kept_reading_by (current.Active a) p = kept_after_read a.kind a p

pub all_reading : (p : Uc8253) → KeptAll p (byte.reading p)
unfolding byte.reading
all_reading p = kept_reading_by p.stage.current p

pub kept_command : (c : ℕ) (p : Uc8253) → Kept p (command_byte own c p)
kept_command c p = (all_command c p).kept_most

pub kept_data : (b : ℕ) (p : Uc8253) → Kept p (data_byte own b p)
kept_data b p = (all_data b p).kept_most

pub kept_reading : (p : Uc8253) → Kept p (byte.reading p)
kept_reading p = (all_reading p).kept_most

-- ---- the reset line
kept_dropped : (x : Work) (p : Uc8253) → Kept p (cleared (cut_by x p))
unfolding cut_refresh cleared
kept_dropped work.Nothing p = kept refl refl refl refl
kept_dropped work.PowerOn p = kept refl refl refl refl
kept_dropped work.PowerOff p = kept refl refl refl refl
kept_dropped work.DeepSleep p = kept refl refl refl refl
kept_dropped work.SoftReset p = kept refl refl refl refl
kept_dropped work.HardwareReset p = kept refl refl refl refl
kept_dropped (work.Refresh r) p = kept refl refl refl refl

kept_lowered_by : (y : Power) (p : Uc8253) → Kept p (lowered_by y p)
kept_lowered_by power.Running p = kept_dropped p.operation.work p
kept_lowered_by power.Asleep p = kept_dropped p.operation.work p
kept_lowered_by power.InReset p = kept refl refl refl refl

kept_raised_by : (y : Power) (p : Uc8253) → Kept p (raised_by own y p)
kept_raised_by power.Running p = kept refl refl refl refl
kept_raised_by power.Asleep p = kept refl refl refl refl
kept_raised_by power.InReset p = kept refl refl refl refl

pub kept_edge : (asserted : Bool) (p : Uc8253) → Kept p (reset_edge own asserted p)
unfolding reset_edge
kept_edge true p = kept_lowered_by p.mode.power p
kept_edge false p = kept_raised_by p.mode.power p

-- ---- every call: the configuration stays, and the clock becomes the larger of itself and the time given
pub config_after : (a : Ask) (p : Uc8253) → (record_after own a p).config ≡ p.config
unfolding record_after
config_after (command t c) p = (kept_command c (arrived t p)).config ∙ (kept_arrived t p).config
config_after (datum t b) p = (kept_data b (arrived t p)).config ∙ (kept_arrived t p).config
config_after (reading t) p = (kept_reading (arrived t p)).config ∙ (kept_arrived t p).config
config_after (advance t) p = (kept_arrived t p).config
config_after (reset t asserted) p = (kept_edge asserted (arrived t p)).config ∙ (kept_arrived t p).config
config_after (vcom_rule t x) p = (kept_arrived t p).config
config_after taking p = refl
config_after (ask_busy t) p = refl
config_after ask_deadline p = refl
config_after (ask_bit older x y) p = refl
config_after (ask_row y) p = refl
config_after (ask_picture top wide) p = refl

pub clock_after_lem : (a : Ask) (p : Uc8253) → (record_after own a p).now ≡ clock_when (when_of a) p.now
unfolding record_after
clock_after_lem (command t c) p = (kept_command c (arrived t p)).clock ∙ (kept_arrived t p).clock
clock_after_lem (datum t b) p = (kept_data b (arrived t p)).clock ∙ (kept_arrived t p).clock
clock_after_lem (reading t) p = (kept_reading (arrived t p)).clock ∙ (kept_arrived t p).clock
clock_after_lem (advance t) p = (kept_arrived t p).clock
clock_after_lem (reset t asserted) p = (kept_edge asserted (arrived t p)).clock ∙ (kept_arrived t p).clock
clock_after_lem (vcom_rule t x) p = (kept_arrived t p).clock
clock_after_lem taking p = refl
clock_after_lem (ask_busy t) p = refl
clock_after_lem ask_deadline p = refl
clock_after_lem (ask_bit older x y) p = refl
clock_after_lem (ask_row y) p = refl
clock_after_lem (ask_picture top wide) p = refl
