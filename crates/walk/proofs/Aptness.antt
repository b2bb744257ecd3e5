-- The controller after a soft reset by 00: the command that it keeps has had its byte, after every call.
use Rattle.std.proofs.Common.{None, Some}
use mathlib.Core.Path.{◌≡◌, refl, ap, ◌∙◌}
use mathlib.Core.Bool.{Bool, true, false, not, ◌&&◌}
use mathlib.Core.List.{[], ◌∷◌}
use Prim.Native.Nat.{ℕ, ◌+◌, min}
use native.Mathlib.Omega.{arith}
use lib.Dec.{eqb, leb}
use lib.ListN.{get_or}
use borrow.Author.Tests.{ne_eqb}
use Rattle.base.specs.Pick.{pick, one_of}
use Rattle.base.proofs.Cases.{both}
use Rattle.command.specs.declared.kinds.Kind.{Kind}
use Rattle.command.specs.declared.kinds.Kind.TheVariants as kind
use Rattle.command.specs.Kinds.{kind_of}
use Rattle.registers.specs.Written.{written_of}
use Rattle.controller.specs.declared.Power.{Power}
use Rattle.controller.specs.declared.Power.TheVariants as power
use Rattle.controller.specs.declared.Work.{Work}
use Rattle.controller.specs.declared.Work.TheVariants as work
use Rattle.controller.specs.declared.Active.{Active}
use Rattle.controller.specs.declared.Current.{Current}
use Rattle.controller.specs.declared.Current.TheVariants as current
use Rattle.controller.specs.declared.Uc8253.{Uc8253}
use Rattle.controller.specs.Maybe.{Note}
use Rattle.controller.specs.declared.uses.Use.{Use}
use Rattle.controller.specs.declared.uses.Use.TheVariants as use-for
use Rattle.controller.specs.Arrives.{timed, ended_by, ended, arrived}
use Rattle.controller.specs.Refresh as drv
use Rattle.controller.specs.Command as cmd
use Rattle.controller.specs.DataByte as byte
use Rattle.controller.specs.Reading as rd
use Rattle.controller.specs.Reset as rst
use Rattle.controller.specs.Counting.{own}
use Rattle.controller.specs.Ask.{Ask, command, datum, reading, advance, reset, vcom_rule, taking, ask_busy, ask_deadline, ask_bit, ask_row, ask_picture}
use Rattle.controller.specs.Ask.{record_after}
use Rattle.walk.proofs.Seen.{single, over, apt}
use Rattle.walk.proofs.Commands.{not_single}

abbrev pub Apt : Uc8253 → Type 0
Apt p = apt p.stage.current ≡ true

-- ---- arrival leaves the command
stage_by : (x : Work) (p : Uc8253) → (ended_by x p).stage ≡ p.stage
unfolding drv.ended_refresh
stage_by work.Nothing p = refl
stage_by work.PowerOn p = refl
stage_by work.PowerOff p = refl
stage_by work.DeepSleep p = refl
stage_by work.SoftReset p = refl
stage_by work.HardwareReset p = refl
stage_by (work.Refresh r) p = refl

stage_ended : (p : Uc8253) → (ended p).stage ≡ p.stage
unfolding ended
stage_ended p = both (λ (q : Uc8253). q.stage ≡ p.stage) (leb p.operation.until p.now) (stage_by p.operation.work p) refl

pub apt_arrived : (t : ℕ) (p : Uc8253) → Apt p → Apt (arrived t p)
unfolding arrived
apt_arrived t p q = ap (λ s. apt s.current) (stage_ended (timed t p)) ∙ q

-- ---- a command: ignored, or anew with no byte
refreshed_stage : (n : Note) (p : Uc8253) → (drv.refreshed_by own n p).stage ≡ p.stage
unfolding drv.refresh_started
refreshed_stage None p = refl
refreshed_stage (Some k) p = refl

executed_stage : (c : ℕ) (p : Uc8253) → (cmd.executed own c p).stage ≡ p.stage
unfolding cmd.executed drv.refreshed
executed_stage c p =
    let P : Uc8253 → Type 0 = λ (q : Uc8253). q.stage ≡ p.stage in
    both P (eqb c 0x04) (both P p.mode.powered refl refl)
    (both P (eqb c 0x02) (both P p.mode.powered refl refl)
    (both P (eqb c 0x12) (refreshed_stage (drv.refresh_note (get_or p.regs.psr 0 0) p.mode.powered) p)
    (both P (eqb c 0x91) refl
    (both P (eqb c 0x92) refl
    (both P (one_of (0x10 ∷ 0x13 ∷ []) c) refl
    (both P (eqb c 0x11) refl refl))))))

begun_apt : (c : ℕ) (k : Kind) (p : Uc8253) → (eqb c 0 && single k) ≡ false → Apt (cmd.begun c k p)
unfolding cmd.begun
begun_apt c k p e = rw e

sorted_apt : (k : Kind) (c : ℕ) (p : Uc8253) → (eqb c 0 && single k) ≡ false → Apt (cmd.sorted_by own k c p)
sorted_apt kind.Unknown c p e = refl
sorted_apt (kind.Unsupported n) c p e = begun_apt c (kind.Unsupported n) p e
sorted_apt (kind.Write n) c p e =
    ap (λ s. apt s.current) (executed_stage c (cmd.begun c (kind.Write n) p)) ∙ begun_apt c (kind.Write n) p e
sorted_apt kind.Read c p e = ap (λ s. apt s.current) (executed_stage c (cmd.begun c kind.Read p)) ∙ begun_apt c kind.Read p e

passed_apt : (n : Note) (c : ℕ) (p : Uc8253) → Apt (cmd.passed_by own n c p)
passed_apt None c p = sorted_apt (kind_of c p.config.variant) c p (not_single c p.config.variant)
passed_apt (Some k) c p = refl

apt_command : (c : ℕ) (p : Uc8253) → Apt (cmd.command_byte own c p)
unfolding cmd.command_byte
apt_command c p = passed_apt (cmd.barred_note p.mode.power p.operation.work c) c p

-- ---- a data byte: one byte at least
had_byte : (n : ℕ) (t : Bool) → pick t (not (eqb (min (n + 1) 65535) 0)) true ≡ true
had_byte n true = rw (ne_eqb (min (n + 1) 65535) 0 (λ e. absurd (omega arith)))
had_byte n false = refl

used_apt : (u : Use) (a : Active) (b : ℕ) (p : Uc8253) → Apt (byte.used_by own u a b p)
unfolding byte.pixel_byte byte.pixel_chip
used_apt use-for.Extra a b p = had_byte a.received (over a)
used_apt use-for.Quiet a b p = had_byte a.received (over a)
used_apt use-for.Soft a b p = had_byte a.received (eqb a.command 0 && true)
used_apt use-for.Sleep a b p = had_byte a.received (over a)
used_apt use-for.Wrong a b p = had_byte a.received (over a)
used_apt use-for.Register a b p = had_byte a.received (over a)
used_apt use-for.Older a b p =
    both Apt (byte.past_row (written_of p.regs) a.cursor) (had_byte a.received (over a)) (had_byte a.received (over a))
used_apt use-for.Newer a b p =
    both Apt (byte.past_row (written_of p.regs) a.cursor) (had_byte a.received (over a)) (had_byte a.received (over a))

given_apt : (x : Current) (b : ℕ) (p : Uc8253) → Apt p → Apt (byte.given_by own x b p)
given_apt current.Idle b p q = refl
given_apt current.Ignoring b p q = q
given_apt (current.Active a) b p q = used_apt (byte.purpose_of a b) a b p

apt_data : (b : ℕ) (p : Uc8253) → Apt p → Apt (byte.data_byte own b p)
unfolding byte.data_byte
apt_data b p q = given_apt p.stage.current b p q

-- ---- a read leaves command, kind and count
after_apt : (k : Kind) (a : Active) (p : Uc8253) → Apt p → apt (current.Active a) ≡ true → Apt (rd.after_read k a p)
after_apt (kind.Write n) a p q r = q
after_apt kind.Read a p q r = r
after_apt (kind.Unsupported n) a p q r = q
after_apt kind.Unknown a p q r = q

read_apt : (x : Current) (p : Uc8253) → Apt p → apt x ≡ true → Apt (rd.reading_by x p)
read_apt current.Idle p q r = q
read_apt current.Ignoring p q r = q
read_apt (current.Active a) p q r = after_apt a.kind a p q r

apt_reading : (p : Uc8253) → Apt p → Apt (rd.reading p)
unfolding rd.reading
apt_reading p q = read_apt p.stage.current p q q

-- ---- the reset line
lowered_apt : (y : Power) (p : Uc8253) → Apt p → Apt (rst.lowered_by y p)
unfolding rst.cleared
lowered_apt power.Running p q = refl
lowered_apt power.Asleep p q = refl
lowered_apt power.InReset p q = q

raised_apt : (y : Power) (p : Uc8253) → Apt p → Apt (rst.raised_by own y p)
raised_apt power.Running p q = q
raised_apt power.Asleep p q = q
raised_apt power.InReset p q = q

apt_edge : (asserted : Bool) (p : Uc8253) → Apt p → Apt (rst.reset_edge own asserted p)
unfolding rst.reset_edge
apt_edge true p q = lowered_apt p.mode.power p q
apt_edge false p q = raised_apt p.mode.power p q

-- ---- every call
pub apt_after : (a : Ask) (p : Uc8253) → Apt p → Apt (record_after own a p)
unfolding record_after
apt_after (command t c) p q = apt_command c (arrived t p)
apt_after (datum t b) p q = apt_data b (arrived t p) (apt_arrived t p q)
apt_after (reading t) p q = apt_reading (arrived t p) (apt_arrived t p q)
apt_after (advance t) p q = apt_arrived t p q
apt_after (reset t asserted) p q = apt_edge asserted (arrived t p) (apt_arrived t p q)
apt_after (vcom_rule t x) p q = apt_arrived t p q
apt_after taking p q = q
apt_after (ask_busy t) p q = q
apt_after ask_deadline p q = q
apt_after (ask_bit older x y) p q = q
apt_after (ask_row y) p q = q
apt_after (ask_picture top wide) p q = q
