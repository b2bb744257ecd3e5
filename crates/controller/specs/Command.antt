-- Document 01, "A command byte": what closes, what is dropped, and what a command does at once.
use Rattle.std.specs.Prelude.{None, Some, Bool, true, false, ◌||◌, [], ◌∷◌, ℕ, eqb, ltb, get_or}
use Rattle.base.specs.Pick.{pick, one_of, between}
use Rattle.registers.specs.declared.Registers.{Registers}
use Rattle.registers.specs.Written.{written_of}
use Rattle.command.specs.declared.kinds.Kind.{Kind}
use Rattle.command.specs.declared.kinds.Kind.TheVariants as kind
use Rattle.command.specs.Kinds.{kind_of, least_count}
use Rattle.diagnostic.specs.declared.DiagnosticKind.TheVariants.{MissingData, LutLength}
use Rattle.diagnostic.specs.declared.DiagnosticKind.TheVariants.{WhileInReset, WhileAsleep, WhileBusy, UnknownCommand, UnsupportedCommand}
use Rattle.controller.specs.declared.Power.{Power}
use Rattle.controller.specs.declared.Power.TheVariants as power
use Rattle.controller.specs.declared.Work.{Work}
use Rattle.controller.specs.declared.Work.TheVariants as work
use Rattle.controller.specs.declared.Active.{Active}
use Rattle.controller.specs.declared.Current.{Current}
use Rattle.controller.specs.declared.Current.TheVariants as current
use Rattle.controller.specs.declared.Uc8253.{Uc8253}
use Rattle.controller.specs.Maybe.{Note}
use Rattle.controller.specs.Setters.{with_current, with_regs, with_data_flag}
use Rattle.controller.specs.Arrives.{starting}
use Rattle.controller.specs.Refresh.{refresh_note, refreshed}
use Rattle.controller.specs.Counting.{Counting}

-- kind 5 below its least count, else kind 13 for 20 to 24 unless 42 bytes came. The extra-byte rule comes first (2026-02): kind 13 is
-- left out where kind 4 was stored or dropped for the same command
unfoldable pub closing_note : Active → Note
closing_note a =
    pick (ltb a.received (least_count a.kind)) (Some (MissingData a.command (least_count a.kind) a.received))
    (pick (between 0x20 0x24 a.command)
    (pick a.extra_reported None (pick (eqb a.received 42) None (Some (LutLength a.command a.received))))
    None)

-- the previous command closes: nothing but what is told of it
abbrev pub close_note : Current → Note
close_note current.Idle = None
close_note current.Ignoring = None
close_note (current.Active a) = closing_note a

abbrev pub ignoring : Uc8253 → Uc8253
ignoring p = with_current current.Ignoring p

-- the reset line is low; deep sleep; a soft or hardware reset runs; anything runs
abbrev pub in_reset : Power → Bool
in_reset power.Running = false
in_reset power.Asleep = false
in_reset power.InReset = true

abbrev pub asleep : Power → Bool
asleep power.Running = false
asleep power.Asleep = true
asleep power.InReset = false

abbrev pub initialises : Work → Bool
initialises work.Nothing = false
initialises work.PowerOn = false
initialises work.PowerOff = false
initialises work.DeepSleep = false
initialises work.SoftReset = true
initialises work.HardwareReset = true
initialises (work.Refresh r) = false

abbrev pub busy : Work → Bool
busy work.Nothing = false
busy work.PowerOn = true
busy work.PowerOff = true
busy work.DeepSleep = true
busy work.SoftReset = true
busy work.HardwareReset = true
busy (work.Refresh r) = true

-- in order: in reset or a soft or hardware reset running, kind 8; asleep, 7; busy and not 70, 71 or 81, 6
unfoldable pub barred_note : Power → Work → ℕ → Note
barred_note p x c =
    pick (in_reset p || initialises x) (Some (WhileInReset c))
    (pick (asleep p) (Some (WhileAsleep c))
    (pick (busy x) (pick (one_of (0x70 ∷ 0x71 ∷ 0x81 ∷ []) c) None (Some (WhileBusy c)))
    None))

-- the command is under way: no byte yet, the cursor at the first column and row of the written area
unfoldable pub begun : ℕ → Kind → Uc8253 → Uc8253
begun c k p =
    with_current
    (current.Active (record {
      command = c;
      kind = k;
      received = 0;
      read = 0;
      cursor = record { x = (written_of p.regs).x0; y = (written_of p.regs).y0 };
      extra_reported = false;
      past_reported = false;
    }))
    p

-- 91 sets the flag of the window, 92 clears it
abbrev pub with_partial : Bool → Registers → Registers
with_partial x r = record {
  psr = r.psr;
  power = r.power;
  pll = r.pll;
  cdi = r.cdi;
  resolution = r.resolution;
  start = r.start;
  window = r.window;
  partial = x;
}

-- 04 acts with power off, 02 with power on; 12 is a refresh; 11 sets the data flag, 10 and 13 clear it
unfoldable pub executed : (Uc8253 → Counting) → ℕ → Uc8253 → Uc8253
executed clock c p =
    pick (eqb c 0x04) (pick p.mode.powered p (starting clock work.PowerOn p.config.timing.power_on p))
    (pick (eqb c 0x02) (pick p.mode.powered (starting clock work.PowerOff p.config.timing.power_off p) p)
    (pick (eqb c 0x12) (refreshed clock p)
    (pick (eqb c 0x91) (with_regs (with_partial true p.regs) p)
    (pick (eqb c 0x92) (with_regs (with_partial false p.regs) p)
    (pick (one_of (0x10 ∷ 0x13 ∷ []) c) (with_data_flag false p)
    (pick (eqb c 0x11) (with_data_flag true p)
    p))))))

-- unknown: data is ignored; 15, 17, A0 and A1: it is only counted
abbrev pub sorted_by : (Uc8253 → Counting) → Kind → ℕ → Uc8253 → Uc8253
sorted_by clock kind.Unknown c p = ignoring p
sorted_by clock (kind.Unsupported n) c p = begun c (kind.Unsupported n) p
sorted_by clock (kind.Write n) c p = executed clock c (begun c (kind.Write n) p)
sorted_by clock kind.Read c p = executed clock c (begun c kind.Read p)

-- after 6, 7 or 8 data is ignored
abbrev pub passed_by : (Uc8253 → Counting) → Note → ℕ → Uc8253 → Uc8253
passed_by clock (Some k) c p = ignoring p
passed_by clock None c p = sorted_by clock (kind_of c p.config.variant) c p

-- a command byte
unfoldable pub command_byte : (Uc8253 → Counting) → ℕ → Uc8253 → Uc8253
command_byte clock c p = passed_by clock (barred_note p.mode.power p.operation.work c) c p

-- what it tells itself: 8, 7 or 6; unknown, kind 1; 15, 17, A0 and A1, kind 2; a refresh that is refused
abbrev pub sort_note : Kind → ℕ → Uc8253 → Note
sort_note kind.Unknown c p = Some (UnknownCommand c)
sort_note (kind.Unsupported n) c p = Some (UnsupportedCommand c)
sort_note (kind.Write n) c p = pick (eqb c 0x12) (refresh_note (get_or p.regs.psr 0 0) p.mode.powered) None
sort_note kind.Read c p = None

abbrev pub pass_note : Note → ℕ → Uc8253 → Note
pass_note (Some k) c p = Some k
pass_note None c p = sort_note (kind_of c p.config.variant) c p

unfoldable pub command_note : ℕ → Uc8253 → Note
command_note c p = pass_note (barred_note p.mode.power p.operation.work c) c p
