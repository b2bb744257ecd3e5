-- Document 01, "A data byte".
use Rattle.std.specs.Prelude.{None, Some, Bool, true, false, List, ℕ, ◌+◌, min, eqb, ltb}
use Rattle.base.specs.Pick.{pick}
use Rattle.registers.specs.Bytes.{byte_of}
use Rattle.registers.specs.Luts.{reset_luts, lut_byte_of}
use Rattle.registers.specs.Reset.{reset_of}
use Rattle.registers.specs.Flags.{bit_set}
use Rattle.registers.specs.Written.{written_of}
use Rattle.registers.specs.declared.Area.{Area}
use Rattle.ram.specs.declared.Cursor.{Cursor}
use Rattle.ram.specs.Write.{written, next_of}
use Rattle.command.specs.declared.kinds.Kind.{Kind}
use Rattle.command.specs.declared.kinds.Kind.TheVariants as kind
use Rattle.command.specs.declared.kinds.Params.TheVariants as params
use Rattle.command.specs.Kinds.{takes_byte}
use Rattle.diagnostic.specs.declared.DiagnosticKind.TheVariants.{DataWithoutCommand, ExtraData, WrongCheckCode, PastTheWindow}
use Rattle.controller.specs.declared.Work.TheVariants as work
use Rattle.controller.specs.declared.Active.{Active}
use Rattle.controller.specs.declared.Current.{Current}
use Rattle.controller.specs.declared.Current.TheVariants as current
use Rattle.controller.specs.declared.Uc8253.{Uc8253}
use Rattle.controller.specs.Maybe.{Note}
use Rattle.controller.specs.declared.uses.Use.{Use}
use Rattle.controller.specs.declared.uses.Use.TheVariants as use-for
use Rattle.controller.specs.Setters.{with_current, with_regs, with_luts, with_powered}
use Rattle.controller.specs.Arrives.{starting}
use Rattle.controller.specs.Command.{ignoring}
use Rattle.controller.specs.Counting.{Counting}

-- counts hold at 65,535
abbrev pub counted_of : ℕ → ℕ
counted_of n = min (n + 1) 65535

-- one byte more
abbrev pub more_of : Active → Active
more_of a = record {
  command = a.command;
  kind = a.kind;
  received = counted_of a.received;
  read = a.read;
  cursor = a.cursor;
  extra_reported = a.extra_reported;
  past_reported = a.past_reported;
}

-- kind 4 once a command
abbrev pub extra_of : Active → Active
extra_of a = record {
  command = a.command;
  kind = a.kind;
  received = a.received;
  read = a.read;
  cursor = a.cursor;
  extra_reported = true;
  past_reported = a.past_reported;
}

-- kind 10 once
abbrev pub past_of : Active → Active
past_of a = record {
  command = a.command;
  kind = a.kind;
  received = a.received;
  read = a.read;
  cursor = a.cursor;
  extra_reported = a.extra_reported;
  past_reported = true;
}

-- the cursor goes on
abbrev pub moved_to : Cursor → Active → Active
moved_to c a = record {
  command = a.command;
  kind = a.kind;
  received = a.received;
  read = a.read;
  cursor = c;
  extra_reported = a.extra_reported;
  past_reported = a.past_reported;
}

-- after a soft reset later bytes are ignored silently
abbrev pub soft_of : Active → Active
soft_of a = record {
  command = a.command;
  kind = kind.Write (params.Exactly 1);
  received = a.received;
  read = a.read;
  cursor = a.cursor;
  extra_reported = true;
  past_reported = a.past_reported;
}

-- byte number i, from 0, that the command c takes: the first of 00 with bit 0 clear is a soft reset;
-- 07 with A5 starts deep sleep, else kind 9; 10 and 13 are pixels
unfoldable pub doing : ℕ → ℕ → ℕ → Use
doing c i b =
    pick (eqb c 0x00) (pick (eqb i 0) (pick (bit_set b 0) use-for.Register use-for.Soft) use-for.Register)
    (pick (eqb c 0x07) (pick (eqb b 0xA5) use-for.Sleep use-for.Wrong)
    (pick (eqb c 0x10) use-for.Older
    (pick (eqb c 0x13) use-for.Newer
    use-for.Register)))

-- under 15, 17, A0 and A1 it is only counted
abbrev pub done_by : Kind → ℕ → ℕ → ℕ → Use
done_by (kind.Write n) c i b = doing c i b
done_by kind.Read c i b = use-for.Quiet
done_by (kind.Unsupported n) c i b = use-for.Quiet
done_by kind.Unknown c i b = use-for.Quiet

-- beyond the largest count: kind 4 once a command
unfoldable pub purpose_of : Active → ℕ → Use
purpose_of a b =
    pick (takes_byte a.kind a.received) (done_by a.kind a.command a.received b)
    (pick a.extra_reported use-for.Quiet use-for.Extra)

abbrev pub under : Active → Uc8253 → Uc8253
under a p = with_current (current.Active a) p

-- the record once a byte of 10 or 13 is put: the cursor goes on
unfoldable pub pixel_chip : Active → Uc8253 → Uc8253
pixel_chip a p = under (moved_to (next_of (written_of p.regs) a.cursor) a) p

-- past the last row nothing is put
abbrev pub past_row : Area → Cursor → Bool
past_row area c = ltb area.y1 c.y

unfoldable pub past_note : Active → Uc8253 → Note
past_note a p = pick (past_row (written_of p.regs) a.cursor) (pick a.past_reported None (Some (PastTheWindow a.command))) None

unfoldable pub pixel_byte : Active → Uc8253 → Uc8253
pixel_byte a p = pick (past_row (written_of p.regs) a.cursor) (under (past_of a) p) (pixel_chip a p)

-- registers reset, power off, soft reset
abbrev pub soft_reset : (Uc8253 → Counting) → Uc8253 → Uc8253
soft_reset clock p =
    starting clock work.SoftReset p.config.timing.soft_reset
    (with_powered false (with_luts reset_luts (with_regs (reset_of p.config.variant) p)))

abbrev pub register_byte : Active → ℕ → Uc8253 → Uc8253
register_byte a b p =
    with_luts (lut_byte_of a.command a.received b p.luts)
    (with_regs (byte_of a.command a.received b p.regs) p)

-- what the byte does, which is number `received` of a
abbrev pub used_by : (Uc8253 → Counting) → Use → Active → ℕ → Uc8253 → Uc8253
used_by clock use-for.Extra a b p = under (extra_of (more_of a)) p
used_by clock use-for.Quiet a b p = under (more_of a) p
used_by clock use-for.Soft a b p = under (soft_of (more_of a)) (soft_reset clock p)
used_by clock use-for.Sleep a b p = under (more_of a) (starting clock work.DeepSleep p.config.timing.deep_sleep p)
used_by clock use-for.Wrong a b p = under (more_of a) p
used_by clock use-for.Register a b p = under (more_of a) (register_byte a b p)
used_by clock use-for.Older a b p = pixel_byte (more_of a) p
used_by clock use-for.Newer a b p = pixel_byte (more_of a) p

-- with no command since making or a reset by pin it is ignored, and so are later ones
abbrev pub given_by : (Uc8253 → Counting) → Current → ℕ → Uc8253 → Uc8253
given_by clock current.Idle b p = ignoring p
given_by clock current.Ignoring b p = p
given_by clock (current.Active a) b p = used_by clock (purpose_of a b) a b p

unfoldable pub data_byte : (Uc8253 → Counting) → ℕ → Uc8253 → Uc8253
data_byte clock b p = given_by clock p.stage.current b p

-- what it tells: beyond the largest count, kind 4; 07 without A5, kind 9; past the last row, kind 10 once
abbrev pub used_note : Use → Active → ℕ → Uc8253 → Note
used_note use-for.Extra a b p = Some (ExtraData a.command)
used_note use-for.Quiet a b p = None
used_note use-for.Soft a b p = None
used_note use-for.Sleep a b p = None
used_note use-for.Wrong a b p = Some (WrongCheckCode b)
used_note use-for.Register a b p = None
used_note use-for.Older a b p = past_note a p
used_note use-for.Newer a b p = past_note a p

-- with no command since making or a reset by pin, kind 3
abbrev pub given_note : Current → ℕ → Uc8253 → Note
given_note current.Idle b p = Some (DataWithoutCommand b)
given_note current.Ignoring b p = None
given_note (current.Active a) b p = used_note (purpose_of a b) a b p

unfoldable pub data_note : ℕ → Uc8253 → Note
data_note b p = given_note p.stage.current b p

-- eight bits from the cursor, highest first, only inside the written area
unfoldable pub put_at : Area → Cursor → ℕ → List ℕ → List ℕ
put_at area c b l = pick (past_row area c) l (written l area c.x c.y b)

-- 10 and 13 put them only in their own plane
abbrev pub for_old : Use → Bool
for_old use-for.Extra = false
for_old use-for.Quiet = false
for_old use-for.Soft = false
for_old use-for.Sleep = false
for_old use-for.Wrong = false
for_old use-for.Register = false
for_old use-for.Older = true
for_old use-for.Newer = false

abbrev pub for_new : Use → Bool
for_new use-for.Extra = false
for_new use-for.Quiet = false
for_new use-for.Soft = false
for_new use-for.Sleep = false
for_new use-for.Wrong = false
for_new use-for.Register = false
for_new use-for.Older = false
for_new use-for.Newer = true

-- a plane after a data byte, of which the plane takes those of some uses
abbrev pub taken_by : (Use → Bool) → Current → ℕ → Area → List ℕ → List ℕ
taken_by mine current.Idle b area l = l
taken_by mine current.Ignoring b area l = l
taken_by mine (current.Active a) b area l = pick (mine (purpose_of a b)) (put_at area a.cursor b l) l

unfoldable pub plane_byte : (Use → Bool) → ℕ → Uc8253 → List ℕ → List ℕ
plane_byte mine b p l = taken_by mine p.stage.current b (written_of p.regs) l
