-- Document 01, "A data byte": what a read gives.
use Rattle.std.specs.Prelude.{None, Some, List, [], ◌∷◌, ℕ, zero, suc, ◌+◌, min, eqb}
use Rattle.base.specs.Pick.{pick}
use Rattle.config.specs.declared.Variant.{Variant}
use Rattle.config.specs.declared.Variant.TheVariants as variant
use Rattle.command.specs.declared.kinds.Kind.{Kind}
use Rattle.command.specs.declared.kinds.Kind.TheVariants as kind
use Rattle.diagnostic.specs.declared.DiagnosticKind.TheVariants.{NothingToRead}
use Rattle.controller.specs.declared.Active.{Active}
use Rattle.controller.specs.declared.Current.{Current}
use Rattle.controller.specs.declared.Current.TheVariants as current
use Rattle.controller.specs.declared.Uc8253.{Uc8253}
use Rattle.controller.specs.Maybe.{Note, Read}
use Rattle.controller.specs.Setters.{with_current}
use Rattle.controller.specs.Arrives.{busy_at}

-- the bits of `flags` (mod.rs): 6 under 91, 4 always, 3 the data flag, 2 power on, 1 power off, 0 not busy
unfoldable pub flags_of : Uc8253 → ℕ
flags_of p =
    pick p.regs.partial 64 0 + 16 + pick p.mode.data_flag 8 0 + pick p.mode.powered 4 2
    + pick (busy_at p.mode.power p.operation p.now) 0 1

-- what UC8279d gives: the five bytes of 70; one byte for 71 and for 11, the data flag in its bit 7; ambient and 00 for 40
unfoldable pub bytes_of : ℕ → Uc8253 → List ℕ
bytes_of c p =
    pick (eqb c 0x70) (0x00 ∷ 0x03 ∷ 0x66 ∷ 0xFF ∷ 0xFF ∷ [])
    (pick (eqb c 0x71) (flags_of p ∷ [])
    (pick (eqb c 0x11) (pick p.mode.data_flag 128 0 ∷ [])
    (pick (eqb c 0x40) (p.config.ambient_celsius ∷ 0x00 ∷ [])
    [])))

-- and then none
abbrev pub byte_at : List ℕ → ℕ → Read
byte_at [] i = None
byte_at (b ∷ bs) zero = Some b
byte_at (b ∷ bs) (suc i) = byte_at bs i

-- UC8253 gives none always
abbrev pub driven_byte : Variant → Uc8253 → ℕ → ℕ → Read
driven_byte variant.Uc8253 p c i = None
driven_byte variant.Uc8279d p c i = byte_at (bytes_of c p) i

-- what is read of a command: none under any but a read command
abbrev pub read_under : Kind → Active → Uc8253 → Read
read_under (kind.Write n) a p = None
read_under kind.Read a p = driven_byte p.config.variant p a.command a.read
read_under (kind.Unsupported n) a p = None
read_under kind.Unknown a p = None

abbrev pub read_from : Current → Uc8253 → Read
read_from current.Idle p = None
read_from current.Ignoring p = None
read_from (current.Active a) p = read_under a.kind a p

unfoldable pub read_of : Uc8253 → Read
read_of p = read_from p.stage.current p

-- one byte more was read; counts hold at 65,535
abbrev pub read_more : Active → Active
read_more a = record {
  command = a.command;
  kind = a.kind;
  received = a.received;
  read = min (a.read + 1) 65535;
  cursor = a.cursor;
  extra_reported = a.extra_reported;
  past_reported = a.past_reported;
}

abbrev pub after_read : Kind → Active → Uc8253 → Uc8253
after_read (kind.Write n) a p = p
after_read kind.Read a p = with_current (current.Active (read_more a)) p
after_read (kind.Unsupported n) a p = p
after_read kind.Unknown a p = p

abbrev pub reading_by : Current → Uc8253 → Uc8253
reading_by current.Idle p = p
reading_by current.Ignoring p = p
reading_by (current.Active a) p = after_read a.kind a p

unfoldable pub reading : Uc8253 → Uc8253
reading p = reading_by p.stage.current p

-- a first read with no byte under a read command stores kind 14
abbrev pub missed_note : Read → Active → Note
missed_note (Some b) a = None
missed_note None a = pick (eqb a.read 0) (Some (NothingToRead a.command)) None

abbrev pub under_note : Kind → Active → Uc8253 → Note
under_note (kind.Write n) a p = None
under_note kind.Read a p = missed_note (driven_byte p.config.variant p a.command a.read) a
under_note (kind.Unsupported n) a p = None
under_note kind.Unknown a p = None

abbrev pub read_note_by : Current → Uc8253 → Note
read_note_by current.Idle p = None
read_note_by current.Ignoring p = None
read_note_by (current.Active a) p = under_note a.kind a p

unfoldable pub read_note : Uc8253 → Note
read_note p = read_note_by p.stage.current p
