-- A transfer made ready once for all pixels: what moves a state with no test of signs.
use Rattle.std.specs.Prelude.{ℕ, ◌+◌, ◌-◌, ◌≤◌, min, max, ℤ, pos}
use Rattle.base.specs.Integer.{up}
use Rattle.glass.specs.declared.Transfer.{Transfer}
use Rattle.pixels.specs.declared.Ready.{Ready}
use Rattle.pixels.specs.States.{most}
use Rattle.pixels.specs.Drive.{by_number}

-- a move of this much takes every state past every other
abbrev pub past : ℕ
past = 0x8000_0000_0000_0000

-- what a transfer adds and what it takes away, of which one is 0, and its ends raised by what it takes
unfoldable pub ready_of : Transfer → Ready
ready_of t = record {
  plus = min (t.up - t.down) past;
  minus = min (t.down - t.up) past;
  low = min t.lo most + min (t.down - t.up) past;
  high = min t.hi most + min (t.down - t.up) past;
}

-- an entry moved by it; what lies below 0 counts as 0
unfoldable pub moved_ready : Ready → ℤ → ℤ
moved_ready t z = pos (max t.low (min (up z + t.plus) t.high) - t.minus)

-- what keeps that within 64 bits
pub record Bounded (t : Ready) : Type 0 where
  pub added : t.plus ≤ past
  pub taken : t.minus ≤ t.low
  pub lowest : t.low ≤ most + t.minus
  pub highest : t.high ≤ most + t.minus

-- where the transfer of a table number stands among the four; 4, past them, for a number with none
abbrev pub slot_of : ℕ → ℕ
slot_of n = by_number 0 1 2 3 4 n
