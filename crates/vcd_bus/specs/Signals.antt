-- 2026-01: the five signals of the bus, and the events that their changes make.
use Rattle.std.specs.Prelude.{Bool, ◌&&◌, List, [], ◌∷◌, ℕ, ◌+◌, ◌*◌, ◌%◌, eqb}
use Rattle.base.specs.Pick.{pick}
use Rattle.event.specs.declared.Event.{Event}
use Rattle.vcd_bus.specs.declared.Bus.{Bus}

-- a signal counts as 1 before its first value
abbrev pub quiet : Bus
quiet = record { cs = 1; dc = 1; clk = 1; mosi = 1; rst = 1; bits = 0; byte = 0 }

abbrev pub rises : ℕ → ℕ → Bool
rises before after = eqb before 0 && eqb after 1

-- a rise of `cs` drops a begun byte
abbrev pub selected : ℕ → Bus → Bus
selected v b = record {
  cs = v;
  dc = b.dc;
  clk = b.clk;
  mosi = b.mosi;
  rst = b.rst;
  bits = pick (rises b.cs v) 0 b.bits;
  byte = b.byte;
}

-- while `cs` is 0, `mosi` is taken at each rise of `clk`
abbrev pub takes : ℕ → Bus → Bool
takes v b = rises b.clk v && eqb b.cs 0

-- highest bit first: the last eight bits with one more; eight of them are a byte
abbrev pub shifted : Bus → ℕ
shifted b = (2 * b.byte + b.mosi) % 256

abbrev pub counted : ℕ → ℕ
counted bits = (bits + 1) % 8

abbrev pub clocked : ℕ → Bus → Bus
clocked v b = record {
  cs = b.cs;
  dc = b.dc;
  clk = v;
  mosi = b.mosi;
  rst = b.rst;
  bits = pick (takes v b) (counted b.bits) b.bits;
  byte = pick (takes v b) (shifted b) b.byte;
}

-- the others only take the level
abbrev pub data_or : ℕ → Bus → Bus
data_or v b = record { cs = b.cs; dc = v; clk = b.clk; mosi = b.mosi; rst = b.rst; bits = b.bits; byte = b.byte }

abbrev pub sent : ℕ → Bus → Bus
sent v b = record { cs = b.cs; dc = b.dc; clk = b.clk; mosi = v; rst = b.rst; bits = b.bits; byte = b.byte }

abbrev pub reset : ℕ → Bus → Bus
reset v b = record { cs = b.cs; dc = b.dc; clk = b.clk; mosi = b.mosi; rst = v; bits = b.bits; byte = b.byte }

-- a signal takes a level: 0 cs, 1 dc, 2 clk, 3 mosi, 4 rst
abbrev pub after : ℕ → ℕ → Bus → Bus
after signal v b =
    pick (eqb signal 0) (selected v b)
    (pick (eqb signal 1) (data_or v b)
    (pick (eqb signal 2) (clocked v b)
    (pick (eqb signal 3) (sent v b)
    (reset v b))))

-- the eighth bit makes a command if `dc` is 0, else data
abbrev pub byte_kind : ℕ → ℕ
byte_kind dc = pick (eqb dc 0) 1 2

abbrev pub byte_events : ℕ → ℕ → Bus → List Event
byte_events t v b = pick (takes v b && eqb b.bits 7) (record { time = t; kind = byte_kind b.dc; value = shifted b } ∷ []) []

-- a change of `rst` is a reset event, 0 asserting; a value repeated is no change
abbrev pub reset_value : ℕ → ℕ
reset_value v = pick (eqb v 0) 1 0

abbrev pub reset_events : ℕ → ℕ → Bus → List Event
reset_events t v b = pick (eqb b.rst v) [] (record { time = t; kind = 4; value = reset_value v } ∷ [])

-- what a signal's level makes at time t
abbrev pub makes : ℕ → ℕ → ℕ → Bus → List Event
makes signal t v b = pick (eqb signal 2) (byte_events t v b) (pick (eqb signal 4) (reset_events t v b) [])
