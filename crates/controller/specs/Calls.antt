-- What the calls answer and by which number they are turned back, and making.
use Rattle.std.specs.Prelude.{None, Option, Some, Bool, true, false, ◌&&◌, List, [], ℕ, ◌*◌, eqb, ltb, length, take, drop, replicate, ℤ, pos}
use Rattle.base.specs.Pick.{pick}
use Rattle.config.specs.declared.Uc8253Config.{Uc8253Config}
use Rattle.config.specs.declared.Variant.TheVariants as variant
use Rattle.glass.specs.declared.RefreshKind.TheVariants as shown
use Rattle.glass.specs.Gray.{level_of, top_of}
use Rattle.pixels.specs.States.{every_state}
use Rattle.pixels.specs.Draw.{drawn_at}
use Rattle.registers.specs.declared.Registers.{Registers}
use Rattle.registers.specs.Luts.{reset_luts}
use Rattle.registers.specs.Reset.{reset_of}
use Rattle.waveform.specs.declared.Waveform.{Waveform}
use Rattle.waveform.specs.Frames.{blank}
use Rattle.ram.specs.Found.{ram_bit}
use Rattle.controller.specs.declared.Power.TheVariants as power
use Rattle.controller.specs.declared.Work.{Work}
use Rattle.controller.specs.declared.Work.TheVariants as work
use Rattle.controller.specs.declared.Current.TheVariants as current
use Rattle.controller.specs.declared.Uc8253.{Uc8253}
use Rattle.controller.specs.Maybe.{Due, Read}
use Rattle.controller.specs.World.{World, Buffers, world}
use Rattle.controller.specs.TurnedBack.{foreign_record, turned_back, making_refused, lent_refused}
use Rattle.controller.specs.Arrives.{arrived, rest, busy_at}
use Rattle.controller.specs.Reading.{read_of}

-- a refused read gives none
unfoldable pub read_answer : ℕ → World → Read
read_answer t w = pick (eqb (turned_back false t w) 0) (read_of (arrived t w.chip)) None

-- taking the rows: 6, then 5 for the rows; stored becomes 0, and the call says how many rows there were
unfoldable pub taking_refused : Uc8253 → List ℕ → ℕ
taking_refused p rows = lent_refused p (eqb (length rows) 5120)

unfoldable pub taken_rows : Uc8253 → List ℕ → ℕ
taken_rows p rows = pick (eqb (taking_refused p rows) 0) p.log.stored 0

-- the questions test 6, then 5 for what they are lent
unfoldable pub question_refused : Uc8253 → ℕ
question_refused p = lent_refused p true

unfoldable pub busy_answer : Uc8253 → ℕ → Bool
busy_answer p t = pick (foreign_record p) false (busy_at p.mode.power p.operation t)

-- the end of the operation under way, if one is
abbrev pub due_of : Work → ℕ → Due
due_of work.Nothing until = None
due_of work.PowerOn until = Some until
due_of work.PowerOff until = Some until
due_of work.DeepSleep until = Some until
due_of work.SoftReset until = Some until
due_of work.HardwareReset until = Some until
due_of (work.Refresh r) until = Some until

unfoldable pub deadline_answer : Uc8253 → Due
deadline_answer p = pick (foreign_record p) None (due_of p.operation.work p.operation.until)

unfoldable pub bit_refused : Uc8253 → List ℕ → ℕ
bit_refused p plane = lent_refused p (eqb (length plane) 60000)

unfoldable pub bit_answer : Uc8253 → List ℕ → ℕ → ℕ → Option ℕ
bit_answer p plane x y = pick (eqb (bit_refused p plane) 0) (ram_bit plane x y) None

unfoldable pub row_refused : Uc8253 → List ℕ → ℕ
row_refused p picture = lent_refused p (eqb (length picture) (p.config.panel.sources * p.config.panel.gates))

-- that part of the lent picture; a row past the last, or a refused question, gives an empty part
unfoldable pub row_answer : Uc8253 → List ℕ → ℕ → List ℕ
row_answer p picture y =
    pick (eqb (row_refused p picture) 0)
    (pick (ltb y p.config.panel.gates) (take p.config.panel.sources (drop (y * p.config.panel.sources) picture)) [])
    []

-- the 16-bit picture at a top (2026-03): 6, then 5 for the states and the buffer, then the states by 7
unfoldable pub wide_refused : Uc8253 → List ℤ → ℕ → ℕ
wide_refused p states room =
    let pixels = p.config.panel.sources * p.config.panel.gates in
    pick (foreign_record p) 6
    (pick (eqb (length states) pixels && eqb room pixels)
    (pick (every_state p.config.optics.full_swing states) 0 7)
    5)

-- that buffer: each entry the grey of its state at the top, 0 standing for 255; a refused question leaves it
unfoldable pub wide_answer : Uc8253 → List ℤ → ℕ → List ℕ → List ℕ
wide_answer p states top wide =
    pick (eqb (wide_refused p states (length wide)) 0) (drawn_at (top_of top) p.config.optics.full_swing states wide) wide

-- no table, no level, no period
unfoldable pub no_waveform : Waveform
no_waveform = record { tables = replicate 5 (replicate 7 blank); levels = record { vdh = 0; vdl = 0; vdhr = 0 }; frame_ns = 0; vcom_by_frame = false }

-- a record that no call has seen: running, without supplies and without a command, VCOM by the rule that the configuration selects,
-- the picture as the glass was
abbrev pub untouched : Uc8253Config → Registers → Uc8253
untouched c r = record {
  config = c;
  regs = r;
  luts = reset_luts;
  mode = record { power = power.Running; powered = false; data_flag = false; vcom_by_frame = c.vcom_by_frame };
  stage = record { current = current.Idle };
  operation = rest;
  waveform = no_waveform;
  image = record {
    width = c.panel.sources;
    height = c.panel.gates;
    generation = 0;
    kind = shown.PowerOn;
    interrupted = false;
    started = 0;
    at = 0;
  };
  log = record { stored = 0; dropped = 0 };
  now = 0;
}

-- a configuration and registers of zeros
unfoldable pub no_config : Uc8253Config
no_config = record {
  variant = variant.Uc8253;
  panel = record { sources = 0; gates = 0; rows_reversed = false; columns_reversed = false };
  optics = record { full_swing = 0; positive_drives_black = false; initial_gray = 0 };
  timing = record {
    power_on = 0;
    power_off = 0;
    deep_sleep = 0;
    soft_reset = 0;
    hardware_reset = 0;
    frame_period = replicate 32 0;
    rate = 0;
  };
  ambient_celsius = 0;
  vcom_by_frame = false;
}

unfoldable pub no_registers : Registers
no_registers = record {
  psr = replicate 2 0;
  power = replicate 5 0;
  pll = 0;
  cdi = replicate 2 0;
  resolution = record { h = 0; v = 0 };
  start = record { h = 0; v = 0 };
  window = record { x0 = 0; y0 = 0; x1 = 0; y1 = 0 };
  partial = false;
}

-- a record of zeros
unfoldable pub zeros : Uc8253
zeros = untouched no_config no_registers

-- the chip at power-on
unfoldable pub first_chip : Uc8253Config → Uc8253
first_chip c = untouched c (reset_of c.variant)

-- every state full swing × initial grey / 255, the picture the initial grey, and planes and diagnostics zero
unfoldable pub first_buffers : Uc8253Config → Buffers
first_buffers c =
    let pixels = c.panel.sources * c.panel.gates in
    record {
      old = replicate 60000 0;
      new = replicate 60000 0;
      states = replicate pixels (pos (level_of c.optics.initial_gray c.optics.full_swing));
      picture = replicate pixels c.optics.initial_gray;
      rows = replicate 5120 0;
    }

-- making; a refusal returns a record of zeros and changes no lent entry
unfoldable pub made : Uc8253Config → Buffers → World
made c b = pick (eqb (making_refused c b) 0) (world (first_chip c) (first_buffers c)) (world zeros b)
