-- Document 01, "The walk": the walk's own machine. It names no record handed in or back, no lent buffer,
-- no state of the glass, no picture and no diagnostic.
use Rattle.std.specs.Prelude.{Bool, true, false, not, ◌&&◌, ◌||◌, List, [], ◌∷◌, ◌++◌, ℕ, zero, suc, ◌+◌, ◌*◌, ◌-◌, ◌/◌, ◌%◌, min, max, eqb, ltb, leb, ℤ, get_or, take, replicate}
use Rattle.base.specs.Pick.{pick, one_of}
use Rattle.base.specs.Word.{top}
use Rattle.clock.specs.Clock.{cycles_of, nanos_of}
use Rattle.config.specs.declared.Uc8253Config.{Uc8253Config}
use Rattle.command.specs.declared.kinds.Kind.{Kind}
use Rattle.command.specs.declared.kinds.Kind.TheVariants as kind
use Rattle.command.specs.Kinds.{kind_of, takes_byte}
use Rattle.registers.specs.declared.Area.{Area}
use Rattle.registers.specs.Bytes.{byte_of}
use Rattle.registers.specs.Flags.{bit_set, copies_new_to_old}
use Rattle.registers.specs.Luts.{reset_luts, lut_byte_of}
use Rattle.registers.specs.Reset.{reset_of}
use Rattle.registers.specs.Written.{written_of}
use Rattle.ram.specs.Copy.{copied}
use Rattle.ram.specs.Write.{written, next_of}
use Rattle.waveform.specs.declared.Waveform.{Waveform}
use Rattle.waveform.specs.Levels.{levels_of}
use Rattle.waveform.specs.Tables.{waveform_of, duration_of}
use Rattle.waveform.specs.Frames.{frames_of}
use Rattle.numbers.specs.Number.{mapping_of, number_of}
use Rattle.controller.specs.Ask.{Ask, command, datum, reading, advance, reset, vcom_rule, taking, ask_busy, ask_deadline, ask_bit, ask_row, ask_picture}
use Rattle.walk.specs.Kept.{Order, Hearing, none, ignored, under, Noted}
use Rattle.walk.specs.Kept.{Task, powers_up, powers_down, falls_asleep, resets_softly, resets_hardly, drives, Job, idle, until, Machine}
use Rattle.walk.specs.Parts.{with_clock, with_low, with_sleep, with_power, with_regs, with_luts, with_hears, with_old, with_new, with_job, with_rule}

-- ---- a refresh's end
-- how a refresh ends at a call: not at all; by itself; cut by reset after some whole frames
pub data Ended : Type 0 where
  nothing : Ended
  whole : Noted → Ended
  cut : ℕ → Noted → Ended

-- the frames of a number's table, none for 255
unfoldable pub frames_on : Bool → Noted → ℕ → List ℤ
frames_on black r n = pick (eqb n 255) [] (frames_of r.wave black n)

-- what its end gives pixel p: all of them, or the first ones
abbrev pub frames_by : Bool → Ended → ℕ → List ℤ
frames_by black nothing p = []
frames_by black (whole r) p = frames_on black r (get_or r.numbers p 255)
frames_by black (cut k r) p = take k (frames_on black r (get_or r.numbers p 255))

-- the machine after a call, and how a refresh ended in it
pub record Out : Type 0 where
  pub machine : Machine
  pub ended : Ended

abbrev pub quiet : Machine → Out
quiet m = record { machine = m; ended = nothing }

abbrev pub then : (Machine → Machine) → Out → Out
then f o = record { machine = f o.machine; ended = o.ended }

-- ---- a call arrives
-- an operation from the clock on: its end is start plus duration, rounded up to cycles and held at 2^64 - 1
abbrev pub begin : Uc8253Config → Task → ℕ → Machine → Machine
begin g k ns m = with_job (until (min (m.clock + cycles_of g.timing.rate ns) top) k) m

-- its end: power is up, or down; asleep, and power down; on UC8253 with bit 3 of the first 50 byte a refresh copies new to old in its area
abbrev pub done : Uc8253Config → Task → Machine → Out
done g powers_up m = quiet (with_power true m)
done g powers_down m = quiet (with_power false m)
done g falls_asleep m = quiet (with_sleep true (with_power false m))
done g resets_softly m = quiet m
done g resets_hardly m = quiet m
done g (drives r) m = record {
  machine = pick (copies_new_to_old g.variant m.regs) (with_old (copied m.old m.new r.area) m) m;
  ended = whole r;
}

-- an end at or below the clock
abbrev pub reached : ℕ → Machine → Bool
reached e m = leb e m.clock

-- an operation whose end is reached ends, once
abbrev pub due : Uc8253Config → Job → Machine → Out
due g idle m = quiet m
due g (until e k) m = pick (reached e m) (done g k (with_job idle m)) (quiet m)

-- the clock becomes the larger of itself and the time given
unfoldable pub settled : Uc8253Config → ℕ → Machine → Out
settled g t m = due g m.job (with_clock (max m.clock t) m)

-- ---- a command byte
-- an operation's end lies above the time asked
abbrev pub busy : Job → ℕ → Bool
busy idle t = false
busy (until e k) t = ltb t e

abbrev pub initialises : Task → Bool
initialises powers_up = false
initialises powers_down = false
initialises falls_asleep = false
initialises resets_softly = true
initialises resets_hardly = true
initialises (drives r) = false

abbrev pub restarts : Job → Bool
restarts idle = false
restarts (until e k) = initialises k

-- in reset or a soft or hardware reset running; asleep; busy and not 70, 71 or 81
unfoldable pub dropped : ℕ → Machine → Bool
dropped c m = (m.low || restarts m.job) || (m.sleep || (busy m.job m.clock && not (one_of (0x70 ∷ 0x71 ∷ 0x81 ∷ []) c)))

-- f 0, f 1 and so on, n of them
abbrev pub tabulate : (ℕ → ℕ) → ℕ → ℕ → List ℕ
tabulate f from zero = []
tabulate f from (suc n) = f from ∷ tabulate f (suc from) n

-- the number of pixel p, counted row by row
abbrev pub number_at : Uc8253Config → Machine → ℕ → ℕ
number_at g m p = number_of (mapping_of g.panel m.regs g.variant) m.old m.new (p % g.panel.sources) (p / g.panel.sources)

-- the tables, the levels of 01, the period of the low five bits of 30, and the rule in force
abbrev pub wave_now : Uc8253Config → Machine → Waveform
wave_now g m =
    waveform_of m.luts.bytes (levels_of m.regs.power) (get_or g.timing.frame_period (m.regs.pll % 32) 0) m.by_frame

-- what a refresh's start notes
unfoldable pub noted : Uc8253Config → Machine → Noted
noted g m = record {
  since = m.clock;
  wave = wave_now g m;
  area = written_of m.regs;
  numbers = tabulate (number_at g m) 0 (g.panel.sources * g.panel.gates);
}

-- a refresh is refused if bit 5, 4 or 1 of the first 00 byte is clear or power is off
unfoldable pub able : Machine → Bool
able m = let psr = get_or m.regs.psr 0 0 in bit_set psr 5 && (bit_set psr 4 && (bit_set psr 1 && m.power))

unfoldable pub refresh : Uc8253Config → Machine → Machine
refresh g m = pick (able m) (begin g (drives (noted g m)) (duration_of (wave_now g m)) m) m

-- 91 and 92
abbrev pub windowed : Bool → Machine → Machine
windowed x m =
    let r = m.regs in
    with_regs (record {
      psr = r.psr;
      power = r.power;
      pll = r.pll;
      cdi = r.cdi;
      resolution = r.resolution;
      start = r.start;
      window = r.window;
      partial = x;
    }) m

-- 04 acts with power off, 02 with power on; 12 is a refresh
unfoldable pub acted : Uc8253Config → ℕ → Machine → Machine
acted g c m =
    pick (eqb c 0x04) (pick m.power m (begin g powers_up g.timing.power_on m))
    (pick (eqb c 0x02) (pick m.power (begin g powers_down g.timing.power_off m) m)
    (pick (eqb c 0x12) (refresh g m)
    (pick (eqb c 0x91) (windowed true m)
    (pick (eqb c 0x92) (windowed false m)
    m))))

-- no data byte yet; the cursor is at the first column and row of the written area
abbrev pub begun : ℕ → Kind → Machine → Machine
begun c k m =
    with_hears (under (record {
      byte = c;
      kind = k;
      count = 0;
      cursor = record { x = (written_of m.regs).x0; y = (written_of m.regs).y0 };
    })) m

-- unknown: data is ignored; 15, 17, A0 and A1: it is only counted
abbrev pub ordered : Kind → Uc8253Config → ℕ → Machine → Machine
ordered kind.Unknown g c m = with_hears ignored m
ordered (kind.Unsupported n) g c m = begun c (kind.Unsupported n) m
ordered (kind.Write n) g c m = acted g c (begun c (kind.Write n) m)
ordered kind.Read g c m = acted g c (begun c kind.Read m)

unfoldable pub commanded : Uc8253Config → ℕ → Machine → Machine
commanded g c m = pick (dropped c m) (with_hears ignored m) (ordered (kind_of c g.variant) g c m)

-- ---- a data byte
-- counts hold at 65,535
abbrev pub counted : Order → Order
counted o = record { byte = o.byte; kind = o.kind; count = min (o.count + 1) 65535; cursor = o.cursor }

abbrev pub forward : Area → Order → Order
forward a o = record { byte = o.byte; kind = o.kind; count = min (o.count + 1) 65535; cursor = next_of a o.cursor }

-- the first byte of 00 with bit 0 clear: registers reset, power off, soft reset; later bytes are ignored
unfoldable pub softened : Uc8253Config → Machine → Machine
softened g m =
    with_hears ignored
    (begin g resets_softly g.timing.soft_reset (with_power false (with_luts reset_luts (with_regs (reset_of g.variant) m))))

-- 10 puts eight bits from the cursor into the old plane, 13 into the new one, and the cursor goes on; past the last row nothing
unfoldable pub streamed : ℕ → Order → Machine → Machine
streamed b o m =
    let a = written_of m.regs in
    pick (ltb a.y1 o.cursor.y) (with_hears (under (counted o)) m)
    (with_hears (under (forward a o))
    (pick (eqb o.byte 0x10) (with_old (written m.old a o.cursor.x o.cursor.y b) m)
    (with_new (written m.new a o.cursor.x o.cursor.y b) m)))

-- a register or a table takes it, if it is theirs
unfoldable pub stored : ℕ → Order → Machine → Machine
stored b o m =
    with_hears (under (counted o))
    (with_luts (lut_byte_of o.byte o.count b m.luts) (with_regs (byte_of o.byte o.count b m.regs) m))

-- a data byte that the command takes; 07 with A5 starts deep sleep
unfoldable pub took : Uc8253Config → ℕ → Order → Machine → Machine
took g b o m =
    pick (eqb o.byte 0x00 && (eqb o.count 0 && not (bit_set b 0))) (softened g m)
    (pick (eqb o.byte 0x07) (with_hears (under (counted o)) (pick (eqb b 0xA5) (begin g falls_asleep g.timing.deep_sleep m) m))
    (pick (one_of (0x10 ∷ 0x13 ∷ []) o.byte) (streamed b o m)
    (stored b o m)))

-- after 15, 17, A0 and A1 and under a read command it is only counted
abbrev pub took_by : Kind → Uc8253Config → ℕ → Order → Machine → Machine
took_by (kind.Write n) g b o m = took g b o m
took_by kind.Read g b o m = with_hears (under (counted o)) m
took_by (kind.Unsupported n) g b o m = with_hears (under (counted o)) m
took_by kind.Unknown g b o m = with_hears (under (counted o)) m

-- with no command it is ignored, and so are later ones; beyond the largest count it is only counted
abbrev pub heard : Hearing → Uc8253Config → ℕ → Machine → Machine
heard none g b m = with_hears ignored m
heard ignored g b m = m
heard (under o) g b m = pick (takes_byte o.kind o.count) (took_by o.kind g b o m) (with_hears (under (counted o)) m)

unfoldable pub given : Uc8253Config → ℕ → Machine → Machine
given g b m = heard m.hears g b m

-- ---- the reset line
-- a refresh is cut after the whole frames elapsed: clock - start, in nanoseconds, / period, rounded down
abbrev pub cut_task : Uc8253Config → Task → ℕ → Ended → Ended
cut_task g powers_up t e = e
cut_task g powers_down t e = e
cut_task g falls_asleep t e = e
cut_task g resets_softly t e = e
cut_task g resets_hardly t e = e
cut_task g (drives r) t e = cut (nanos_of g.timing.rate (t - r.since) / r.wave.frame_ns) r

abbrev pub cut_job : Uc8253Config → Job → ℕ → Ended → Ended
cut_job g idle t e = e
cut_job g (until n k) t e = cut_task g k t e

-- the operation is dropped, the command closed, the registers restored, power cut, the chip awake; the planes and VCOM's rule stay
unfoldable pub cleared : Uc8253Config → Machine → Machine
cleared g m = record {
  clock = m.clock;
  low = true;
  sleep = false;
  power = false;
  regs = reset_of g.variant;
  luts = reset_luts;
  hears = none;
  old = m.old;
  new = m.new;
  job = idle;
  by_frame = m.by_frame;
}

-- asserted; asserted again, only the clock moves
unfoldable pub lowered : Uc8253Config → Out → Out
lowered g o =
    let m = o.machine in
    pick m.low o (record { machine = cleared g m; ended = cut_job g m.job m.clock o.ended })

-- release starts the hardware reset; out of reset it is an advance
unfoldable pub raised : Uc8253Config → Machine → Machine
raised g m = pick m.low (begin g resets_hardly g.timing.hardware_reset (with_low false m)) m

-- ---- each call
unfoldable pub stepped : Uc8253Config → Machine → Ask → Out
stepped g m (command t c) = then (commanded g c) (settled g t m)
stepped g m (datum t b) = then (given g b) (settled g t m)
stepped g m (reading t) = settled g t m
stepped g m (advance t) = settled g t m
stepped g m (reset t true) = lowered g (settled g t m)
stepped g m (reset t false) = then (raised g) (settled g t m)
stepped g m (vcom_rule t x) = then (with_rule x) (settled g t m)
stepped g m taking = quiet m
stepped g m (ask_busy t) = quiet m
stepped g m ask_deadline = quiet m
stepped g m (ask_bit older x y) = quiet m
stepped g m (ask_row y) = quiet m
stepped g m (ask_picture top wide) = quiet m

-- the whole frames that pixel p gets at a call
unfoldable pub frames_at : Uc8253Config → Machine → Ask → ℕ → List ℤ
frames_at g m a p = frames_by g.optics.positive_drives_black (stepped g m a).ended p

-- at making: RAM is zero, nothing runs, and the configuration selects VCOM's rule
unfoldable pub fresh : Uc8253Config → Machine
fresh g = record {
  clock = 0;
  low = false;
  sleep = false;
  power = false;
  regs = reset_of g.variant;
  luts = reset_luts;
  hears = none;
  old = replicate 60000 0;
  new = replicate 60000 0;
  job = idle;
  by_frame = g.vcom_by_frame;
}

-- ---- what the walk is fed: each call's kind and arguments, and whether it was turned back
pub record Fed : Type 0 where
  pub ask : Ask
  pub back : Bool

-- a call turned back leaves all as it was, the clock too
unfoldable pub fed1 : Uc8253Config → Machine → Fed → Machine
fed1 g m f = pick f.back m (stepped g m f.ask).machine

unfoldable pub frames_fed1 : Uc8253Config → Machine → Fed → ℕ → List ℤ
frames_fed1 g m f p = pick f.back [] (frames_at g m f.ask p)

-- a list of them, one after the other
unfoldable pub ran : Uc8253Config → Machine → List Fed → Machine
ran g m [] = m
ran g m (f ∷ fs) = ran g (fed1 g m f) fs

unfoldable pub frames_fed : Uc8253Config → Machine → List Fed → ℕ → List ℤ
frames_fed g m [] p = []
frames_fed g m (f ∷ fs) p = frames_fed1 g m f p ++ frames_fed g (fed1 g m f) fs p
