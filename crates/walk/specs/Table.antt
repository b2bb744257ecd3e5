-- Document 01, "Conditions of acceptance": the table that one theorem proves together, line by line, on the definitions that promises cite.
use Rattle.std.specs.Prelude.{None, Some, ◌≡◌, Bool, true, false, List, [], ◌∷◌, ℕ, ◌+◌, ◌*◌, ◌≤◌, ◌<◌, ℤ, pos, neg_ℤ, length, get_or, take}
use Rattle.base.specs.Integer.{up}
use Rattle.base.specs.Word.{top}
use Rattle.clock.specs.Clock.{billion}
use Rattle.config.specs.declared.Uc8253Config.{Uc8253Config}
use Rattle.config.specs.declared.Variant.{Variant}
use Rattle.config.specs.declared.Variant.TheVariants as variant
use Rattle.glass.specs.Walk.{walk}
use Rattle.glass.specs.Gray.{gray_of}
use Rattle.registers.specs.declared.Area.{Area}
use Rattle.registers.specs.declared.Registers.{Registers}
use Rattle.registers.specs.Bytes.{bytes_from}
use Rattle.registers.specs.Luts.{reset_luts}
use Rattle.registers.specs.Reset.{reset_of}
use Rattle.registers.specs.Written.{active_of}
use Rattle.waveform.specs.declared.Waveform.{Waveform}
use Rattle.supply.specs.Supply.{supply_level}
use Rattle.waveform.specs.Levels.{levels_of, level_of_code}
use Rattle.waveform.specs.Tables.{running, table_at, duration_of}
use Rattle.waveform.specs.Frames.{frames_of}
use Rattle.controller.specs.declared.Power.TheVariants as power
use Rattle.controller.specs.declared.Refresh.{Refresh}
use Rattle.controller.specs.declared.Uc8253.{Uc8253}
use Rattle.controller.specs.declared.Work.TheVariants as work
use Rattle.controller.specs.Maybe.{Read}
use Rattle.controller.specs.World.{World, Buffers}
use Rattle.controller.specs.Refresh.{waveform_now, all_frames, elapsed}
use Rattle.controller.specs.Glass.{numbers_now, walked}
use Rattle.controller.specs.TurnedBack.{turned_back, making_refused}
use Rattle.controller.specs.Calls.{read_answer, made}
use Rattle.controller.specs.Ask.{command, reading, reset, did}
use Rattle.controller.specs.Counting.{own}
use Rattle.walk.specs.Machine.{cut, frames_on, stepped, frames_at, frames_fed}
use Rattle.walk.specs.Kept.{Noted, drives, until, Machine}
use Rattle.walk.specs.Calls.{state_at}
use Rattle.walk.specs.OnePixel.{bench, feed, slow, refreshing, driving, noted3}

-- the bytes of 01
abbrev pub power_bytes : List ℕ
power_bytes = 0x07 ∷ 0x17 ∷ 0x3A ∷ 0x3A ∷ 0x03 ∷ []

-- the area's columns are those from one to another
abbrev pub Columns : Area → ℕ → ℕ → Type 0
Columns a first last = (a.x0 ≡ first) × (a.x1 ≡ last)

abbrev pub drives_of_seven : List ℤ
drives_of_seven = pos 7 ∷ pos 7 ∷ neg_ℤ (pos 7) ∷ []

-- at 1 GHz a refresh with frames of 1,000 runs in the record, which is not past 2,999 from its start and ends later;
-- the call that asserts reset then is accepted
pub record Refreshes (w : World) (r : Refresh) : Type 0 where
  pub rate : w.chip.config.timing.rate ≡ billion
  pub runs : w.chip.operation.work ≡ work.Refresh r
  pub period : w.chip.waveform.frame_ns ≡ 1_000
  pub clock : w.chip.now ≤ w.chip.operation.started + 2_999
  pub later : w.chip.operation.started + 2_999 < w.chip.operation.until
  pub awake : w.chip.mode.power ≡ power.Running
  pub accepted : turned_back true (w.chip.operation.started + 2_999) w ≡ 0

-- the same in the walk
pub record Drives (g : Uc8253Config) (m : Machine) (r : Noted) (end : ℕ) : Type 0 where
  pub rate : g.timing.rate ≡ billion
  pub runs : m.job ≡ until end (drives r)
  pub period : r.wave.frame_ns ≡ 1_000
  pub clock : m.clock ≤ r.since + 2_999
  pub later : r.since + 2_999 < end
  pub high : m.low ≡ false

-- pixel p's number is that of a table, whose frames, by this waveform and sign, are these three
pub record ThreeFrames (v : Waveform) (black : Bool) (numbers : List ℕ) (p : ℕ) (x y z : ℤ) : Type 0 where
  pub least : 1 ≤ get_or numbers p 255
  pub most : get_or numbers p 255 ≤ 4
  pub frames : frames_of v black (get_or numbers p 255) ≡ x ∷ y ∷ z ∷ []

-- in the record's refresh, and in the one that the walk noted
abbrev pub ThreeIn : World → ℕ → ℤ → ℤ → ℤ → Type 0
ThreeIn w p x y z = ThreeFrames w.chip.waveform w.chip.config.optics.positive_drives_black (numbers_now w.chip w.lent.old w.lent.new) p x y z

abbrev pub ThreeNoted : Uc8253Config → Noted → ℕ → ℤ → ℤ → ℤ → Type 0
ThreeNoted g r p x y z = ThreeFrames r.wave g.optics.positive_drives_black r.numbers p x y z

-- such a refresh runs on the panel of one pixel, whose three frames each add 14,000,000
abbrev pub lift : ℤ
lift = pos 14_000_000

pub record RefreshMet : Type 0 where
  pub refresh : Refresh
  pub refreshes : Refreshes refreshing refresh
  pub three : ThreeIn refreshing 0 lift lift lift

-- all five tables end at their first group; a number past theirs has no group
abbrev pub AllEmpty : Waveform → Type 0
AllEmpty w = (k : ℕ) → running (table_at w k) ≡ []

-- reads at these times, one after the other: the world after them, and their answers
abbrev pub after_reads : List ℕ → World → World
after_reads [] w = w
after_reads (t ∷ ts) w = after_reads ts (did (reading t) w)

abbrev pub answers : List ℕ → World → List Read
answers [] w = []
answers (t ∷ ts) w = read_answer t w ∷ answers ts (did (reading t) w)

-- a making of a UC8279d that is accepted; a grey is a byte
pub record Made8279d (c : Uc8253Config) (b : Buffers) : Type 0 where
  pub chip : c.variant ≡ variant.Uc8279d
  pub gray : c.optics.initial_gray < 256
  pub accepted : making_refused c b ≡ 0

pub record Table : Type 0 where
  -- ---- "Power 07 17 3A 3A 03: 14,000, -14,000, 3,000 mV. Code 3F: 15,000. Code 40: 2,400."
  -- of source codes 1, 2, 3, and 0 of code 0; the five data bytes of 01 are kept as they come
  pub level_1 : level_of_code (levels_of power_bytes) 1 ≡ pos 14_000
  pub level_2 : level_of_code (levels_of power_bytes) 2 ≡ neg_ℤ (pos 14_000)
  pub level_3 : level_of_code (levels_of power_bytes) 3 ≡ pos 3_000
  pub level_0 : level_of_code (levels_of power_bytes) 0 ≡ pos 0
  pub level_bytes : (r : Registers) → length r.power ≡ 5 → (bytes_from 0x01 0 power_bytes r).power ≡ power_bytes
  pub level_3_f : supply_level 0x3F ≡ 15_000
  pub level_40 : supply_level 0x40 ≡ 2_400
  -- ---- "State 1 of 510: grey 1. State 0: grey 0."
  -- state 0 of any full swing
  pub gray_1 : gray_of 1 510 ≡ 1
  pub gray_0 : (s : ℕ) → 1 ≤ s → gray_of 0 s ≡ 0
  -- ---- "65 with 03 20 00 00: column 799 only."
  -- whatever the registers were, the resolution among them; and the whole area from reset on
  pub column_799 : (r : Registers) → Columns (active_of (bytes_from 0x65 0 (0x03 ∷ 0x20 ∷ 0x00 ∷ 0x00 ∷ []) r)) 799 799
  pub area_799 : (v : Variant)
      → active_of (bytes_from 0x65 0 (0x03 ∷ 0x20 ∷ 0x00 ∷ 0x00 ∷ []) (reset_of v)) ≡ record { x0 = 799; y0 = 0; x1 = 799; y1 = 599 }
  -- ---- "90 with 00 0F 00 10: columns 8 to 23."
  -- whatever the registers were; and the whole window from reset on
  pub columns_8_23 : (r : Registers) → Columns (bytes_from 0x90 0 (0x00 ∷ 0x0F ∷ 0x00 ∷ 0x10 ∷ []) r).window 8 23
  pub window_8_23 : (v : Variant)
      → (bytes_from 0x90 0 (0x00 ∷ 0x0F ∷ 0x00 ∷ 0x10 ∷ []) (reset_of v)).window ≡ record { x0 = 8; y0 = 0; x1 = 23; y1 = 599 }
  -- ---- "Resolution 0 at start 8: column 8 only."
  -- by the registers' values; and by the bytes of 65 and 61 from reset on
  pub column_8 : (r : Registers) → r.resolution.h ≡ 0 → r.start.h ≡ 8 → Columns (active_of r) 8 8
  pub area_8 : (v : Variant)
      → active_of (bytes_from 0x61 0 (0x00 ∷ 0x00 ∷ []) (bytes_from 0x65 0 (0x00 ∷ 0x08 ∷ []) (reset_of v)))
      ≡ record { x0 = 8; y0 = 0; x1 = 8; y1 = 599 }
  -- ---- "Drives +7, +7, -7: swing 14, every start ends at 7; swing 15, 0 ends at 7 and 15 at 8."
  pub swing_14 : (x : ℕ) → x ≤ 14 → walk 14 x drives_of_seven ≡ 7
  pub swing_15_from_0 : walk 15 0 drives_of_seven ≡ 7
  pub swing_15_from_15 : walk 15 15 drives_of_seven ≡ 8
  -- ---- "3 frames of 1,000, reset after 2,999: 2 driven."
  -- the frames elapsed; the states after the call that asserts reset; and the frames that the walk gives a pixel
  pub elapsed_2 : (p : Uc8253) → p.config.timing.rate ≡ billion → p.waveform.frame_ns ≡ 1_000 → p.now ≡ p.operation.started + 2_999 → elapsed own p ≡ 2
  pub states_2 : (w : World) (r : Refresh) → Refreshes w r
      → (did (reset (w.chip.operation.started + 2_999) true) w).lent.states
      ≡ walked w.chip.config.optics.full_swing (λ k. take 2 (all_frames w.chip k))
      (numbers_now w.chip w.lent.old w.lent.new) w.lent.states
  pub walk_2 : (g : Uc8253Config) (m : Machine) (r : Noted) (end : ℕ) → Drives g m r end
      → (stepped g m (reset (r.since + 2_999) true)).ended ≡ cut 2 r
  pub frames_2 : (g : Uc8253Config) (m : Machine) (r : Noted) (end : ℕ) → Drives g m r end → (p : ℕ)
      → frames_at g m (reset (r.since + 2_999) true) p ≡ take 2 (frames_on g.optics.positive_drives_black r (get_or r.numbers p 255))
  -- of a pixel whose table has 3 frames: its state walks the first 2 and no other; and the walk gives it these, as demand 3 takes them
  pub state_of_3 : (w : World) (r : Refresh) → Refreshes w r → (p : ℕ) (x y z : ℤ) → ThreeIn w p x y z
      → state_at p (did (reset (w.chip.operation.started + 2_999) true) w)
      ≡ pos (walk w.chip.config.optics.full_swing (up (state_at p w)) (x ∷ y ∷ []))
  pub frames_of_3 : (g : Uc8253Config) (m : Machine) (r : Noted) (end : ℕ) → Drives g m r end → (p : ℕ) (x y z : ℤ) → ThreeNoted g r p x y z
      → frames_fed g m (feed (reset (r.since + 2_999) true) ∷ []) p ≡ x ∷ y ∷ []
  -- such refreshes there are: on the panel of one pixel, whose state goes from 0 to that of 2 frames
  pub refresh_met : RefreshMet
  pub drive_met : Drives (slow variant.Uc8253) driving noted3 5_100
  pub three_met : ThreeNoted (slow variant.Uc8253) noted3 0 lift lift lift
  pub state_before : state_at 0 refreshing ≡ pos 0
  pub state_after : state_at 0 (did (reset 3_099 true) refreshing) ≡ pos 28_000_000
  -- ---- "All tables empty: 2 frames long, none driven."
  -- whatever the levels and the sign; as the tables that a reset leaves are
  pub empty_long : (w : Waveform) → AllEmpty w → 2 * w.frame_ns ≤ top → duration_of w ≡ 2 * w.frame_ns
  pub empty_driven : (w : Waveform) → AllEmpty w → (black : Bool) (k : ℕ) → frames_of w black k ≡ []
  pub empty_reset : (p : Uc8253) → p.luts ≡ reset_luts → AllEmpty (waveform_now p)
  pub empty_met : (v : Variant) → AllEmpty (waveform_now (made (slow v) bench).chip)
  -- ---- "UC8279d, 71 after making: 13. 70: 00 03 66 FF FF, then none."
  -- by the calls, whatever their times; and such a making there is
  pub made_met : Made8279d (slow variant.Uc8279d) bench
  pub read_71 : (c : Uc8253Config) (b : Buffers) → Made8279d c b → (t t0 t1 : ℕ)
      → answers (t0 ∷ t1 ∷ []) (did (command t 0x71) (made c b)) ≡ Some 0x13 ∷ None ∷ []
  pub read_70 : (c : Uc8253Config) (b : Buffers) → Made8279d c b → (t t0 t1 t2 t3 t4 t5 : ℕ)
      → answers (t0 ∷ t1 ∷ t2 ∷ t3 ∷ t4 ∷ t5 ∷ []) (did (command t 0x70) (made c b))
      ≡ Some 0x00 ∷ Some 0x03 ∷ Some 0x66 ∷ Some 0xFF ∷ Some 0xFF ∷ None ∷ []
  pub then_none : (c : Uc8253Config) (b : Buffers) → Made8279d c b → (t u : ℕ) (ts : List ℕ) → 5 ≤ length ts
      → read_answer u (after_reads ts (did (command t 0x70) (made c b))) ≡ None
