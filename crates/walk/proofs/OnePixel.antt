-- The panel of one pixel: its making is accepted, and leaves the pixel black; and what the checker opens to run the walk's machine on it.
use mathlib.Core.Path.{◌≡◌}
use mathlib.Core.Bool.{true, false}
use Prim.Native.Nat.{ℕ}
use lib.Dec.{eqb}
use lib.IntN.{pos}
use lib.ListN.{length, replicate, length-replicate}
use Rattle.config.specs.declared.Variant.{Variant}
use Rattle.clock.specs.Clock.{near, cycles_of, nanos_of, bad_rate}
use Rattle.config.specs.Refusal.{empty_panel, oversized_panel, swing_refused, period_refused, rate_refused, refusal}
use Rattle.command.specs.Kinds.{kind_of}
use Rattle.registers.specs.Area.{inside}
use Rattle.registers.specs.Bytes as bytes
use Rattle.registers.specs.Luts as luts
use Rattle.registers.specs.Reset.{reset_of}
use Rattle.registers.specs.Written.{active_of, written_of}
use Rattle.ram.specs.Plane.{with_bit, bit_at, put_bit}
use Rattle.ram.specs.Write.{put_inside, written, next_of}
use Rattle.ram.specs.Copy.{copied}
use Rattle.waveform.specs.Levels.{level_of_code, floats}
use Rattle.waveform.specs.Tables as tables
use Rattle.waveform.specs.Frames.{drive_of}
use Rattle.numbers.specs.Number as number
use Rattle.controller.specs.TurnedBack.{lengths_fit, making_refused}
use Rattle.controller.specs.Calls.{made, first_buffers}
use Rattle.walk.specs.Machine as m
use Rattle.walk.specs.Calls.{state_at}
use Rattle.walk.specs.OnePixel.{one_pixel, bench}
use Rattle.walk.proofs.Demand.{made_is}

-- one name that opens all of them
unfoldable pub all : ℕ
unfolding kind_of inside bytes.ten_bits bytes.window_set bytes.held_area bytes.put_at bytes.byte_of luts.reset_luts luts.kept_byte luts.lut_byte_of
    reset_of active_of written_of with_bit bit_at put_bit put_inside written next_of copied level_of_code floats tables.ends drive_of number.mapping_of
    number.shown_at number.transition_of number.number_of m.frames_on m.settled m.dropped m.noted m.able m.refresh m.acted m.commanded m.softened
    cycles_of nanos_of near m.streamed m.stored m.took m.given m.cleared m.lowered m.raised m.stepped m.frames_at m.fresh m.fed1 m.frames_fed1 m.ran m.frames_fed
all = 0

module _ (v : Variant) (period rate : ℕ) (some : eqb period 0 ≡ false) (right : bad_rate rate ≡ false) where
  unrefused : refusal (one_pixel v period rate) ≡ 0
  unfolding refusal empty_panel oversized_panel swing_refused period_refused rate_refused
  unrefused = rw (some, right)

  fits : (l r : ℕ) → l ≡ 60000 → r ≡ 5120 → lengths_fit (one_pixel v period rate) l l 1 1 r ≡ true
  unfolding lengths_fit
  fits l r e d = rw (e, d)

  pub taken_by_lem : making_refused (one_pixel v period rate) bench ≡ 0
  unfolding making_refused bench
  taken_by_lem =
      let long = length-replicate {A = ℕ} 60000 0 in
      rw (unrefused, fits (length (replicate {A = ℕ} 60000 0)) (length (replicate {A = ℕ} 5120 0)) long (length-replicate {A = ℕ} 5120 0))

  pub black_by : state_at 0 (made (one_pixel v period rate) bench) ≡ pos 0
  unfolding state_at first_buffers
  black_by = rw (made_is (one_pixel v period rate) bench taken_by_lem)
