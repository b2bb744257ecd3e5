-- A dump that the theorem speaks of, the worked example of docs/FORMAT.md: 14 events on 8 pixels; and a capture of one event by its bytes.
use mathlib.Core.Path.{◌≡◌, refl}
use mathlib.Core.Bool.{true}
use mathlib.Core.List.{List, [], ◌∷◌, ◌++◌}
use Prim.Native.Nat.{ℕ, ◌≤◌}
use native.Mathlib.Omega.{arith}
use lib.IntN.{pos}
use lib.ListN.{length, replicate, length-replicate}
use Rattle.base.specs.InTurn.{in_turn}
use Rattle.clock.specs.Clock.{bad_rate}
use Rattle.config.specs.Refusal.{refusal, empty_panel, oversized_panel, swing_refused, period_refused, rate_refused}
use Rattle.capture.specs.Layout as layout
use Rattle.capture.specs.Refused.{bad_config, capture_refused}
use Rattle.capture.specs.Reading.{events_of}
use Rattle.controller.specs.World.{Buffers}
use Rattle.controller.specs.TurnedBack.{lengths_fit, making_refused}
use Rattle.events.specs.Played as events
use Rattle.vcd_simulation.specs.Written.{lowest, event_bytes}
use Rattle.vcd.specs.Dump.{config_in, dump_refused, dump_events}
use Rattle.vcd.specs.Played.{dump_played}
use Rattle.vcd.specs.Writer.{event, dump_of}
use Rattle.vcd.specs.Captured.{capture_of, as_capture}
use Rattle.vcd.proofs.WrittenExample.{worked, worked_read}
use Rattle.vcd.proofs.Captured.{small_dump, small_panel}

-- UC8253, flags 4, 8 by 1, grey 0, ambient 0, swing 28,000,000, power on 100, the other four times 0, periods 1,000
abbrev example : List ℕ
example =
    0 ∷ 4 ∷ 8 ∷ 0 ∷ 1 ∷ 0 ∷ 0 ∷ 0
    ∷ (lowest 8 28_000_000 ++ (lowest 8 100 ++ (replicate 32 0 ++ in_turn 32 (λ i. lowest 8 1_000))))

abbrev dump : List ℕ
dump = dump_of worked 3100

-- what is lent: the lengths count
unfoldable pub lent : Buffers
lent = record {
  old = replicate 60000 0;
  new = replicate 60000 0;
  states = replicate 8 (pos 0);
  picture = replicate 8 0;
  rows = replicate 5120 0;
}

config_taken_lem : refusal (config_in example) ≡ 0
unfolding config_in refusal empty_panel oversized_panel swing_refused period_refused rate_refused bad_rate
config_taken_lem = refl

fits : (l r : ℕ) → l ≡ 60000 → r ≡ 5120 → lengths_fit (config_in example) l l 8 8 r ≡ true
unfolding config_in lengths_fit
fits l r e d = rw (e, d)

making_taken : making_refused (config_in example) lent ≡ 0
unfolding making_refused lent
making_taken =
    let planes = length-replicate {A = ℕ} 60000 0 in
    let rows = length-replicate {A = ℕ} 5120 0 in
    rw (config_taken_lem, fits (length (replicate {A = ℕ} 60000 0)) (length (replicate {A = ℕ} 5120 0)) planes rows)

-- what the theorem supposes
pub dump_taken : dump_refused example dump lent ≡ 0
unfolding dump_refused bad_config
dump_taken = rw (worked_read.0, worked_read.1, making_taken)

few : length (dump_events dump) ≤ 6521
few = rw worked_read.2 (omega arith)

small : layout.pixel_count (config_in example) ≤ 8000
unfolding config_in
small = omega arith

-- and what it gives
pub example_same : events.played (layout.config_in (as_capture example dump)) (events_of (as_capture example dump)) lent
    ≡ dump_played example dump lent
example_same = (small_dump example dump lent dump_taken few).1

pub example_panel : capture_refused (as_capture example dump) ≡ 0
example_panel = small_panel example dump lent dump_taken few small

-- reset asserted at time 258, and nothing else: ten bytes, the configuration, and that it begins at 10, behind one event
pub one_event : (config : List ℕ) → capture_of config (event 258 4 1 ∷ [])
    ≡ (2 ∷ 1 ∷ 0 ∷ 0 ∷ 0 ∷ 0 ∷ 0 ∷ 0 ∷ 4 ∷ 1 ∷ []) ++ (config ++ (10 ∷ 0 ∷ 0 ∷ 0 ∷ 1 ∷ 0 ∷ 0 ∷ 0 ∷ []))
unfolding capture_of event_bytes
one_event config = refl
