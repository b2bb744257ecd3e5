-- Request 2026-10, "Planes quiet under busy": from an operation's start until just before its end, or a reset assertion, no register and
-- no plane byte changes, whichever calls come. Said of two places of demand 3's lists, supposing what demand 3 supposes.
use Rattle.std.specs.Prelude.{◌≡◌, Bool, true, false, List, [], ◌∷◌, ℕ, zero, suc, ◌≤◌, ◌<◌, max, ltb, length}
use Rattle.config.specs.declared.Uc8253Config.{Uc8253Config}
use Rattle.controller.specs.World.{World, Buffers}
use Rattle.controller.specs.Command.{busy}
use Rattle.controller.specs.TurnedBack.{making_refused}
use Rattle.controller.specs.Ask.{Ask, command, datum, reading, advance, reset, vcom_rule, taking, ask_busy, ask_deadline, ask_bit, ask_row, ask_picture}
use Rattle.walk.specs.Calls.{Call, turned, OwnBuffers, Bytes, start, place}

-- an operation runs at a place: it was started, and has neither ended nor been dropped by a reset
abbrev pub Runs : World → Type 0
Runs at = busy at.chip.operation.work ≡ true

-- entry number k of a list, counted from 0; of calls, the one between places k and k + 1
abbrev pub IsEntry : {A : Type 0} → List A → ℕ → A → Type 0
IsEntry [] k x = ⊥
IsEntry (y ∷ ys) zero x = y ≡ x
IsEntry (y ∷ ys) (suc k) x = IsEntry ys k x

-- an accepted call that comes before an operation's end: it asserts no reset, and if it is timed it leaves the clock, which becomes the
-- larger of itself and the time given, below that end. Event kind 6 is timed; taking the rows and the questions are not
abbrev pub comes_before : ℕ → ℕ → Ask → Bool
comes_before end now (command t c) = ltb (max now t) end
comes_before end now (datum t b) = ltb (max now t) end
comes_before end now (reading t) = ltb (max now t) end
comes_before end now (advance t) = ltb (max now t) end
comes_before end now (reset t true) = false
comes_before end now (reset t false) = ltb (max now t) end
comes_before end now (vcom_rule t x) = ltb (max now t) end
comes_before end now taking = true
comes_before end now (ask_busy t) = true
comes_before end now ask_deadline = true
comes_before end now (ask_bit older x y) = true
comes_before end now (ask_row y) = true
comes_before end now (ask_picture top wide) = true

-- each call between places i and j is refused, or comes before the end of the operation that runs at i. That the clock lies below this
-- end at i is not asked: one of no duration, or one started at 2^64 - 1, runs with the clock at its end until the next accepted timed call
abbrev pub Undisturbed : Uc8253Config → Buffers → List Call → ℕ → ℕ → Type 0
Undisturbed g b cs i j =
    (k : ℕ) → i ≤ k → k < j → (c : Call) → IsEntry cs k c → turned (place g b cs k) c ≡ false
    → comes_before (place g b cs i).chip.operation.until (place g b cs k).chip.now c.ask ≡ true

-- what is the same at two places. VCOM's rule in force, which event kind 6 sets, is the host's choice and no register
pub record Same (w v : World) : Type 0 where
  -- every register
  pub regs : v.chip.regs ≡ w.chip.regs
  -- the tables' bytes
  pub luts : v.chip.luts ≡ w.chip.luts
  -- every byte of both planes in the making's buffers
  pub old : v.lent.old ≡ w.lent.old
  pub new : v.lent.new ≡ w.lent.new
  -- the operation: what it does, its start and its end
  pub operation : v.chip.operation ≡ w.chip.operation
  -- the waveform noted at a refresh's start: tables, levels, period and VCOM's rule
  pub waveform : v.chip.waveform ≡ w.chip.waveform

-- the claim
abbrev pub QuietUnderBusy : Type 0
QuietUnderBusy =
    (g : Uc8253Config) (b : Buffers) (cs : List Call) → g.optics.initial_gray < 256 → making_refused g b ≡ 0
    → Bytes cs → OwnBuffers (start g b) cs
    → (i j : ℕ) → i ≤ j → j ≤ length cs → Runs (place g b cs i) → Undisturbed g b cs i j
    → Same (place g b cs i) (place g b cs j)
