-- Request 2026-05: at 1 GHz a run of events is the run with identities in place of the two conversions, since each event's time is a
-- 64-bit number, and no call changes the rate or lets the clock pass 2^64 - 1.
use mathlib.Core.Path.{◌≡◌, refl, ap, ◌∙◌}
use mathlib.Core.List.{List}
use Prim.Native.Nat.{ℕ, zero, suc, ◌+◌, ◌*◌, ◌≤◌, ◌<◌}
use native.Mathlib.Omega.{arith}
use lib.Dec.{eqb}
use lib.ListN.{get_or, set}
use Rattle.base.specs.Word.{top}
use Rattle.base.proofs.Cases.{both}
use Rattle.base.specs.Turns.{turns}
use Rattle.base.proofs.Turns.{turns_keep, turns_same}
use Rattle.capture.specs.Little.{little}
use Rattle.controller.specs.World.{World}
use Rattle.controller.specs.Counting.{own, same}
use Rattle.controller.specs.Ask.{command, datum, reading, advance, reset, vcom_rule}
use Rattle.controller.proofs.OneGigahertz.{did_same, Ready, ready}
use Rattle.event.specs.declared.Event.{Event}
use Rattle.event.specs.Events.{event_at, event_done, event_done_by, event_refused, event_answer, earlier, ran_to, ran_to_by}
use Rattle.event.specs.Events.{answers_to, answers_to_by, refused_in, refused_in_by}
use Rattle.event.proofs.RunLaws.{Bytes, byte_anywhere}

-- eight bytes make a 64-bit number
eight_fit : (l : List ℕ) → ((k : ℕ) → get_or l k 0 < 256) → (p : ℕ) → little l p 8 ≤ top
eight_fit l b p =
    omega (
      arith,
      b p,
      b (suc p),
      b (suc (suc p)),
      b (suc (suc (suc p))),
      b (suc (suc (suc (suc p)))),
      b (suc (suc (suc (suc (suc p))))),
      b (suc (suc (suc (suc (suc (suc p)))))),
      b (suc (suc (suc (suc (suc (suc (suc p))))))),
    )

time_fits : (bytes : List ℕ) → Bytes bytes → (i : ℕ) → (event_at bytes i).time ≤ top
unfolding event_at
time_fits bytes b i = eight_fit bytes (byte_anywhere bytes b) (i * 10)

-- ---- one event
event_same : (e : Event) (w : World) → e.time ≤ top → Ready w → event_done e w ≡ event_done_by same e w
unfolding event_done event_done_by
event_same e w h r =
    rw (
      did_same (command e.time e.value) w r.rate r.clock h,
      did_same (datum e.time e.value) w r.rate r.clock h,
      did_same (reading e.time) w r.rate r.clock h,
      did_same (reset e.time (eqb e.value 1)) w r.rate r.clock h,
      did_same (advance e.time) w r.rate r.clock h,
      did_same (vcom_rule e.time (eqb e.value 2)) w r.rate r.clock h,
    )

ready_event : (e : Event) (w : World) → e.time ≤ top → Ready w → Ready (event_done e w)
unfolding event_done event_done_by
ready_event e w h r =
    both Ready (eqb e.kind 1) (ready (command e.time e.value) w h r)
    (both Ready (eqb e.kind 2) (ready (datum e.time e.value) w h r)
    (both Ready (eqb e.kind 3) (ready (reading e.time) w h r)
    (both Ready (eqb e.kind 4) (ready (reset e.time (eqb e.value 1)) w h r)
    (both Ready (eqb e.kind 5) (ready (advance e.time) w h r)
    (both Ready (eqb e.kind 6) (ready (vcom_rule e.time (eqb e.value 2)) w h r)
    r)))))

-- ---- one after the other
ready_run : (bytes : List ℕ) → Bytes bytes → (n : ℕ) (w : World) → Ready w → Ready (ran_to bytes n w)
unfolding ran_to
ready_run bytes b n w r =
    turns_keep Ready n (λ i v. event_done (event_at bytes i) v) w (λ k v h q. ready_event (event_at bytes k) v (time_fits bytes b k) q) r

pub ran_same : (bytes : List ℕ) → Bytes bytes → (n : ℕ) (w : World) → Ready w → ran_to bytes n w ≡ ran_to_by same bytes n w
unfolding ran_to ran_to_by
ran_same bytes b zero w r = refl
ran_same bytes b (suc n) w r =
    event_same (event_at bytes n) (ran_to bytes n w) (time_fits bytes b n) (ready_run bytes b n w r)
    ∙ ap (event_done_by same (event_at bytes n)) (ran_same bytes b n w r)

-- the answers to its reads, and its refusals
pub answers_same : (bytes : List ℕ) → Bytes bytes → (n : ℕ) (w : World) (answers : List ℕ) → Ready w
    → answers_to bytes n w answers ≡ answers_to_by same bytes n w answers
unfolding answers_to answers_to_by
answers_same bytes b n w answers r =
    turns_same n _ _ answers (λ i l h. ap (λ (v : World). set l i (event_answer (event_at bytes i) v)) (ran_same bytes b i w r))

pub refused_same : (bytes : List ℕ) → Bytes bytes → (n : ℕ) (w : World) → Ready w → refused_in bytes n w ≡ refused_in_by same bytes n w
unfolding refused_in refused_in_by
refused_same bytes b n w r =
    turns_same n _ _ 0 (λ i k h. ap (λ (v : World). earlier k (event_refused (event_at bytes i) v)) (ran_same bytes b i w r))
