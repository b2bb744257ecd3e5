-- Request 2026-10: lists that meet what is supposed of quiet planes, computed by the checker, and what the theorem gives of them. In one
-- a refresh runs and calls of each kind come; in the other an operation runs whose end is held at 2^64 - 1, with the clock there.
use mathlib.Core.Path.{◌≡◌, refl, sym, ap, subst, ◌∙◌}
use mathlib.Core.Bool.{Bool, true, false, ◌&&◌, false≢true}
use mathlib.Core.List.{List, [], ◌∷◌, ◌++◌, map}
use Prim.Native.Nat.{ℕ, zero, suc, ◌≤◌, ◌<◌}
use native.Mathlib.Omega.{arith}
use lib.Dec.{lit<, lit≤}
use lib.ListN.{length, take}
use Rattle.base.specs.Word.{top}
use Rattle.base.specs.Pick.{pick}
use Rattle.clock.specs.Clock.{billion}
use Rattle.clock.proofs.ClockLaws.{rate_good}
use Rattle.config.specs.declared.Uc8253Config.{Uc8253Config}
use Rattle.config.specs.declared.Variant.TheVariants as variant
use Rattle.numbers.specs.Number.{panel_numbers}
use Rattle.waveform.specs.declared.Waveform.{Waveform}
use Rattle.controller.specs.declared.Work.{Work}
use Rattle.controller.specs.declared.Work.TheVariants as work
use Rattle.controller.specs.World.{World}
use Rattle.controller.specs.Command.{busy}
use Rattle.controller.specs.Refresh.{mapping_now}
use Rattle.controller.specs.TurnedBack.{making_refused}
use Rattle.controller.specs.Ask.{Ask, command, datum, reading, advance, reset, vcom_rule, taking, ask_busy, ask_deadline, ask_bit}
use Rattle.walk.specs.Machine.{Fed, fresh, ran}
use Rattle.walk.specs.Kept.{Job, idle, until, Machine}
use Rattle.walk.specs.Calls.{Call, next, after, fed_at, fed_by, start, place}
use Rattle.walk.specs.OnePixel.{one_pixel, bench, refresh_calls, feed}
use Rattle.walk.specs.Quiet.{Runs, IsEntry, comes_before, Undisturbed, Same}
use Rattle.walk.proofs.Quiet.{before, undisturbed_by_times, quiet_under_busy}
use Rattle.walk.proofs.Seen.{job_of, machine_of}
use Rattle.walk.proofs.Lending.{lending_of, lending, plain, pixels, bytes_lending, Lent}
use Rattle.walk.proofs.Demand.{start_good, start_machine, after_machine, lendable}
use Rattle.walk.proofs.OnePixel.{all, taken_by_lem}

-- from number i on each call is turned back, or comes before the end
abbrev all_before : ℕ → ℕ → List Fed → Bool
all_before end i [] = true
all_before end zero (f ∷ fs) = pick f.back true (comes_before end 0 f.ask) && all_before end zero fs
all_before end (suc i) (f ∷ fs) = all_before end i fs

and_both : (a b : Bool) → (a && b) ≡ true → (a ≡ true) × (b ≡ true)
and_both true b e = (refl, e)
and_both false b e = absurd (false≢true e)

before_entry : (end i : ℕ) (fs : List Fed) (k : ℕ) (f : Fed) → all_before end i fs ≡ true → i ≤ k → IsEntry fs k f → f.back ≡ false
    → comes_before end 0 f.ask ≡ true
before_entry end i [] k f h lo is e = absurd is
before_entry end zero (x ∷ fs) zero f h lo is e =
    let first = (and_both (pick x.back true (comes_before end 0 x.ask)) _ h).0 in
    subst (λ (y : Fed). comes_before end 0 y.ask ≡ true) is
    (subst (λ (t : Bool). pick t true (comes_before end 0 x.ask) ≡ true) (ap (λ (y : Fed). y.back) is ∙ e) first)
before_entry end zero (x ∷ fs) (suc k) f h lo is e =
    before_entry end zero fs k f (and_both (pick x.back true (comes_before end 0 x.ask)) _ h).1 (omega arith) is e
before_entry end (suc i) (x ∷ fs) zero f h lo is e = absurd (omega arith)
before_entry end (suc i) (x ∷ fs) (suc k) f h lo is e = before_entry end i fs k f h (omega arith) is e

-- a call of the list as the walk is fed it
fed_entry : (at : World) (cs : List Call) (k : ℕ) (c : Call) → IsEntry cs k c → IsEntry (fed_by at cs) k (fed_at (after at (take k cs)) c)
unfolding after fed_by
fed_entry at [] k c is = absurd is
fed_entry at (x ∷ cs) zero c is = ap (fed_at at) is
fed_entry at (x ∷ cs) (suc k) c is = fed_entry (next at x) cs k c is

lend_take : (at : World) (fs : List Fed) (m : ℕ) → take m (lending at fs) ≡ lending at (take m fs)
unfolding lending
lend_take at [] zero = refl
lend_take at [] (suc m) = refl
lend_take at (f ∷ fs) zero = refl
lend_take at (f ∷ fs) (suc m) = ap (λ (cs : List Call). lending_of at f ∷ cs) (lend_take (next at (lending_of at f)) fs m)

-- the end of what the machine does
abbrev end_of : Job → ℕ
end_of idle = 0
end_of (until e k) = e

runs_until : (x : Work) (s e : ℕ) (v : Waveform) (ns : List ℕ) (n : ℕ) → 0 < n → end_of (job_of x s e v ns) ≡ n → (busy x ≡ true) × (e ≡ n)
runs_until work.Nothing s e v ns n p q = absurd (omega arith)
runs_until work.PowerOn s e v ns n p q = (refl, q)
runs_until work.PowerOff s e v ns n p q = (refl, q)
runs_until work.DeepSleep s e v ns n p q = (refl, q)
runs_until work.SoftReset s e v ns n p q = (refl, q)
runs_until work.HardwareReset s e v ns n p q = (refl, q)
runs_until (work.Refresh r) s e v ns n p q = (refl, q)

-- ---- a list on the panel of one pixel, whose calls are lent what turns them back or not as it says
abbrev calls : Uc8253Config → List Fed → List Call
calls g fs = lending (start g bench) fs

abbrev placed : Uc8253Config → List Fed → ℕ → World
placed g fs k = place g bench (calls g fs) k

module _ (g : Uc8253Config) (gray : g.optics.initial_gray < 256) (taken : making_refused g bench ≡ 0) (fs : List Fed)
    (fine : plain (pixels g) fs ≡ true) where
  lent : Lent g bench fs
  lent = lendable g bench fs gray taken fine

  -- at each place the controller is as the machine is
  shows : (m : ℕ) → plain (pixels g) (take m fs) ≡ true → machine_of (placed g fs m) ≡ ran g (fresh g) (take m fs)
  unfolding place
  shows m q =
      let l = lendable g bench (take m fs) gray taken q in
      ap (λ (cs : List Call). machine_of (after (start g bench) cs)) (lend_take (start g bench) fs m)
      ∙ after_machine g (start g bench) (calls g (take m fs)) (start_good g bench gray taken)
      (bytes_lending (pixels g) (start g bench) (take m fs) q) l.own
      ∙ (λ k. ran g (start_machine g bench taken k) (l.fed k))

  entry : (k : ℕ) (c : Call) → IsEntry (calls g fs) k c → IsEntry fs k (fed_at (placed g fs k) c)
  unfolding place
  entry k c is = subst (λ (l : List Fed). IsEntry l k (fed_at (placed g fs k) c)) lent.fed (fed_entry (start g bench) (calls g fs) k c is)

  -- by the machine an operation with this end runs at place i
  module _ (i j end : ℕ) (le : i ≤ j) (lj : j ≤ length (calls g fs)) (some : 0 < end) (q : plain (pixels g) (take i fs) ≡ true)
      (is : end_of (ran g (fresh g) (take i fs)).job ≡ end) where
    runs : Runs (placed g fs i) × ((placed g fs i).chip.operation.until ≡ end)
    runs =
        let p = (placed g fs i).chip in
        runs_until p.operation.work p.operation.started p.operation.until p.waveform
        (panel_numbers (mapping_now p) (placed g fs i).lent.old (placed g fs i).lent.new) end some
        (ap (λ (m : Machine). end_of m.job) (shows i q) ∙ is)

    -- what is supposed, by the times; and where no accepted call is timed
    timely : all_before end i fs ≡ true → (ran g (fresh g) (take i fs)).clock < end → Undisturbed g bench (calls g fs) i j
    timely h n =
        undisturbed_by_times g bench (calls g fs) lent.own i j lj
        (rw runs.1 (subst (λ (m : Machine). m.clock < end) (sym (shows i q)) n))
        (λ k lo hi c e t. rw runs.1 (before_entry end i fs k (fed_at (placed g fs k) c) h lo (entry k c e) t))

    untimed : all_before 0 i fs ≡ true → Undisturbed g bench (calls g fs) i j
    untimed h k lo hi c e t =
        before 0 (placed g fs i).chip.operation.until (placed g fs k).chip.now (λ u l. absurd (omega (arith, l))) c.ask
        (before_entry 0 i fs k (fed_at (placed g fs k) c) h lo (entry k c e) t)

    -- and what the theorem gives
    same : Undisturbed g bench (calls g fs) i j → Same (placed g fs i) (placed g fs j)
    same u = quiet_under_busy g bench (calls g fs) gray taken (bytes_lending (pixels g) (start g bench) fs fine) lent.own i j le lj runs.0 u

-- ---- UC8279d at 1 GHz with frames of 10
abbrev panel : Uc8253Config
panel = one_pixel variant.Uc8279d 10 billion

accepted : making_refused panel bench ≡ 0
accepted = taken_by_lem variant.Uc8279d 10 billion refl (rate_good billion (lit≤ tt) (lit≤ tt))

abbrev no : Ask → Fed
no a = record { ask = a; back = true }

-- a refresh runs from 100 to 150. Meanwhile come 13 with a pixel byte, 61 with two bytes, 71 with a read and a byte, kind 6, a question,
-- a taking of the rows, a reset that is turned back, and an advance to just before the end
unfoldable busy_story : List Fed
busy_story =
    map feed refresh_calls
    ++ feed (command 105 0x13) ∷ feed (datum 105 0xFF)
    ∷ feed (command 110 0x61) ∷ feed (datum 110 0x01) ∷ feed (datum 110 0x02)
    ∷ feed (command 120 0x71) ∷ feed (reading 120) ∷ feed (datum 125 0xAA)
    ∷ feed (vcom_rule 130 true) ∷ feed (ask_busy 200) ∷ feed taking ∷ no (reset 140 true) ∷ feed (advance 149)
    ∷ []

busy_fine : plain 1 busy_story ≡ true
unfolding busy_story refresh_calls
busy_fine = refl

busy_met : Undisturbed panel bench (calls panel busy_story) 13 26
unfolding all lending busy_story refresh_calls
busy_met = timely panel (lit< tt) accepted busy_story busy_fine 13 26 150 (lit≤ tt) (lit≤ tt) (lit< tt) refl refl refl (lit< tt)

busy_same : Same (placed panel busy_story 13) (placed panel busy_story 26)
unfolding all lending busy_story refresh_calls
busy_same = same panel (lit< tt) accepted busy_story busy_fine 13 26 150 (lit≤ tt) (lit≤ tt) (lit< tt) refl refl busy_met

-- kind 6 has changed the rule in force; the one noted is the same
busy_rule : (placed panel busy_story 26).chip.mode.vcom_by_frame ≡ true
unfolding all busy_story refresh_calls
busy_rule = ap (λ (m : Machine). m.by_frame) (shows panel (lit< tt) accepted busy_story busy_fine 26 refl)

-- 04 at 2^64 - 1: its end is held there, where the clock is, and it runs until the next accepted timed call
unfoldable held_story : List Fed
held_story =
    feed (command top 0x04)
    ∷ feed (ask_busy top) ∷ feed ask_deadline ∷ feed taking ∷ no (advance top) ∷ feed (ask_bit true 0 0)
    ∷ []

held_fine : plain 1 held_story ≡ true
unfolding held_story
held_fine = refl

held_met : Undisturbed panel bench (calls panel held_story) 1 6
unfolding all lending held_story
held_met = untimed panel (lit< tt) accepted held_story held_fine 1 6 top (lit≤ tt) (lit≤ tt) (lit< tt) refl refl refl

held_same : Same (placed panel held_story 1) (placed panel held_story 6)
unfolding all lending held_story
held_same = same panel (lit< tt) accepted held_story held_fine 1 6 top (lit≤ tt) (lit≤ tt) (lit< tt) refl refl held_met
