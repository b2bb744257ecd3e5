-- What the table of acceptance supposes is met on the panel of one pixel: the checker runs its machine, and the controller follows that.
use mathlib.Core.Path.{◌≡◌, refl, sym, ap, subst, ◌∙◌}
use mathlib.Core.Bool.{true, false, true≢false}
use mathlib.Core.List.{List, [], ◌∷◌, map}
use Prim.Native.Nat.{ℕ, ◌+◌, ◌*◌, ◌<◌}
use native.Mathlib.Omega.{arith}
use lib.Dec.{lit<, lit≤}
use lib.IntN.{pos}
use Rattle.base.specs.Integer.{up}
use Rattle.base.proofs.Cases.{by_cases}
use Rattle.clock.specs.Clock.{billion}
use Rattle.clock.proofs.ClockLaws.{rate_good}
use Rattle.config.specs.declared.Uc8253Config.{Uc8253Config}
use Rattle.config.specs.declared.Variant.{Variant}
use Rattle.config.specs.declared.Variant.TheVariants as variant
use Rattle.glass.specs.Walk.{hold, step, walk}
use Rattle.registers.specs.Luts.{reset_luts}
use Rattle.numbers.specs.Number.{panel_numbers}
use Rattle.waveform.specs.declared.Waveform.{Waveform}
use Rattle.controller.specs.declared.Power.{Power}
use Rattle.controller.specs.declared.Power.TheVariants as power
use Rattle.controller.specs.declared.Refresh.{Refresh}
use Rattle.controller.specs.declared.Work.{Work}
use Rattle.controller.specs.declared.Work.TheVariants as work
use Rattle.controller.specs.World.{World, Buffers, world}
use Rattle.controller.specs.Command.{in_reset, asleep}
use Rattle.controller.specs.TurnedBack.{making_refused}
use Rattle.controller.specs.Refresh.{mapping_now}
use Rattle.controller.specs.Glass.{numbers_now}
use Rattle.controller.specs.Calls.{made, first_chip}
use Rattle.controller.specs.Sound.{Sound}
use Rattle.controller.proofs.Sound.{never_turned}
use Rattle.controller.specs.Ask.{Ask, reset, did, writes}
use Rattle.walk.specs.Machine.{Fed, fresh, ran, frames_fed}
use Rattle.walk.specs.Kept.{Noted, drives, Job, until, Machine}
use Rattle.walk.specs.Calls.{next, result, after, Call, start, state_at}
use Rattle.walk.specs.OnePixel.{bench, refresh_calls, after_calls, feed, slow, refreshing, driving, noted3}
use Rattle.walk.specs.Table.{Refreshes, Drives, ThreeIn, ThreeNoted, lift, RefreshMet, Made8279d}
use Rattle.walk.proofs.Seen.{job_of, machine_of}
use Rattle.walk.proofs.Lending.{spares, lending_of, lending, plain, plain_byte, plain_rest, plain_back, pixels, roomy, bytes_lending, lent_own, Lent}
use Rattle.walk.proofs.Demand.{made_is, start_machine, start_good, Good, accepts}
use Rattle.walk.proofs.Demand.{along, after_good, after_machine, after_state, lendable}
use Rattle.walk.proofs.OnePixel.{all, taken_by_lem, black_by}
use Rattle.walk.proofs.TwoDriven.{state_two}

-- ---- accepted calls, one on what the other left
module _ (g : Uc8253Config) where
  next_did : (at : World) (a : Ask) → Good g at → roomy (pixels g) a ≡ true → next at (lending_of at (feed a)) ≡ did a at
  unfolding next result
  next_did at a good r =
      rw (accepts g at (lending_of at (feed a)) good refl r)
      (by_cases (writes a) (λ y. rw y) (λ n. rw n (ap (world (did a at).chip) (sym (spares a at n)))))

  after_did : (asks : List Ask) (at : World) → Good g at → plain (pixels g) (map feed asks) ≡ true
      → after at (lending at (map feed asks)) ≡ after_calls asks at
  unfolding after lending
  after_did [] at good e = refl
  after_did (a ∷ asks) at good e =
      let own = lent_own at (pixels g) (λ x r. accepts g at (record { ask = x; lent = at.lent }) good refl r) (feed a) (map feed asks) e in
      after_did asks (next at (lending_of at (feed a)))
      (along g at (lending_of at (feed a)) good (plain_byte (pixels g) (feed a) (map feed asks) e) own).good (plain_rest (pixels g) (feed a) (map feed asks) e)
      ∙ ap (after_calls asks) (next_did at a good (plain_back (pixels g) (feed a) (map feed asks) e))

-- after a making: the controller is as the machine is, and a pixel's state as the walk has it
module _ (g : Uc8253Config) (b : Buffers) (gray : g.optics.initial_gray < 256) (e : making_refused g b ≡ 0) where
  module _ (asks : List Ask) (q : plain (pixels g) (map feed asks) ≡ true) where
    abbrev fed : List Fed
    fed = map feed asks

    abbrev calls : List Call
    calls = lending (start g b) fed

    is_after : after (start g b) calls ≡ after_calls asks (made g b)
    is_after = after_did g asks (start g b) (start_good g b gray e) q

    lent : Lent g b fed
    lent = lendable g b fed gray e q

    calls_good : Good g (after_calls asks (made g b))
    calls_good =
        subst (λ (w : World). Good g w) is_after
        (after_good g (start g b) calls (start_good g b gray e) (bytes_lending (pixels g) (start g b) fed q) lent.own)

    calls_machine : machine_of (after_calls asks (made g b)) ≡ ran g (fresh g) fed
    calls_machine =
        ap machine_of (sym is_after)
        ∙ after_machine g (start g b) calls (start_good g b gray e) (bytes_lending (pixels g) (start g b) fed q) lent.own
        ∙ (λ i. ran g (start_machine g b e i) (lent.fed i))

    calls_state : (p : ℕ) → p < g.panel.sources * g.panel.gates
        → state_at p (after_calls asks (made g b))
        ≡ pos (walk g.optics.full_swing (up (state_at p (made g b))) (frames_fed g (fresh g) fed p))
    calls_state p h =
        ap (state_at p) (sym is_after)
        ∙ after_state g (start g b) calls p (start_good g b gray e) (bytes_lending (pixels g) (start g b) fed q) lent.own h
        ∙ (λ i. pos (walk g.optics.full_swing (up (state_at p (start g b))) (frames_fed g (start_machine g b e i) (lent.fed i) p)))

-- ---- where the machine drives, the controller refreshes
running : (y : Power) → in_reset y ≡ false → asleep y ≡ false → y ≡ power.Running
running power.Running l s = refl
running power.Asleep l s = absurd (true≢false s)
running power.InReset l s = absurd (true≢false l)

-- the refresh of the record is the one that the machine noted
record Same (w : World) (r : Noted) : Type 0 where
  refresh : Refresh
  refreshes : Refreshes w refresh
  since : w.chip.operation.started ≡ r.since
  wave : w.chip.waveform ≡ r.wave
  numbers : numbers_now w.chip w.lent.old w.lent.new ≡ r.numbers

module _ (w : World) (s : Sound w) (r : Noted) (end : ℕ) (h : Drives w.chip.config (machine_of w) r end) (wakes : (machine_of w).sleep ≡ false) where
  abbrev job_by : Work → Job
  job_by x = job_of x w.chip.operation.started w.chip.operation.until w.chip.waveform (panel_numbers (mapping_now w.chip) w.lent.old w.lent.new)

  same_work : (x : Work) → w.chip.operation.work ≡ x → job_by x ≡ until end (drives r) → Same w r
  unfolding numbers_now
  same_work work.Nothing e j = let z : ◌≡◌ {A = ℕ} 0 1 = cc in absurd (omega arith)
  same_work work.PowerOn e j = let z : ◌≡◌ {A = ℕ} 0 1 = cc in absurd (omega arith)
  same_work work.PowerOff e j = let z : ◌≡◌ {A = ℕ} 0 1 = cc in absurd (omega arith)
  same_work work.DeepSleep e j = let z : ◌≡◌ {A = ℕ} 0 1 = cc in absurd (omega arith)
  same_work work.SoftReset e j = let z : ◌≡◌ {A = ℕ} 0 1 = cc in absurd (omega arith)
  same_work work.HardwareReset e j = let z : ◌≡◌ {A = ℕ} 0 1 = cc in absurd (omega arith)
  same_work (work.Refresh x) e j =
      let since : w.chip.operation.started ≡ r.since = cc in
      let till : w.chip.operation.until ≡ end = cc in
      let wave : w.chip.waveform ≡ r.wave = cc in
      let numbers : panel_numbers (mapping_now w.chip) w.lent.old w.lent.new ≡ r.numbers = cc in
      record {
        refresh = x;
        refreshes = record {
          rate = h.rate;
          runs = e;
          period = ap (λ (v : Waveform). v.frame_ns) wave ∙ h.period;
          clock = omega (arith, h.clock);
          later = omega (arith, h.later);
          awake = running w.chip.mode.power h.high wakes;
          accepted = never_turned true (w.chip.operation.started + 2_999) w s;
        };
        since = since;
        wave = wave;
        numbers = numbers;
      }

  same : Same w r
  same = same_work w.chip.operation.work refl h.runs

-- ---- the panel of one pixel
abbrev g : Uc8253Config
g = slow variant.Uc8253

gray : g.optics.initial_gray < 256
unfolding slow
gray = lit< tt

taken : (v : Variant) → making_refused (slow v) bench ≡ 0
unfolding slow
taken v = taken_by_lem v 1_000 billion refl (rate_good billion (lit≤ tt) (lit≤ tt))

fine : plain (pixels g) (map feed refresh_calls) ≡ true
unfolding slow refresh_calls
fine = refl

-- the machine, run by the checker
pub drive_met : Drives g driving noted3 5_100
unfolding all slow driving refresh_calls noted3
drive_met = record { rate = refl; runs = refl; period = refl; clock = lit≤ tt; later = lit< tt; high = refl }

pub three_met : ThreeNoted g noted3 0 lift lift lift
unfolding all slow noted3
three_met = record { least = lit≤ tt; most = lit≤ tt; frames = refl }

awake : driving.sleep ≡ false
unfolding all slow driving refresh_calls
awake = refl

none_yet : frames_fed g (fresh g) (map feed refresh_calls) 0 ≡ []
unfolding all slow refresh_calls
none_yet = refl

-- the controller
good : Good g refreshing
unfolding refreshing
good = calls_good g bench gray (taken variant.Uc8253) refresh_calls fine

is_driving : machine_of refreshing ≡ driving
unfolding refreshing driving
is_driving = calls_machine g bench gray (taken variant.Uc8253) refresh_calls fine

found : Same refreshing noted3
found =
    same refreshing good.sound noted3 5_100
    (subst (λ (m : Machine). Drives refreshing.chip.config m noted3 5_100) (sym is_driving)
    (subst (λ (c : Uc8253Config). Drives c driving noted3 5_100) (sym good.config) drive_met))
    (ap (λ (m : Machine). m.sleep) is_driving ∙ awake)

three_in : ThreeIn refreshing 0 lift lift lift
three_in = rw (found.wave, found.numbers, good.config) three_met

pub refresh_met : RefreshMet
refresh_met = record { refresh = found.refresh; refreshes = found.refreshes; three = three_in }

pub state_before : state_at 0 refreshing ≡ pos 0
unfolding refreshing slow
state_before =
    calls_state g bench gray (taken variant.Uc8253) refresh_calls fine 0 (lit< tt)
    ∙ (λ i. pos (walk 100_000_000 (up (black_by variant.Uc8253 1_000 billion refl (rate_good billion (lit≤ tt) (lit≤ tt)) i)) (none_yet i)))

-- two frames from 0
pub state_after : state_at 0 (did (reset 3_099 true) refreshing) ≡ pos 28_000_000
unfolding step hold slow noted3
state_after =
    ap (λ (t : ℕ). state_at 0 (did (reset (t + 2_999) true) refreshing)) (sym found.since)
    ∙ state_two refreshing found.refresh found.refreshes 0 lift lift lift three_in
    ∙ (λ i. pos (walk (good.config i).optics.full_swing (up (state_before i)) (lift ∷ lift ∷ [])))

pub made_met : Made8279d (slow variant.Uc8279d) bench
unfolding slow
made_met = record { chip = refl; gray = lit< tt; accepted = taken variant.Uc8279d }

pub luts_met : (v : Variant) → (made (slow v) bench).chip.luts ≡ reset_luts
unfolding first_chip
luts_met v = rw (made_is (slow v) bench (taken v))
