-- A cut that is found is what the event's call does: it tells kind 15, drives the frames found, publishes a picture marked interrupted, and
-- then resets; where none is found, a call that asserts reset publishes nothing. By the question that both ask (controller: `driven_at`).
use Rattle.std.proofs.Common.{None, Some}
use mathlib.Core.Path.{◌≡◌, refl, sym, ap, ◌∙◌}
use mathlib.Core.Bool.{Bool, true, false, ◌||◌, ◌&&◌, true≢false, and-false}
use Prim.Native.Nat.{ℕ, max}
use native.Mathlib.Omega.{arith}
use lib.Dec.{eqb, leb}
use lib.ListN.{take}
use borrow.Author.Tests.{eqb-true, eq-eqb}
use Rattle.base.specs.Pick.{pick}
use Rattle.base.proofs.Cases.{by_cases}
use Rattle.diagnostic.specs.declared.DiagnosticKind.TheVariants.{ResetDuringRefresh}
use Rattle.controller.specs.declared.Power.{Power}
use Rattle.controller.specs.declared.Power.TheVariants as power
use Rattle.controller.specs.declared.Work.{Work}
use Rattle.controller.specs.declared.Work.TheVariants as work
use Rattle.controller.specs.declared.Refresh.{Refresh}
use Rattle.controller.specs.declared.Uc8253.{Uc8253}
use Rattle.controller.specs.declared.drives.Drive.TheVariants as drive
use Rattle.controller.specs.Maybe.{Note}
use Rattle.controller.specs.World.{World}
use Rattle.controller.specs.Tell.{notes, silent}
use Rattle.controller.specs.Arrives.{timed, ended_by, ended, arrived}
use Rattle.controller.specs.Command.{close_note}
use Rattle.controller.specs.Refresh.{elapsed, published, all_frames, ended_refresh, cut_refresh}
use Rattle.controller.specs.Reset.{cut_by, cut_note, cleared, lowered_by, lowered_notes, reset_edge}
use Rattle.controller.specs.Glass.{driven_at, numbers_now, walked}
use Rattle.controller.specs.TurnedBack.{cuts, refresh_runs, ends_refresh, turned_back}
use Rattle.controller.specs.Ask.{reset, advance, chip_after, told_by, driven_by, record_after, lent_after}
use Rattle.controller.specs.Counting.{own}
use Rattle.controller.proofs.TurnedAway.{done_to, did_yes}
use Rattle.event.specs.declared.Event.{Event}
use Rattle.event.specs.Events.{asserts, event_done, event_done_by, event_refused}
use Rattle.cuts.specs.declared.finding.Cut.{Cut}
use Rattle.cuts.specs.Cuts.{cut_at, cut_of}
use Rattle.cuts.specs.Cuts as rule

-- the reset call at t, part by part, that makes v of w with the cut c: kind 15, then what closing tells; the frames of the cut; the
-- picture of the refresh, and then the reset
pub record CutAt (t : ℕ) (c : Cut) (w v : World) : Type 0 where
  pub refresh : Refresh
  pub runs : w.chip.operation.work ≡ work.Refresh refresh
  pub is : c ≡ cut_at t (elapsed own (timed t w.chip)) w.chip
  pub call : v ≡ done_to own (reset t true) w
  pub tells : told_by (reset t true) w.chip ≡ notes (Some ResetDuringRefresh) (close_note w.chip.stage.current)
  pub drives : driven_by own (reset t true) w.chip ≡ drive.First c.frames
  pub leaves : chip_after own (reset t true) w.chip ≡ cleared (cut_refresh refresh (timed t w.chip))

-- with no cut: the glass does as at an advance; then the line was low already, or the command closes and the registers are cleared
pub record Spares (t : ℕ) (w v : World) : Type 0 where
  pub call : v ≡ done_to own (reset t true) w
  pub tells : told_by (reset t true) w.chip
      ≡ pick (cuts (arrived t w.chip).mode.power true) (notes None (close_note (arrived t w.chip).stage.current)) silent
  pub drives : driven_by own (reset t true) w.chip ≡ driven_by own (advance t) w.chip
  pub leaves : chip_after own (reset t true) w.chip
      ≡ pick (cuts (arrived t w.chip).mode.power true) (cleared (arrived t w.chip)) (arrived t w.chip)

-- ---- the question
each : (a b : Bool) → (a && b) ≡ true → (a ≡ true) × (b ≡ true)
each true b e = (refl, e)
each false b e = absurd (true≢false (sym e))

out : (x : Power) (a : Bool) → cuts x a ≡ true → (a ≡ true) × (cuts x true ≡ true)
out power.Running a e = (e, refl)
out power.Asleep a e = (e, refl)
out power.InReset a e = absurd (true≢false (sym e))

unasserted : (x : Power) → cuts x false ≡ false
unasserted power.Running = refl
unasserted power.Asleep = refl
unasserted power.InReset = refl

record Runs (x : Work) : Type 0 where
  refresh : Refresh
  is : x ≡ work.Refresh refresh

running : (x : Work) → refresh_runs x ≡ true → Runs x
running work.Nothing e = absurd (true≢false (sym e))
running work.PowerOn e = absurd (true≢false (sym e))
running work.PowerOff e = absurd (true≢false (sym e))
running work.DeepSleep e = absurd (true≢false (sym e))
running work.SoftReset e = absurd (true≢false (sym e))
running work.HardwareReset e = absurd (true≢false (sym e))
running (work.Refresh r) e = record { refresh = r; is = refl }

none : (c : Cut) → None ≡ Some c → ⊥
none c e = let z : ◌≡◌ {A = ℕ} 0 1 = cc in omega arith

module _ (t : ℕ) (p : Uc8253) where
  abbrev soon : Bool
  soon = leb p.operation.until (max p.now t)

  -- what a cut says: reset is asserted out of reset, a refresh runs, and its end lies above the clock
  record Cutting (a : Bool) (c : Cut) : Type 0 where
    asserted : a ≡ true
    line : cuts p.mode.power true ≡ true
    refresh : Runs p.operation.work
    late : soon ≡ false
    is : c ≡ cut_at t (elapsed own (timed t p)) p

  cutting : (a : Bool) (c : Cut) → cut_of (driven_at own a t p) t p ≡ Some c → Cutting a c
  unfolding driven_at ends_refresh
  cutting a c e =
      let r = refresh_runs p.operation.work in
      by_cases (r && (soon || cuts p.mode.power a))
      (λ h. by_cases soon
      (λ s. absurd (none c (rw (h, s) at e)))
      (λ s.
      let g = each r (cuts p.mode.power a) (rw s at h) in
      let o = out p.mode.power a g.1 in
      let same : Some (cut_at t (elapsed own (timed t p)) p) ≡ Some c = rw (h, s) at e in
      record { asserted = o.0; line = o.1; refresh = running p.operation.work g.0; late = s; is = cc }))
      (λ h. absurd (none c (rw h at e)))

  -- what none says: the glass does as without the assertion, and no refresh is left to cut
  record Sparing : Type 0 where
    drives : driven_at own true t p ≡ driven_at own false t p
    calm : (refresh_runs (arrived t p).operation.work && cuts (arrived t p).mode.power true) ≡ false

  idle : (x : Work) → p.operation.work ≡ x → refresh_runs (ended_by x (timed t p)).operation.work ≡ false
  idle work.Nothing e = ap refresh_runs e
  idle work.PowerOn e = refl
  idle work.PowerOff e = refl
  idle work.DeepSleep e = refl
  idle work.SoftReset e = refl
  idle work.HardwareReset e = refl
  idle (work.Refresh r) e = refl

  sparing : cut_of (driven_at own true t p) t p ≡ None → Sparing
  unfolding driven_at ends_refresh arrived ended
  sparing e =
      let r = refresh_runs p.operation.work in
      by_cases soon
      (λ s. record { drives = rw s; calm = rw (s, idle p.operation.work refl) })
      (λ s. by_cases (r && cuts p.mode.power true)
      (λ h. absurd (none _ (sym (rw (s, h) at e))))
      (λ h. record { drives = rw (s, unasserted p.mode.power, and-false r, h); calm = rw (s, h) }))

-- ---- asserting reset, with a refresh that it cuts and without: the record, and what is told
lowered : (x : Power) (q : Uc8253) → cuts x true ≡ true
    → (lowered_by x q ≡ cleared (cut_by q.operation.work q))
    × (lowered_notes x q ≡ notes (cut_note q.operation.work) (close_note q.stage.current))
lowered power.Running q e = (refl, refl)
lowered power.Asleep q e = (refl, refl)
lowered power.InReset q e = absurd (true≢false (sym e))

whole : (x : Work) (q : Uc8253) (n : Note) → (refresh_runs x && true) ≡ false
    → (cleared (cut_by x q) ≡ cleared q) × (notes (cut_note x) n ≡ notes None n)
whole work.Nothing q n e = (refl, refl)
whole work.PowerOn q n e = (refl, refl)
whole work.PowerOff q n e = (refl, refl)
whole work.DeepSleep q n e = (refl, refl)
whole work.SoftReset q n e = (refl, refl)
whole work.HardwareReset q n e = (refl, refl)
whole (work.Refresh r) q n e = absurd (true≢false e)

spared : (x : Power) (q : Uc8253) → (refresh_runs q.operation.work && cuts x true) ≡ false
    → (lowered_by x q ≡ pick (cuts x true) (cleared q) q)
    × (lowered_notes x q ≡ pick (cuts x true) (notes None (close_note q.stage.current)) silent)
spared power.Running q e = whole q.operation.work q (close_note q.stage.current) e
spared power.Asleep q e = whole q.operation.work q (close_note q.stage.current) e
spared power.InReset q e = (refl, refl)

-- ---- an event that its call takes
event_resets : (e : Event) (w : World) → event_refused e w ≡ 0 → asserts e ≡ true → event_done e w ≡ done_to own (reset e.time true) w
unfolding asserts event_done event_done_by event_refused
event_resets e w z a =
    let g = each (eqb e.kind 4) (eqb e.value 1) a in
    let k : e.kind ≡ 4 = eqb-true e.kind 4 g.0 in
    let v : e.value ≡ 1 = eqb-true e.value 1 g.1 in
    let taken : turned_back true e.time w ≡ 0 = rw (k, v) at z in
    rw (k, v) (did_yes (reset e.time true) w (eq-eqb (turned_back true e.time w) 0 taken))

pub event_cuts : (e : Event) (w : World) (c : Cut) → event_refused e w ≡ 0 → rule.cut_by e w.chip ≡ Some c
    → CutAt e.time c w (event_done e w)
unfolding rule.cut_by arrived ended reset_edge driven_at ends_refresh
event_cuts e w c z f =
    let p = w.chip in
    let k = cutting e.time p (asserts e) c f in
    let r = k.refresh.is in
    let low = lowered p.mode.power (timed e.time p) k.line in
    record {
      refresh = k.refresh.refresh;
      runs = r;
      is = k.is;
      call = event_resets e w z k.asserted;
      tells = rw k.late (low.1 ∙ ap (λ (x : Work). notes (cut_note x) (close_note p.stage.current)) r);
      drives = rw (r, k.late, k.line) (ap (λ (x : Cut). drive.First x.frames) (sym k.is));
      leaves = rw k.late (low.0 ∙ ap (λ (x : Work). cleared (cut_by x (timed e.time p))) r);
    }

pub event_spares : (e : Event) (w : World) → event_refused e w ≡ 0 → asserts e ≡ true → rule.cut_by e w.chip ≡ None
    → Spares e.time w (event_done e w)
unfolding rule.cut_by reset_edge
event_spares e w z a n =
    let q = arrived e.time w.chip in
    let k = sparing e.time w.chip (rw a at n) in
    let low = spared q.mode.power q k.calm in
    record { call = event_resets e w z a; tells = low.1; drives = k.drives; leaves = low.0 }

-- ---- the picture and the states of both
module _ {t : ℕ} {c : Cut} {w v : World} (k : CutAt t c w v) where
  -- marked interrupted, its end the clock
  pub cut_image : v.chip.image ≡ published k.refresh.kind true c.at w.chip
  unfolding record_after cleared cut_refresh published
  cut_image = rw (k.call, k.leaves, k.is)

  -- each pixel walks the frames that the cut counts, of its number's table
  pub cut_states : v.lent.states
      ≡ walked w.chip.config.optics.full_swing (λ k. take c.frames (all_frames w.chip k))
      (numbers_now w.chip w.lent.old w.lent.new) w.lent.states
  unfolding lent_after
  cut_states = rw (k.call, k.drives)

-- no cut publishes nothing: the picture is the one that the call's time left
pub spared_image : {t : ℕ} {w v : World} → Spares t w v → v.chip.image ≡ (arrived t w.chip).image
unfolding record_after cleared
spared_image {t = t} {w = w} k =
    rw (k.call, k.leaves) (by_cases (cuts (arrived t w.chip).mode.power true) (λ e. rw e) (λ e. rw e))

-- and time alone marks none as interrupted
ended_whole : (x : Work) (p : Uc8253) → (ended_by x p).image.interrupted ≡ true → (ended_by x p).image ≡ p.image
unfolding ended_refresh published
ended_whole work.Nothing p e = refl
ended_whole work.PowerOn p e = refl
ended_whole work.PowerOff p e = refl
ended_whole work.DeepSleep p e = refl
ended_whole work.SoftReset p e = refl
ended_whole work.HardwareReset p e = refl
ended_whole (work.Refresh r) p e = absurd (true≢false (sym e))

pub time_marks_none : (t : ℕ) (p : Uc8253) → (arrived t p).image.interrupted ≡ true → (arrived t p).image ≡ p.image
unfolding arrived ended
time_marks_none t p = by_cases (soon t p) (λ s. rw s (ended_whole p.operation.work (timed t p))) (λ s. rw s (λ e. refl))
