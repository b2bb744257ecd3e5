-- A refresh of frames of 1,000 that reset cuts after 2,999: a pixel's first two frames are driven, by the controller and by the walk.
use mathlib.Core.Path.{◌≡◌, refl, sym, ap, ◌∙◌}
use mathlib.Core.Bool.{Bool, true, false, not, ◌||◌}
use mathlib.Core.List.{List, [], ◌∷◌}
use Prim.Native.Nat.{ℕ, zero, suc, ◌+◌, ◌-◌, ◌/◌, ◌≤◌, ◌<◌, max}
use native.Mathlib.Omega.{arith}
use lib.Dec.{leb}
use lib.IntN.{ℤ, pos}
use lib.ListN.{length, get_or, take}
use borrow.Author.Tests.{ne_eqb, lt-leb}
use Rattle.base.specs.Pick.{pick}
use Rattle.base.specs.Integer.{up}
use Rattle.clock.specs.Clock.{billion, nanos_of}
use Rattle.clock.proofs.ClockLaws.{nanos_same}
use Rattle.config.specs.declared.Uc8253Config.{Uc8253Config}
use Rattle.glass.specs.Walk.{walk}
use Rattle.pixels.specs.States.{every_state}
use Rattle.controller.specs.declared.Refresh.{Refresh}
use Rattle.controller.specs.declared.drives.Drive.{Drive}
use Rattle.controller.specs.declared.drives.Drive.TheVariants as drive
use Rattle.controller.specs.World.{World}
use Rattle.controller.specs.Refresh.{all_frames}
use Rattle.controller.specs.Glass.{driven_at, numbers_now, walked}
use Rattle.controller.specs.TurnedBack.{turned_back, foreign_record, ends_refresh, lent_fits}
use Rattle.controller.specs.Ask.{reset, did}
use Rattle.controller.specs.Counting.{own}
use Rattle.controller.proofs.Parts.{lengths}
use Rattle.controller.proofs.Glass.{numbers_length, numbers_known}
use Rattle.controller.proofs.Ends.{cut_states}
use Rattle.walk.specs.Machine.{cut, frames_on, frames_by, settled, lowered, stepped, frames_at, frames_fed1, frames_fed}
use Rattle.walk.specs.Kept.{Noted, Machine}
use Rattle.walk.specs.Calls.{state_at}
use Rattle.walk.specs.OnePixel.{feed}
use Rattle.walk.specs.Table.{Refreshes, Drives, ThreeFrames, ThreeIn, ThreeNoted}
use Rattle.walk.proofs.Pixel.{states_at}

-- 2,999 of frames of 1,000
pub two_whole : (rate now start period : ℕ) → rate ≡ billion → period ≡ 1_000 → now ≡ start + 2_999 → nanos_of rate (now - start) / period ≡ 2
two_whole rate now start period r p n = rw (r, nanos_same (now - start) (omega (arith, n)), p, n) (omega arith)

either : (l : Bool) → (l || true) ≡ true
either true = refl
either false = refl

module _ (w : World) (r : Refresh) (h : Refreshes w r) where
  abbrev late : ℕ
  late = w.chip.operation.started + 2_999

  -- the states after the first i frames
  abbrev walked_by : ℕ → List ℤ
  walked_by i =
      walked w.chip.config.optics.full_swing (λ k. take i (all_frames w.chip k))
      (numbers_now w.chip w.lent.old w.lent.new) w.lent.states

  -- it does not end by itself, and the assertion cuts it
  ends_it : ends_refresh true late w.chip ≡ true
  unfolding ends_refresh
  ends_it = rw (h.runs, h.awake) (either (leb w.chip.operation.until (max w.chip.now late)))

  cut_after_two : driven_at own true late w.chip ≡ drive.First 2
  unfolding driven_at
  cut_after_two =
      let t : max w.chip.now late ≡ late = omega (arith, h.clock) in
      let l : leb w.chip.operation.until (max w.chip.now late) ≡ false = rw t (lt-leb _ _ h.later) in
      let two = two_whole w.chip.config.timing.rate (max w.chip.now late) w.chip.operation.started w.chip.waveform.frame_ns h.rate h.period t in
      rw (ends_it, l) (ap {B = Drive} (λ (n : ℕ). drive.First n) two)

  pub states_two : (did (reset late true) w).lent.states ≡ walked_by 2
  states_two = cut_states (reset late true) w h.accepted 2 cut_after_two

pub cut_two : (g : Uc8253Config) (m : Machine) (r : Noted) (end : ℕ) → Drives g m r end
    → (stepped g m (reset (r.since + 2_999) true)).ended ≡ cut 2 r
unfolding stepped settled lowered
cut_two g m r end h =
    let t : max m.clock (r.since + 2_999) ≡ r.since + 2_999 = omega (arith, h.clock) in
    let l : leb end (r.since + 2_999) ≡ false = lt-leb _ _ h.later in
    rw (h.runs, t, l, h.high) (ap (λ (i : ℕ). cut i r) (two_whole g.timing.rate (r.since + 2_999) r.since r.wave.frame_ns h.rate h.period refl))

-- ---- of three frames
first_two : (r : Noted) (black : Bool) (p : ℕ) (x y z : ℤ) → ThreeFrames r.wave black r.numbers p x y z
    → frames_by black (cut 2 r) p ≡ x ∷ y ∷ []
unfolding frames_on
first_two r black p x y z t = rw (ne_eqb (get_or r.numbers p 255) 255 (omega arith), t.frames)

pub frames_two : (g : Uc8253Config) (m : Machine) (r : Noted) (end : ℕ) → Drives g m r end → (p : ℕ) (x y z : ℤ) → ThreeNoted g r p x y z
    → frames_fed g m (feed (reset (r.since + 2_999) true) ∷ []) p ≡ x ∷ y ∷ []
unfolding frames_fed frames_fed1 frames_at
frames_two g m r end h p x y z t = rw (cut_two g m r end h, first_two r g.optics.positive_drives_black p x y z t)

-- a pixel with the number of a table is one of the panel's
numbered : (l : List ℕ) (p : ℕ) → get_or l p 255 ≤ 4 → p < length l
numbered [] p e = absurd (omega arith)
numbered (a ∷ l) zero e = omega arith
numbered (a ∷ l) (suc p) e = omega (arith, numbered l p e)

-- what it takes for the call to be accepted
both_fit : (home fits states : Bool) → pick {A = ℕ} home 6 (pick fits (pick (not states) 7 0) 5) ≡ 0 → (fits ≡ true) × (states ≡ true)
both_fit true f s e = absurd (omega arith)
both_fit false false s e = absurd (omega arith)
both_fit false true false e = absurd (omega arith)
both_fit false true true e = (refl, refl)

module _ (w : World) (r : Refresh) (h : Refreshes w r) where
  known : (lent_fits w.chip.config w.lent ≡ true) × (every_state w.chip.config.optics.full_swing w.lent.states ≡ true)
  unfolding turned_back
  known = both_fit (foreign_record w.chip) _ _ (rw (ends_it w r h) at h.accepted)

  abbrev numbers : List ℕ
  numbers = numbers_now w.chip w.lent.old w.lent.new

  -- the refresh, as the walk notes it
  abbrev notes : Noted
  notes = record { since = w.chip.operation.started; wave = w.chip.waveform; area = r.area; numbers = numbers }

  pub state_two : (p : ℕ) (x y z : ℤ) → ThreeIn w p x y z
      → state_at p (did (reset (w.chip.operation.started + 2_999) true) w)
      ≡ pos (walk w.chip.config.optics.full_swing (up (state_at p w)) (x ∷ y ∷ []))
  unfolding state_at
  state_two p x y z t =
      let swing : ℕ = w.chip.config.optics.full_swing in
      let black : Bool = w.chip.config.optics.positive_drives_black in
      let long = lengths w.chip.config w.lent known.0 in
      let same : length numbers ≡ length w.lent.states = numbers_length w.chip w.lent.old w.lent.new ∙ sym long.states in
      ap (λ (l : List ℤ). get_or l p (pos 0)) (states_two w r h)
      ∙ states_at swing black w.lent.states p (omega (arith, same, numbered numbers p t.most)) (cut 2 notes)
      known.1 (record { known = numbers_known w.chip w.lent.old w.lent.new; long = same })
      ∙ ap (λ (ds : List ℤ). pos (walk swing (up (get_or w.lent.states p (pos 0))) ds)) (first_two notes black p x y z t)
