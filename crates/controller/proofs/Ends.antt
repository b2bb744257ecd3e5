-- What a call does to the glass and to the head of the picture, the first refresh's end and each later one: it drives nothing and publishes
-- nothing; it drives all frames and publishes, dated by the refresh's own end; or it drives the first frames and publishes an
-- interrupted picture, dated by the clock.
use mathlib.Core.Path.{◌≡◌, refl, ap, sym, ◌∙◌}
use mathlib.Core.Bool.{Bool, true, false, ◌||◌, ◌&&◌}
use mathlib.Core.List.{List}
use Prim.Native.Nat.{ℕ, ◌+◌, min, max}
use lib.Dec.{eqb, leb}
use lib.IntN.{ℤ}
use lib.ListN.{take}
use borrow.Author.Tests.{eq-eqb}
use Rattle.base.specs.Word.{top}
use Rattle.base.specs.Pick.{pick}
use Rattle.base.proofs.Cases.{by_cases}
use Rattle.glass.specs.declared.PanelImage.{PanelImage}
use Rattle.pixels.specs.Draw.{drawn}
use Rattle.controller.specs.declared.Power.{Power}
use Rattle.controller.specs.declared.Power.TheVariants as power
use Rattle.controller.specs.declared.Refresh.{Refresh}
use Rattle.controller.specs.declared.Work.{Work}
use Rattle.controller.specs.declared.Work.TheVariants as work
use Rattle.controller.specs.declared.Uc8253.{Uc8253}
use Rattle.controller.specs.declared.drives.Drive.{Drive}
use Rattle.controller.specs.declared.drives.Drive.TheVariants as drive
use Rattle.controller.specs.World.{World}
use Rattle.controller.specs.Arrives.{timed, ended_by, ended, arrived}
use Rattle.controller.specs.Refresh.{published, all_frames, ended_refresh, cut_refresh}
use Rattle.controller.specs.Reset.{cut_by, cleared, lowered_by, raised_by, reset_edge}
use Rattle.controller.specs.Glass.{driven_at, numbers_now, walked}
use Rattle.controller.specs.TurnedBack.{cuts, refresh_runs, ends_refresh}
use Rattle.controller.specs.Counting.{own}
use Rattle.controller.specs.Ask.{Ask, command, datum, reading, advance, reset, vcom_rule, taking, ask_busy, ask_deadline, ask_bit, ask_row, ask_picture}
use Rattle.controller.specs.Ask.{when_of, clock_when, record_after, driven_by, lent_after, refused_by, did}
use Rattle.controller.proofs.Keeps.{all_command, all_data, all_reading}
use Rattle.controller.proofs.TurnedAway.{done_to, did_yes}

-- ---- the glass of an accepted call, by what it drives
module _ (a : Ask) (w : World) (taken : refused_by a w ≡ 0) where
  done : did a w ≡ done_to own a w
  done = did_yes a w (eq-eqb (refused_by a w) 0 taken)

  pub still_glass : driven_by own a w.chip ≡ drive.Nothing
      → ((did a w).lent.states ≡ w.lent.states) × ((did a w).lent.picture ≡ w.lent.picture)
  unfolding lent_after
  still_glass e = (ap (λ (v : World). v.lent.states) done ∙ rw e, ap (λ (v : World). v.lent.picture) done ∙ rw e)

  pub whole_states : driven_by own a w.chip ≡ drive.Whole
      → (did a w).lent.states
      ≡ walked w.chip.config.optics.full_swing (all_frames w.chip) (numbers_now w.chip w.lent.old w.lent.new) w.lent.states
  unfolding lent_after
  whole_states e = ap (λ (v : World). v.lent.states) done ∙ rw e

  pub whole_picture : driven_by own a w.chip ≡ drive.Whole
      → (did a w).lent.picture ≡ drawn w.chip.config.optics.full_swing (did a w).lent.states w.lent.picture
  unfolding lent_after
  whole_picture e = rw done (rw e)

  pub cut_states : (n : ℕ) → driven_by own a w.chip ≡ drive.First n
      → (did a w).lent.states
      ≡ walked w.chip.config.optics.full_swing (λ k. take n (all_frames w.chip k))
      (numbers_now w.chip w.lent.old w.lent.new) w.lent.states
  unfolding lent_after
  cut_states n e = ap (λ (v : World). v.lent.states) done ∙ rw e

  pub cut_picture : (n : ℕ) → driven_by own a w.chip ≡ drive.First n
      → (did a w).lent.picture ≡ drawn w.chip.config.optics.full_swing (did a w).lent.states w.lent.picture
  unfolding lent_after
  cut_picture n e = rw done (rw e)

-- ---- the head of the picture, by what the call drives
-- a refresh that ends by itself is dated by its own end, one that is cut by the clock t
abbrev pub head_by : Drive → Work → ℕ → Uc8253 → PanelImage
head_by drive.Nothing x t p = p.image
head_by drive.Whole work.Nothing t p = p.image
head_by drive.Whole work.PowerOn t p = p.image
head_by drive.Whole work.PowerOff t p = p.image
head_by drive.Whole work.DeepSleep t p = p.image
head_by drive.Whole work.SoftReset t p = p.image
head_by drive.Whole work.HardwareReset t p = p.image
head_by drive.Whole (work.Refresh r) t p = published r.kind false p.operation.until p
head_by (drive.First n) work.Nothing t p = p.image
head_by (drive.First n) work.PowerOn t p = p.image
head_by (drive.First n) work.PowerOff t p = p.image
head_by (drive.First n) work.DeepSleep t p = p.image
head_by (drive.First n) work.SoftReset t p = p.image
head_by (drive.First n) work.HardwareReset t p = p.image
head_by (drive.First n) (work.Refresh r) t p = published r.kind true t p

cuts_none : (y : Power) → cuts y false ≡ false
cuts_none power.Running = refl
cuts_none power.Asleep = refl
cuts_none power.InReset = refl

-- the call arrives
module _ (t : ℕ) (p : Uc8253) where
  arrived_head : (x : Work) → p.operation.work ≡ x
      → (arrived t p).image ≡ head_by (driven_at own false t p) p.operation.work (max p.now t) p
  unfolding arrived ended driven_at ends_refresh ended_refresh published
  arrived_head work.Nothing e = by_cases (leb p.operation.until (max p.now t)) (λ l. rw (e, l)) (λ l. rw (e, l))
  arrived_head work.PowerOn e = by_cases (leb p.operation.until (max p.now t)) (λ l. rw (e, l)) (λ l. rw (e, l))
  arrived_head work.PowerOff e = by_cases (leb p.operation.until (max p.now t)) (λ l. rw (e, l)) (λ l. rw (e, l))
  arrived_head work.DeepSleep e = by_cases (leb p.operation.until (max p.now t)) (λ l. rw (e, l)) (λ l. rw (e, l))
  arrived_head work.SoftReset e = by_cases (leb p.operation.until (max p.now t)) (λ l. rw (e, l)) (λ l. rw (e, l))
  arrived_head work.HardwareReset e = by_cases (leb p.operation.until (max p.now t)) (λ l. rw (e, l)) (λ l. rw (e, l))
  arrived_head (work.Refresh r) e =
      by_cases (leb p.operation.until (max p.now t)) (λ l. rw (e, l)) (λ l. rw (e, l, cuts_none p.mode.power))

  -- and asserts reset
  lowered_head : (x : Work) (y : Power) → p.operation.work ≡ x → p.mode.power ≡ y
      → (reset_edge own true (arrived t p)).image ≡ head_by (driven_at own true t p) p.operation.work (max p.now t) p
  unfolding reset_edge arrived ended driven_at ends_refresh ended_refresh cut_refresh cleared published
  lowered_head (work.Refresh r) power.Running e k = by_cases (leb p.operation.until (max p.now t)) (λ l. rw (e, k, l)) (λ l. rw (e, k, l))
  lowered_head (work.Refresh r) power.Asleep e k = by_cases (leb p.operation.until (max p.now t)) (λ l. rw (e, k, l)) (λ l. rw (e, k, l))
  lowered_head (work.Refresh r) power.InReset e k = by_cases (leb p.operation.until (max p.now t)) (λ l. rw (e, k, l)) (λ l. rw (e, k, l))
  lowered_head work.Nothing power.Running e k = by_cases (leb p.operation.until (max p.now t)) (λ l. rw (e, k, l)) (λ l. rw (e, k, l))
  lowered_head work.Nothing power.Asleep e k = by_cases (leb p.operation.until (max p.now t)) (λ l. rw (e, k, l)) (λ l. rw (e, k, l))
  lowered_head work.Nothing power.InReset e k = by_cases (leb p.operation.until (max p.now t)) (λ l. rw (e, k, l)) (λ l. rw (e, k, l))
  lowered_head work.PowerOn power.Running e k = by_cases (leb p.operation.until (max p.now t)) (λ l. rw (e, k, l)) (λ l. rw (e, k, l))
  lowered_head work.PowerOn power.Asleep e k = by_cases (leb p.operation.until (max p.now t)) (λ l. rw (e, k, l)) (λ l. rw (e, k, l))
  lowered_head work.PowerOn power.InReset e k = by_cases (leb p.operation.until (max p.now t)) (λ l. rw (e, k, l)) (λ l. rw (e, k, l))
  lowered_head work.PowerOff power.Running e k = by_cases (leb p.operation.until (max p.now t)) (λ l. rw (e, k, l)) (λ l. rw (e, k, l))
  lowered_head work.PowerOff power.Asleep e k = by_cases (leb p.operation.until (max p.now t)) (λ l. rw (e, k, l)) (λ l. rw (e, k, l))
  lowered_head work.PowerOff power.InReset e k = by_cases (leb p.operation.until (max p.now t)) (λ l. rw (e, k, l)) (λ l. rw (e, k, l))
  lowered_head work.DeepSleep power.Running e k = by_cases (leb p.operation.until (max p.now t)) (λ l. rw (e, k, l)) (λ l. rw (e, k, l))
  lowered_head work.DeepSleep power.Asleep e k = by_cases (leb p.operation.until (max p.now t)) (λ l. rw (e, k, l)) (λ l. rw (e, k, l))
  lowered_head work.DeepSleep power.InReset e k = by_cases (leb p.operation.until (max p.now t)) (λ l. rw (e, k, l)) (λ l. rw (e, k, l))
  lowered_head work.SoftReset power.Running e k = by_cases (leb p.operation.until (max p.now t)) (λ l. rw (e, k, l)) (λ l. rw (e, k, l))
  lowered_head work.SoftReset power.Asleep e k = by_cases (leb p.operation.until (max p.now t)) (λ l. rw (e, k, l)) (λ l. rw (e, k, l))
  lowered_head work.SoftReset power.InReset e k = by_cases (leb p.operation.until (max p.now t)) (λ l. rw (e, k, l)) (λ l. rw (e, k, l))
  lowered_head work.HardwareReset power.Running e k = by_cases (leb p.operation.until (max p.now t)) (λ l. rw (e, k, l)) (λ l. rw (e, k, l))
  lowered_head work.HardwareReset power.Asleep e k = by_cases (leb p.operation.until (max p.now t)) (λ l. rw (e, k, l)) (λ l. rw (e, k, l))
  lowered_head work.HardwareReset power.InReset e k = by_cases (leb p.operation.until (max p.now t)) (λ l. rw (e, k, l)) (λ l. rw (e, k, l))

raised_head : (y : Power) (p : Uc8253) → (raised_by own y p).image ≡ p.image
raised_head power.Running p = refl
raised_head power.Asleep p = refl
raised_head power.InReset p = refl

released_head : (p : Uc8253) → (reset_edge own false p).image ≡ p.image
unfolding reset_edge
released_head p = raised_head p.mode.power p

-- every call: a picture is published exactly when the glass is driven
pub image_after : (a : Ask) (p : Uc8253)
    → (record_after own a p).image ≡ head_by (driven_by own a p) p.operation.work (clock_when (when_of a) p.now) p
unfolding record_after
image_after (command t c) p = (all_command c (arrived t p)).image ∙ arrived_head t p p.operation.work refl
image_after (datum t b) p = (all_data b (arrived t p)).image ∙ arrived_head t p p.operation.work refl
image_after (reading t) p = (all_reading (arrived t p)).image ∙ arrived_head t p p.operation.work refl
image_after (advance t) p = arrived_head t p p.operation.work refl
image_after (reset t true) p = lowered_head t p p.operation.work p.mode.power refl refl
image_after (reset t false) p = released_head (arrived t p) ∙ arrived_head t p p.operation.work refl
image_after (vcom_rule t x) p = arrived_head t p p.operation.work refl
image_after taking p = refl
image_after (ask_busy t) p = refl
image_after ask_deadline p = refl
image_after (ask_bit older x y) p = refl
image_after (ask_row y) p = refl
image_after (ask_picture top wide) p = refl

-- the generation is one more, and holds at 2^64 - 1
pub ended_generation : (r : Refresh) (p : Uc8253) → (ended_refresh r p).image.generation ≡ min (p.image.generation + 1) top
unfolding ended_refresh published
ended_generation r p = refl

pub cut_generation : (r : Refresh) (p : Uc8253) → (cut_refresh r p).image.generation ≡ min (p.image.generation + 1) top
unfolding cut_refresh published
cut_generation r p = refl
