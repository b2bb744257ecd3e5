-- Request 2026-03: on a record that making gave the question for the 16-bit picture is refused only for its own buffer, and after a
-- refresh's end, whole or cut, it gives at top 255, or at 0, the very picture that the refresh drew.
use mathlib.Core.Path.{◌≡◌, refl, ap, sym, subst, ◌∙◌}
use mathlib.Core.Bool.{Bool, true, false}
use mathlib.Core.List.{List}
use Prim.Native.Nat.{ℕ, ◌*◌}
use lib.Dec.{eqb}
use lib.IntN.{ℤ}
use lib.ListN.{length}
use borrow.Author.Tests.{eq-eqb}
use Rattle.base.specs.Pick.{pick}
use Rattle.config.specs.declared.Uc8253Config.{Uc8253Config}
use Rattle.glass.specs.Gray.{top_of}
use Rattle.pixels.specs.Draw.{drawn_at}
use Rattle.pixels.proofs.DrawLaws.{wide_drawn}
use Rattle.controller.specs.declared.Uc8253.{Uc8253}
use Rattle.controller.specs.declared.drives.Drive.TheVariants as drive
use Rattle.controller.specs.World.{World}
use Rattle.controller.specs.Counting.{own}
use Rattle.controller.specs.Calls.{wide_refused, wide_answer}
use Rattle.controller.specs.Ask.{Ask, IsByte, driven_by, record_after, refused_by, did}
use Rattle.controller.specs.Sound.{Sound}
use Rattle.controller.proofs.Parts.{lengths}
use Rattle.controller.proofs.Sound.{home, sound_done}
use Rattle.controller.proofs.Keeps.{config_after}
use Rattle.controller.proofs.TurnedAway.{did_yes, record_after_lem}
use Rattle.controller.proofs.Ends.{whole_picture, cut_picture}

-- the entries that the question's buffer must have
abbrev pub room : World → ℕ
room w = w.chip.config.panel.sources * w.chip.config.panel.gates

pub wide_taken : (w : World) → Sound w → (n : ℕ) → n ≡ room w → wide_refused w.chip w.lent.states n ≡ 0
unfolding wide_refused
wide_taken w s n e =
    let l = lengths w.chip.config w.lent s.fits in
    rw (home w.chip s.chip, eq-eqb (length w.lent.states) (room w) l.states, eq-eqb n (room w) e, s.states)

-- each entry is the grey of its state
pub wide_is : (w : World) → Sound w → (top : ℕ) (wide : List ℕ) → length wide ≡ room w
    → wide_answer w.chip w.lent.states top wide ≡ drawn_at (top_of top) w.chip.config.optics.full_swing w.lent.states wide
unfolding wide_answer
wide_is w s top wide e = rw (wide_taken w s (length wide) e)

-- ---- at top 255, after an accepted call that ends a refresh
module _ (a : Ask) (w : World) (byte : IsByte a) (s : Sound w) (taken : refused_by a w ≡ 0) (top : ℕ) (t : top_of top ≡ 255)
    (wide : List ℕ) (e : length wide ≡ room w) where
  abbrev after : World
  after = did a w

  same_config : after.chip.config ≡ w.chip.config
  same_config = ap (λ (p : Uc8253). p.config) (record_after_lem a w.chip w.lent taken) ∙ config_after a w.chip

  sound_after : Sound after
  sound_after = subst (λ (v : World). Sound v) (sym (did_yes a w (eq-eqb (refused_by a w) 0 taken))) (sound_done a w byte s)

  after_drawn : (picture : List ℕ) → length picture ≡ room w
      → after.lent.picture ≡ drawn_at 255 w.chip.config.optics.full_swing after.lent.states picture
      → wide_answer after.chip after.lent.states top wide ≡ after.lent.picture
  after_drawn picture h d =
      let states = after.lent.states in
      let q = sound_after in
      let same : room after ≡ room w = ap (λ (c : Uc8253Config). c.panel.sources * c.panel.gates) same_config in
      let long : length states ≡ room w = (lengths after.chip.config after.lent q.fits).states ∙ same in
      let swing = w.chip.config.optics.full_swing in
      wide_is after q top wide (e ∙ sym same)
      ∙ ap (λ (c : Uc8253Config). drawn_at (top_of top) c.optics.full_swing states wide) same_config
      ∙ ap (λ (n : ℕ). drawn_at n swing states wide) t
      ∙ wide_drawn swing states wide picture (e ∙ sym long) (h ∙ sym long)
      ∙ sym d

  -- one that ends by itself
  pub picture_whole : driven_by own a w.chip ≡ drive.Whole → wide_answer after.chip after.lent.states top wide ≡ after.lent.picture
  picture_whole d =
      after_drawn w.lent.picture (lengths w.chip.config w.lent s.fits).picture (whole_picture a w taken d)

  -- one that reset cuts
  pub picture_cut : (n : ℕ) → driven_by own a w.chip ≡ drive.First n
      → wide_answer after.chip after.lent.states top wide ≡ after.lent.picture
  picture_cut n d =
      after_drawn w.lent.picture (lengths w.chip.config w.lent s.fits).picture (cut_picture a w taken n d)
