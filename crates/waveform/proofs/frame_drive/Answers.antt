-- `waveform::frame_drive` meets its contract: the parts of the two levels give the parts of the drive.
use borrow.Author.Tests.{eq-eqb, ne_eqb}
use mathlib.Core.Path.{◌≡◌, sym, ap, ◌∙◌}
use mathlib.Core.Bool.{Bool, false}
use lib.IntN.{ℤ}
use Rattle.waveform.specs.declared.Drive.{Drive}
use Rattle.waveform.specs.InnerProgress.{Drives}
use Prim.Native.Nat.{◌+◌, ◌-◌, ◌*◌, min}
use Rattle.base.specs.Word.{top}
use Rattle.waveform.specs.Levels.{level_of_code, floats}
use Rattle.waveform.specs.Frames.{drive_of}
use Rattle.waveform.proofs.DriveLaws.{rise, fall, drives_white, drives_black}
use Rattle.waveform.proofs.frame_drive.Goals.{After-energy-fall, Start}
use Rattle.waveform.proofs.frame_drive.Goals as goal

pub returns-then-vcom-eq3 : goal.returns-then-vcom-eq3
unfolding drive_of floats
returns-then-vcom-eq3 c = simp (eq-eqb _ _ c.if-vcom-eq3.true)

-- after both energies: they are the rise and the fall of the pixel's two levels
module _ (c : After-energy-fall) where
  abbrev start : Start
  start = c.before.before.before.before.before.before.before.before.before.before

  abbrev source : ℤ
  source = level_of_code start.args.supply.levels start.args.source

  abbrev common : ℤ
  common = level_of_code start.args.supply.levels start.args.vcom

  held : floats start.args.vcom ≡ false
  unfolding floats
  held = ne_eqb _ _ c.if-vcom-eq3.false

  rises : c.energy-rise.result ≡ rise source common start.args.supply.frame_ns
  rises =
      let a = c.level_of-s.ensures in
      let b = c.level_of-v.ensures in
      c.energy-rise.ensures ∙ (λ i. min (((a i).above + (b i).below - ((a i).below + (b i).above)) * start.args.supply.frame_ns) top)

  falls : c.energy-fall.result ≡ fall source common start.args.supply.frame_ns
  falls =
      let a = c.level_of-s.ensures in
      let b = c.level_of-v.ensures in
      c.energy-fall.ensures ∙ (λ i. min (((a i).below + (b i).above - ((a i).above + (b i).below)) * start.args.supply.frame_ns) top)

  abbrev drives : Bool → Drive
  drives black =
      Drives (drive_of start.args.supply.levels start.args.supply.frame_ns black start.args.source start.args.vcom)

pub returns-then-supply : goal.returns-then-supply
returns-then-supply c =
    (λ i. record { up = falls c.before i; down = rises c.before i })
    ∙ sym (drives_black _ _ _ _ (held c.before))
    ∙ ap (drives c.before) (sym c.if-supply.true)

pub returns-else-supply : goal.returns-else-supply
returns-else-supply c =
    (λ i. record { up = rises c.before i; down = falls c.before i })
    ∙ sym (drives_white _ _ _ _ (held c.before))
    ∙ ap (drives c.before) (sym c.if-supply.false)
