-- Document 01, "A refresh" and "The walk": what a call does to the glass, which is one question of the record and one function over states and
-- picture. The numbers are those of registers and planes as they stand before the call changes any (2026-10).
use Rattle.std.specs.Prelude.{Bool, List, ℕ, max, leb, take, ℤ, pos}
use Rattle.base.specs.Pick.{pick}
use Rattle.base.specs.Integer.{up}
use Rattle.glass.specs.Walk.{walk}
use Rattle.numbers.specs.Number.{panel_numbers}
use Rattle.pixels.specs.Lists.{beside}
use Rattle.pixels.specs.Drive.{frames_for}
use Rattle.pixels.specs.Draw.{drawn_at}
use Rattle.controller.specs.declared.Uc8253.{Uc8253}
use Rattle.controller.specs.declared.drives.Drive.{Drive}
use Rattle.controller.specs.declared.drives.Drive.TheVariants as drive
use Rattle.controller.specs.Arrives.{timed}
use Rattle.controller.specs.Refresh.{mapping_now, all_frames, elapsed}
use Rattle.controller.specs.TurnedBack.{ends_refresh}
use Rattle.controller.specs.Counting.{Counting}

-- a call at a time, which may assert reset: nothing; all frames of a refresh that ends by itself; the whole frames elapsed of one that
-- reset cuts
unfoldable pub driven_at : (Uc8253 → Counting) → Bool → ℕ → Uc8253 → Drive
driven_at clock asserted t p =
    pick (ends_refresh asserted t p)
    (pick (leb p.operation.until (max p.now t)) drive.Whole (drive.First (elapsed clock (timed t p))))
    drive.Nothing

-- each pixel's number, row by row
unfoldable pub numbers_now : Uc8253 → List ℕ → List ℕ → List ℕ
numbers_now p old new = panel_numbers (mapping_now p) old new

-- each pixel walks the frames of its number's table, frame by frame, none for 255
unfoldable pub walked : ℕ → (ℕ → List ℤ) → List ℕ → List ℤ → List ℤ
walked swing frames numbers states = beside (λ n z. pos (walk swing (up z) (frames_for frames n))) numbers states

-- the states walk
abbrev pub states_by : Drive → Uc8253 → List ℕ → List ℕ → List ℤ → List ℤ
states_by drive.Nothing p old new states = states
states_by drive.Whole p old new states = walked p.config.optics.full_swing (all_frames p) (numbers_now p old new) states
states_by (drive.First n) p old new states =
    walked p.config.optics.full_swing (λ k. take n (all_frames p k)) (numbers_now p old new) states

-- and the picture is the grey of each, at top 255
abbrev pub picture_by : Drive → Uc8253 → List ℤ → List ℕ → List ℕ
picture_by drive.Nothing p states picture = picture
picture_by drive.Whole p states picture = drawn_at 255 p.config.optics.full_swing states picture
picture_by (drive.First n) p states picture = drawn_at 255 p.config.optics.full_swing states picture
