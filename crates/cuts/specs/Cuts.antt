-- A refresh that reset cuts, as the record has it before the event's call: the call drives the first frames alone (controller: `driven_at`).
use Rattle.std.specs.Prelude.{None, Option, Some, ℕ, max}
use Rattle.waveform.specs.Tables.{refresh_frames}
use Rattle.controller.specs.declared.Uc8253.{Uc8253}
use Rattle.controller.specs.declared.drives.Drive.{Drive}
use Rattle.controller.specs.declared.drives.Drive.TheVariants as drive
use Rattle.controller.specs.Glass.{driven_at}
use Rattle.controller.specs.Counting.{own}
use Rattle.event.specs.declared.Event.{Event}
use Rattle.event.specs.Events.{asserts}
use Rattle.cuts.specs.declared.finding.Cut.{Cut}

-- the clock as the call sets it, the frames driven, and those of the whole refresh
abbrev pub cut_at : ℕ → ℕ → Uc8253 → Cut
cut_at t n p = record { at = max p.now t; frames = n; of = refresh_frames p.waveform }

-- a refresh that ends by itself is not cut
abbrev pub cut_of : Drive → ℕ → Uc8253 → Option Cut
cut_of drive.Nothing t p = None
cut_of drive.Whole t p = None
cut_of (drive.First n) t p = Some (cut_at t n p)

unfoldable pub cut_by : Event → Uc8253 → Option Cut
cut_by e p = cut_of (driven_at own (asserts e) e.time p) e.time p
