-- What is said of two captures A and B: of their configurations, of what differs first, and of their pixels.
use Rattle.std.specs.Prelude.{Option, Some, None, List, [], ℕ, eqb, length}
use Rattle.base.specs.Pick.{pick}
use Rattle.differences.specs.declared.finding.Finding.{Finding}
use Rattle.differences.specs.declared.finding.Finding.TheVariants as finding
use Rattle.differences.specs.Places.{first_place}
use Rattle.differences.specs.Apart.{apart_of}
use Rattle.differences.specs.Lines.{config_line, rate_line, event_line, row_line, pixel_line, sizes_line, pixels_line}

-- the rates of two configurations, if they differ
abbrev pub rate_part : ℕ → ℕ → List ℕ
rate_part rateA rateB = pick (eqb rateA rateB) [] (rate_line rateA rateB)

-- the first of their 312 bytes that differs; where none does, their rates as read
abbrev pub config_by : Option ℕ → List ℕ → List ℕ → ℕ → ℕ → List ℕ
config_by (Some k) a b rateA rateB = config_line a b k
config_by None a b rateA rateB = rate_part rateA rateB

unfoldable pub config_part : List ℕ → List ℕ → ℕ → ℕ → List ℕ
config_part a b rateA rateB = config_by (first_place a b) a b rateA rateB

-- what differs first, of the events, rows and pictures of A and B
abbrev pub finding_part : Option Finding → List ℕ → List ℕ → List ℕ → List ℕ → ℕ → List ℕ → List ℕ → List ℕ
finding_part (Some (finding.Event i)) eventsA eventsB rowsA rowsB width pictureA pictureB = event_line eventsA eventsB i
finding_part (Some (finding.Row i)) eventsA eventsB rowsA rowsB width pictureA pictureB = row_line rowsA rowsB i
finding_part (Some (finding.Pixel k)) eventsA eventsB rowsA rowsB width pictureA pictureB = pixel_line width pictureA pictureB k
finding_part None eventsA eventsB rowsA rowsB width pictureA pictureB = []

-- how many pixels differ; panels of different sizes are not compared
unfoldable pub pixels_part : ℕ → ℕ → List ℕ → ℕ → ℕ → List ℕ → List ℕ
pixels_part widthA heightA pictureA widthB heightB pictureB =
    let sizes = sizes_line widthA heightA widthB heightB in
    pick (eqb widthA widthB) (pick (eqb heightA heightB) (pixels_line (apart_of pictureA pictureB) (length pictureA)) sizes) sizes
