-- A dump read piece by piece: how far that got, and where the reader stands.
use Rattle.std.specs.Prelude.{◌≡◌, Bool, true, false, List, [], ◌++◌, ℕ, take, Option, Some, None, Result, Ok, Err}
use Rattle.base.specs.Pick.{pick}
use Rattle.controller.specs.declared.Uc8253.{Uc8253}
use Rattle.controller.specs.World.{World}
use Rattle.vcd.specs.declared.judging.Fault.{Fault}
use Rattle.vcd.specs.declared.judging.Fault.TheVariants.{Malformed}
use Rattle.vcd.specs.Dump.{dump_events, judged}
use Rattle.vcd.specs.Played.{calls}
use Rattle.vcd_reasons.specs.Finding.{is_broken}
use Rattle.vcd_reasons.specs.Wording.{is_declared_well}
use Rattle.vcd_reading.specs.declared.reader.Stage.{Stage}
use Rattle.vcd_reading.specs.declared.reader.Stage.TheVariants as stage
use Rattle.vcd_reading.specs.declared.reader.Reader.{Reader}
use Rattle.vcd_reading.specs.declared.closing.Limit.{Limit}
use Rattle.vcd_reading.specs.declared.closing.Limit.TheVariants as limit
use Rattle.vcd_reading.specs.Reading.{LongHead, LongWord, Stands}
use Rattle.dumping.specs.declared.reading.Course.{Course}
use Rattle.dumping.specs.declared.reading.Course.TheVariants as course
use Rattle.dumping.specs.declared.reading.Gone.{Gone}
use Rattle.dumping.specs.declared.reading.Closed.{Closed}

abbrev pub is_on : Course → Bool
is_on course.On = true
is_on course.Whole = false
is_on course.Settled = false
is_on course.Unread = false

-- malformed by what was read: the declarations, once they are over, or a word after them
abbrev pub is_lost : Reader → Bool
is_lost r = pick (is_declared_well r.begun) (is_broken r.body.wanted) true

-- what follows does not count: that, or a limit was met
abbrev pub settled_in : Stage → Reader → Bool
settled_in stage.Heading r = false
settled_in stage.Playing r = is_lost r
settled_in stage.HeadTooLong r = true
settled_in stage.WordTooLong r = true

abbrev pub is_settled : Reader → Bool
is_settled r = settled_in r.stage r

abbrev pub course_of : Reader → Course
course_of r = pick (is_settled r) course.Settled course.On

-- one piece more
pub record Steps (piece : List ℕ) (r : Reader) (q : Gone) (kept word kept' word' : List ℕ) (v v' : World) : Type 0 where
  pub stands : (d : List ℕ) (w : World) → Stands d r kept word w v → Stands (d ++ piece) q.reader kept' word' w v'
  pub course_is : q.course ≡ course_of q.reader

-- a chunk: all of it, or as much as counts
pub record Plays (bytes : List ℕ) (r : Reader) (q : Gone) (kept word kept' word' : List ℕ) (v v' : World) : Type 0 where
  pub read : ℕ
  pub stands : (d : List ℕ) (w : World) → Stands d r kept word w v → Stands (d ++ take read bytes) q.reader kept' word' w v'
  pub all : is_on q.course ≡ true → take read bytes ≡ bytes
  pub settled : is_on q.course ≡ false → q.course ≡ course_of q.reader

-- before the first chunk
pub record Begins (chip : Uc8253) (q : Gone) : Type 0 where
  pub chip_is : q.chip ≡ chip
  pub stands : (kept word : List ℕ) (w : World) → Stands [] q.reader kept word w w
  pub on : is_on q.course ≡ true

abbrev pub ended : Course → Gone → Gone
ended x g = record { chip = g.chip; reader = g.reader; lines = g.lines; course = x }

-- the input ended with a chunk, unless what follows does not count
unfoldable pub last_of : Bool → Gone → Gone
last_of over g = pick over (pick (is_on g.course) (ended course.Whole g) g) g

-- the reader stands behind all bytes that were read, whose calls began at the world w
abbrev pub is_stopped : Course → Bool
is_stopped course.On = false
is_stopped course.Whole = false
is_stopped course.Settled = true
is_stopped course.Unread = false

pub record Stood (q : Gone) (kept word : List ℕ) (w v : World) : Type 0 where
  pub dump : List ℕ
  pub stands : Stands dump q.reader kept word w v
  pub settled : is_stopped q.course ≡ true → is_settled q.reader ≡ true

-- the dump is to be closed where it was read so far
abbrev pub is_open : Course → Bool
is_open course.On = true
is_open course.Whole = true
is_open course.Settled = false
is_open course.Unread = false

-- what a dump that was read to its end comes to, or the limit that was met
abbrev pub Ending : Type 0
Ending = Result (Result (Unit {0}) Fault) Limit

-- reading stopped before the end
abbrev pub settled_ending : Stage → Ending
settled_ending stage.Heading = Ok (Err Malformed)
settled_ending stage.Playing = Ok (Err Malformed)
settled_ending stage.HeadTooLong = Err limit.HeadTooLong
settled_ending stage.WordTooLong = Err limit.WordTooLong

abbrev pub stopped_ending : Course → Stage → Option Ending
stopped_ending course.On x = None
stopped_ending course.Whole x = None
stopped_ending course.Settled x = Some (settled_ending x)
stopped_ending course.Unread x = None

-- what an ending says of the bytes that were read: what they come to, and their calls made; or the limit that was met; none where a read
-- failed
abbrev pub Tells : Option Ending → List ℕ → ℕ → ℕ → World → World → Type 0
Tells (Some (Ok (Ok fine))) d most longest w u = (judged d ≡ Ok tt) × (u ≡ calls (dump_events d) w)
Tells (Some (Ok (Err x))) d most longest w u = judged d ≡ Err x
Tells (Some (Err limit.HeadTooLong)) d most longest w u = LongHead d most
Tells (Some (Err limit.WordTooLong)) d most longest w u = LongWord d longest
Tells None d most longest w u = Unit

pub record Read (c : Closed) (most longest : ℕ) (w u : World) : Type 0 where
  pub dump : List ℕ
  pub tells : Tells c.ending dump most longest w u
