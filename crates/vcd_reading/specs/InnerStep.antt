-- A part of a dump after its declarations: the reader after it.
use Rattle.std.specs.Prelude.{◌≡◌, Bool, true, false, List, ℕ, take, drop, Option, Some, None, Ok}
use Rattle.controller.specs.World.{World}
use Rattle.vcd_words.specs.Words.{words, closed, opened}
use Rattle.vcd_declarations.specs.declared.head.Begun.{Begun}
use Rattle.vcd_simulation.specs.declared.body.Body.{Body}
use Rattle.vcd_simulation.specs.Simulation.{Codes, Went, words_done}
use Rattle.vcd_simulation.specs.Feed.{codes_by}
use Rattle.vcd.specs.Played.{calls}
use Rattle.vcd.specs.Judging.{judged_by}
use Rattle.vcd_playing.specs.Making.{finished}
use Rattle.vcd_reading.specs.declared.reader.Stage.{Stage}
use Rattle.vcd_reading.specs.declared.reader.Stage.TheVariants as stage
use Rattle.vcd_reading.specs.declared.reader.Reader.{Reader}
use Rattle.vcd_reading.specs.declared.reading.Step.{Step}
use Rattle.vcd_reading.specs.declared.closing.Closed.{Closed}
use Rattle.vcd_reading.specs.InnerCarried.{Carries}

abbrev pub is_playing : Stage → Bool
is_playing stage.Heading = false
is_playing stage.Playing = true
is_playing stage.HeadTooLong = false
is_playing stage.WordTooLong = false

-- with another body, and the word that is open, if it fits
abbrev pub gone_on : Reader → Body → Option ℕ → Reader
gone_on r body (Some n) = record { stage = stage.Playing; held = r.held; begun = r.begun; body = body; carried = n }
gone_on r body None = record { stage = stage.WordTooLong; held = r.held; begun = r.begun; body = body; carried = 0 }

-- what the closed words of some bytes from a place on make
abbrev pub part_went : List ℕ → Reader → List ℕ → ℕ → Went
part_went kept r bytes at = words_done (codes_by (take r.held kept) r.begun.head) (closed (drop at bytes)) r.body

pub record PlaysPart (kept : List ℕ) (r : Reader) (bytes : List ℕ) (at : ℕ) (s : Step) (word word' : List ℕ) (v v' : World) : Type 0 where
  pub carried : Option ℕ
  pub carries : Carries (opened (drop at bytes)) 0 carried word word'
  pub reader_is : s.reader ≡ gone_on r (part_went kept r bytes at).body carried
  pub called : v' ≡ calls (part_went kept r bytes at).events v

-- the last words, and the advance at their end
pub record ClosesWords (codes : Codes) (b : Begun) (bytes : List ℕ) (at : ℕ) (body : Body) (c : Closed) (v v' : World) : Type 0 where
  pub ending_is : c.ending ≡ Ok (judged_by b (words_done codes (words (drop at bytes)) body).body)
  pub called : v' ≡ finished (words_done codes (words (drop at bytes)) body).body (calls (words_done codes (words (drop at bytes)) body).events v)
