-- 2026-01: a dump that is read part by part: what a reader and its two buffers stand for.
use Rattle.std.specs.Prelude.{◌≡◌, List, [], ◌++◌, ℕ, ◌≤◌, ◌<◌, length, take, drop, Ok, Err}
use Rattle.controller.specs.World.{World}
use Rattle.controller.specs.Lent.{Over, before, after}
use Rattle.vcd_words.specs.Words.{closed, opened}
use Rattle.vcd_declarations.specs.declared.head.Begun.{Begun}
use Rattle.vcd_declarations.specs.Begun.{Begins}
use Rattle.vcd_simulation.specs.Simulation.{Codes, Went, begun, words_done}
use Rattle.vcd_simulation.specs.Feed.{codes_by}
use Rattle.vcd.specs.Dump.{dump_events, judged}
use Rattle.vcd.specs.Played.{calls}
use Rattle.vcd_reading.specs.declared.reader.Stage.{Stage}
use Rattle.vcd_reading.specs.declared.reader.Stage.TheVariants as stage
use Rattle.vcd_reading.specs.declared.reader.Reader.{Reader}
use Rattle.vcd_reading.specs.declared.closing.Closed.{Closed}
use Rattle.vcd_reading.specs.declared.closing.Limit.TheVariants as limit

-- the whole dump so far is kept
pub record Heading (d : List ℕ) (held : ℕ) (kept : List ℕ) : Type 0 where
  pub held_in : held ≤ length kept
  pub all_kept : take held kept ≡ d

-- the words of the simulation that are closed so far
abbrev pub so_far : Codes → Begun → List ℕ → Went
so_far codes b d = words_done codes (closed (drop b.next d)) begun

-- the first bytes are kept, in which a word after the declarations is closed; the calls of the words that are closed are made, and the one
-- that is open is carried
pub record Playing (d : List ℕ) (r : Reader) (kept word : List ℕ) (w v : World) : Type 0 where
  pub held_in : r.held ≤ length kept
  pub begins : Begins (take r.held kept) r.begun
  pub settled : 0 < length (closed (drop r.begun.next (take r.held kept)))
  pub later : List ℕ
  pub dump_is : d ≡ take r.held kept ++ later
  pub body_is : r.body ≡ (so_far (codes_by (take r.held kept) r.begun.head) r.begun d).body
  pub called : v ≡ calls (so_far (codes_by (take r.held kept) r.begun.head) r.begun d).events w
  pub carried_in : r.carried ≤ length word
  pub carried_is : take r.carried word ≡ opened (drop r.begun.next d)

-- the limits: so many first bytes have no closed word after the declarations; a word that is open somewhere is longer
pub record LongHead (d : List ℕ) (most : ℕ) : Type 0 where
  pub front : List ℕ
  pub rest : List ℕ
  pub cut : d ≡ front ++ rest
  pub full : length front ≡ most
  pub more : 0 < length rest
  pub begun : Begun
  pub begins : Begins front begun
  pub unsettled : closed (drop begun.next front) ≡ []

pub record LongWord (d : List ℕ) (most : ℕ) : Type 0 where
  pub front : List ℕ
  pub rest : List ℕ
  pub cut : d ≡ front ++ rest
  pub from : ℕ
  pub longer : most < length (opened (drop from front))

-- the reader stands behind the bytes d of a dump, whose calls began at the world w
abbrev pub StandsBy : Stage → List ℕ → Reader → List ℕ → List ℕ → World → World → Type 0
StandsBy stage.Heading d r kept word w v = Heading d r.held kept × (v ≡ w)
StandsBy stage.Playing d r kept word w v = Playing d r kept word w v
StandsBy stage.HeadTooLong d r kept word w v = LongHead d (length kept)
StandsBy stage.WordTooLong d r kept word w v = LongWord d (length word)

abbrev pub Stands : List ℕ → Reader → List ℕ → List ℕ → World → World → Type 0
Stands d r kept word w v = StandsBy r.stage d r kept word w v

-- at its end: what the dump comes to, and its calls made; or the limit that was met, and nothing done
abbrev pub Closes : Stage → List ℕ → Closed → World → World → World → Type 0
Closes stage.Heading d c w v u = (c.ending ≡ Ok (judged d)) × (u ≡ calls (dump_events d) w)
Closes stage.Playing d c w v u = (c.ending ≡ Ok (judged d)) × (u ≡ calls (dump_events d) w)
Closes stage.HeadTooLong d c w v u = (c.ending ≡ Err limit.HeadTooLong) × (u ≡ v)
Closes stage.WordTooLong d c w v u = (c.ending ≡ Err limit.WordTooLong) × (u ≡ v)

-- each slice that is lent keeps its length
abbrev pub SameLengths : Over (Type 0)
SameLengths lent =
    (length (after lent).old ≡ length (before lent).old) × (length (after lent).new ≡ length (before lent).new)
    × (length (after lent).states ≡ length (before lent).states) × (length (after lent).picture ≡ length (before lent).picture)
    × (length (after lent).rows ≡ length (before lent).rows)
