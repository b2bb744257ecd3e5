-- Words of the simulation in some bytes, with their events in a buffer.
use Rattle.std.specs.Prelude.{◌≡◌, Bool, false, not, ◌&&◌, leb, List, [], ◌++◌, ℕ, ◌+◌, ◌≤◌, ◌<◌, length, take, drop}
use Rattle.base.specs.Pick.{pick}
use Rattle.event.specs.declared.Event.{Event}
use Rattle.vcd_words.specs.Words.{words, closed, opened}
use Rattle.vcd_declarations.specs.declared.head.Head.{Head}
use Rattle.vcd_declarations.specs.Codes.{five_in}
use Rattle.vcd_declarations.specs.Begun.{all_by}
use Rattle.vcd_simulation.specs.declared.body.Body.{Body}
use Rattle.vcd_simulation.specs.declared.feeding.Fed.{Fed}
use Rattle.vcd_simulation.specs.Simulation.{Codes, Went, words_done}
use Rattle.vcd_simulation.specs.Written.{written}

-- the codes by their places in the head
abbrev pub codes_by : List ℕ → Head → Codes
codes_by head h = record { five = five_in head h.codes; all = all_by head h }

-- the words of some bytes; the last one counts where the dump ends with it
abbrev pub words_by : Bool → List ℕ → List (List ℕ)
words_by last bytes = pick last (words bytes) (closed bytes)

-- a word that ends with the bytes, unless the dump ends there
abbrev pub is_open : Bool → ℕ → ℕ → Bool
is_open last to n = not last && leb n to

-- what went before, and then the rest
abbrev pub behind : List Event → Went → Went
behind events w = record { body = w.body; events = events ++ w.events }

-- the words from one place up to another were read, from the body b on; how many is left free but for the room of the buffer
pub record Feeds (codes : Codes) (bytes : List ℕ) (at : ℕ) (last : Bool) (b : Body) (r : Fed) (out out' : List ℕ) : Type 0 where
  pub events : List Event
  pub all : words_done codes (words_by last (drop at bytes)) b
      ≡ behind events (words_done codes (words_by last (drop r.next bytes)) r.body)
  pub bytes_held : take r.held out' ≡ written events
  pub held_in : r.held ≤ length out'
  pub size : length out' ≡ length out
  pub rest : drop r.held out' ≡ drop r.held out
  pub not_back : at ≤ r.next
  pub inside : at ≤ length bytes → r.next ≤ length bytes
  pub moves : 0 < r.held → at < r.next
  -- with room for two events more no word is left
  pub stops : r.held + 20 ≤ length out → words_by last (drop r.next bytes) ≡ []
  -- a word that is still open lies behind what was read
  pub open_kept : last ≡ false → opened (drop r.next bytes) ≡ opened (drop at bytes)
