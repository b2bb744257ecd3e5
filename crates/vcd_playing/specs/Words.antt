-- Words of a simulation in some bytes, and the calls that they make.
use Rattle.std.specs.Prelude.{◌≡◌, Bool, false, List, [], ℕ, ◌≤◌, length, drop}
use Rattle.controller.specs.World.{World}
use Rattle.vcd_words.specs.Words.{opened}
use Rattle.vcd_simulation.specs.declared.body.Body.{Body}
use Rattle.vcd_simulation.specs.Simulation.{Codes, Went, words_done}
use Rattle.vcd_simulation.specs.Feed.{words_by}
use Rattle.vcd.specs.Played.{calls}
use Rattle.vcd_playing.specs.declared.words.Turn.{Turn}

-- what the words of some bytes from a place on make
abbrev pub went : Codes → List ℕ → ℕ → Bool → Body → Went
went codes bytes at last b = words_done codes (words_by last (drop at bytes)) b

-- all of them were read, from the body b on, and the calls of their events made; a word that is open still lies behind them
pub record Plays (codes : Codes) (bytes : List ℕ) (at : ℕ) (last : Bool) (b : Body) (r : Turn) (w w' : World) : Type 0 where
  pub body_is : r.body ≡ (went codes bytes at last b).body
  pub called : w' ≡ calls (went codes bytes at last b).events w
  pub none_left : words_by last (drop r.next bytes) ≡ []
  pub open_kept : last ≡ false → opened (drop r.next bytes) ≡ opened (drop at bytes)
  pub inside : at ≤ length bytes → r.next ≤ length bytes
