-- 2026-01: what a dump comes to: its events, and what turns it back.
use Rattle.std.specs.Prelude.{Bool, ◌||◌, not, List, [], ◌∷◌, ◌++◌, ℕ, eqb, length, Result, Ok, Err}
use Rattle.base.specs.Pick.{pick}
use Rattle.capture.specs.Layout.{config_of}
use Rattle.capture.specs.Refused.{bad_config}
use Rattle.config.specs.declared.Uc8253Config.{Uc8253Config}
use Rattle.controller.specs.World.{Buffers}
use Rattle.controller.specs.TurnedBack.{making_refused}
use Rattle.event.specs.declared.Event.{Event}
use Rattle.vcd_words.specs.Words.{words}
use Rattle.vcd.specs.declared.judging.Fault.{Fault}
use Rattle.vcd.specs.declared.judging.Fault.TheVariants.{Malformed, Unsignalled}
use Rattle.vcd_declarations.specs.Declarations.{Head, cut, head_of, any_none}
use Rattle.vcd_simulation.specs.Simulation.{Codes, Went, begun, words_done, is_over}

abbrev pub head_in : List ℕ → Head
head_in dump = head_of (words dump)

-- the simulation: the words after the declarations
abbrev pub codes_in : List ℕ → Codes
codes_in dump = record { five = (head_in dump).codes; all = (head_in dump).all }

unfoldable pub simulated : List ℕ → Went
simulated dump = words_done (codes_in dump) (cut (words dump)).rest begun

-- 11, dump malformed: a break of the syntax, or no time scale
unfoldable pub malformed : List ℕ → Bool
malformed dump =
    (head_in dump).broken
    || (not (head_in dump).scaled
    || (not (cut (words dump)).ended
    || not (is_over (simulated dump).body.wanted)))

-- 12: one of the five signals missing, wider than a bit or declared twice
unfoldable pub unsignalled : List ℕ → Bool
unsignalled dump = (head_in dump).bad || any_none (head_in dump).codes

-- the last time, 0 if none, is an advance at the end
unfoldable pub dump_events : List ℕ → List Event
dump_events dump = (simulated dump).events ++ (record { time = (simulated dump).body.now; kind = 5; value = 0 } ∷ [])

-- the configuration of a capture, 312 bytes
unfoldable pub config_in : List ℕ → Uc8253Config
config_in config = config_of config 0

-- configuration bytes of a wrong length are 8, tested first; then 11, 12, 9 and 1 to 5
unfoldable pub dump_refused : List ℕ → List ℕ → Buffers → ℕ
dump_refused config dump b =
    pick (eqb (length config) 312)
    (pick (malformed dump) 11
    (pick (unsignalled dump) 12
    (pick (bad_config config 0) 9
    (making_refused (config_in config) b))))
    8

-- 11 comes before 12
unfoldable pub judged : List ℕ → Result (Unit {0}) Fault
judged dump = pick (malformed dump) (Err Malformed) (pick (unsignalled dump) (Err Unsignalled) (Ok tt))
