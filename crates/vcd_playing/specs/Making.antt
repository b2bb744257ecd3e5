-- A configuration's making, and the calls of a dump that is not turned back.
use Rattle.std.specs.Prelude.{List, ℕ, eqb, Result, Ok, Err}
use Rattle.base.specs.Pick.{pick}
use Rattle.base.specs.declared.refusals.Refusal.{Refusal}
use Rattle.base.specs.declared.refusals.Refusal.TheVariants as refusal
use Rattle.capture.specs.Refused.{bad_config}
use Rattle.controller.specs.World.{World, Buffers, world}
use Rattle.controller.specs.TurnedBack.{making_refused}
use Rattle.controller.specs.Calls.{made, zeros}
use Rattle.event.specs.Events.{event_done}
use Rattle.vcd_simulation.specs.declared.body.Body.{Body}
use Rattle.vcd.specs.declared.judging.Fault.{Fault}
use Rattle.vcd.specs.declared.judging.Fault.TheVariants.{Malformed, Unsignalled}
use Rattle.vcd.specs.Dump.{config_in, dump_events}
use Rattle.vcd.specs.Played.{calls}

-- 9, and then 1 to 5
unfoldable pub config_refused : List ℕ → Buffers → ℕ
config_refused config b = pick (bad_config config 0) 9 (making_refused (config_in config) b)

unfoldable pub config_made : List ℕ → Buffers → World
config_made config b = pick (bad_config config 0) (world zeros b) (made (config_in config) b)

-- the last time is an advance at the end
unfoldable pub finished : Body → World → World
finished body w = event_done (record { time = body.now; kind = 5; value = 0 }) w

-- the making, and then the calls; a refusal gives the record of zeros and changes no lent entry
unfoldable pub fine_played : List ℕ → List ℕ → Buffers → World
fine_played config dump b =
    pick (eqb (config_refused config b) 0) (calls (dump_events dump) (made (config_in config) b)) (world zeros b)

-- what turns a dump back: 11 and 12 come before what turns its configuration back
abbrev pub refusal_of : Fault → Refusal
refusal_of Malformed = refusal.MalformedDump
refusal_of Unsignalled = refusal.WrongSignals

abbrev pub number_by : Result (Unit {0}) Fault → ℕ → ℕ
number_by (Err Malformed) n = 11
number_by (Err Unsignalled) n = 12
number_by (Ok fine) n = n
