-- 2026-01: what a dump leaves: the record and what is lent, as the same calls, made one by one, do.
use Rattle.std.specs.Prelude.{List, [], ◌∷◌, ℕ, eqb}
use Rattle.base.specs.Pick.{pick}
use Rattle.controller.specs.World.{World, Buffers, world}
use Rattle.controller.specs.Calls.{made, zeros}
use Rattle.event.specs.declared.Event.{Event}
use Rattle.event.specs.Events.{event_done}
use Rattle.vcd.specs.Dump.{config_in, dump_refused, dump_events}

-- one call after the other
abbrev pub calls : List Event → World → World
calls [] w = w
calls (e ∷ es) w = calls es (event_done e w)

-- a refused dump returns a record of zeros and changes no lent entry
unfoldable pub dump_played : List ℕ → List ℕ → Buffers → World
dump_played config dump b = pick (eqb (dump_refused config dump b) 0) (calls (dump_events dump) (made (config_in config) b)) (world zeros b)
