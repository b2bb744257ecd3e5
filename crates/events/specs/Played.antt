-- Document 01, "The capture program": a making, and then events, one call after the other.
use Rattle.std.specs.Prelude.{List, ℕ, eqb}
use Rattle.base.specs.Pick.{pick}
use Rattle.config.specs.declared.Uc8253Config.{Uc8253Config}
use Rattle.controller.specs.World.{World, Buffers, world}
use Rattle.controller.specs.TurnedBack.{making_refused}
use Rattle.controller.specs.Calls.{made, zeros}
use Rattle.controller.specs.declared.Uc8253.{Uc8253}
use Rattle.controller.specs.Counting.{Counting}
use Rattle.event.specs.Events.{events_in, ran_to, ran_to_by, answers_to, answers_to_by}

-- the record and what is lent after the last event; a refused making returns a record of zeros and changes no lent entry
unfoldable pub played : Uc8253Config → List ℕ → Buffers → World
played c events b = pick (eqb (making_refused c b) 0) (ran_to events (events_in events) (made c b)) (world zeros b)

-- the same by other conversions (2026-05)
unfoldable pub played_by : (Uc8253 → Counting) → Uc8253Config → List ℕ → Buffers → World
played_by clock c events b = pick (eqb (making_refused c b) 0) (ran_to_by clock events (events_in events) (made c b)) (world zeros b)

-- the answers to the reads, one entry an event
unfoldable pub answers_played : Uc8253Config → List ℕ → Buffers → List ℕ → List ℕ
answers_played c events b answers = pick (eqb (making_refused c b) 0) (answers_to events (events_in events) (made c b) answers) answers

unfoldable pub answers_played_by : (Uc8253 → Counting) → Uc8253Config → List ℕ → Buffers → List ℕ → List ℕ
answers_played_by clock c events b answers =
    pick (eqb (making_refused c b) 0) (answers_to_by clock events (events_in events) (made c b) answers) answers
