-- Document 01, "The capture program": events of 10 bytes, and what a run of them does, one call after the other.
use Rattle.std.specs.Prelude.{None, Some, Bool, ◌&&◌, List, ℕ, ◌+◌, ◌*◌, ◌/◌, eqb, length, get_or, set}
use Rattle.base.specs.Pick.{pick, between}
use Rattle.base.specs.Turns.{turns}
use Rattle.controller.specs.Maybe.{Read}
use Rattle.controller.specs.World.{World}
use Rattle.controller.specs.TurnedBack.{turned_back}
use Rattle.controller.specs.Calls.{read_answer}
use Rattle.controller.specs.Ask.{command, datum, reading, advance, reset, vcom_rule, did_by}
use Rattle.controller.specs.declared.Uc8253.{Uc8253}
use Rattle.controller.specs.Counting.{Counting, own}
use Rattle.event.specs.declared.Event.{Event}
use Rattle.capture.specs.Little.{little}

-- how many events bytes hold
abbrev pub events_in : List ℕ → ℕ
events_in bytes = length bytes / 10

-- event number i: time (8), kind, value; past the end zeros are read
unfoldable pub event_at : List ℕ → ℕ → Event
event_at bytes i = record { time = little bytes (i * 10) 8; kind = get_or bytes (i * 10 + 8) 0; value = get_or bytes (i * 10 + 9) 0 }

-- kind 4 with value 1: reset is asserted; with any other it is released; kind 6 with value 2: rule 2 of VCOM, with any other rule 1
unfoldable pub asserts : Event → Bool
asserts e = eqb e.kind 4 && eqb e.value 1

-- 1 command, 2 data, 3 read, 4 reset, 5 advance, 6 VCOM's rule (2026-08); any other kind leaves all as it is. The calls take two
-- conversions (2026-05)
unfoldable pub event_done_by : (Uc8253 → Counting) → Event → World → World
event_done_by clock e w =
    pick (eqb e.kind 1) (did_by clock (command e.time e.value) w)
    (pick (eqb e.kind 2) (did_by clock (datum e.time e.value) w)
    (pick (eqb e.kind 3) (did_by clock (reading e.time) w)
    (pick (eqb e.kind 4) (did_by clock (reset e.time (eqb e.value 1)) w)
    (pick (eqb e.kind 5) (did_by clock (advance e.time) w)
    (pick (eqb e.kind 6) (did_by clock (vcom_rule e.time (eqb e.value 2)) w)
    w)))))

-- by the record's own
unfoldable pub event_done : Event → World → World
event_done e w = event_done_by own e w

-- the number by which that call is turned back; 0 for any other kind
unfoldable pub event_refused : Event → World → ℕ
event_refused e w = pick (between 1 6 e.kind) (turned_back (asserts e) e.time w) 0

-- the byte that a read gave, 256 for none
abbrev pub read_number : Read → ℕ
read_number (Some b) = b
read_number None = 256

-- what a read gave; 257 for an event that is no read
unfoldable pub event_answer : Event → World → ℕ
event_answer e w = pick (eqb e.kind 3) (read_number (read_answer e.time w)) 257

-- the first n events, one after the other
unfoldable pub ran_to : List ℕ → ℕ → World → World
ran_to bytes n w = turns n (λ i v. event_done (event_at bytes i) v) w

-- the same by other conversions
unfoldable pub ran_to_by : (Uc8253 → Counting) → List ℕ → ℕ → World → World
ran_to_by clock bytes n w = turns n (λ i v. event_done_by clock (event_at bytes i) v) w

-- the lent answers, entry i set to the answer of event i for the first n events; past the end nothing is set
unfoldable pub answers_to : List ℕ → ℕ → World → List ℕ → List ℕ
answers_to bytes n w answers = turns n (λ i l. set l i (event_answer (event_at bytes i) (ran_to bytes i w))) answers

unfoldable pub answers_to_by : (Uc8253 → Counting) → List ℕ → ℕ → World → List ℕ → List ℕ
answers_to_by clock bytes n w answers = turns n (λ i l. set l i (event_answer (event_at bytes i) (ran_to_by clock bytes i w))) answers

-- the earlier of two refusals, 0 standing for none
unfoldable pub earlier : ℕ → ℕ → ℕ
earlier r s = pick (eqb r 0) s r

-- the first refusal among the first n events, 0 if there is none
unfoldable pub refused_in : List ℕ → ℕ → World → ℕ
refused_in bytes n w = turns n (λ i r. earlier r (event_refused (event_at bytes i) (ran_to bytes i w))) 0

unfoldable pub refused_in_by : (Uc8253 → Counting) → List ℕ → ℕ → World → ℕ
refused_in_by clock bytes n w = turns n (λ i r. earlier r (event_refused (event_at bytes i) (ran_to_by clock bytes i w))) 0

-- all whole events: the world, the first refusal, the answers
abbrev pub ran : List ℕ → World → World
ran bytes w = ran_to bytes (events_in bytes) w

abbrev pub refused : List ℕ → World → ℕ
refused bytes w = refused_in bytes (events_in bytes) w

abbrev pub answers : List ℕ → List ℕ → World → List ℕ
answers bytes given w = answers_to bytes (events_in bytes) w given
