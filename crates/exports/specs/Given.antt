-- What the calls and the questions give to another language.
use Rattle.std.specs.Prelude.{None, Some, ◌≡◌, Bool, true, false, ◌||◌, not, List, ℕ, eqb}
use Rattle.base.specs.Pick.{pick}
use Rattle.config.specs.declared.Uc8253Config.{Uc8253Config}
use Rattle.controller.specs.declared.Uc8253.{Uc8253}
use Rattle.controller.specs.World.{World, Buffers, world}
use Rattle.controller.specs.TurnedBack.{foreign_record, lent_fits, making_refused}
use Rattle.controller.specs.Calls.{made}
use Rattle.controller.specs.Ask.{Ask, Answer, nothing, byte, count, low, due, bit, part, wide, did, refused_by, answered}
use Rattle.exports.specs.Apart.{Over, before, after}
use Rattle.event.specs.Events as runs
use Rattle.exports.specs.declared.Given.{Given}
use Rattle.exports.specs.declared.Asked.{Asked}
use Rattle.exports.specs.declared.handed.Handed.{Handed}
use Rattle.exports.specs.Handed.{handed_of}
use Rattle.exports.specs.Taken.{record_taken}

-- after a call: the record that was handed in where the call was turned back, else the numbers of the record after it
abbrev pub given_of : Handed → Uc8253 → ℕ → ℕ → Given
given_of h q n x = record { chip = pick (eqb n 0) (handed_of q) h; refused = n; answer = x }

-- the answer of a call as a number: the byte of a read, 256 for none; how many rows were taken; 257 for a call that answers nothing
abbrev pub answer_number : Answer → ℕ
answer_number nothing = 257
answer_number (byte b) = runs.read_number b
answer_number (count n) = n
answer_number (low b) = 257
answer_number (due d) = 257
answer_number (bit f) = 257
answer_number (part l) = 257
answer_number (wide l) = 257

-- a call on the record of the numbers, with what is lent
abbrev pub given : Ask → Handed → Buffers → Given
given a h b =
    let w = world (record_taken h) b in
    given_of h (did a w).chip (refused_by a w) (answer_number (answered a w))

abbrev pub Passes : Ask → Handed → Given → Over (Type 0)
Passes a h g old new states picture rows =
    let b = before old new states picture rows in
    (g ≡ given a h b) × (after old new states picture rows ≡ (did a (world (record_taken h) b)).lent)

-- a making: the numbers of the record that it gives, of zeros where it is refused
abbrev pub made_given : Uc8253Config → Buffers → Given
made_given c b = record { chip = handed_of (made c b).chip; refused = making_refused c b; answer = 257 }

-- a run of events: where the record is foreign or what is lent does not fit, every event is turned back, and the record that was handed in
-- is given back
abbrev pub turns_all_back : Uc8253 → Buffers → Bool
turns_all_back p b = foreign_record p || not (lent_fits p.config b)

abbrev pub ran_given : List ℕ → Handed → Buffers → Given
ran_given events h b =
    let w = world (record_taken h) b in
    record {
      chip = pick (turns_all_back (record_taken h) b) h (handed_of (runs.ran events w).chip);
      refused = runs.refused events w;
      answer = 257;
    }

-- the answer to a question: 1 where the busy pin is low; the time at which what runs ends; a bit. It is known where there is one
abbrev pub asked_of : ℕ → Answer → Asked
asked_of n (low b) = record { value = pick b 1 0; refused = n; known = eqb n 0 }
asked_of n (due (Some t)) = record { value = t; refused = n; known = true }
asked_of n (due None) = record { value = 0; refused = n; known = false }
asked_of n (bit (Some b)) = record { value = b; refused = n; known = true }
asked_of n (bit None) = record { value = 0; refused = n; known = false }
asked_of n nothing = record { value = 0; refused = n; known = false }
asked_of n (byte r) = record { value = 0; refused = n; known = false }
asked_of n (count m) = record { value = 0; refused = n; known = false }
asked_of n (part l) = record { value = 0; refused = n; known = false }
asked_of n (wide l) = record { value = 0; refused = n; known = eqb n 0 }

-- a question about the record of the numbers, with what is lent
abbrev pub asked : Ask → Handed → Buffers → Asked
asked a h b =
    let w = world (record_taken h) b in
    asked_of (refused_by a w) (answered a w)
