-- 2026-01: a level for the signals of a code: what it does to the bus, and the events that it makes.
use Rattle.std.specs.Prelude.{List, [], ℕ, get_or}
use Rattle.base.specs.Pick.{pick}
use Rattle.base.specs.Turns.{turns}
use Rattle.base.specs.InTurn.{in_turn}
use Rattle.event.specs.declared.Event.{Event}
use Rattle.vcd_words.specs.Words.{alike}
use Rattle.vcd_bus.specs.declared.Bus.{Bus}
use Rattle.vcd_bus.specs.Signals.{after, makes}

-- the first n of the signals, those whose code this is, in the order named
unfoldable pub after_code : List (List ℕ) → List ℕ → ℕ → ℕ → Bus → Bus
after_code codes code n v b = turns n (λ i c. pick (alike (get_or codes i []) code) (after i v c) c) b

unfoldable pub code_makes : List (List ℕ) → List ℕ → ℕ → ℕ → ℕ → Bus → List Event
code_makes codes code n t v b =
    in_turn n (λ i. pick (alike (get_or codes i []) code) (makes i t v (after_code codes code i v b)) [])
