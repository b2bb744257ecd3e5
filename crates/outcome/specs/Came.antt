-- What a file comes to (2026-06): no events, refused by a number, or played.
use Rattle.std.specs.Prelude.{List, ℕ, eqb, length}
use Rattle.base.specs.Pick.{pick}
use Rattle.outcome.specs.declared.Came.{Came}
use Rattle.outcome.specs.declared.Came.TheVariants.{NoEvents, Refused, Played}

-- refused by the number, or played where that is 0
abbrev pub came_by : ℕ → Came
came_by n = pick (eqb n 0) Played (Refused n)

-- for `panel` a file of zero bytes means that there were no events
abbrev pub panel_came : List ℕ → ℕ → Came
panel_came file n = pick (eqb (length file) 0) NoEvents (came_by n)
