-- `pixels::all_states` meets its contract. The invariant: whether the states passed by are in range, and what is left, decide.
use mathlib.Core.Path.{◌≡◌}
use mathlib.Core.Bool.{false}
use lib.ListN.{drop}
use Rattle.base.specs.Pick.{pick}
use Rattle.pixels.specs.Lists.{every}
use Rattle.pixels.specs.States.{is_state}
use Rattle.pixels.proofs.all_states.Given as goal

abbrev pub invariant-loop-z : goal.invariant-loop-z
invariant-loop-z l =
    pick l.all (every (is_state l.swing) (drop l.z-index l.states)) false ≡ every (is_state l.swing) l.states
