-- `events::run` meets its contract. The invariant: after i events the world, the answers and the refusal are what the definition has after i. The measure is the events left.
use Prim.Native.Nat.{ℕ, ◌-◌, ◌≤◌}
use Rattle.base.specs.RefusalNumbers.{number_of}
use Rattle.controller.specs.World.{world}
use Rattle.controller.specs.Lent.{held, Same}
use Rattle.events.proofs.Going.{Going}
use Rattle.events.proofs.run.Given as goal

abbrev pub invariant-loop-i : goal.invariant-loop-i
invariant-loop-i l = record {
  going : Going l.events l.i (world l.initial.chip (held l.initial.lent)) (world l.chip (held l.lent)) l.initial.answers l.answers (number_of l.refused);
  kept : Same l.initial.lent l.lent;
  inside : l.i ≤ l.count;
}

abbrev pub decreases-loop-i : goal.decreases-loop-i
decreases-loop-i l = l.count - l.i
