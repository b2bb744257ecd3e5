-- `events::mark` meets its contract. The invariant: the first k are marked.
use mathlib.Core.Path.{◌≡◌, refl, ap, ◌∙◌}
use mathlib.Core.List.{List}
use Prim.Native.Nat.{ℕ, ◌+◌, ◌-◌, ◌≤◌}
use borrow.Author.Rules.{rules}
use native.Mathlib.Omega.{arith}
use lib.ListN.{length, set}
use Rattle.base.proofs.Turns.{turns_more}
use Rattle.streams.specs.InnerStretch.{marked}
use Rattle.events.proofs.SomeLaws.{marked_length}
use Rattle.events.proofs.mark.Given as goal

abbrev pub invariant-loop-k : goal.invariant-loop-k
invariant-loop-k l = (l.answers ≡ marked l.from l.k l.initial.answers) × (l.k ≤ l.count)

abbrev pub decreases-loop-k : goal.decreases-loop-k
decreases-loop-k l = l.count - l.k
