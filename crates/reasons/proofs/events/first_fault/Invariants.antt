-- `reasons::events::first_fault` meets its contract: what is looked for is the first from event i on.
use Rattle.std.proofs.Common.{◌≡◌, ◌-◌}
use Rattle.reasons.specs.Reasons.{first_fault}
use Rattle.reasons.proofs.events.first_fault.Given as goal

abbrev pub invariant-loop-i : goal.invariant-loop-i
invariant-loop-i l = first_fault l.file 0 l.count ≡ first_fault l.file l.i (l.count - l.i)
