-- `capture::refusals::all_listed` meets its contract. The invariant: the events passed are listed. The measure is what is left of the count.
use mathlib.Core.Path.{◌≡◌}
use mathlib.Core.Bool.{true}
use Prim.Native.Nat.{◌-◌, ◌≤◌}
use Rattle.capture.specs.Refused.{all_listed}
use Rattle.capture.proofs.refusals.all_listed.Given as goal

abbrev pub invariant-loop-i : goal.invariant-loop-i
invariant-loop-i l = all_listed l.file l.i ≡ true
