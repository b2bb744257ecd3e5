-- `config::some_zero` meets its contract. The loop's invariant: none of the periods passed is 0.
use mathlib.Core.Path.{◌≡◌, refl, sym, ◌∙◌}
use mathlib.Core.Bool.{false}
use Prim.Native.Nat.{◌-◌, ◌≤◌}
use native.Mathlib.Omega.{arith}
use native.Mathlib.Numerals.{add-one}
use borrow.Author.Rules.{rules}
use borrow.Author.Tests.{ne_eqb}
use Rattle.config.specs.Refusal.{some_zero}
use Rattle.config.proofs.RefusalLaws.{zero_seen}
use Rattle.config.proofs.some_zero.Given as goal

abbrev pub invariant-loop-i : goal.invariant-loop-i
invariant-loop-i l = (some_zero l.periods l.i ≡ false) × (l.i ≤ 32)

abbrev pub decreases-loop-i : goal.decreases-loop-i
decreases-loop-i l = 32 - l.i
