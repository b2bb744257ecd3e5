-- `config::some_zero` meets its contract. The loop's invariant: none of the periods passed is 0.
use mathlib.Core.Path.{◌≡◌, refl, sym, ◌∙◌}
use mathlib.Core.Bool.{false}
use Prim.Native.Nat.{◌-◌, ◌≤◌}
use native.Mathlib.Omega.{arith}
use native.Mathlib.Numerals.{add-one}
use borrow.Author.Rules.{rules}
use borrow.Author.Tests.{ne_eqb}
use Rattle.config.specs.Refusal.{some_zero}
use Rattle.config.proofs.RefusalLaws.{zero_seen}
use Rattle.config.proofs.some_zero.Goals as goal

pub returns-then-periods-i-eq0 : goal.returns-then-periods-i-eq0
returns-then-periods-i-eq0 c = sym (zero_seen c.args.periods 32 c.loop-i.i (omega arith) c.if-periods-i-eq0.true)

pub returns : goal.returns
returns c =
    let l = c.loop-i in
    let e : l.i ≡ 32 = omega arith in
    sym l.invariant.0 ∙ rw e
