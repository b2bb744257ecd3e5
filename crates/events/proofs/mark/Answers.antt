-- `events::mark` meets its contract. The invariant: the first k are marked.
use mathlib.Core.Path.{◌≡◌, refl, ap, ◌∙◌}
use mathlib.Core.List.{List}
use Prim.Native.Nat.{ℕ, ◌+◌, ◌-◌, ◌≤◌}
use borrow.Author.Rules.{rules}
use native.Mathlib.Omega.{arith}
use lib.ListN.{length, set}
use Rattle.base.proofs.Turns.{turns_more}
use Rattle.streams.specs.InnerStretch.{marked}
use Rattle.events.proofs.SomeLaws.{marked_length}
use Rattle.events.proofs.mark.Goals as goal

pub loop-k-init : goal.loop-k-init
loop-k-init c = (refl, omega arith)

pub overflow_add-from : goal.overflow_add-from
overflow_add-from c = omega (arith, c.loop-k-test.true, c.requires)

pub overflow_add-k : goal.overflow_add-k
overflow_add-k c = omega (arith, c.loop-k-test.true, c.requires)

pub loop-k-smaller : goal.loop-k-smaller
loop-k-smaller c = omega (arith, c.loop-k-test.true)

pub loop-k-preserved : goal.loop-k-preserved
loop-k-preserved c = (c.put.ensures ∙ ap (λ (l : List ℕ). set l (c.args.from + c.loop-k.k) 257) c.loop-k.invariant.0 ∙ turns_more c.loop-k.k (λ j l. set l (c.args.from + j) 257) c.args.answers.now, omega (arith, c.loop-k-test.true))

pub shape_of-answers : goal.shape_of-answers
shape_of-answers c = ap (λ (l : List ℕ). length l) c.loop-k.invariant.0 ∙ marked_length c.args.from c.loop-k.k c.args.answers.now

pub returns : goal.returns
returns c =
    let e : c.loop-k.k ≡ c.args.count = omega (arith, c.loop-k.invariant.1, c.loop-k-test.false) in
    c.loop-k.invariant.0 ∙ ap (λ (n : ℕ). marked c.args.from n c.args.answers.now) e
