-- `differences::places::first_place` meets its contract: what is looked for is the first from entry i on.
use Rattle.std.proofs.Common.{◌≡◌, sym, ◌∙◌, arith}
use borrow.Author.Tests.{not-true, not-false}
use Rattle.differences.proofs.PlaceLaws.{place_here, place_later, place_nowhere, place_end}
use Rattle.differences.proofs.places.first_place.Goals as goal

pub returns-then-ne : goal.returns-then-ne
returns-then-ne g c =
    place_here g.T.PartialEq.eq c.args.a.now c.args.b.now c.loop-i.i _ _ (omega arith) (omega arith) c.index-a-i.is c.index-b-i.is
    (not-true _ (sym c.ne.ensures ∙ c.if-ne.true))
    ∙ sym c.loop-i.invariant

pub loop-i-preserved : goal.loop-i-preserved
loop-i-preserved g c =
    c.loop-i.invariant
    ∙ place_later g.T.PartialEq.eq c.args.a.now c.args.b.now c.loop-i.i _ _ (omega arith) (omega arith) c.index-a-i.is c.index-b-i.is
    (not-false _ (sym c.ne.ensures ∙ c.if-ne.false))

pub returns-then-a-b : goal.returns-then-a-b
returns-then-a-b g c = place_nowhere g.T.PartialEq.eq c.args.a.now c.args.b.now c.loop-i.i (omega arith) c.if-a-b.true ∙ sym c.loop-i.invariant

pub returns-else-a-b : goal.returns-else-a-b
returns-else-a-b g c =
    let e : c.loop-i.i ≡ c.min-n.result = omega arith in
    rw (← e) (place_end g.T.PartialEq.eq c.args.a.now c.args.b.now c.loop-i.i (omega arith) c.if-a-b.false ∙ sym c.loop-i.invariant)
