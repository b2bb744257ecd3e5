-- `dumping::reading::play_chunk` meets its contract: piece by piece.
use mathlib.Core.Path.{sym, ◌∙◌}
use native.Mathlib.Omega.{arith}
use borrow.Author.Rules.{rules}
use lib.Seq.{take_all}
use Rattle.events.proofs.Going.{same_more}
use Rattle.dumping.proofs.ReadLaws.{along_start, along_all, along_more, along_stops}
use Rattle.dumping.proofs.reading.play_chunk.Goals as goal

pub loop-from-init : goal.loop-from-init
loop-from-init c = record {
  along = along_start c.args.bytes.now c.args.g c.args.kept.now c.args.word.now _ c.requires;
  same = search rules;
}

pub returns-then-not-goes_on-clause-plays : goal.returns-then-not-goes_on-clause-plays
returns-then-not-goes_on-clause-plays c =
    along_stops c.args.bytes.now c.args.g.reader c.loop-from.q c.loop-from.from c.args.kept.now
    c.args.word.now c.loop-from.kept c.loop-from.word _ _ c.loop-from.invariant.along _ (omega (arith, c.piece-to.ensures.0)) _
    _ _ _ c.play_piece-q.ensures.steps (sym c.goes_on.ensures ∙ c.if-not-goes_on.true)

pub loop-from-smaller : goal.loop-from-smaller
loop-from-smaller c =
    omega (arith, c.piece-to.ensures.0, c.piece-to.ensures.1, c.loop-from-test.true)

pub loop-from-preserved : goal.loop-from-preserved
loop-from-preserved c = record {
  along = along_more c.args.bytes.now c.args.g.reader c.loop-from.q c.loop-from.from c.args.kept.now
      c.args.word.now c.loop-from.kept c.loop-from.word _ _ c.loop-from.invariant.along _ (omega (arith, c.piece-to.ensures.0)) _
      _ _ _ c.play_piece-q.ensures.steps (sym c.goes_on.ensures ∙ c.if-not-goes_on.false);
  same = same_more c.loop-from.invariant.same c.play_piece-q.ensures.same;
}

pub returns-clause-plays : goal.returns-clause-plays
returns-clause-plays c =
    along_all c.args.bytes.now c.args.g.reader c.loop-from.q c.loop-from.from c.args.kept.now
    c.args.word.now c.loop-from.kept c.loop-from.word _ _ c.loop-from.invariant.along c.loop-from-test.false
    (take_all c.loop-from.from c.args.bytes.now c.loop-from-test.false)
