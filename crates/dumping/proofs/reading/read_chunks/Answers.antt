-- `dumping::reading::read_chunks` meets its contract: chunk after chunk.
use mathlib.Core.Path.{sym, ◌∙◌}
use borrow.Author.Rules.{rules}
use Rattle.events.proofs.Going.{same_more}
use Rattle.dumping.proofs.ReadLaws.{stood_begins, stood_from}
use Rattle.dumping.proofs.reading.read_chunks.Goals as goal

pub chunks-init : goal.chunks-init
chunks-init g c =
    let a = c.args in record {
      stood = stood_begins a.p c.begin-g.result a.kept.now a.word.now _ c.begin-g.ensures;
      on = c.begin-g.ensures.on;
      same = search rules;
    }

pub returns-then-not-goes_on-clause-stood : goal.returns-then-not-goes_on-clause-stood
returns-then-not-goes_on-clause-stood g c =
    stood_from c.args.p _ _ _ _ _ _ c.begin-g.ensures.chip_is (c.next_chunk-g.ensures.stood _ c.chunks.invariant.stood)

pub chunks-preserved : goal.chunks-preserved
chunks-preserved g c = record {
  stood = c.next_chunk-g.ensures.stood _ c.chunks.invariant.stood;
  on = sym c.goes_on.ensures ∙ c.if-not-goes_on.false;
  same = same_more c.chunks.invariant.same c.next_chunk-g.ensures.same;
}

pub returns-clause-stood : goal.returns-clause-stood
returns-clause-stood g c = stood_from c.args.p _ _ _ _ _ _ c.begin-g.ensures.chip_is c.chunks.invariant.stood
