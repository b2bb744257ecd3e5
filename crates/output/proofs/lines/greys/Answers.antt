-- `output::lines::greys` meets its contract: the first grey, and then each behind a blank.
use Rattle.std.proofs.Common.{◌∙◌, ap, List, ℕ}
use Rattle.text.specs.Text.{put}
use Rattle.text.proofs.Filling.{put_put}
use Rattle.output.proofs.Words.{greys_row, greys_none}
use Rattle.output.proofs.lines.greys.Goals.{in-Some+else-loop-x-test, in_default}
use Rattle.output.proofs.lines.greys.Goals as goal

pub returns : goal.returns
returns c =
    let t = c.args.text.now in
    let row = c.args.row.now in
    elim c.match-split_first.branch [
      | in-Some+else-loop-x-test w ↦
          c.byte.ensures
          ∙ rw (w.text-is, w.loop-x.invariant, w.decimal.ensures, put_put, put_put)
          (ap (λ (u : List ℕ). put u t) (greys_row row w.in-Some.rest.now w.in-Some.first.now _ w.in-Some.ensures.cases.0 w.loop-x-test.false))
      | in_default w ↦ c.byte.ensures ∙ rw w.text-is (ap (λ (u : List ℕ). put u t) (greys_none row w.in_default.ensures.cases))
    ]
