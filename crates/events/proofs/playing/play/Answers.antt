-- `events::playing::play` meets its contract: the making, then the run of the events.
use Rattle.controller.specs.Lent.{held}
use Rattle.base.proofs.RefusalWords.{taken, turned, handed_on}
use Rattle.events.proofs.PlayLaws.{making_no, answers_no, making_yes, answers_yes}
use Rattle.events.proofs.playing.play.Goals as goal

pub returns-in_err-chip-clause-makes : goal.returns-in_err-chip-clause-makes
returns-in_err-chip-clause-makes c =
    let a = c.args in
    let m = c.in_err-chip.ensures.makes in
    rw (handed_on _ _ c.from_residual.ensures.1) (making_no a.config a.events.now (held a.lent.now) (turned _ m.1) _ m.0, m.1)

pub returns-in_err-chip-clause-answers_after : goal.returns-in_err-chip-clause-answers_after
returns-in_err-chip-clause-answers_after c =
    let a = c.args in answers_no a.config a.events.now (held a.lent.now) (turned _ c.in_err-chip.ensures.makes.1) a.answers.now

pub returns-clause-makes : goal.returns-clause-makes
returns-clause-makes c =
    let a = c.args in
    let m = c.in_ok-chip.ensures.makes in
    (making_yes a.config a.events.now (held a.lent.now) (taken m.1) _ m.0 _ c.run-ran.ensures.done.0, m.1)

pub returns-clause-answers_after : goal.returns-clause-answers_after
returns-clause-answers_after c =
    let a = c.args in
    let m = c.in_ok-chip.ensures.makes in
    answers_yes a.config a.events.now (held a.lent.now) (taken m.1) _ m.0 a.answers.now _ c.run-ran.ensures.gives
