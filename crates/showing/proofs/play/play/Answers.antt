-- `showing::play::play` meets its contract: made and run, or refused.
use mathlib.Core.Path.{refl, sym, subst}
use Prim.Native.Nat.{ℕ, ◌≤◌}
use lib.ListN.{length}
use lib.Seq.{length-take-le}
use Rattle.base.proofs.RefusalWords.{taken, turned, handed_on}
use Rattle.capture.proofs.CaptureLaws.{events_within}
use Rattle.controller.specs.Lent.{held}
use Rattle.showing.proofs.FileLaws.{program_number, play_no, play_no_answers, play_no_number, play_yes, play_yes_answers, play_yes_number}
use Rattle.showing.proofs.play.play.Goals as goal

pub slice_bounds-play-end : goal.slice_bounds-play-end
slice_bounds-play-end c =
    let file = c.args.file.now in
    sym (length-take-le _ file (subst (λ (n : ℕ). n ≤ length file) (sym c.requires.end_is) (events_within file)))

pub returns-in_err-refusal-clause-makes : goal.returns-in_err-refusal-clause-makes
returns-in_err-refusal-clause-makes c =
    let a = c.args in
    let n = program_number a.file.now a.c c.requires a.form _ c.in_err-refusal.ensures in
    let h = turned _ n in
    rw (handed_on _ _ c.from_residual.ensures.1) (
      play_no a.form a.file.now (held a.lent.now) h _ refl,
      play_no_number a.form a.file.now (held a.lent.now) h _ n,
    )

pub returns-in_err-refusal-clause-answers_after : goal.returns-in_err-refusal-clause-answers_after
returns-in_err-refusal-clause-answers_after c =
    let a = c.args in
    let n = program_number a.file.now a.c c.requires a.form _ c.in_err-refusal.ensures in
    play_no_answers a.form a.file.now (held a.lent.now) (turned _ n) a.answers.now

pub returns-clause-makes : goal.returns-clause-makes
returns-clause-makes c =
    let a = c.args in
    let h = taken (program_number a.file.now a.c c.requires a.form _ c.in_ok-refusal.ensures) in (
      play_yes a.file.now a.c c.requires a.form (held a.lent.now) h _ c.play.ensures.makes.0,
      play_yes_number a.file.now a.c c.requires a.form (held a.lent.now) h _ c.play.ensures.makes.1,
    )

pub returns-clause-answers_after : goal.returns-clause-answers_after
returns-clause-answers_after c =
    let a = c.args in
    let h = taken (program_number a.file.now a.c c.requires a.form _ c.in_ok-refusal.ensures) in
    play_yes_answers a.file.now a.c c.requires a.form (held a.lent.now) h a.answers.now _ c.play.ensures.answers_after
