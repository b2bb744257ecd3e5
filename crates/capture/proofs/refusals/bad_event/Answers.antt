-- `capture::refusals::bad_event` meets its contract: the tests in turn.
use mathlib.Core.Path.{sym, ◌∙◌}
use Rattle.capture.specs.Refused.{bad_event}
use Rattle.capture.proofs.refusals.bad_event.Goals as goal

pub returns-then-bad_config : goal.returns-then-bad_config
unfolding bad_event
returns-then-bad_config c =
    let t = c.requires in
    let bad = sym c.bad_config.ensures ∙ c.if-bad_config.true in
    rw (← t.offset_is) (simp bad)

pub returns : goal.returns
unfolding bad_event
returns c =
    let t = c.requires in
    let fine = sym c.bad_config.ensures ∙ c.if-bad_config.false in
    rw (← t.offset_is, ← t.count_is, ← c.all_listed.ensures) (simp fine)
