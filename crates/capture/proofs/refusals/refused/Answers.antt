-- `capture::refusals::refused` meets its contract: the tests in document 01's order.
use mathlib.Core.Path.{sym, ap, ◌∙◌}
use Rattle.config.specs.Refusal.{refusal}
use Rattle.capture.proofs.CaptureLaws.{broken_first, event_second, config_third}
use Rattle.capture.proofs.refusals.refused.Goals as goal

pub returns-then-broken : goal.returns-then-broken
returns-then-broken c = sym (broken_first c.args.file.now (sym c.broken.ensures ∙ c.if-broken.true))

pub returns-then-bad_event : goal.returns-then-bad_event
returns-then-bad_event c =
    let f = c.args.file.now in
    sym (event_second f (sym c.broken.ensures ∙ c.if-broken.false) (sym c.bad_event.ensures ∙ c.if-bad_event.true))

pub returns : goal.returns
returns c =
    c.validate.ensures
    ∙ ap refusal c.requires.config_value
    ∙ sym (config_third c.args.file.now (sym c.broken.ensures ∙ c.if-broken.false) (sym c.bad_event.ensures ∙ c.if-bad_event.false))
