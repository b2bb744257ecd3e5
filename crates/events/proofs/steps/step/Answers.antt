-- `events::steps::step` meets its contract: each arm's call is what the definition has for its kind.
use mathlib.Core.Path.{refl, ap, ◌∙◌}
use borrow.Author.Rules.{rules}
use Rattle.std.proofs.Common.{None}
use Rattle.base.proofs.RefusalWords.{number_either}
use Rattle.controller.specs.World.{world}
use Rattle.controller.specs.Lent.{held}
use Rattle.event.proofs.EventLaws.{does_command, does_data, does_read, does_reset, does_advance, does_rule, does_nothing, number_in}
use Rattle.events.proofs.Stepping.{stepped}
use Rattle.events.proofs.steps.step.Goals as goal

pub returns-in-1 : goal.returns-in-1
returns-in-1 c =
    let a = c.args in
    let w = world a.p (held a.lent.now) in
    let g = c.write_command in
    let whole = stepped a.event w _ _ _ c.no_read.ensures (does_command a.event w _ _ c.in-1.is g.ensures.called.0 (number_either _ ∙ g.ensures.called.1)) in
    record { done = whole.0; gives = whole.1; kept = g.ensures.kept }

pub returns-in-2 : goal.returns-in-2
returns-in-2 c =
    let a = c.args in
    let w = world a.p (held a.lent.now) in
    let g = c.write_data in
    let whole = stepped a.event w _ _ _ c.no_read-in-2.ensures (does_data a.event w _ _ c.in-2.is g.ensures.called.0 (number_either _ ∙ g.ensures.called.1)) in
    record { done = whole.0; gives = whole.1; kept = g.ensures.kept }

pub returns-in-3 : goal.returns-in-3
returns-in-3 c =
    let a = c.args in
    let w = world a.p (held a.lent.now) in
    let g = c.read_data in
    let whole = stepped a.event w _ _ _ c.with_byte.ensures (does_read a.event w _ _ _ c.in-3.is g.ensures.called.0 (number_either _ ∙ g.ensures.called.1) (ap number_in g.ensures.answers)) in
    record { done = whole.0; gives = whole.1; kept = g.ensures.kept }

pub returns-in-4 : goal.returns-in-4
returns-in-4 c =
    let a = c.args in
    let w = world a.p (held a.lent.now) in
    let g = c.set_reset in
    let whole = stepped a.event w _ _ _ c.no_read-in-4.ensures (does_reset a.event w _ _ c.in-4.is g.ensures.called.0 (number_either _ ∙ g.ensures.called.1)) in
    record { done = whole.0; gives = whole.1; kept = g.ensures.kept }

pub returns-in-5 : goal.returns-in-5
returns-in-5 c =
    let a = c.args in
    let w = world a.p (held a.lent.now) in
    let g = c.advance in
    let whole = stepped a.event w _ _ _ c.no_read-in-5.ensures (does_advance a.event w _ _ c.in-5.is g.ensures.called.0 (number_either _ ∙ g.ensures.called.1)) in
    record { done = whole.0; gives = whole.1; kept = g.ensures.kept }

pub returns-in-6 : goal.returns-in-6
returns-in-6 c =
    let a = c.args in
    let w = world a.p (held a.lent.now) in
    let g = c.set_vcom_rule in
    let whole = stepped a.event w _ _ _ c.no_read-in-6.ensures (does_rule a.event w _ _ c.in-6.is g.ensures.called.0 (number_either _ ∙ g.ensures.called.1)) in
    record { done = whole.0; gives = whole.1; kept = g.ensures.kept }

pub returns-in_default : goal.returns-in_default
returns-in_default c =
    let a = c.args in
    let w = world a.p (held a.lent.now) in
    let whole = stepped a.event w _ None _ refl (does_nothing a.event w c.in_default.in_default-own.rest) in
    record { done = whole.0; gives = whole.1; kept = search rules }
