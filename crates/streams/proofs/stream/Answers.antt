-- `streams::stream` meets its contract: a run, into its plane, where it can be one.
use mathlib.Core.Path.{sym, ap, ◌∙◌}
use Rattle.controller.specs.World.{buffers}
use Rattle.streams.specs.InnerStretch.{calm_with}
use Rattle.streams.proofs.StreamLaws.{stretch_older, stretch_newer}
use Rattle.streams.proofs.stream.Goals as goal

pub returns-in-Older : goal.returns-in-Older
returns-in-Older c =
    let g = c.args in
    stretch_older g.events.now g.from g.p (buffers g.old.now g.new.now g.states.now g.picture.now g.rows.now) _ _ c.flow_into.result
    (sym (c.if-calm.ensures ∙ ap (calm_with g.p) c.lengths_fit-fits.ensures)) c.in-Older.ensures c.flow_into.ensures

pub returns-in-Newer : goal.returns-in-Newer
returns-in-Newer c =
    let g = c.args in
    stretch_newer g.events.now g.from g.p (buffers g.old.now g.new.now g.states.now g.picture.now g.rows.now) _ _ c.flow_into-in-Newer.result
    (sym (c.if-calm-2.ensures ∙ ap (calm_with g.p) c.lengths_fit-fits.ensures)) c.in-Newer.ensures c.flow_into-in-Newer.ensures
