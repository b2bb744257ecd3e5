-- `dumping::playing::play_front` meets its contract: the front of what is lent is cut to the panel's size.
use Rattle.controller.specs.World.{Buffers, buffers}
use Rattle.dumping.proofs.PlayLaws.{fitted_dumps, size_is}
use Rattle.dumping.proofs.playing.play_front.Goals as goal

pub returns : goal.returns
returns g c =
    let a = c.args in
    let b : Buffers = buffers a.old.now a.new.now a.states.now a.picture.now a.rows.now in
    let p = size_is a.config.now _ _ c.config_of.ensures c.pixels-most.ensures in
    fitted_dumps a.config.now b _ _ _ p c.min-n.ensures c.min-q.ensures
    c.play_in.result _ _ _ c.play_in.auto.states c.play_in.auto.picture c.play_in.ensures
