-- `showing::show_front` meets its contract: the front of what is lent is cut to the panel's size, and what lies behind it stays.
use mathlib.Core.Path.{refl}
use Rattle.controller.specs.World.{Buffers, buffers}
use Rattle.showing.proofs.Fitted.{size_read, fits_cut, left_by_lem}
use Rattle.showing.proofs.show_front.Goals as goal

pub show_in-requires : goal.show_in-requires
show_in-requires g c =
    let a = c.args in
    let b : Buffers = buffers a.old.now a.new.now a.states.now a.picture.now a.rows.now in
    let p = size_read a.file.now _ _ c.read-c.ensures.config_is c.pixels-pixels.ensures in record {
      reads = c.read-c.ensures;
      fits = fits_cut a.file.now b _ _ _ p c.min-n.ensures c.min-q.ensures;
      answers_value = refl;
    }

pub returns : goal.returns
returns g c =
    let a = c.args in
    let b : Buffers = buffers a.old.now a.new.now a.states.now a.picture.now a.rows.now in
    let p = size_read a.file.now _ _ c.read-c.ensures.config_is c.pixels-pixels.ensures in
    left_by_lem a.file.now b _ _ _ p c.min-n.ensures c.min-q.ensures a.tone.form _ c.show_in.ensures
