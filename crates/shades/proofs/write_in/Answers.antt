-- `shades::write_in` meets what it calls asks: what the question leaves is what is to be written.
use mathlib.Core.Path.{ap, ◌∙◌}
use Rattle.base.specs.RefusalNumbers.{number_of}
use Rattle.shades.proofs.ShadeLaws.{none, number_err, shades_from}
use Rattle.shades.proofs.write_in.Goals as goal

pub write_parts-requires : goal.write_parts-requires
write_parts-requires g c =
    let a = c.args in
    let asked = c.wide_picture.ensures none in
    shades_from a.form a.top a.p a.states.now c.requires c.came_by.ensures
    (c.number_of.ensures ∙ ap number_of c.err-refused.ensures.value ∙ number_err _ ∙ asked.0) asked.1
