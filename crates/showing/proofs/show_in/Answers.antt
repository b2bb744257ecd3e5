-- `showing::show_in` meets its contract: what is written is what playing came to, and what is lent is what it left.
use mathlib.Core.Path.{ap, ◌∙◌}
use Rattle.base.specs.RefusalNumbers.{number_of}
use Rattle.controller.specs.World.{World, Buffers, buffers, world}
use Rattle.controller.specs.declared.Uc8253.{Uc8253}
use Rattle.controller.specs.Lent.{held}
use Rattle.shades.proofs.ShadeLaws.{number_err}
use Rattle.showing.specs.Output.{came_of}
use borrow.Author.Rules.{rules}
use Rattle.showing.proofs.Fitted.{left_in}
use Rattle.showing.proofs.Written.{written, shaded, chip_left}
use Rattle.showing.proofs.show_in.Goals as goal

pub write-requires : goal.write-requires
write-requires g c =
    let a = c.args in
    let b : Buffers = buffers a.old.now a.new.now a.states.now a.picture.now a.rows.now in
    let m = c.play-played.ensures.makes in
    record {
      end_value = c.requires.reads.end_is;
      output = written a.tone.form a.file.now a.sizes b a.answers.now c.requires.fits c.requires.answers_value _ _ _ _
          (ap (λ (p : Uc8253). world p (held c.play-played.new.lent)) (chip_left c.play-played.result c.unwrap_or-chip.ensures c.zeros.ensures) ∙ m.0)
          (c.came_of.ensures ∙ ap (came_of a.tone.form a.file.now) (c.number_of-number.ensures ∙ ap number_of c.err.ensures.value ∙ number_err _ ∙ m.1))
          c.play-played.ensures.answers_after;
    }

pub write_at-requires : goal.write_at-requires
write_at-requires g c =
    let a = c.args in
    let b : Buffers = buffers a.old.now a.new.now a.states.now a.picture.now a.rows.now in
    shaded a.tone.form c.in-Some.top a.file.now a.sizes b c.requires.fits _ _
    (ap (λ (p : Uc8253). world p (held c.play-played.new.lent)) (chip_left c.play-played.result c.unwrap_or-chip.ensures c.zeros.ensures) ∙ c.play-played.ensures.makes.0)

pub returns-in-Some : goal.returns-in-Some
returns-in-Some g c =
    left_in (search rules) (search rules) (search rules) (search rules) (search rules) (ap (λ (w : World). w.lent) c.play-played.ensures.makes.0)

pub returns : goal.returns
returns g c =
    left_in (search rules) (search rules) (search rules) (search rules) (search rules) (ap (λ (w : World). w.lent) c.play-played.ensures.makes.0)
