-- `dumping::playing::play_in` meets its contract: made, read and judged.
use mathlib.Core.Path.{ap, ◌∙◌}
use borrow.Author.Rules.{rules}
use Rattle.base.specs.RefusalNumbers.{number_of}
use Rattle.controller.specs.World.{Buffers, buffers, world}
use Rattle.controller.specs.declared.Uc8253.{Uc8253}
use Rattle.controller.specs.Lent.{held}
use Rattle.shades.proofs.ShadeLaws.{number_err}
use Rattle.showing.proofs.Written.{chip_left}
use Rattle.dumping.proofs.PlayLaws.{came_as, dumps_in}
use Rattle.dumping.proofs.playing.play_in.Goals as goal

pub returns : goal.returns
returns g c =
    let a = c.args in
    let b : Buffers = buffers a.old.now a.new.now a.states.now a.picture.now a.rows.now in
    let t = c.read_dump-c.ensures.read in
    let m = c.make-made.ensures.makes in
    dumps_in (search rules) (search rules) (search rules) (search rules) (search rules)
    (record {
      dump = t.dump;
      came_to = came_as a.config.now c.requires b _ _
          (ap (λ (p : Uc8253). world p (held c.make-made.new.lent)) (chip_left c.make-made.result c.unwrap_or-p.ensures c.zeros.ensures) ∙ m.0)
          (ap number_of c.err.ensures.value ∙ number_err _ ∙ m.1)
          c.came_of.result c.read_dump-c.result.ending t.dump _ _ _ c.came_of.ensures t.tells;
    })
