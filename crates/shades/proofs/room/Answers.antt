-- `shades::room` meets its contract: the pixels, or those of the largest panel.
use native.Mathlib.Omega.{arith}
use borrow.Author.Rules.{rules}
use Rattle.shades.specs.Shades.{room}
use Rattle.shades.proofs.ShadeLaws.{small}
use Rattle.shades.proofs.room.Goals as goal

pub overflow_mul-pixels : goal.overflow_mul-pixels
overflow_mul-pixels c =
    let p = c.args.p in
    record { fits = omega (arith, small p.config.panel.sources p.config.panel.gates (search rules) (search rules)) }

pub returns : goal.returns
unfolding room
returns c = (omega (arith, c.min.ensures), omega (arith, c.min.ensures))
