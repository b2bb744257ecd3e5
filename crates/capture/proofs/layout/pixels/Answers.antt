-- `capture::layout::pixels` meets its contract: the product of two 16-bit numbers.
use borrow.Author.Rules.{rules}
use native.Mathlib.Omega.{arith}
use Rattle.capture.proofs.LittleLaws.{product_fits}
use Rattle.capture.proofs.layout.pixels.Goals as goal

pub overflow_mul-result : goal.overflow_mul-result
overflow_mul-result c = record { fits = omega (arith, product_fits c.args.c.panel.sources c.args.c.panel.gates (search rules) (search rules)) }
