-- `pixels::is_grey` meets its contract: where the last test is passed, the guess lies between the bounds of the grey's formula.
use Prim.Native.Nat.{◌+◌, ◌-◌, ◌*◌}
use native.Mathlib.Omega.{arith}
use borrow.Author.Tests.{ltb-true}
use Rattle.pixels.proofs.GuessLaws.{grey_below, grey_past}
use Rattle.pixels.proofs.is_grey.Goals as goal

pub returns-then-over-w : goal.returns-then-over-w
returns-then-over-w c = λ e.
    let a = c.args in
    let over = a.x + a.w.whole - 2 * a.q * a.w.whole in
    grey_below a.w.top a.w c.requires.0 a.q c.requires.1 a.x over (omega (arith, c.if-reached-wanted.false)) c.min.result
    (omega (arith, c.min.ensures)) (omega (arith, c.if-w-min.false)) c.if-over-w.true

pub returns-then-past-lt-FAR : goal.returns-then-past-lt-FAR
returns-then-past-lt-FAR c = λ e.
    let a = c.args in
    let over = a.x + a.w.whole - 2 * a.q * a.w.whole in
    grey_past a.w.top a.w c.requires.0 a.q c.requires.1 a.x over (omega (arith, c.if-reached-wanted.false)) c.min.result
    (omega (arith, c.min.ensures)) (omega (arith, c.if-w-min.false)) (over - 2 * a.w.whole) (omega (arith, c.if-over-w.false))
    (ltb-true (a.w.double * (over - 2 * a.w.whole)) (2 * a.q * a.w.rest + a.w.rest) e)
