-- `glass::gray` meets its contract. Below 2 ^ 54 the formula's own numbers fit 64 bits.
use Prim.Native.Nat.{◌+◌, ◌*◌}
use native.Mathlib.Nat.{div-zero}
use native.Mathlib.Omega.{arith}
use Rattle.glass.proofs.GrayLaws.{quotient, rounded_fits, gray_white}
use Rattle.glass.proofs.gray.Goals as goal

pub returns-then-swing-eq0 : goal.returns-then-swing-eq0
returns-then-swing-eq0 c = rw c.if-swing-eq0.true (omega (arith, div-zero (2 * (c.args.state * 255) + 0)))

pub returns-else-swing-eq0 : goal.returns-else-swing-eq0
returns-else-swing-eq0 c = gray_white 255 c.args.state c.args.swing (omega arith) (omega arith)

pub overflow_cast-result : goal.overflow_cast-result
overflow_cast-result c =
    let a = c.args in
    record { fits = omega (arith, quotient 255 a.state a.swing, rounded_fits 255 a.state a.swing (omega arith) (omega arith)) }

pub returns-then-swing-lt18014398509481984 : goal.returns-then-swing-lt18014398509481984
returns-then-swing-lt18014398509481984 c =
    let a = c.args in
    omega (arith, quotient 255 a.state a.swing, rounded_fits 255 a.state a.swing (omega arith) (omega arith))
