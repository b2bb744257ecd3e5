-- `capture::words::little` meets its contract: n is held to 8.
use mathlib.Core.Path.{◌≡◌, ap, ◌∙◌}
use Prim.Native.Nat.{min}
use native.Mathlib.Omega.{arith}
use Rattle.capture.specs.Little.{little}
use Rattle.capture.proofs.words.little.Goals as goal

pub returns-then-n-le-MOST : goal.returns-then-n-le-MOST
returns-then-n-le-MOST c =
    let a = c.args in
    let e : a.n ≡ min a.n 8 = omega arith in
    c.number.ensures.0 ∙ ap (little a.bytes.now a.at) e

pub returns : goal.returns
returns c =
    let a = c.args in
    let e : 8 ≡ min a.n 8 = omega arith in
    c.number-2.ensures.0 ∙ ap (little a.bytes.now a.at) e
