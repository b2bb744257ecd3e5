-- `capture::words::byte` meets its contract: past the end, 0.
use mathlib.Core.Path.{sym}
use native.Mathlib.Omega.{arith}
use Rattle.base.proofs.Lists.{get_d_past}
use Rattle.capture.proofs.words.byte.Goals as goal

pub returns-then-bytes-at : goal.returns-then-bytes-at
returns-then-bytes-at c =
    let a = c.args in
    sym (get_d_past a.bytes.now _ 0 (omega arith))

pub returns-then-bytes-at-2 : goal.returns-then-bytes-at-2
returns-then-bytes-at-2 c =
    let a = c.args in
    sym (get_d_past a.bytes.now _ 0 (omega arith))
