-- `capture::layout::word` meets its contract: a file that is too short is read from its start.
use mathlib.Core.Path.{◌≡◌, ap, ◌∙◌}
use Prim.Native.Nat.{ℕ, ◌-◌}
use native.Mathlib.Omega.{arith}
use lib.ListN.{length}
use Rattle.capture.specs.Little.{little}
use Rattle.capture.proofs.layout.word.Goals as goal

pub returns-then-file-back : goal.returns-then-file-back
returns-then-file-back c =
    let f = c.args.file.now in
    let e : 0 ≡ length f - c.args.back = omega arith in
    (c.number.ensures.0 ∙ ap (λ (p : ℕ). little f p 4) e, c.number.ensures.1)
