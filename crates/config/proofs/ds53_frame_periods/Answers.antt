-- `config::ds53_frame_periods` meets its contract. The loop's invariant: the first numbers are the periods of the codes passed.
use mathlib.Core.Path.{◌≡◌, refl}
use Prim.Native.Nat.{◌-◌, ◌≤◌}
use native.Mathlib.Omega.{arith}
use borrow.Author.Rules.{rules}
use lib.ListN.{length, take, length-set}
use Rattle.base.proofs.Listed.{filled_more, filled}
use Rattle.config.specs.X3.{ds53, periods_to}
use Rattle.config.proofs.ds53_frame_periods.Goals as goal

pub loop-code-init : goal.loop-code-init
loop-code-init c = (refl, omega arith, refl)

pub loop-code-smaller : goal.loop-code-smaller
loop-code-smaller c = omega arith

pub loop-code-preserved : goal.loop-code-preserved
loop-code-preserved c =
    let l = c.loop-code in (
      filled_more l.periods l.code ds53 l.invariant.0 _ c.ds53_frame_period.ensures (omega arith),
      omega arith,
      simp length-set l.invariant.2,
    )

pub returns : goal.returns
returns c =
    let l = c.loop-code in
    filled l.periods l.code ds53 l.invariant.0 32 l.invariant.2 (omega arith)
