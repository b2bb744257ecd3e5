-- `pixels::draw` meets its contract. The invariant: the entries whose turn has come are drawn (`Changed`).
use Prim.Native.Nat.{ℕ}
use borrow.Author.Rules.{rules}
use native.Mathlib.Omega.{arith}
use lib.IntN.{pos}
use lib.ListN.{get_or}
use mir.Syntax.{w64}
use mir.Val.{SFits}
use mir.Facts.{to_z-of_z}
use mathlib.Core.Path.{ap, ◌∙◌}
use Rattle.base.specs.Integer.{up}
use Rattle.glass.specs.Gray.{gray_of}
use Rattle.pixels.proofs.ListLaws.{changed_more, changed_done}
use Rattle.pixels.proofs.draw.Invariants.{grey}
use Rattle.pixels.proofs.draw.Goals as goal

pub loop-i-preserved : goal.loop-i-preserved
loop-i-preserved c =
    let a = c.args in
    let z = get_or a.states.now c.loop-i.i (pos 0) in
    let fits : SFits w64 z = search rules in
    changed_more (grey a.swing) a.states.now a.picture.now c.loop-i.picture c.loop-i.i (pos 0) 0 c.shade.result c.loop-i.invariant (omega arith) (omega arith)
    (c.shade.ensures ∙ ap (λ (x : ℕ). gray_of x a.swing) (c.above.ensures ∙ ap up (to_z-of_z fits)))

pub returns : goal.returns
returns c =
    changed_done (grey c.args.swing) c.args.states.now c.args.picture.now c.loop-i.picture c.loop-i.i c.loop-i.invariant (omega arith)
