-- `pixels::draw_wide` meets its contract. The invariant: the entries whose turn has come are drawn (`Changed`).
use borrow.Author.Rules.{rules}
use native.Mathlib.Omega.{arith}
use lib.IntN.{pos}
use lib.ListN.{get_or}
use mir.Syntax.{w64}
use mir.Val.{SFits}
use mir.Facts.{to_z-of_z}
use mathlib.Core.Path.{ap, ◌∙◌}
use Rattle.base.specs.Integer.{up}
use Rattle.glass.specs.Gray.{gray_at}
use Rattle.pixels.proofs.ListLaws.{changed_more, changed_done}
use Rattle.pixels.proofs.draw_wide.Invariants.{grey}
use Rattle.pixels.proofs.draw_wide.Goals as goal

pub loop-i-preserved : goal.loop-i-preserved
loop-i-preserved c =
    let a = c.args in
    let p = c.new-w.ensures in
    let z = get_or a.states.now c.loop-i.i (pos 0) in
    let fits : SFits w64 z = search rules in
    let state = c.above.ensures ∙ ap up (to_z-of_z fits) in
    changed_more (grey a.top a.swing) a.states.now a.picture.now c.loop-i.picture c.loop-i.i (pos 0) 0 c.shade_wide.result c.loop-i.invariant (omega arith) (omega arith)
    (c.shade_wide.ensures ∙ (λ j. gray_at (p.white j) (state j) (p.swing j)))

pub returns : goal.returns
returns c =
    changed_done (grey c.args.top c.args.swing) c.args.states.now c.args.picture.now c.loop-i.picture c.loop-i.i c.loop-i.invariant (omega arith)
