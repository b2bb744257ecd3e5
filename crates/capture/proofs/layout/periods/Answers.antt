-- `capture::layout::periods` meets its contract. The loop's invariant: the first numbers are the periods of the codes passed.
use mathlib.Core.Path.{◌≡◌, refl, sym, ap, ◌∙◌}
use native.Mathlib.Omega.{arith}
use native.Mathlib.Numerals.{add-one}
use lib.ListN.{length-set}
use lib.Seq.{take-suc-set, take_all}
use Rattle.capture.specs.Layout.{periods_of}
use Rattle.capture.proofs.layout.periods.Goals as goal

pub loop-code-init : goal.loop-code-init
loop-code-init c = (refl, omega arith, refl)

pub loop-code-smaller : goal.loop-code-smaller
loop-code-smaller c = omega arith

pub loop-code-preserved : goal.loop-code-preserved
loop-code-preserved c =
    let l = c.loop-code in
    (rw (add-one l.code) (take-suc-set l.periods l.code _ (omega arith) ∙ rw (l.invariant.0, c.number.ensures.0)), omega arith, simp length-set l.invariant.2)

pub returns : goal.returns
returns c =
    let l = c.loop-code in
    let a = c.args in
    let e : l.code ≡ 32 = omega arith in
    sym (take_all l.code l.periods (omega arith)) ∙ l.invariant.0 ∙ ap (periods_of a.file.now a.at) e
