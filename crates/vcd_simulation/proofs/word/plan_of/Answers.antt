-- `vcd_simulation::word::plan_of` meets its contract: by what may come next.
use mathlib.Core.Path.{refl, sym}
use native.Mathlib.Omega.{arith}
use Rattle.vcd_simulation.specs.Simulation.{breaks, text_word}
use Rattle.vcd_simulation.proofs.StepLaws.{text_quiet, done_by_lem, command_or_section_done, plans_to, plans_as}
use Rattle.vcd_simulation.proofs.word.plan_of.Goals as goal

pub returns-in-Command : goal.returns-in-Command
returns-in-Command c =
    let a = c.args in
    plans_as _ _ _ _ _ c.command_or_section_plan.ensures (λ codes. sym (rw c.is_section.ensures (command_or_section_done codes a.word.now a.b c.in-Command.is)))

pub returns-in-Text : goal.returns-in-Text
returns-in-Text c =
    let a = c.args in
    plans_to a.word.now a.b _ (text_word a.word.now a.b) _ c.text_word.ensures (text_quiet a.word.now a.b)
    (λ codes. sym (done_by_lem codes a.word.now a.b _ c.in-Text.is))

pub returns-in-Code : goal.returns-in-Code
returns-in-Code c =
    let a = c.args in record { comes = λ codes. done_by_lem codes a.word.now a.b _ c.in-Code.is; inside = omega arith }

pub returns-in-SectionCode : goal.returns-in-SectionCode
returns-in-SectionCode c =
    let a = c.args in record { comes = λ codes. done_by_lem codes a.word.now a.b _ c.in-SectionCode.is; inside = omega arith }

pub returns-in-Broken : goal.returns-in-Broken
returns-in-Broken c =
    let a = c.args in
    plans_to a.word.now a.b _ (breaks a.b) _ c.breaks.ensures refl (λ codes. sym (done_by_lem codes a.word.now a.b _ c.in-Broken.is))
