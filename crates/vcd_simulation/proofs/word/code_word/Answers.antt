-- `vcd_simulation::word::code_word` meets its contract: a code, or none.
use mathlib.Core.Path.{refl, sym, ◌∙◌}
use Rattle.vcd_simulation.proofs.StepLaws.{still}
use Rattle.vcd_simulation.proofs.word.code_word.Goals as goal

pub returns-then-not-is_code : goal.returns-then-not-is_code
returns-then-not-is_code c =
    rw (sym c.is_code.ensures ∙ c.if-not-is_code.true) (still _ c.args.held _ c.args.out.now c.breaks-body.ensures refl)

pub returns : goal.returns
returns c = rw (sym c.is_code.ensures ∙ c.if-not-is_code.false) c.changes.ensures
