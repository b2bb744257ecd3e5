-- `vcd_simulation::word::value_plan` meets its contract: by the first byte.
use mathlib.Core.Path.{refl, sym, ap, ◌∙◌}
use native.Mathlib.Omega.{arith}
use lib.ListN.{get_or, drop}
use Rattle.vcd_values.proofs.Parts.{from_place}
use Rattle.vcd_simulation.specs.Simulation.{breaks, joined, apart_level, apart}
use Rattle.vcd_simulation.proofs.StepLaws.{apart_quiet, value_none, value_some, plans_to}
use Rattle.vcd_simulation.proofs.word.value_plan.Goals as goal

pub returns-in_default : goal.returns-in_default
returns-in_default c =
    let a = c.args in
    plans_to a.word.now a.b _ (breaks a.b) _ c.breaks.ensures refl (λ codes. value_none codes a.in_section a.word.now a.b (omega arith))

pub returns-in-Some : goal.returns-in-Some
returns-in-Some c =
    let a = c.args in
    let w = a.word.now in
    record {
      comes = λ codes. rw c.next_of.ensures (ap (joined codes a.in_section (get_or w 0 0) (drop 1 w) a.b) c.in-Some.ensures)
          ∙ sym (value_some codes a.in_section w a.b (omega arith));
      inside = omega arith;
    }

pub returns-in-None : goal.returns-in-None
returns-in-None c =
    let a = c.args in
    let w = a.word.now in
    let level = apart_level (get_or w 0 0) (drop 1 w) in
    plans_to w a.b _ (apart a.in_section level a.b) _ (c.apart.ensures ∙ rw (c.apart_level.ensures, from_place 1 w)) (apart_quiet a.in_section level a.b)
    (λ codes. value_some codes a.in_section w a.b (omega arith) ∙ ap (joined codes a.in_section (get_or w 0 0) (drop 1 w) a.b) (sym c.in-None.ensures))
