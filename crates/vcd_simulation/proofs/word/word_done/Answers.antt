-- `vcd_simulation::word::word_done` meets its contract: as its plan has it.
use mathlib.Core.Path.{ap, ◌∙◌}
use mathlib.Core.List.{List}
use Prim.Native.Nat.{ℕ}
use Rattle.vcd_values.proofs.Parts.{from_place}
use Rattle.vcd_simulation.specs.Simulation.{code_word}
use Rattle.vcd_simulation.specs.Feed.{codes_by}
use Rattle.vcd_simulation.proofs.StepLaws.{steps_as}
use Rattle.vcd_simulation.proofs.word.word_done.Goals as goal

pub returns-in-Change : goal.returns-in-Change
returns-in-Change c =
    let codes = codes_by c.args.head.now c.args.h in
    let arm = c.in-Change in
    steps_as c.code_word.ensures
    (ap (λ (l : List ℕ). code_word codes arm.next l arm.level c.args.b) (from_place arm.from c.args.word.now) ∙ arm.ensures.comes codes)
