-- `vcd_simulation::word::time_or_keyword` meets its contract: by the first byte.
use mathlib.Core.Path.{sym, ◌∙◌}
use mathlib.Core.Bool.{false}
use native.Mathlib.Omega.{arith}
use borrow.Author.Tests.{eq-eqb, ne_eqb}
use lib.ListN.{get_or, drop}
use Rattle.vcd_values.specs.Numbers.{time_of}
use Rattle.vcd_values.proofs.Parts.{from_place}
use Rattle.vcd_simulation.specs.Simulation.{timed, key_word}
use Rattle.vcd_simulation.proofs.StepLaws.{timed_quiet, key_quiet, value_none, command_none, command_some, to_is}
use Rattle.vcd_simulation.proofs.word.time_or_keyword.Goals as goal

pub returns-in_default : goal.returns-in_default
returns-in_default c =
    let a = c.args in λ codes. value_none codes false a.word.now a.b (omega arith) ∙ sym (command_none codes a.word.now a.b (omega arith))

pub returns-in-35 : goal.returns-in-35
returns-in-35 c =
    let a = c.args in
    let w = a.word.now in
    let t = timed (time_of (drop 1 w)) a.b in
    λ codes. to_is t _ (c.timed.ensures ∙ rw (c.time.ensures, from_place 1 w)) (timed_quiet (time_of (drop 1 w)) a.b)
    ∙ sym (command_some codes w a.b (omega arith) ∙ rw (eq-eqb _ _ c.in-35.is))

pub returns-in-36 : goal.returns-in-36
returns-in-36 c =
    let a = c.args in
    let w = a.word.now in
    λ codes. to_is (key_word w a.b) _ c.key_word.ensures (key_quiet w a.b) ∙ sym (command_some codes w a.b (omega arith) ∙ rw c.in-36.is)

pub returns-in_default-first : goal.returns-in_default-first
returns-in_default-first c =
    let a = c.args in
    let w = a.word.now in
    λ codes. sym (command_some codes w a.b (omega arith)
    ∙ rw (ne_eqb (get_or w 0 0) 0x23 (grind arith), ne_eqb (get_or w 0 0) 0x24 (grind arith)))
