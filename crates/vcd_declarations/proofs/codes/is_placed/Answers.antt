-- `vcd_declarations::codes::is_placed` meets its contract: the first ones, then the others.
use mathlib.Core.Path.{sym, ◌∙◌}
use Rattle.vcd_declarations.specs.Codes.{code_in, five_in}
use Rattle.vcd_declarations.proofs.PlacedLaws.{placed_is}
use Rattle.vcd_declarations.proofs.codes.is_placed.Goals as goal

pub returns-else-is_first : goal.returns-else-is_first
returns-else-is_first c =
    let a = c.args in
    let bytes = a.bytes.now in
    c.is_further.ensures
    ∙ sym (placed_is (five_in bytes a.c) (code_in bytes) a.f.codes a.code.now ∙ rw (sym c.is_first.ensures ∙ c.if-is_first.false))
