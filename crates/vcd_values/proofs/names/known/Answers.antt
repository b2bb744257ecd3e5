-- `vcd_values::names::known` meets its contract: no name is left.
use mathlib.Core.Path.{sym, ◌∙◌}
use Rattle.std.proofs.Common.{arith}
use Rattle.vcd_values.specs.Names.{signal_of}
use Rattle.vcd_values.proofs.NameLaws.{some_bytes}
use Rattle.vcd_values.proofs.names.known.Goals as goal

pub returns-else-is_empty : goal.returns-else-is_empty
unfolding signal_of
returns-else-is_empty c =
    rw (
      sym c.same.ensures ∙ c.if-same.false,
      sym c.same-else-same.ensures ∙ c.if-same-2.false,
      sym c.same-else-same-2.ensures ∙ c.if-same-3.false,
      sym c.same-else-same-3.ensures ∙ c.if-same-4.false,
      sym c.same-else-same-4.ensures ∙ c.if-same-5.false,
      some_bytes c.args.name.now (grind arith),
    )
