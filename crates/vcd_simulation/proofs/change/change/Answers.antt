-- `vcd_simulation::change::change` meets its contract: the five in turn, of which `clk` and `rst` make events.
use mathlib.Core.Path.{◌∙◌}
use native.Mathlib.Omega.{arith}
use Rattle.vcd_words.specs.declared.Span.{Span}
use Rattle.vcd_declarations.specs.Codes.{five_in, code_in}
use Rattle.vcd_simulation.proofs.Holding.{more_held, held_as}
use Rattle.vcd_simulation.proofs.Making.{alike_turned, byte_room, at_clock, at_reset, at_last, both_made}
use Rattle.vcd_simulation.proofs.change.change.Goals as goal

pub on_rst-requires : goal.on_rst-requires
on_rst-requires c =
    let clocked = c.on_clk-c.ensures.1 in
    let a = c.args in
    omega (arith, clocked.count, clocked.size, byte_room c.is_code-3.result a.time a.v c.on_dc-b2.result, c.requires)

pub returns : goal.returns
returns c =
    let a = c.args in
    let edge = c.on_rst.ensures in
    let clock = c.on_clk-c.ensures in
    let codes = five_in a.head.now a.codes in
    let code = a.code.now in
    let turn = λ (place : Span). alike_turned code (code_in a.head.now place) in
    let clk = at_clock codes code a.v a.b c.on_cs-b1.result c.on_dc-b2.result c.is_code.result c.is_code-2.result
    (c.is_code.ensures ∙ turn a.codes.cs) (c.is_code-2.ensures ∙ turn a.codes.dc) c.on_cs-b1.ensures c.on_dc-b2.ensures in
    let rst = at_reset codes code a.v a.b c.on_dc-b2.result c.on_clk-c.result.bus c.on_mosi-b4.result
    c.is_code-3.result c.is_code-4.result (c.is_code-3.ensures ∙ turn a.codes.clk) (c.is_code-4.ensures ∙ turn a.codes.mosi) clk clock.0 c.on_mosi-b4.ensures in (
      at_last codes code a.v a.b c.on_mosi-b4.result c.on_rst.result.bus c.is_code-5.result (c.is_code-5.ensures ∙ turn a.codes.rst) rst edge.0,
      held_as (more_held _ _ _ _ _ _ _ _ clock.1 edge.1)
          (both_made codes code a.time a.v a.b c.on_dc-b2.result c.on_mosi-b4.result c.is_code-3.result c.is_code-5.result
          (c.is_code-3.ensures ∙ turn a.codes.clk) (c.is_code-5.ensures ∙ turn a.codes.rst) clk rst),
    )
