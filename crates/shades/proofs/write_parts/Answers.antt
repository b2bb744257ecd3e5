-- `shades::write_parts` meets what it calls asks: each part is units of the picture. The measure is the units that are left.
use mathlib.Core.Path.{sym, ap, ◌∙◌}
use Prim.Native.Nat.{◌-◌}
use native.Mathlib.Omega.{arith}
use lib.Seq.{length-take-le}
use Rattle.output.specs.Parts.{units_from}
use Rattle.output.proofs.PartLaws.{part_is, part_within, part_on}
use Rattle.shades.proofs.write_parts.Goals as goal

pub slice_bounds-emit-end : goal.slice_bounds-emit-end
slice_bounds-emit-end g c = part_within c.wide_part-held.ensures

pub slice_bounds-emit-end-in-loop-from : goal.slice_bounds-emit-end-in-loop-from
slice_bounds-emit-end-in-loop-from g c = sym (length-take-le _ _ (part_within c.wide_part-held.ensures))

pub emit-requires : goal.emit-requires
emit-requires g c =
    let from = c.loop-from.from in
    part_is c.wide_part-held.ensures ∙ ap (units_from from (c.wide_part-held.result.next - from)) c.requires

pub loop-from-smaller : goal.loop-from-smaller
loop-from-smaller g c = omega (arith, part_on c.wide_part-held.ensures, c.if-next-from.false, c.loop-from-test.true)
