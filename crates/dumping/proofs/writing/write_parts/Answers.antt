-- `dumping::writing::write_parts` meets what it calls asks: each part is units of the output. The measure is the units that are left.
use mathlib.Core.Path.{sym}
use native.Mathlib.Omega.{arith}
use lib.Seq.{length-take-le}
use Rattle.output.proofs.PartLaws.{part_is, part_within, part_on}
use Rattle.dumping.proofs.writing.write_parts.Goals as goal

pub slice_bounds-emit-end : goal.slice_bounds-emit-end
slice_bounds-emit-end g c = part_within c.next_part-part.ensures

pub slice_bounds-emit-end-in-loop-from : goal.slice_bounds-emit-end-in-loop-from
slice_bounds-emit-end-in-loop-from g c = sym (length-take-le _ _ (part_within c.next_part-part.ensures))

pub emit-requires : goal.emit-requires
emit-requires g c = part_is c.next_part-part.ensures

pub loop-from-smaller : goal.loop-from-smaller
loop-from-smaller g c =
    omega (arith, part_on c.next_part-part.ensures, c.if-next-from.false, c.loop-from-test.true)
