-- `waveform::decode_table` meets its contract. The loop's invariant: the groups so far are the table's first.
use mathlib.Core.Path.{refl}
use native.Mathlib.Omega.{arith}
use lib.ListN.{length-set}
use Rattle.base.proofs.Listed.{filled_more, filled}
use Rattle.waveform.specs.Tables.{group_of}
use Rattle.waveform.proofs.decode_table.Goals as goal

pub loop-k-init : goal.loop-k-init
loop-k-init c = (refl, omega arith, refl)

pub loop-k-preserved : goal.loop-k-preserved
loop-k-preserved c =
    let l = c.loop-k in
    let lut = c.args.lut.now in (
      filled_more l.table l.k (group_of lut) l.invariant.0 _ c.read.ensures (omega arith),
      omega arith,
      simp length-set l.invariant.2,
    )

pub returns : goal.returns
returns c =
    let l = c.loop-k in
    filled l.table l.k (group_of c.args.lut.now) l.invariant.0 7 l.invariant.2 (omega arith)
