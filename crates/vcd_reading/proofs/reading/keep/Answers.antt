-- `vcd_reading::reading::keep` meets its contract: as much as there is room for, and then what its declarations say.
use mathlib.Core.Path.{refl, sym}
use native.Mathlib.Omega.{arith}
use Rattle.vcd_reading.proofs.CarryLaws.{kept_as}
use Rattle.vcd_reading.proofs.ReadLaws.{dump_as}
use Rattle.vcd_reading.proofs.HeadLaws.{settle_may, whole_part, keeps_all, keeps_some}
use Rattle.vcd_reading.proofs.reading.keep.Goals as goal

pub settle-requires-clause-nonzero : goal.settle-requires-clause-nonzero
settle-requires-clause-nonzero c =
    let k = kept_as c.args.bytes.now c.args.kept.now c.args.r.held c.min-taken.result c.if-kept-r.false c.min-taken.ensures c.copy_from_slice.ensures.after in
    settle_may _ _ c.declarations-b.result c.declarations-b.ensures c.next_word-w.result c.next_word-w.ensures (omega (arith, k.count, k.size, c.if-kept-r.false)) c.if-w-held.true

pub returns-then-w-held-clause-keeps : goal.returns-then-w-held-clause-keeps
returns-then-w-held-clause-keeps c =
    let k = kept_as c.args.bytes.now c.args.kept.now c.args.r.held c.min-taken.result c.if-kept-r.false c.min-taken.ensures c.copy_from_slice.ensures.after in
    λ d g. dump_as c.settle.result.reader _ _ _ _ (sym (whole_part d c.args.bytes.now c.args.kept.now _ c.args.r.held c.min-taken.result g k)) c.settle.ensures.stands

pub returns-then-taken-bytes-clause-keeps : goal.returns-then-taken-bytes-clause-keeps
returns-then-taken-bytes-clause-keeps c =
    let k = kept_as c.args.bytes.now c.args.kept.now c.args.r.held c.min-taken.result c.if-kept-r.false c.min-taken.ensures c.copy_from_slice.ensures.after in
    λ d g. (keeps_all d c.args.bytes.now c.args.kept.now _ c.args.r.held c.min-taken.result g k c.if-taken-bytes.true, refl)

pub returns-clause-keeps : goal.returns-clause-keeps
returns-clause-keeps c =
    let k = kept_as c.args.bytes.now c.args.kept.now c.args.r.held c.min-taken.result c.if-kept-r.false c.min-taken.ensures c.copy_from_slice.ensures.after in
    λ d g. keeps_some d c.args.bytes.now c.args.kept.now _ c.args.r.held c.min-taken.result g k c.if-taken-bytes.false c.declarations-b.result c.declarations-b.ensures c.next_word-w.result c.next_word-w.ensures c.if-w-held.false
