-- `vcd_reasons::wording::seen` meets its contract: the bytes so far are put.
use Rattle.std.proofs.Common.{◌≡◌, take, map}
use Rattle.text.specs.Text.{put}
use Rattle.vcd_reasons.specs.Wording.{visible}
use Rattle.vcd_reasons.proofs.wording.seen.Given as goal

abbrev pub invariant-loop-b : goal.invariant-loop-b
invariant-loop-b l = l.text ≡ put (map visible (take l.b-index l.bytes)) l.initial.text
