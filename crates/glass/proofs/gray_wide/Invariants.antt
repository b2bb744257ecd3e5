-- `glass::gray_wide` meets its contract. The invariant is `Digits`.
use Prim.Native.Nat.{◌/◌, ◌^◌}
use Rattle.glass.proofs.GrayLaws.{Digits}
use Rattle.glass.proofs.gray_wide.Given as goal

abbrev pub invariant-loop-left : goal.invariant-loop-left
invariant-loop-left l = Digits l.state l.swing (l.top / 2 ^ l.left) l.q l.r
