-- `waveform::round_frames` meets its contract. The loop's invariant: the sum of the counts passed, each at most 255.
use mathlib.Core.Path.{◌≡◌}
use Prim.Native.Nat.{◌*◌, ◌≤◌}
use lib.ListN.{get_or}
use Rattle.base.specs.Listed.{sum_to}
use Rattle.waveform.proofs.round_frames.Given as goal

abbrev pub invariant-loop-frames : goal.invariant-loop-frames
invariant-loop-frames l = record {
  is : l.sum ≡ sum_to l.frames-index (λ p. get_or l.fn.group.frames p 0);
  most : l.sum ≤ 255 * l.frames-index;
}
