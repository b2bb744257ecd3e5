-- `test_glass::main` is safe: what was read lies within the buffer.
use Rattle.std.proofs.Common.{ℕ, sym}
use lib.ListN.{length-replicate}
use lib.Seq.{length-take-le}
use Rattle.test_glass.proofs.main.Goals as goal

pub slice_bounds-read_full-end : goal.slice_bounds-read_full-end
slice_bounds-read_full-end c = sym (length-replicate {A = ℕ} 2097152 0)

pub slice_bounds-buffer-end : goal.slice_bounds-buffer-end
slice_bounds-buffer-end c = c.read_full-n.ensures.0

pub slice_bounds-replay-end : goal.slice_bounds-replay-end
slice_bounds-replay-end c = sym (length-take-le _ _ c.read_full-n.ensures.0)
