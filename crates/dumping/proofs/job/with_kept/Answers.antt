-- `dumping::job::with_kept` meets its contract: an array of so many bytes has its length.
use mathlib.Core.Path.{sym, ◌∙◌}
use Rattle.dumping.proofs.JobLaws.{ran_most}
use Prim.Native.Nat.{ℕ}
use lib.ListN.{length-replicate}
use Rattle.dumping.proofs.job.with_kept.Goals as goal

pub slice_bounds-with_dump-end : goal.slice_bounds-with_dump-end
slice_bounds-with_dump-end g c = sym (length-replicate {A = ℕ} 1048576 0)

pub returns-clause-ran : goal.returns-clause-ran
returns-clause-ran g c =
    ran_most (c.with_dump.auto.kept ∙ length-replicate {A = ℕ} 1048576 0)
    c.with_dump.ensures.ran

pub returns-clause-same : goal.returns-clause-same
returns-clause-same g c = c.with_dump.ensures.same

pub returns-clause-lengths : goal.returns-clause-lengths
returns-clause-lengths g c = c.with_dump.ensures.lengths
