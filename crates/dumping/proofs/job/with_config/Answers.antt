-- `dumping::job::with_config` meets its contract: the dump could not be opened, or it is read.
use Rattle.dumping.proofs.JobLaws.{unread_ran}
use Rattle.dumping.proofs.job.with_config.Goals as goal

pub returns-in-Err-clause-ran : goal.returns-in-Err-clause-ran
returns-in-Err-clause-ran g c =
    unread_ran _ _ _
