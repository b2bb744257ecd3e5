-- `dumping::job::run` meets its contract: the configuration has its length, or another, or could not be read.
use Rattle.dumping.proofs.JobLaws.{unread_ran, wrong_ran}
use Rattle.dumping.proofs.job.run.Goals as goal

pub returns-clause-ran : goal.returns-clause-ran
returns-clause-ran g c =
    wrong_ran c.front-c.result.now c.if-c-eq-CONFIG.false _ _ _

pub returns-in_default-clause-ran : goal.returns-in_default-clause-ran
returns-in_default-clause-ran g c =
    unread_ran _ _ _
