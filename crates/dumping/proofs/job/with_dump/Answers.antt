-- `dumping::job::with_dump` meets its contract: the dump is played, and what is lent keeps its lengths.
use Rattle.controller.specs.Lent.{held}
use Rattle.dumping.proofs.JobLaws.{dump_ran}
use Rattle.dumping.proofs.job.with_dump.Goals as goal

pub returns-clause-ran : goal.returns-clause-ran
returns-clause-ran g c =
    let a = c.args in
    dump_ran a.config.now c.requires c.play-d.result _ _ (held a.lent.now) _ c.play-d.ensures.dumps
