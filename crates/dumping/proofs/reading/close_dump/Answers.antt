-- `dumping::reading::close_dump` meets its contract: what the end of the dump tells of it.
use Rattle.dumping.proofs.ReadLaws.{closed_tells}
use Rattle.dumping.proofs.reading.close_dump.Goals as goal

pub returns-clause-read : goal.returns-clause-read
returns-clause-read c =
    let a = c.args in
    λ w s. record {
      dump = s.dump;
      tells = closed_tells s.dump a.g.reader a.kept.now a.word.now w _ _
          c.close-c.result s.stands (c.close-c.ensures.closes s.dump w s.stands);
    }
