-- `dumping::reading::read_dump` meets its contract: closed where it was read so far, or stopped.
use Rattle.dumping.proofs.ReadLaws.{stopped_tells}
use Rattle.dumping.proofs.reading.read_dump.Goals as goal

pub returns-then-is_open-clause-read : goal.returns-then-is_open-clause-read
returns-then-is_open-clause-read g c =
    c.close_dump.ensures.read _ c.read_chunks-g.ensures.stood

pub returns-clause-read : goal.returns-clause-read
returns-clause-read g c =
    let s = c.read_chunks-g.ensures.stood in
    record { dump = s.dump; tells = stopped_tells c.read_chunks-g.result _ _ _ _ _ s c.stopped.ensures }
