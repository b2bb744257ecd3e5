-- `capture::reading::read` meets its contract: the trailer and the configuration are those that the tests are of.
use Rattle.base.proofs.RefusalWords.{turned}
use Rattle.capture.specs.Reading.{events_end}
use mathlib.Core.Path.{sym}
use Rattle.capture.proofs.reading.read.Goals as goal

pub returns-in-Ok : goal.returns-in-Ok
unfolding events_end
returns-in-Ok c =
    let none = sym c.in-Ok.ensures in
    record {
      number_is = c.in-Ok.ensures;
      config_is = c.config_in-config.ensures;
      end_is = rw (← c.trailer_of-t.ensures.count_is) (simp none);
    }

pub returns-in-Err : goal.returns-in-Err
unfolding events_end
returns-in-Err c =
    let some = turned c.in-Err.refusal c.in-Err.ensures in
    record {
      number_is = c.in-Err.ensures;
      config_is = c.config_in-config.ensures;
      end_is = simp some;
    }
