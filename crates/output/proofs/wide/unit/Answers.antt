-- `output::wide::unit` meets its contract, by what the file came to.
use Rattle.output.proofs.UnitLaws.{wide_none, wide_refused_lem, wide_played}
use Rattle.output.proofs.wide.unit.Goals as goal

pub returns-in-NoEvents : goal.returns-in-NoEvents
returns-in-NoEvents c = let a = c.args in rw (wide_none a.form a.top a.o a.picture.now c.in-NoEvents.is) c.no_events.ensures

pub returns-in-Refused : goal.returns-in-Refused
returns-in-Refused c = let a = c.args in rw (wide_refused_lem a.form a.top a.o a.picture.now c.in-Refused.is) c.refused.ensures

pub returns-in-Played : goal.returns-in-Played
returns-in-Played c = let a = c.args in rw (wide_played a.form a.top a.o a.picture.now c.in-Played.is) c.played.ensures
