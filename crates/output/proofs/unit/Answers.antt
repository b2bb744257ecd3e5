-- `output::unit` meets its contract, by what the file came to.
use Rattle.output.proofs.UnitLaws.{units_none, units_refused, units_played_lem}
use Rattle.output.proofs.unit.Goals as goal

pub returns-in-NoEvents : goal.returns-in-NoEvents
returns-in-NoEvents c =
    let a = c.args in
    rw (units_none a.form a.o a.events.now a.answers.now a.picture.now a.rows.now c.in-NoEvents.is) c.no_events.ensures

pub returns-in-Refused : goal.returns-in-Refused
returns-in-Refused c =
    let a = c.args in
    rw (units_refused a.form a.o a.events.now a.answers.now a.picture.now a.rows.now c.in-Refused.is) c.refused.ensures

pub returns-in-Played : goal.returns-in-Played
returns-in-Played c =
    let a = c.args in
    rw (units_played_lem a.form a.o a.events.now a.answers.now a.picture.now a.rows.now c.in-Played.is) c.played.ensures
