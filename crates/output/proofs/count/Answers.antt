-- `output::count` meets its contract, by what the file came to.
use Rattle.std.proofs.Common.{sym, ap, ◌∙◌, inl, inr, length}
use Rattle.output.proofs.UnitLaws.{units_none, units_refused, units_played_lem, length_played}
use Rattle.output.proofs.count.Goals as goal

pub returns-in-NoEvents : goal.returns-in-NoEvents
returns-in-NoEvents c =
    let a = c.args in
    λ answers picture rows. elim c.in-NoEvents.is [
      | inl e ↦ sym (ap length (units_none a.form a.o a.events.now answers picture rows e))
      | inr e ↦ sym (ap length (units_refused a.form a.o a.events.now answers picture rows e.1))
    ]

pub returns-in-Played : goal.returns-in-Played
returns-in-Played c =
    let a = c.args in
    λ answers picture rows.
    c.played_count.ensures
    ∙ sym
    (ap length (units_played_lem a.form a.o a.events.now answers picture rows c.in-Played.is)
    ∙ length_played a.form a.o.log a.o.image a.events.now answers picture rows)
