-- `output::wide::wide_count` meets its contract, by what the file came to.
use Rattle.std.proofs.Common.{sym, ap, ◌∙◌, inl, inr, length}
use Rattle.output.proofs.UnitLaws.{wide_none, wide_refused_lem, wide_played, length_wide_units}
use Rattle.output.proofs.wide.wide_count.Goals as goal

pub returns-in-NoEvents : goal.returns-in-NoEvents
returns-in-NoEvents c =
    let a = c.args in
    λ top picture. elim c.in-NoEvents.is [
      | inl e ↦ sym (ap length (wide_none a.form top a.o picture e))
      | inr e ↦ sym (ap length (wide_refused_lem a.form top a.o picture e.1))
    ]

pub returns-in-Played : goal.returns-in-Played
returns-in-Played c =
    let a = c.args in
    λ top picture.
    c.picture_count.ensures
    ∙ sym
    (ap length (wide_played a.form top a.o picture c.in-Played.is)
    ∙ length_wide_units top a.o.image picture a.form)
