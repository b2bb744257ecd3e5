-- `waveform::Place::first` meets its contract: from the first group's start all codes are to come.
use mathlib.Core.Path.{sym, subst, ap, ◌∙◌}
use mathlib.Core.List.{List}
use Prim.Native.Nat.{ℕ}
use Rattle.waveform.specs.InnerPlaces.{codes_from, Placed, Stands}
use Rattle.waveform.proofs.PlaceLaws.{all_codes, start_placed}
use Rattle.waveform.proofs.Place.first.Goals as goal

pub settled-requires : goal.settled-requires
settled-requires c =
    let table = c.args.table in
    (c.requires, subst (Placed table) (sym c.start.ensures) (start_placed table 0))

pub returns : goal.returns
returns c =
    let table = c.args.table in
    subst (λ (xs : List ℕ). Stands table c.settled.result xs) (ap (codes_from table) c.start.ensures ∙ all_codes table)
    c.settled.ensures
