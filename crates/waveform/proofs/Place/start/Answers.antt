-- `waveform::Place::start` meets its contract: a group that runs has a round to run.
use borrow.Author.Rules.{rules}
use borrow.Author.Tests.{lt-ltb}
use mathlib.Core.Path.{◌≡◌, sym, ap, ◌∙◌}
use mathlib.Core.List.{List}
use Prim.Native.Nat.{ℕ, ◌-◌, ◌<◌}
use native.Mathlib.Omega.{arith}
use lib.ListN.{length, get_or}
use Rattle.waveform.specs.declared.Group.{Group}
use Rattle.waveform.specs.Tables.{running}
use Rattle.waveform.specs.Frames.{blank}
use Rattle.waveform.specs.InnerPlaces.{group_at, place_at, start_at}
use Rattle.waveform.proofs.TableLaws.{unread, running_few, running_get}
use Rattle.waveform.proofs.PlaceLaws.{runs_once}
use Rattle.waveform.proofs.Place.start.Goals as goal

-- a group that runs is one of seven
few : (t : List Group) (k : ℕ) → length t ≡ 7 → k < length (running t) → k < 7
few t k e h = omega (arith, running_few t)

same : (t : List Group) (k : ℕ) → k < length (running t) → get_or t k unread ≡ group_at t k
same t k h = sym (running_get t blank unread k h)

pub offset_bounds-table-group : goal.offset_bounds-table-group
offset_bounds-table-group c =
    record { fits = omega (arith, few c.args.table c.args.group (search rules) (omega (arith, c.requires, c.if-group-runs.true))) }

pub bounds-table-group : goal.bounds-table-group
bounds-table-group c = few c.args.table c.args.group (search rules) (omega (arith, c.requires, c.if-group-runs.true))

pub overflow_sub-table : goal.overflow_sub-table
overflow_sub-table c =
    let a = c.args in
    let goes : a.group < length (running a.table) = omega (arith, c.requires, c.if-group-runs.true) in
    omega (arith, runs_once a.table a.group goes, ap (λ (g : Group). g.repeats) (same a.table a.group goes))

pub returns-then-group-runs : goal.returns-then-group-runs
unfolding start_at
returns-then-group-runs c =
    let a = c.args in
    let goes : a.group < length (running a.table) = omega (arith, c.requires, c.if-group-runs.true) in
    rw (lt-ltb _ _ goes)
    (c.at.ensures ∙ ap (λ (g : Group). place_at a.table a.group (g.repeats - 1) 0) (same a.table a.group goes))
