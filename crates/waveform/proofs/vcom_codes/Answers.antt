-- `waveform::vcom_codes` meets its contract: the groups that run are the first of the table, and past them all codes are 0.
use borrow.Author.Rules.{rules}
use mathlib.Core.Path.{◌≡◌, sym, ap}
use mathlib.Core.List.{List}
use Prim.Native.Nat.{ℕ, ◌<◌}
use native.Mathlib.Omega.{arith}
use lib.ListN.{length}
use Rattle.base.proofs.Lists.{get_d_past}
use Rattle.waveform.specs.declared.Group.{Group}
use Rattle.waveform.specs.Tables.{running}
use Rattle.waveform.specs.Frames.{blank}
use Rattle.waveform.proofs.TableLaws.{unread, running_few, running_get}
use Rattle.waveform.proofs.vcom_codes.Goals as goal

-- a group that runs is one of seven
few : (t : List Group) (k : ℕ) → length t ≡ 7 → k < length (running t) → k < 7
few t k e h = omega (arith, running_few t)

pub offset_bounds-vcom-group : goal.offset_bounds-vcom-group
offset_bounds-vcom-group c =
    record { fits = omega (arith, few c.args.vcom c.args.group (search rules) (omega (arith, c.requires, c.if-group-runs.true))) }

pub bounds-vcom-group : goal.bounds-vcom-group
bounds-vcom-group c = few c.args.vcom c.args.group (search rules) (omega (arith, c.requires, c.if-group-runs.true))

pub returns-then-group-runs : goal.returns-then-group-runs
returns-then-group-runs c =
    let s = c.args in
    ap (λ (g : Group). g.codes) (sym (running_get s.vcom blank unread s.group (omega (arith, c.requires, c.if-group-runs.true))))

pub returns-else-group-runs : goal.returns-else-group-runs
returns-else-group-runs c =
    ap (λ (g : Group). g.codes)
    (sym (get_d_past (running c.args.vcom) c.args.group blank (omega (arith, c.requires, c.if-group-runs.false))))
