-- `waveform::Place::at` meets its contract: a group that runs is the table's of that number.
use borrow.Author.Rules.{rules}
use mathlib.Core.Path.{◌≡◌, sym}
use mathlib.Core.List.{List}
use Prim.Native.Nat.{ℕ, ◌<◌}
use native.Mathlib.Omega.{arith}
use lib.ListN.{length, get_or}
use Rattle.waveform.specs.declared.Group.{Group}
use Rattle.waveform.specs.Frames.{blank}
use Rattle.waveform.specs.InnerPlaces.{group_at}
use Rattle.waveform.proofs.TableLaws.{unread, running_few, running_get}
use Rattle.waveform.specs.Tables.{running}
use Rattle.waveform.proofs.Place.at.Goals as goal

few : (t : List Group) (k : ℕ) → length t ≡ 7 → k < length (running t) → k < 7
few t k e h = omega (arith, running_few t)

pub offset_bounds-table-group : goal.offset_bounds-table-group
offset_bounds-table-group c = record { fits = omega (arith, few c.args.table c.args.group (search rules) c.requires.0) }

pub bounds-table-group : goal.bounds-table-group
bounds-table-group c = few c.args.table c.args.group (search rules) c.requires.0

pub returns : goal.returns
returns c =
    let s = c in
    let same : get_or s.args.table s.args.group unread ≡ group_at s.args.table s.args.group =
    sym (running_get s.args.table blank unread s.args.group s.requires.0) in
    λ i. record {
      group = s.args.group;
      rounds = s.args.rounds;
      phase = s.args.phase;
      code = get_or (same i).codes s.args.phase 0;
      left = get_or (same i).frames s.args.phase 0;
    }
