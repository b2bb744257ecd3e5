-- `driving::drive_panel` meets its contract. After y turns the pixels of the first y rows are driven.
use mathlib.Core.Path.{◌≡◌}
use mathlib.Core.List.{List}
use Prim.Native.Nat.{ℕ}
use lib.ListN.{length}
use Rattle.base.specs.InTurn.{in_turn}
use Rattle.base.specs.Listed.{listed}
use Rattle.numbers.specs.declared.Mapping.{Mapping}
use Rattle.numbers.specs.Number.{number_of}
use Rattle.pixels.specs.Drive.{driven}
use Rattle.driving.proofs.drive_panel.Given as goal

-- the numbers of the first rows
abbrev pub firstRows : Mapping → List ℕ → List ℕ → ℕ → List ℕ
firstRows p old new y = in_turn y (λ v. listed p.columns.count (λ x. number_of p old new x v))

abbrev pub invariant-loop-y : goal.invariant-loop-y
invariant-loop-y l =
    let t = l.fn.t in
    record {
      moved : l.states ≡ driven t.ww t.kw t.wk t.kk (firstRows l.p l.old l.new l.y) l.initial.states;
      long : length l.row ≡ 65_536;
    }
