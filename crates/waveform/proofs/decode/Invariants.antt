-- `waveform::decode` meets its contract. The loop's invariant: the tables so far are those of the first LUTs.
use mathlib.Core.Path.{◌≡◌}
use mathlib.Core.List.{List, []}
use Prim.Native.Nat.{ℕ, ◌-◌, ◌≤◌}
use lib.ListN.{length, take, get_or}
use Rattle.base.specs.Listed.{listed}
use Rattle.waveform.specs.declared.Group.{Group}
use Rattle.waveform.specs.Tables.{table_of}
use Rattle.waveform.proofs.decode.Given as goal

-- table number k
abbrev pub decoded : List (List ℕ) → ℕ → List Group
decoded luts k = table_of (get_or luts k [])

abbrev pub invariant-loop-k : goal.invariant-loop-k
invariant-loop-k l = (take l.k l.tables ≡ listed l.k (decoded l.luts)) × (l.k ≤ 5) × (length l.tables ≡ 5)

abbrev pub decreases-loop-k : goal.decreases-loop-k
decreases-loop-k l = 5 - l.k
