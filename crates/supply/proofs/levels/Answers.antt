-- `supply::levels` meets its contract: one test over the whole array, which antt computes, gives the rule at each code.
use mathlib.Core.Bool.{Bool}
use mathlib.Core.List.{List}
use Prim.Native.Nat.{ℕ}
use lib.Dec.{T, eqb, eqb→eq}
use lib.ListN.{get_or}
use Rattle.base.proofs.Below.{below, at}
use Rattle.supply.specs.Supply.{supply_level, Listed}
use Rattle.supply.proofs.levels.Goals as goal

abbrev right : List ℕ → ℕ → Bool
right levels code = eqb (get_or levels code 0) (supply_level code)

tested : (levels : List ℕ) → T (below 64 (right levels)) → Listed levels
unfolding Listed
tested levels t code h = eqb→eq _ _ (at 64 (right levels) t code h)

pub returns : goal.returns
returns c = tested _ tt
