-- What a job leaves: after a dump, or where there was none to read.
use mathlib.Core.Path.{◌≡◌, refl}
use mathlib.Core.List.{List, []}
use Prim.Native.Nat.{ℕ}
use native.Mathlib.Omega.{arith}
use borrow.Author.Tests.{ne_eqb}
use lib.ListN.{length}
use Rattle.std.proofs.Common.{Some}
use Rattle.base.specs.declared.refusals.Refusal.TheVariants as refusal
use Rattle.base.specs.RefusalNumbers.{number_of}
use Rattle.controller.specs.World.{Buffers, world}
use Rattle.controller.specs.Calls.{zeros}
use Rattle.vcd.specs.Dump.{dump_refused}
use Rattle.dumping.specs.declared.playing.Came.{Came}
use Rattle.dumping.specs.declared.playing.Came.TheVariants as came
use Rattle.dumping.specs.declared.playing.Dumped.{Dumped}
use Rattle.dumping.specs.Played.{Dumps, Ran, fitted}

pub dump_ran : (config : List ℕ) → length config ≡ 312 → (r : Dumped) (most longest : ℕ) (b u : Buffers)
    → Dumps r config most longest (fitted config b) (world r.chip (fitted config u)) → Ran r.came most longest b u
dump_ran config whole r most longest b u d =
    record { config = config; dump = d.dump; chip = r.chip; came_to = d.came_to; kept = λ n. absurd (n whole) }

pub unread_ran : (most longest : ℕ) (b : Buffers) → Ran came.Unread most longest b b
unread_ran most longest b = record { config = []; dump = []; chip = zeros; came_to = tt; kept = λ n. refl }

-- a configuration of a wrong length is 8, tested first
pub wrong_ran : (config : List ℕ) → (length config ≡ 312 → ⊥) → (most longest : ℕ) (b : Buffers)
    → Ran (came.Judged (Some refusal.BrokenCapture)) most longest b b
unfolding dump_refused
wrong_ran config n most longest b =
    record { config = config; dump = []; chip = zeros; came_to = (rw (ne_eqb _ _ n), λ z. absurd (eight z)); kept = λ _. refl }
  where
    eight : number_of (Some refusal.BrokenCapture) ≡ 0 → ⊥
    eight z = omega (arith, z)

pub ran_most : {r : Came} {most most' longest : ℕ} {b u : Buffers} → most ≡ most' → Ran r most longest b u → Ran r most' longest b u
ran_most e x = rw (← e) x
