-- A run of frames as one translation that is held: what `Transfer` computes, and what it means by the walk.
use Rattle.std.specs.Prelude.{◌≡◌, List, ℕ, ◌+◌, ◌-◌, ◌≤◌, min, ℤ, pos, ◌+ℤ◌}
use Rattle.std.proofs.Math.IntN.{sub_ℕ}
use Rattle.base.specs.Word.{top}
use Rattle.glass.specs.declared.Transfer.{Transfer}
use Rattle.glass.specs.Walk.{hold, walk}

-- what a transfer does to a state: adds up - down, and holds to lo .. hi
unfoldable pub act : Transfer → ℕ → ℕ
act t x = hold t.lo t.hi (pos x +ℤ sub_ℕ t.up t.down)

abbrev pub identity_of : ℕ → Transfer
identity_of s = record { up = 0; down = 0; lo = 0; hi = s }

abbrev pub shift_of : ℕ → ℕ → ℕ → Transfer
shift_of u d s = record { up = u; down = d; lo = 0; hi = s }

-- both moves together, held to 64 bits, and the ends where the second takes them
abbrev pub then_of : Transfer → Transfer → Transfer
then_of t u = record {
  up = min (t.up + u.up - (t.down + u.down)) top;
  down = min (t.down + u.down - (t.up + u.up)) top;
  lo = act u t.lo;
  hi = act u t.hi;
}

-- the meaning of a transfer: on every state in 0 .. full swing it does what the frames with the drives ds do
pub record Acts (s : ℕ) (t : Transfer) (ds : List ℤ) : Type 0 where
  pub ordered : t.lo ≤ t.hi
  pub inside : t.hi ≤ s
  pub same : (x : ℕ) → x ≤ s → act t x ≡ walk s x ds
