-- The record with all that is lent to its calls.
use Rattle.std.specs.Prelude.{List, ℕ, ℤ}
use Rattle.controller.specs.declared.Uc8253.{Uc8253}

-- what is lent: two planes, states and picture, and the rows of the diagnostics
pub record Buffers : Type 0 where
  pub old : List ℕ
  pub new : List ℕ
  pub states : List ℤ
  pub picture : List ℕ
  pub rows : List ℕ

pub record World : Type 0 where
  pub chip : Uc8253
  pub lent : Buffers

abbrev pub buffers : List ℕ → List ℕ → List ℤ → List ℕ → List ℕ → Buffers
buffers old new states picture rows = record {
  old = old;
  new = new;
  states = states;
  picture = picture;
  rows = rows;
}

abbrev pub world : Uc8253 → Buffers → World
world p b = record { chip = p; lent = b }
