-- A row is five numbers.
use mathlib.Core.Path.{◌≡◌, refl}
use Prim.Native.Nat.{ℕ}
use lib.ListN.{length}
use Rattle.diagnostic.specs.declared.DiagnosticKind.{DiagnosticKind}
use Rattle.diagnostic.specs.Row.{row_numbers}

pub row_length : (at : ℕ) (k : DiagnosticKind) → length (row_numbers at k) ≡ 5
row_length at k = refl
