-- Entries written in turn.
use Rattle.std.specs.Prelude.{List, ℕ, zero, suc, ◌+◌, ◌*◌, set}

-- n entries from the place p on: f 0, f 1 and so on; past the list's end nothing
abbrev pub filled : (ℕ → ℕ) → ℕ → ℕ → List ℕ → List ℕ
filled f p zero l = l
filled f p (suc n) l = set (filled f p n l) (p + n) (f n)

-- so many rows of n entries, row by row: entry x of row y is f x y
abbrev pub rows_filled : (ℕ → ℕ → ℕ) → ℕ → ℕ → List ℕ → List ℕ
rows_filled f n zero l = l
rows_filled f n (suc y) l = filled (λ x. f x y) (y * n) n (rows_filled f n y l)
