-- Document 01, "The capture program": numbers are little-endian.
use Rattle.std.specs.Prelude.{List, ℕ, zero, suc, ◌+◌, ◌*◌, get_or}

-- the number of the n bytes from a place on, the first counting 1, each further one 256 times the one before it; past the end bytes are 0
abbrev pub little : List ℕ → ℕ → ℕ → ℕ
little bytes at zero = 0
little bytes at (suc n) = get_or bytes at 0 + 256 * little bytes (suc at) n
