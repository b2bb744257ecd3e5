-- What was read stands within the buffer.
use Rattle.std.specs.Prelude.{◌≡◌, ◌≤◌, List, ℕ, length, take}

-- the first n of them are n: no more than there are
abbrev pub IsPrefixLen : ℕ → List ℕ → Type 0
IsPrefixLen n xs = (n ≤ length xs) × (n ≡ length (take n xs))
