-- How the code goes, a byte at a time: bits of one byte put into another, and when eight pixels are a byte.
use Rattle.std.specs.Prelude.{Bool, ◌&&◌, List, ℕ, ◌+◌, ◌%◌, eqb, get_or, set}
use Rattle.base.specs.Turns.{turns}
use Rattle.registers.specs.declared.Area.{Area}
use Rattle.registers.specs.Area.{inside}
use Rattle.ram.specs.Plane.{bit_of, with_bit}

-- old with n bits of new from bit k, one after the other
abbrev pub merge : ℕ → ℕ → ℕ → ℕ → ℕ
merge old new k n = turns n (λ i b. with_bit b (k + i) (bit_of new (k + i))) old

-- the eight pixels from column x of row y are one byte of a plane, and the first and the last lie inside the area
unfoldable pub whole_byte : Area → ℕ → ℕ → Bool
whole_byte a x y = eqb (x % 8) 0 && inside a x y && inside a (x + 7) y

-- n bytes of new from a place on, one after the other
abbrev pub copied_bytes : List ℕ → List ℕ → ℕ → ℕ → List ℕ
copied_bytes old new at n = turns n (λ i p. set p (at + i) (get_or new (at + i) 0)) old
