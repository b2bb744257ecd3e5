-- A plane of the RAM: 800 × 600 bits in 60,000 bytes, 100 bytes a row, the highest bit of a byte leftmost.
use Rattle.std.specs.Prelude.{List, ℕ, ◌+◌, ◌-◌, ◌*◌, ◌/◌, ◌%◌, ◌^◌, ◌<◌, get_or, set}

-- bit k of a byte; bit 0 is the highest
abbrev pub bit_of : ℕ → ℕ → ℕ
bit_of b k = b / 2 ^ (7 - k) % 2

-- the byte with bit k put to v, which is 0 or 1
unfoldable pub with_bit : ℕ → ℕ → ℕ → ℕ
with_bit b k v = b - bit_of b k * 2 ^ (7 - k) + v * 2 ^ (7 - k)

-- where the byte of column x and row y stands
abbrev pub place : ℕ → ℕ → ℕ
place x y = y * 100 + x / 8

-- the bit of column x and row y; past the plane's end, 0
unfoldable pub bit_at : List ℕ → ℕ → ℕ → ℕ
bit_at p x y = bit_of (get_or p (place x y) 0) (x % 8)

-- the plane with that bit put to v; past the plane's end, as it was
unfoldable pub put_bit : List ℕ → ℕ → ℕ → ℕ → List ℕ
put_bit p x y v = set p (place x y) (with_bit (get_or p (place x y) 0) (x % 8) v)

-- each entry is a byte
abbrev pub Bytes : List ℕ → Type 0
Bytes p = (i : ℕ) → get_or p i 0 < 256
