-- A pixel's number worked out by rows: a row's columns that lie inside both areas.
use Rattle.std.specs.Prelude.{Bool, true, false, ◌&&◌, List, ◌≡◌, ℕ, ◌+◌, ◌*◌, ◌/◌, ◌%◌, ◌^◌, ◌≤◌, ◌<◌, min, max, eqb, leb, get_or}
use Rattle.base.specs.Pick.{pick}
use Rattle.registers.specs.declared.Area.{Area}
use Rattle.ram.specs.Plane.{bit_of, bit_at}
use Rattle.numbers.specs.declared.Row.{Row}
use Rattle.numbers.specs.declared.Scan.{Scan}
use Rattle.numbers.specs.Number.{shown_at, transition_of}

abbrev pub no_row : Row
no_row = record { row = 0; lo = 1; hi = 0 }

-- a row inside both areas has the columns of both, any other none
unfoldable pub row_at : Area → Area → ℕ → Row
row_at a b r =
    pick (leb a.y0 r && leb r a.y1 && leb b.y0 r && leb r b.y1)
    (record { row = r; lo = max a.x0 b.x0; hi = min a.x1 b.x1 })
    no_row

-- column c lies inside both areas
abbrev pub in_row : Row → ℕ → Bool
in_row q c = leb q.lo c && leb c q.hi

unfoldable pub number_in : Row → ℕ → List ℕ → List ℕ → ℕ → ℕ
number_in q white old new c = pick (in_row q c) (transition_of (eqb (bit_at old c q.row) white) (eqb (bit_at new c q.row) white)) 255

-- the number in column x of the panel
abbrev pub number_at : Row → ℕ → List ℕ → List ℕ → Scan → Area → ℕ → ℕ
number_at q white old new columns active x = number_in q white old new (shown_at columns active.x0 active.x1 x)

-- the panel shows the columns of the RAM in their order
abbrev pub in_order : Scan → Bool
in_order s = pick s.reversed false s.straight

-- the number of a pixel that shows bit k of a byte of each plane
abbrev pub number_of_bit : ℕ → ℕ → ℕ → ℕ → ℕ
number_of_bit old new white k = transition_of (eqb (bit_of old k) white) (eqb (bit_of new k) white)

-- the same of bit k of the bytes from a place on
abbrev pub number_from : List ℕ → List ℕ → ℕ → ℕ → ℕ → ℕ
number_from old new place white k = number_of_bit (get_or old (place + k / 8) 0) (get_or new (place + k / 8) 0) white (k % 8)

-- byte k of a number, the lowest first
abbrev pub byte_of : ℕ → ℕ → ℕ
byte_of w k = w / 2 ^ (8 * k) % 256

-- the bits of a byte, a byte each
pub record Spread (b r : ℕ) : Type 0 where
  pub most : r ≤ 0x0101_0101_0101_0101
  pub bits : (k : ℕ) → k < 8 → byte_of r k ≡ bit_of b k

-- n columns from x on lie outside
pub record Outside (q : Row) (x n count : ℕ) : Type 0 where
  pub most : x + n ≤ count
  pub none : (k : ℕ) → k < n → in_row q (x + k) ≡ false

-- the columns of n bytes from x on lie inside
pub record Whole (q : Row) (x n count : ℕ) : Type 0 where
  pub most : x + n * 8 ≤ count
  pub begins : 0 < n → x % 8 ≡ 0
  pub inside : (k : ℕ) → k < n * 8 → in_row q (x + k) ≡ true

-- some pixels from column x on, and no more than the row has
pub record Some (n x count : ℕ) : Type 0 where
  pub least : 0 < n
  pub most : x + n ≤ count
