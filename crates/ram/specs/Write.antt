-- Document 01, "A data byte": 10 and 13 put eight bits from the cursor, highest first,
-- only inside the written area, and the cursor goes on.
use Rattle.std.specs.Prelude.{List, ℕ, ◌+◌, min, ltb}
use Rattle.base.specs.Pick.{pick}
use Rattle.base.specs.Turns.{turns}
use Rattle.registers.specs.declared.Area.{Area}
use Rattle.registers.specs.Area.{inside}
use Rattle.ram.specs.declared.Cursor.{Cursor}
use Rattle.ram.specs.Plane.{bit_of, put_bit}

-- the bit of column x and row y put to v, if it lies inside the area
unfoldable pub put_inside : Area → List ℕ → ℕ → ℕ → ℕ → List ℕ
put_inside a p x y v = pick (inside a x y) (put_bit p x y v) p

-- the eight bits of b in turn, from column x of row y
unfoldable pub written : List ℕ → Area → ℕ → ℕ → ℕ → List ℕ
written p a x y b = turns 8 (λ k q. put_inside a q (x + k) y (bit_of b k)) p

-- the cursor goes on by 8, past the last column to the first one of the next row; both numbers are held at 65,535
unfoldable pub next_of : Area → Cursor → Cursor
next_of a c =
    pick (ltb a.x1 (min (c.x + 8) 65535))
    (record { x = a.x0; y = min (c.y + 1) 65535 })
    (record { x = min (c.x + 8) 65535; y = c.y })
