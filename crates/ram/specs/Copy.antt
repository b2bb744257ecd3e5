-- Document 01, "A refresh": one that ends by itself copies new to old in its area.
use Rattle.std.specs.Prelude.{List, ℕ, ◌+◌, ◌-◌}
use Rattle.base.specs.Turns.{turns}
use Rattle.registers.specs.declared.Area.{Area}
use Rattle.ram.specs.Plane.{bit_at, put_bit}

-- n bits of row y from column x, one after the other
abbrev pub copied_bits : List ℕ → List ℕ → ℕ → ℕ → ℕ → List ℕ
copied_bits old new x y n = turns n (λ i p. put_bit p (x + i) y (bit_at new (x + i) y)) old

-- row y, from the first column of the area to the last; nothing where the first lies past the last
abbrev pub copied_row : List ℕ → List ℕ → Area → ℕ → List ℕ
copied_row old new a y = copied_bits old new a.x0 y (a.x1 + 1 - a.x0)

-- each row of the area, one after the other
unfoldable pub copied : List ℕ → List ℕ → Area → List ℕ
copied old new a = turns (a.y1 + 1 - a.y0) (λ j p. copied_row p new a (a.y0 + j)) old
