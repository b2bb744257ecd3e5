-- A rectangle of RAM, its ends included.
use Rattle.std.specs.Prelude.{Bool, ◌&&◌, ℕ, leb}
use Rattle.registers.specs.declared.Area.{Area}

-- column x and row y lie inside
unfoldable pub inside : Area → ℕ → ℕ → Bool
inside a x y = leb a.x0 x && leb x a.x1 && leb a.y0 y && leb y a.y1
