-- A question about the RAM (mod.rs, `ram_bit`): a bit inside its 800 columns and 600 rows, nothing past them.
use Rattle.std.specs.Prelude.{None, Option, Some, List, ℕ, ltb}
use Rattle.base.specs.Pick.{pick}
use Rattle.ram.specs.Plane.{bit_at}

unfoldable pub ram_bit : List ℕ → ℕ → ℕ → Option ℕ
ram_bit p x y = pick (ltb x 800) (pick (ltb y 600) (Some (bit_at p x y)) None) None
