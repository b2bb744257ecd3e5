-- A step of long division: a sum of two numbers below the swing.
use Rattle.std.specs.Prelude.{◌≡◌, ℕ, ◌+◌, ◌*◌, ◌≤◌, ◌<◌}
use Rattle.glass.specs.declared.Sum.{Sum}

-- a + b as a carry and what is left below s
pub record Carried (a b s : ℕ) (p : Sum) : Type 0 where
  pub whole : p.carry * s + p.rest ≡ a + b
  pub below : p.rest < s
  pub one : p.carry ≤ 1
