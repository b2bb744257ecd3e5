-- Document 01, "Making a panel": states as a buffer holds them, and refusal 7.
use Rattle.std.specs.Prelude.{◌≡◌, Bool, true, false, List, ℕ, ◌≤◌, min, leb, eqb, ℤ, pos, negsuc}
use Rattle.base.specs.Integer.{up}
use Rattle.base.specs.Pick.{pick}
use Rattle.pixels.specs.Lists.{every}

-- 2^63 - 1, the largest state that a signed 64-bit entry holds
abbrev pub most : ℕ
most = 0x7fff_ffff_ffff_ffff

-- a state as an entry holds it
abbrev pub state_held : ℕ → ℤ
state_held x = pos (min x most)

-- an entry is a state: it lies in 0 .. full swing
abbrev pub is_state : ℕ → ℤ → Bool
is_state s (pos n) = leb n s
is_state s (negsuc n) = false

abbrev pub every_state : ℕ → List ℤ → Bool
every_state s l = every (is_state s) l

-- what that test says of an entry
pub record StateInRange (s : ℕ) (z : ℤ) : Type 0 where
  pub is : z ≡ pos (up z)
  pub within : up z ≤ s

-- a table number is one of 1, 2, 3, 4, 255
unfoldable pub is_number : ℕ → Bool
is_number n =
    pick (eqb n 1) true
    (pick (eqb n 2) true
    (pick (eqb n 3) true
    (pick (eqb n 4) true
    (eqb n 255))))

abbrev pub every_number : List ℕ → Bool
every_number l = every is_number l
