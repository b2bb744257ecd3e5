-- The values of a change: 0, 1 and what is neither.
use Rattle.std.specs.Prelude.{Bool, true, false, List, [], ◌∷◌, ℕ, eqb, Option, Some, None}
use Rattle.base.specs.Pick.{pick, one_of}

-- what is neither: x, z or a real number
abbrev pub unknown : ℕ
unknown = 2

-- 0, 1, x X z Z; any other byte is no value
unfoldable pub level : ℕ → Option ℕ
level b =
    pick (eqb b 48) (Some 0)
    (pick (eqb b 49) (Some 1)
    (pick (one_of (0x58 ∷ 0x5a ∷ 0x78 ∷ 0x7a ∷ []) b) (Some unknown) None))

abbrev pub is_level : Option ℕ → Bool
is_level (Some v) = true
is_level None = false

-- a vector counts by its last digit; behind digits whose last had the level n
abbrev pub vector_from : Option ℕ → List ℕ → Option ℕ
vector_from n [] = n
vector_from n (b ∷ w) = pick (is_level (level b)) (vector_from (level b) w) None

-- one digit or more, each of them a level
unfoldable pub vector_level : List ℕ → Option ℕ
vector_level w = vector_from None w
