-- Integers by their parts: z is `up z - dn z`, and one of the two is 0.
use Rattle.std.specs.Prelude.{ℕ, suc, min, max, ℤ, pos, negsuc}

-- how far z lies above zero
abbrev pub up : ℤ → ℕ
up (pos n) = n
up (negsuc n) = 0

-- how far z lies below zero
abbrev pub dn : ℤ → ℕ
dn (pos n) = 0
dn (negsuc n) = suc n

-- the larger of two
abbrev pub maxℤ : ℤ → ℤ → ℤ
maxℤ (pos a) (pos b) = pos (max a b)
maxℤ (pos a) (negsuc b) = pos a
maxℤ (negsuc a) (pos b) = pos b
maxℤ (negsuc a) (negsuc b) = negsuc (min a b)

-- the smaller of two
abbrev pub minℤ : ℤ → ℤ → ℤ
minℤ (pos a) (pos b) = pos (min a b)
minℤ (pos a) (negsuc b) = negsuc b
minℤ (negsuc a) (pos b) = negsuc a
minℤ (negsuc a) (negsuc b) = negsuc (max a b)
