-- Document 01, "The walk": what the frames of a refresh do to a pixel. A state is a number from 0 to the full swing s, a drive an integer.
use Rattle.std.specs.Prelude.{◌≡◌, List, [], ◌∷◌, ℕ, ◌≤◌, min, max, ℤ, pos, ◌+ℤ◌}
use Rattle.base.specs.Integer.{up, maxℤ, minℤ}

-- an integer held to lo .. hi
unfoldable pub hold : ℕ → ℕ → ℤ → ℕ
hold lo hi z = max lo (min (up z) hi)

-- a frame adds its drive, then holds to 0 .. full swing
unfoldable pub step : ℕ → ℕ → ℤ → ℕ
step s x d = hold 0 s (pos x +ℤ d)

-- the frames, one after the other
abbrev pub walk : ℕ → ℕ → List ℤ → ℕ
walk s x [] = x
walk s x (d ∷ ds) = walk s (step s x d) ds

-- the highest and the lowest of the running sums that begin at z and add the same drives without holding, z counted
abbrev pub highest : ℤ → List ℤ → ℤ
highest z [] = z
highest z (d ∷ ds) = maxℤ z (highest (z +ℤ d) ds)

abbrev pub lowest : ℤ → List ℤ → ℤ
lowest z [] = z
lowest z (d ∷ ds) = minℤ z (lowest (z +ℤ d) ds)

-- the walk ends in the same state from every start in 0 .. full swing
abbrev pub Coalesces : ℕ → List ℤ → Type 0
Coalesces s ds = (x y : ℕ) → x ≤ s → y ≤ s → walk s x ds ≡ walk s y ds
