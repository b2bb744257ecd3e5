-- Document 01, "Making a panel" and "A refresh", and 2026-03: the state of a grey, and the grey of a state at a top.
use Rattle.std.specs.Prelude.{ℕ, ◌+◌, ◌-◌, ◌*◌, ◌/◌, min, eqb}
use Rattle.base.specs.Pick.{pick}

-- full swing × grey / 255, rounded down
abbrev pub level_of : ℕ → ℕ → ℕ
level_of gray s = s * gray / 255

-- the top that is meant: 0 stands for 255
abbrev pub top_of : ℕ → ℕ
top_of top = pick (eqb top 0) 255 top

-- state × top / full swing, halves up, and no more than the top; a full swing of 0, which no panel has, gives 0
abbrev pub gray_at : ℕ → ℕ → ℕ → ℕ
gray_at top x s = min ((2 * (x * top) + s) / (2 * s)) top

-- the grey of document 01
abbrev pub gray_of : ℕ → ℕ → ℕ
gray_of x s = gray_at 255 x s

-- the least state of grey q or a lighter one: (q - 1/2) × full swing / 255, rounded up
abbrev pub least_of : ℕ → ℕ → ℕ
least_of q s = ((2 * q - 1) * s + 509) / 510
