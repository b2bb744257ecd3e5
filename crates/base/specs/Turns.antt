-- A step done again and again.
use Rattle.std.specs.Prelude.{ℕ, zero, suc}

-- step 0, then step 1, up to step n - 1, each on what the one before it left
abbrev pub turns : {A : Type 0} → ℕ → (ℕ → A → A) → A → A
turns zero f a = a
turns (suc n) f a = f n (turns n f a)
