-- Document 01, "A refresh", and 2026-03: the picture of the states.
use Rattle.std.specs.Prelude.{List, ℕ, ℤ}
use Rattle.base.specs.Integer.{up}
use Rattle.glass.specs.Gray.{gray_at}
use Rattle.pixels.specs.Lists.{beside}

-- at a top: each entry of the picture becomes the grey of its state; an entry with no state stays
abbrev pub drawn_at : ℕ → ℕ → List ℤ → List ℕ → List ℕ
drawn_at top s states picture = beside (λ z g. gray_at top (up z) s) states picture

-- the picture of document 01
abbrev pub drawn : ℕ → List ℤ → List ℕ → List ℕ
drawn s states picture = drawn_at 255 s states picture
