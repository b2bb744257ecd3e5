-- What the code asks of the states, and what it says of refusal 7.
use Rattle.std.specs.Prelude.{◌≡◌, true, List, ℕ, ◌≤◌, max, ℤ}
use Rattle.base.specs.Pick.{pick}
use Rattle.pixels.specs.States.{most, every_state}
use Rattle.controller.specs.declared.Uc8253.{Uc8253}
use Rattle.controller.specs.declared.notes.Notes.{Notes}
use Rattle.controller.specs.Tell.{rows_told}

-- 7, or 0
unfoldable pub seven : ℕ → List ℤ → ℕ
seven swing states = pick (every_state swing states) 0 7

-- what driving asks: of the swing, and of the states
abbrev pub SwingFits : Uc8253 → Type 0
SwingFits p = p.config.optics.full_swing ≤ most

abbrev pub StatesFit : Uc8253 → List ℤ → Type 0
StatesFit p states = every_state p.config.optics.full_swing states ≡ true

-- the rows after what a call at a time tells
abbrev pub stored : ℕ → Notes → Uc8253 → List ℕ → List ℕ
stored t n p rows = rows_told n (max p.now t) p.log rows
