-- Document 01, "Making a panel, and being turned back", 1 to 4, and request 2026-05's 13: what turns a configuration back.
use Rattle.std.specs.Prelude.{Bool, false, ◌||◌, List, ℕ, zero, suc, ◌-◌, ◌^◌, ◌≤◌, ◌<◌, get_or, eqb, ltb}
use Rattle.base.specs.Pick.{pick}
use Rattle.clock.specs.Clock.{billion, bad_rate}
use Rattle.config.specs.declared.Uc8253Config.{Uc8253Config}

-- 1, empty panel: sources or gates is 0
unfoldable pub empty_panel : Uc8253Config → Bool
empty_panel c = eqb c.panel.sources 0 || eqb c.panel.gates 0

-- 2, oversized panel: sources > 800 or gates > 600
unfoldable pub oversized_panel : Uc8253Config → Bool
oversized_panel c = ltb 800 c.panel.sources || ltb 600 c.panel.gates

-- 3, swing: full swing is 0 or above 2^63 - 1
unfoldable pub swing_refused : Uc8253Config → Bool
swing_refused c = eqb c.optics.full_swing 0 || ltb (2 ^ 63 - 1) c.optics.full_swing

-- one of the first n numbers is 0
abbrev pub some_zero : List ℕ → ℕ → Bool
some_zero l zero = false
some_zero l (suc n) = some_zero l n || eqb (get_or l n 0) 0

-- 4, frame period: one of the 32 periods is 0
unfoldable pub period_refused : Uc8253Config → Bool
period_refused c = some_zero c.timing.frame_period 32

-- 13, rate out of range (2026-05)
unfoldable pub rate_refused : Uc8253Config → Bool
rate_refused c = bad_rate c.timing.rate

-- the number of the first that is met, 0 if none is; 13 comes straight after 4
unfoldable pub refusal : Uc8253Config → ℕ
refusal c =
    pick (empty_panel c) 1
    (pick (oversized_panel c) 2 (pick (swing_refused c) 3 (pick (period_refused c) 4 (pick (rate_refused c) 13 0))))

-- what a configuration has that meets none of the five
pub record Accepted (c : Uc8253Config) : Type 0 where
  pub sources_least : 1 ≤ c.panel.sources
  pub sources_most : c.panel.sources ≤ 800
  pub gates_least : 1 ≤ c.panel.gates
  pub gates_most : c.panel.gates ≤ 600
  pub swing_least : 1 ≤ c.optics.full_swing
  pub swing_most : c.optics.full_swing ≤ 2 ^ 63 - 1
  pub period_least : (k : ℕ) → k < 32 → 1 ≤ get_or c.timing.frame_period k 0
  pub rate_least : 1 ≤ c.timing.rate
  pub rate_most : c.timing.rate ≤ billion
