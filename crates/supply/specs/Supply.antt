-- Document 01, "A refresh": a supply level, in millivolts.
use Rattle.std.specs.Prelude.{◌≡◌, List, ℕ, ◌+◌, ◌*◌, ◌%◌, ◌<◌, get_or}

-- by its low six bits: 2,400 + 200 × code
abbrev pub supply_level : ℕ → ℕ
supply_level code = 2400 + 200 * (code % 64)

-- a list of the 64 levels, by code
unfoldable pub Listed : List ℕ → Type 0
Listed levels = (code : ℕ) → code < 64 → get_or levels code 0 ≡ supply_level code
