-- Request 2026-05, "The board's own clock": durations in nanoseconds, times in cycles of a rate in Hz.
use Rattle.std.specs.Prelude.{Bool, true, false, ℕ, ◌+◌, ◌-◌, ◌*◌, ◌/◌, min, max}
use Rattle.base.specs.Word.{top}
use Rattle.base.specs.Pick.{pick, between}

-- the most Hz
abbrev pub billion : ℕ
billion = 1_000_000_000

-- a rate outside 1 .. 1,000,000,000, which no record has, counts as the nearest inside
unfoldable pub near : ℕ → ℕ
near rate = max 1 (min rate billion)

-- a duration in cycles: ns × rate / 1,000,000,000, rounded up
unfoldable pub cycles_of : ℕ → ℕ → ℕ
cycles_of rate ns = (ns * near rate + (billion - 1)) / billion

-- cycles in nanoseconds: cycles × 1,000,000,000 / rate, rounded down and held at 2^64 - 1
unfoldable pub nanos_of : ℕ → ℕ → ℕ
nanos_of rate cycles = min (cycles * billion / near rate) top

-- refusal 13: the rate is 0 or above 1,000,000,000
unfoldable pub bad_rate : ℕ → Bool
bad_rate rate = pick (between 1 billion rate) false true
