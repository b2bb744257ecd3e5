-- Request 2026-05, "The board's own clock": all times but the configuration's are cycles, so a call that starts an operation or cuts a
-- refresh converts. The definitions of the calls take the two conversions; the calls themselves go by the record's own.
use Rattle.std.specs.Prelude.{ℕ}
use Rattle.clock.specs.Clock.{cycles_of, nanos_of}
use Rattle.controller.specs.declared.Uc8253.{Uc8253}

-- a duration in cycles, and cycles in nanoseconds
pub record Counting : Type 0 where
  pub cycles : ℕ → ℕ
  pub nanos : ℕ → ℕ

-- by the rate that the record carries
abbrev pub own : Uc8253 → Counting
own p = record { cycles = cycles_of p.config.timing.rate; nanos = nanos_of p.config.timing.rate }

-- every cycle a nanosecond: neither converts
abbrev pub same : Uc8253 → Counting
same p = record { cycles = λ ns. ns; nanos = λ c. c }
