-- `clock::nanoseconds` meets its contract: what is held twice is held once.
use mathlib.Core.Path.{◌≡◌, sym}
use native.Mathlib.Omega.{arith}
use Rattle.clock.specs.Clock.{near}
use Rattle.clock.proofs.ClockLaws.{near_slow, nanos_split, nanos_fast}
use Rattle.clock.proofs.nanoseconds.Goals as goal

pub returns-then-rate-ge-BILLION : goal.returns-then-rate-ge-BILLION
returns-then-rate-ge-BILLION c = sym (nanos_fast c.args.rate c.args.cycles c.if-rate-ge-BILLION.true (omega arith))

pub returns : goal.returns
returns c =
    let is-near : c.max-near.result ≡ near c.args.rate =
    omega (arith, c.max-near.ensures, near_slow c.args.rate c.if-rate-ge-BILLION.false) in
    rw (c.saturating_add.ensures, c.saturating_mul-seconds.ensures, is-near) (nanos_split c.args.rate c.args.cycles)
