-- `clock::cycles` meets its contract: the split quotient is the definition's, and there are never more cycles than nanoseconds.
use mathlib.Core.Path.{◌≡◌, sym}
use native.Mathlib.Omega.{arith}
use Rattle.clock.specs.Clock.{near}
use Rattle.clock.proofs.ClockLaws.{near_slow, cycles_split, cycles_fit, cycles_fast}
use Rattle.clock.proofs.cycles.Goals as goal

pub returns-then-rate-ge-BILLION : goal.returns-then-rate-ge-BILLION
returns-then-rate-ge-BILLION c = sym (cycles_fast c.args.rate c.args.ns c.if-rate-ge-BILLION.true)

pub returns : goal.returns
returns c =
    let is-near : c.max-near.result ≡ near c.args.rate =
    omega (arith, c.max-near.ensures, near_slow c.args.rate c.if-rate-ge-BILLION.false) in
    rw is-near (cycles_split c.args.rate c.args.ns)

pub overflow_add-result-2 : goal.overflow_add-result-2
overflow_add-result-2 c = record { fits = omega (arith, returns c, cycles_fit c.args.rate c.args.ns) }
