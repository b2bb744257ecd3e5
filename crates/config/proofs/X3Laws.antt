-- The X3's periods stand at their codes, and its own values are accepted behind either controller.
use mathlib.Core.Path.{◌≡◌, refl}
use Prim.Native.Nat.{ℕ, ◌<◌}
use lib.ListN.{get_or}
use Rattle.base.proofs.Listed.{get_d_listed}
use Rattle.config.specs.declared.Variant.{Variant}
use Rattle.config.specs.X3.{hertz, ds53, periods_to, x3_by}
use Rattle.config.specs.Refusal.{empty_panel, oversized_panel, swing_refused, period_refused, rate_refused, refusal}
use Rattle.clock.specs.Clock.{bad_rate}

pub period_at : (n k : ℕ) → k < n → get_or (periods_to n) k 0 ≡ ds53 k
period_at n = get_d_listed n ds53 0

pub x3_accepted : (v : Variant) → refusal (x3_by v) ≡ 0
unfolding refusal empty_panel oversized_panel swing_refused period_refused rate_refused bad_rate ds53 hertz
x3_accepted v = refl
