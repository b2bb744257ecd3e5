-- `glass::gray_wide` meets its contract. The invariant is `Digits`.
use Prim.Native.Nat.{ℕ, ◌<◌, ◌≤◌, ◌+◌, ◌-◌, ◌*◌, ◌/◌, ◌^◌}
use mathlib.Core.Path.{◌≡◌, sym, ap, ◌∙◌}
use native.Mathlib.Nat.{div-le_self, div-one}
use native.Mathlib.Omega.{arith}
use lib.Pow.{pow_mono}
use Rattle.glass.proofs.GrayLaws.{Digits, digits_more, digits_small, next_digit, rounded, rounded_down, rounded_up, rounded_fits}
use Rattle.glass.proofs.gray_wide.Goals as goal

-- with some digits left
module _ (top x s left q r : ℕ) (h : x < s) (d : Digits x s (top / 2 ^ left) q r) where
  few : (digits : ℕ) → top < 2 ^ digits → digits ≤ 16 → q ≤ 65_535
  few digits k l = omega (arith, digits_small x s (top / 2 ^ left) q r h d, div-le_self top (2 ^ left), pow_mono l)

  -- and after the last turn
  done : left ≤ 0 → top * x ≡ q * s + r
  done k =
      ap (λ (n : ℕ). n * x) (sym (ap (λ (j : ℕ). top / 2 ^ j) {x = left} {y = 0} (omega arith) ∙ div-one top))
      ∙ d.whole

  held : rounded top x s ≤ top
  held = rounded_fits top x s (omega arith) (omega arith)

  ends-down : left ≤ 0 → 2 * r < s → rounded top x s ≡ q
  ends-down k l = rounded_down top x s q r (done k) l

  ends-up : left ≤ 0 → s ≤ 2 * r → rounded top x s ≡ q + 1
  ends-up k l = rounded_up top x s q r (done k) d.below l

pub overflow_add-q-in-loop-left : goal.overflow_add-q-in-loop-left
overflow_add-q-in-loop-left c =
    let a = c.args in
    let k = c.loop-left in
    record { fits = omega (arith, few a.top a.state a.swing k.left k.q k.r (omega arith) k.invariant a.digits (omega arith) (omega arith), c.carried-twice.ensures.one, c.carried-more.ensures.one) }

pub loop-left-preserved : goal.loop-left-preserved
loop-left-preserved c =
    let a = c.args in
    let k = c.loop-left in
    let n = a.top / 2 ^ (k.left - 1) in
    let before : Digits a.state a.swing (n / 2) k.q k.r = rw (next_digit a.top k.left (omega arith)) k.invariant in
    let digit = c.counted.ensures in
    digits_more a.state a.swing n k.q k.r c.carried-twice.result c.carried-more.result
    before c.carried-twice.ensures (rw (← digit) c.carried-more.ensures)

pub returns-then-r-swing : goal.returns-then-r-swing
returns-then-r-swing c =
    let a = c.args in
    let k = c.loop-left in
    omega (
      arith,
      ends-down a.top a.state a.swing k.left k.q k.r (omega arith) k.invariant (omega arith) (omega arith),
      held a.top a.state a.swing k.left k.q k.r (omega arith) k.invariant,
    )

pub returns-else-r-swing : goal.returns-else-r-swing
returns-else-r-swing c =
    let a = c.args in
    let k = c.loop-left in
    omega (
      arith,
      ends-up a.top a.state a.swing k.left k.q k.r (omega arith) k.invariant (omega arith) (omega arith),
      held a.top a.state a.swing k.left k.q k.r (omega arith) k.invariant,
    )
