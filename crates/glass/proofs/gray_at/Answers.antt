-- `glass::gray_at` meets its contract. Below 2 ^ 47 the formula's own numbers fit 64 bits.
use borrow.Author.Rules.{rules}
use mathlib.Core.Path.{◌≡◌, sym, ap, ◌∙◌}
use Prim.Native.Nat.{ℕ, ◌+◌, ◌*◌, ◌/◌, ◌≤◌, ◌<◌}
use native.Mathlib.Nat.{mul-le-mul, div-zero}
use native.Mathlib.Omega.{arith}
use Rattle.glass.specs.Gray.{gray_at}
use Rattle.glass.proofs.GrayLaws.{quotient, rounded_fits, gray_white}
use Rattle.glass.proofs.gray_at.Goals.{Then-swing-lt140737488355328}
use Rattle.glass.proofs.gray_at.Goals as goal

small : (t x s : ℕ) → t ≤ 65_535 → x < s → s < 0x8000_0000_0000 → 2 * t * x ≤ 131_070 * 0x7FFF_FFFF_FFFF
small t x s h k l = mul-le-mul {n₁ = 2 * t} {m₁ = x} {n₂ = 131_070} {m₂ = 0x7FFF_FFFF_FFFF} (omega arith) (omega arith)

-- with no swing
black : (t x s : ℕ) → s ≡ 0 → gray_at t x s ≡ 0
black t x s e = rw e (omega (arith, div-zero (2 * (x * t) + 0)))

-- where the swing is narrow
module _ (c : Then-swing-lt140737488355328) where
  narrow : 2 * c.top_of-white.result * c.args.state ≤ 131_070 * 0x7FFF_FFFF_FFFF
  narrow = small c.top_of-white.result c.args.state c.args.swing (search rules) (omega arith) (omega arith)

  low : (2 * c.top_of-white.result * c.args.state + c.args.swing)
      / (2 * c.args.swing) ≤ c.top_of-white.result
  low =
      let a = c.args in
      let t = c.top_of-white.result in
      omega (arith, quotient t a.state a.swing, rounded_fits t a.state a.swing (omega arith) (omega arith))

pub returns-then-swing-eq0 : goal.returns-then-swing-eq0
returns-then-swing-eq0 c = let a = c.args in sym (black _ a.state a.swing c.if-swing-eq0.true)

pub returns-else-swing-eq0 : goal.returns-else-swing-eq0
returns-else-swing-eq0 c = let a = c.args in rw (← c.top_of-white.ensures) (gray_white _ a.state a.swing (omega arith) (omega arith))

pub overflow_mul-result-then-swing-lt140737488355328 : goal.overflow_mul-result-then-swing-lt140737488355328
overflow_mul-result-then-swing-lt140737488355328 c = record { fits = omega (arith, narrow c) }

pub overflow_add-result : goal.overflow_add-result
overflow_add-result c = record { fits = omega (arith, narrow c) }

pub overflow_cast-result-then-swing-lt140737488355328 : goal.overflow_cast-result-then-swing-lt140737488355328
overflow_cast-result-then-swing-lt140737488355328 c = record { fits = omega (arith, low c) }

pub returns-then-swing-lt140737488355328 : goal.returns-then-swing-lt140737488355328
returns-then-swing-lt140737488355328 c =
    let a = c.args in
    rw (← c.top_of-white.ensures) (omega (arith, low c, quotient c.top_of-white.result a.state a.swing))

pub returns-else-swing-lt140737488355328 : goal.returns-else-swing-lt140737488355328
returns-else-swing-lt140737488355328 c =
    let a = c.args in
    c.gray_wide.ensures ∙ ap (λ (t : ℕ). gray_at t a.state a.swing) c.top_of-white.ensures
