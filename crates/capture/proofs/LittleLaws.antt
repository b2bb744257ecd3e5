-- A little-endian number grows by one byte at its low end, and n bytes make a number below 256 ^ n.
use mathlib.Core.Path.{◌≡◌, sym, ap, subst, ◌∙◌}
use mathlib.Core.List.{List}
use Prim.Native.Nat.{ℕ, suc, ◌+◌, ◌-◌, ◌*◌, ◌^◌, ◌≤◌, ◌<◌}
use native.Mathlib.Nat.{pow-succ', pow-le-pow_right, le_refl, mul-le-mul}
use native.Mathlib.Omega.{arith}
use lib.ListN.{get_or}
use Rattle.capture.specs.Little.{little}

pub little_more : (l : List ℕ) (at n k : ℕ) → 0 < k → k ≤ n
    → get_or l (at + (k - 1)) 0 + 256 * little l (at + k) (n - k) ≡ little l (at + (k - 1)) (n - (k - 1))
little_more l at n k h g =
    let more : n - (k - 1) ≡ suc (n - k) = omega arith in
    let next : at + k ≡ suc (at + (k - 1)) = omega arith in
    ap (λ (p : ℕ). get_or l (at + (k - 1)) 0 + 256 * little l p (n - k)) next ∙ sym (ap (little l (at + (k - 1))) more)

-- no byte yet
pub none_yet : (l : List ℕ) (p n : ℕ) → (0 ≡ little l p (n - n)) × (0 < 256 ^ (n - n))
none_yet l p n =
    let none : n - n ≡ 0 = omega arith in
    (sym (ap (little l p) none), subst (λ (m : ℕ). 0 < 256 ^ m) (sym none) (le_refl 1))

-- a number with one byte more
pub more_below : (n k v b : ℕ) → 0 < k → k ≤ n → v < 256 ^ (n - k) → b < 256 → b + 256 * v < 256 ^ (n - (k - 1))
more_below n k v b h g below byte =
    let more : suc (n - k) ≡ n - (k - 1) = omega arith in
    subst (λ (m : ℕ). b + 256 * v < 256 ^ m) more (omega (arith, pow-succ' 256 (n - k)))

-- eight bytes fit 64 bits
pub word_fits : {j v : ℕ} → j ≤ 8 → v < 256 ^ j → v < 2 ^ 64
word_fits {j} {v} h g =
    let most : 256 ^ j ≤ 256 ^ 8 = pow-le-pow_right {n = 256} (omega arith) h in
    omega (arith, most)

-- two numbers of 16 bits
pub product_fits : (w h : ℕ) → w < 65_536 → h < 65_536 → w * h < 2 ^ 32
product_fits w h k l = omega (arith, mul-le-mul {n₁ = w} {m₁ = h} {n₂ = 65_535} {m₂ = 65_535} (omega arith) (omega arith))
