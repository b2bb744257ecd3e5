-- What refusal 7's tests say: a state that passes is a number from 0 to the full swing, and the other way round;
-- which bytes are table numbers.
use mathlib.Core.Path.{◌≡◌, refl, sym, ap, subst}
use mathlib.Core.Bool.{Bool, true, false}
use mathlib.Core.List.{List}
use Prim.Native.Nat.{ℕ, zero, suc, ◌≤◌, ◌<◌, min}
use native.Mathlib.Nat.{mul-le-mul_left}
use native.Mathlib.Omega.{arith}
use lib.Dec.{T}
use lib.IntN.{ℤ, pos, negsuc}
use lib.ListN.{length, get_or, replicate}
use borrow.Author.Tests.{le-leb, leb-true, ne_eqb}
use Rattle.base.specs.Integer.{dn}
use Rattle.glass.specs.Gray.{level_of}
use Rattle.pixels.specs.States.{most, state_held, is_state, every_state, StateInRange, is_number, every_number}
use Rattle.pixels.proofs.ListLaws.{every_at, every_from, every_replicate}

-- ---- states
pub state_in_range : (s : ℕ) (z : ℤ) → is_state s z ≡ true → StateInRange s z
state_in_range s (pos n) e = record { is = refl; within = leb-true n s e }
state_in_range s (negsuc n) e = absurd (subst (λ (b : Bool). T b) (sym e) tt)

pub in_range_state : (s : ℕ) (z : ℤ) → StateInRange s z → is_state s z ≡ true
in_range_state s (pos n) r = le-leb n s r.within
in_range_state s (negsuc n) r = absurd (omega (arith, ap dn r.is))

pub states_in_range : (s : ℕ) (l : List ℤ) → every_state s l ≡ true → (i : ℕ) → i < length l → StateInRange s (get_or l i (pos 0))
states_in_range s l e i h = state_in_range s (get_or l i (pos 0)) (every_at (is_state s) l e i h (pos 0))

pub in_range_states : (s : ℕ) (l : List ℤ) → ((i : ℕ) → i < length l → StateInRange s (get_or l i (pos 0))) → every_state s l ≡ true
in_range_states s l f = every_from (is_state s) l (pos 0) (λ i h. in_range_state s (get_or l i (pos 0)) (f i h))

pub states_replicate : (s k n : ℕ) → n ≤ s → every_state s (replicate k (pos n)) ≡ true
states_replicate s k n h = every_replicate (is_state s) k (pos n) (le-leb n s h)

-- the level of a grey is a state, and a state is stored as it is
pub level_within : (g s : ℕ) → g ≤ 255 → level_of g s ≤ s
level_within g s h = omega (arith, mul-le-mul_left {m = g} {n = 255} s h)

pub held_exact : (x s : ℕ) → x ≤ s → s ≤ most → state_held x ≡ pos x
held_exact x s h b = ap pos {x = min x most} {y = x} (omega arith)

-- ---- table numbers
pub table_number : (n : ℕ) → 1 ≤ n → n ≤ 4 → is_number n ≡ true
unfolding is_number
table_number zero h k = absurd (omega arith)
table_number (suc zero) h k = refl
table_number (suc (suc zero)) h k = refl
table_number (suc (suc (suc zero))) h k = refl
table_number (suc (suc (suc (suc zero)))) h k = refl
table_number (suc (suc (suc (suc (suc n))))) h k = absurd (omega arith)

pub undriven_number : is_number 255 ≡ true
unfolding is_number
undriven_number = refl

pub no_number : (n : ℕ) → (n ≡ 1 → ⊥) → (n ≡ 2 → ⊥) → (n ≡ 3 → ⊥) → (n ≡ 4 → ⊥) → (n ≡ 255 → ⊥) → is_number n ≡ false
unfolding is_number
no_number n p q r s t = rw (ne_eqb n 1 p, ne_eqb n 2 q, ne_eqb n 3 r, ne_eqb n 4 s, ne_eqb n 255 t)

pub numbers_known : (l : List ℕ) → every_number l ≡ true → (i : ℕ) → i < length l → is_number (get_or l i 255) ≡ true
numbers_known l e i h = every_at is_number l e i h 255
