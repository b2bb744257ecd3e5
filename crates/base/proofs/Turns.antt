-- What holds of a step done again and again: one more, two runs joined, steps that do the same, and what each step keeps.
use mathlib.Core.Path.{◌≡◌, refl, ap, ◌∙◌}
use Prim.Native.Nat.{ℕ, zero, suc, ◌+◌, ◌<◌}
use native.Mathlib.Nat.{add-zero, add-suc}
use native.Mathlib.Numerals.{add-one}
use native.Mathlib.Omega.{arith}
use Rattle.base.specs.Turns.{turns}

pub turns_more : {A : Type 0} (n : ℕ) (f : ℕ → A → A) (a : A) → f n (turns n f a) ≡ turns (n + 1) f a
turns_more n f a = rw (add-one n)

pub turns_join : {A : Type 0} (m n : ℕ) (f : ℕ → A → A) (a : A) → turns n (λ i. f (m + i)) (turns m f a) ≡ turns (m + n) f a
turns_join m zero f a = rw (add-zero m)
turns_join m (suc n) f a = rw (add-suc m n) (ap (f (m + n)) (turns_join m n f a))

pub turns_same : {A : Type 0} (n : ℕ) (f g : ℕ → A → A) (a : A) → ((k : ℕ) (b : A) → k < n → f k b ≡ g k b) → turns n f a ≡ turns n g a
turns_same zero f g a e = refl
turns_same (suc n) f g a e = ap (f n) (turns_same n f g a (λ k b h. e k b (omega arith))) ∙ e n (turns n g a) (omega arith)

pub turns_keep : {A : Type 0} (P : A → Type 0) (n : ℕ) (f : ℕ → A → A) (a : A) → ((k : ℕ) (b : A) → k < n → P b → P (f k b)) → P a
    → P (turns n f a)
turns_keep P zero f a s h = h
turns_keep P (suc n) f a s h = s n (turns n f a) (omega arith) (turns_keep P n f a (λ k b l. s k b (omega arith)) h)
