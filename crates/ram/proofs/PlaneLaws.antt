-- A bit that is put is read back, and every other bit of the plane stays: alone, and in a run along a row.
-- Lengths stay, and entries stay bytes.
use mathlib.Core.Path.{◌≡◌, refl, sym, ap, ◌∙◌}
use mathlib.Core.Bool.{Bool, true}
use mathlib.Core.List.{List}
use Prim.Native.Nat.{ℕ, zero, suc, ◌+◌, ◌%◌, ◌<◌}
use native.Mathlib.Nat.{mod-lt}
use native.Mathlib.Omega.{arith}
use native.Mathlib.Decide.{dec_le, ℕ_discrete}
use lib.ListN.{length, get_or, set, length-set}
use lib.Seq.{get_or-set_same, get_or-set_other, set_out}
use borrow.Author.Tests.{eq-eqb, ne_eqb}
use Rattle.base.specs.Pick.{pick}
use Rattle.base.specs.Turns.{turns}
use Rattle.base.proofs.Cases.{by_cases}
use Rattle.base.proofs.Turns.{turns_keep}
use Rattle.ram.specs.Plane.{bit_of, with_bit, place, bit_at, put_bit, Bytes}
use Rattle.ram.proofs.ByteLaws.{bit_small, with_bit_byte, with_bit_reads}

pub bit_at_small : (p : List ℕ) (x y : ℕ) → bit_at p x y < 2
unfolding bit_at
bit_at_small p x y = bit_small (get_or p (place x y) 0) (x % 8)

pub length_put : (p : List ℕ) (x y v : ℕ) → length (put_bit p x y v) ≡ length p
unfolding put_bit
length_put p x y v = length-set p (place x y) _

-- the byte at a place after a store there: what was stored, or what was there if the place lies past the end
stored : (p : List ℕ) (i c : ℕ) (P : ℕ → Type 0) → P c → P (get_or p i 0) → P (get_or (set p i c) i 0)
stored p i c P s h = elim (dec_le (length p) i) [
  | yes out ↦ rw (set_out p i c out) h
  | no within ↦ rw (get_or-set_same p i c 0 (omega arith)) s
]

pub bytes_set : (p : List ℕ) (i c : ℕ) → Bytes p → c < 256 → Bytes (set p i c)
bytes_set p i c h s j = elim (ℕ_discrete j i) [
  | yes e ↦ rw e (stored p i c (λ (b : ℕ). b < 256) s (h i))
  | no ne ↦ rw (get_or-set_other p i j c 0 ne) (h j)
]

pub bytes_put : (p : List ℕ) (x y v : ℕ) → Bytes p → v < 2 → Bytes (put_bit p x y v)
unfolding put_bit
bytes_put p x y v h small =
    bytes_set p (place x y) _ h (with_bit_byte (get_or p (place x y) 0) (x % 8) v (h (place x y)) (mod-lt x (omega arith)) small)

pub bit_put_same : (p : List ℕ) (x y v : ℕ) → Bytes p → v < 2 → place x y < length p → bit_at (put_bit p x y v) x y ≡ v
unfolding bit_at put_bit
bit_put_same p x y v h small within =
    rw (get_or-set_same p (place x y) (with_bit (get_or p (place x y) 0) (x % 8) v) 0 within)
    (with_bit_reads (get_or p (place x y) 0) (x % 8) v (x % 8) (h (place x y)) (mod-lt x (omega arith)) small (mod-lt x (omega arith))
    ∙ rw (eq-eqb (x % 8) (x % 8) refl))

pub bit_put_other : (p : List ℕ) (x y v x' y' : ℕ) → Bytes p → v < 2 → x < 800 → x' < 800 → (x' ≡ x → y' ≡ y → ⊥)
    → bit_at (put_bit p x y v) x' y' ≡ bit_at p x' y'
unfolding bit_at put_bit
bit_put_other p x y v x' y' h small hx hx' apart = elim (ℕ_discrete (place x' y') (place x y)) [
  | yes e ↦
      rw e (stored p (place x y) _ (λ (b : ℕ). bit_of b (x' % 8) ≡ bit_of (get_or p (place x y) 0) (x' % 8))
      (with_bit_reads (get_or p (place x y) 0) (x % 8) v (x' % 8) (h (place x y)) (mod-lt x (omega arith)) small (mod-lt x' (omega arith))
      ∙ rw (ne_eqb (x' % 8) (x % 8) (λ s. apart (omega arith) (omega arith))))
      refl)
  | no ne ↦ rw (get_or-set_other p (place x y) (place x' y') _ 0 ne)
]

-- ---- bits of a row put one after the other, those that a test lets through

-- bit k of the run is put to v k at column x + k, if the test lets it through
abbrev pub row_step : ℕ → ℕ → (ℕ → Bool) → (ℕ → ℕ) → ℕ → List ℕ → List ℕ
row_step x y on v k q = pick (on k) (put_bit q (x + k) y (v k)) q

module _ (x y : ℕ) (on : ℕ → Bool) (v : ℕ → ℕ) (small : (k : ℕ) → v k < 2) where
  pub length_row : (p : List ℕ) (n : ℕ) → length (turns n (row_step x y on v) p) ≡ length p
  length_row p n =
      turns_keep (λ (q : List ℕ). length q ≡ length p) n (row_step x y on v) p
      (λ k q h e. by_cases (on k) (λ t. rw t (length_put q (x + k) y (v k) ∙ e)) (λ t. rw t e)) refl

  pub bytes_row : (p : List ℕ) (n : ℕ) → Bytes p → Bytes (turns n (row_step x y on v) p)
  bytes_row p n h =
      turns_keep Bytes n (row_step x y on v) p
      (λ k q l s. by_cases (on k) (λ t. rw t (bytes_put q (x + k) y (v k) s (small k))) (λ t. rw t s)) h

  -- a bit that no step puts
  pub row_other : (p : List ℕ) (n x' y' : ℕ) → Bytes p → ((k : ℕ) → k < n → on k ≡ true → x + k < 800) → x' < 800
      → ((k : ℕ) → k < n → on k ≡ true → x' ≡ x + k → y' ≡ y → ⊥)
      → bit_at (turns n (row_step x y on v) p) x' y' ≡ bit_at p x' y'
  row_other p zero x' y' h room hx apart = refl
  row_other p (suc n) x' y' h room hx apart =
      let before = row_other p n x' y' h (λ k l. room k (omega arith)) hx (λ k l. apart k (omega arith)) in
      by_cases (on n)
      (λ t. rw t (bit_put_other (turns n (row_step x y on v) p) (x + n) y (v n) x' y' (bytes_row p n h)
      (small n) (room n (omega arith) t) hx (apart n (omega arith) t) ∙ before))
      (λ t. rw t before)

  -- a bit that a step puts
  pub row_same : (p : List ℕ) (n k : ℕ) → Bytes p → ((k : ℕ) → k < n → on k ≡ true → x + k < 800) → k < n → on k ≡ true
      → place (x + k) y < length p
      → bit_at (turns n (row_step x y on v) p) (x + k) y ≡ v k
  row_same p zero k h room l t within = absurd (omega arith)
  row_same p (suc n) k h room l t within = elim (ℕ_discrete k n) [
    | yes e ↦
        rw (ap on (sym e) ∙ t)
        (rw e (bit_put_same (turns n (row_step x y on v) p) (x + n) y (v n)
        (bytes_row p n h) (small n) (rw (length_row p n) (rw e at within))))
    | no ne ↦
        let before = row_same p n k h (λ j m. room j (omega arith)) (omega (arith, ne)) t within in
        by_cases (on n)
        (λ s. rw s (bit_put_other (turns n (row_step x y on v) p) (x + n) y (v n) (x + k) y (bytes_row p n h) (small n)
        (room n (omega arith) s) (room k l t) (λ e f. ne (omega arith)) ∙ before))
        (λ s. rw s before)
  ]
