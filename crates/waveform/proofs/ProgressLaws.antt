-- Driving frames after frames: a phase extends what was driven by its frames, and extensions follow each other.
use mathlib.Core.Path.{◌≡◌, refl, sym, ap, ◌∙◌, subst}
use mathlib.Core.List.{List, [], ◌∷◌, ◌++◌, append_assoc, append-nil}
use Prim.Native.Nat.{ℕ, zero, suc, ◌-◌, ◌*◌, ◌≤◌, min}
use native.Mathlib.Nat.{suc-sub-suc, suc-min-suc, zero-mul, suc-mul}
use native.Mathlib.Decide.{dec_le}
use native.Mathlib.Omega.{arith}
use lib.ListN.{length, take, replicate, length-append, length-replicate}
use lib.IntN.{ℤ}
use Rattle.base.specs.Word.{top}
use Rattle.base.specs.Integer.{up, dn}
use Rattle.glass.specs.Transfer.{Acts, identity_of, shift_of, then_of}
use Rattle.glass.proofs.TransferLaws.{acts_identity, acts_repeated, acts_then}
use Rattle.waveform.specs.declared.Progress.{Progress}
use Rattle.waveform.specs.InnerProgress.{Driven, Extends}

-- ---- extensions
pub extends_none : (s : ℕ) (p : Progress) → Extends s p p []
extends_none s p b xs h = rw append-nil h

pub extends_more : (s : ℕ) (p q r : Progress) (xs ys : List ℤ) → Extends s p q xs → Extends s q r ys → Extends s p r (xs ++ ys)
extends_more s p q r xs ys f g b ds h = subst (λ (l : List ℤ). Driven s b r l) (append_assoc ds xs ys) (g b (ds ++ xs) (f b ds h))

-- ---- the first frames of lists in a row
take_append : (b : ℕ) (xs ys : List ℤ) → take b (xs ++ ys) ≡ take b xs ++ take (b - length xs) ys
take_append zero [] ys = refl
take_append (suc b) [] ys = ap (λ (n : ℕ). take n ys) {x = suc b} {y = suc b - 0} (omega arith)
take_append zero (x ∷ xs) ys = ap (λ (n : ℕ). take n ys) {x = 0} {y = 0 - suc (length xs)} (omega arith)
take_append (suc b) (x ∷ xs) ys =
    ap (λ (l : List ℤ). x ∷ l)
    (take_append b xs ys ∙ ap (λ (n : ℕ). take b xs ++ take n ys) (sym (suc-sub-suc b (length xs))))

take_replicate : (b n : ℕ) (d : ℤ) → take b (replicate n d) ≡ replicate (min n b) d
take_replicate zero n d = ap (λ (k : ℕ). replicate k d) {x = 0} {y = min n 0} (omega arith)
take_replicate (suc b) zero d = ap (λ (k : ℕ). replicate k d) {x = 0} {y = min 0 (suc b)} (omega arith)
take_replicate (suc b) (suc n) d = ap (λ (l : List ℤ). d ∷ l) (take_replicate b n d) ∙ ap (λ (k : ℕ). replicate k d) (sym (suc-min-suc n b))

-- ---- a product of what is already held
pub product_twice : (c k v : ℕ) → min (k * min v c) c ≡ min (k * v) c
product_twice c zero v = omega (arith, zero-mul (min v c), zero-mul v)
product_twice c (suc k) v = elim (dec_le v c) [
  | yes l ↦ ap (λ (n : ℕ). min (suc k * n) c) {x = min v c} {y = v} (omega arith)
  | no l ↦
      ap (λ (n : ℕ). min (suc k * n) c) {x = min v c} {y = c} (omega arith)
      ∙ omega (arith, suc-mul k c, suc-mul k v)
]

-- ---- a phase: n frames of the drive z, or what is left
abbrev pub phase_of : ℕ → Progress → ℕ → ℤ → Progress
phase_of s p n z = record {
  run = then_of p.run (shift_of (min (min n p.left * up z) top) (min (min n p.left * dn z) top) s);
  left = p.left - min n p.left;
}

pub phase_extends : (s : ℕ) (p : Progress) (n : ℕ) (z : ℤ) → s ≤ top → Extends s p (phase_of s p n z) (replicate n z)
phase_extends s p n z h b xs g = record {
  acts =
      rw (take_append b xs (replicate n z), ← g.rest, take_replicate p.left n z)
      (acts_then s p.run _ (take b xs) (replicate (min n p.left) z) h g.acts (acts_repeated s (min n p.left) z h));
  rest = simp (length-append, length-replicate) (omega (arith, g.rest));
}

-- ---- the start: nothing driven, b frames left
pub driven_start : (s b : ℕ) → Driven s b (record { run = identity_of s; left = b }) []
driven_start s b = record { acts = first b; rest = omega arith }
  where
    first : (b : ℕ) → Acts s (identity_of s) (take b [])
    first zero = acts_identity s
    first (suc b) = acts_identity s
