-- Codes beside VCOM's, frame by frame: how many frames, what each is, and runs of equal codes at once.
use mathlib.Core.Path.{◌≡◌, refl, ap, ◌∙◌}
use mathlib.Core.Bool.{Bool}
use mathlib.Core.List.{List, [], ◌∷◌, ◌++◌}
use Prim.Native.Nat.{ℕ, zero, suc, ◌<◌}
use native.Mathlib.Omega.{arith}
use lib.ListN.{length, get_or, drop, replicate}
use lib.Seq.{drop-nil}
use lib.IntN.{ℤ, pos}
use Rattle.waveform.specs.declared.Levels.{Levels}
use Rattle.waveform.specs.Frames.{drive_of, beside}

module _ (l : Levels) (period : ℕ) (black : Bool) where
  pub beside_length : (codes vcom : List ℕ) → length (beside l period black codes vcom) ≡ length codes
  beside_length [] vcom = refl
  beside_length (c ∷ codes) [] = ap suc (beside_length codes [])
  beside_length (c ∷ codes) (v ∷ vcom) = ap suc (beside_length codes vcom)

  pub beside_at : (codes vcom : List ℕ) (k : ℕ) → k < length codes →
      get_or (beside l period black codes vcom) k (pos 0) ≡ drive_of l period black (get_or codes k 0) (get_or vcom k 0)
  beside_at [] vcom k h = absurd (omega arith)
  beside_at (c ∷ codes) [] zero h = refl
  beside_at (c ∷ codes) [] (suc k) h = beside_at codes [] k (omega arith)
  beside_at (c ∷ codes) (v ∷ vcom) zero h = refl
  beside_at (c ∷ codes) (v ∷ vcom) (suc k) h = beside_at codes vcom k (omega arith)

  -- the first codes meet VCOM's first, and the others what comes after
  pub beside_append : (codes more vcom : List ℕ) →
      beside l period black (codes ++ more) vcom ≡
      beside l period black codes vcom ++ beside l period black more (drop (length codes) vcom)
  beside_append [] more vcom = refl
  beside_append (c ∷ codes) more [] =
      ap (λ (ds : List ℤ). drive_of l period black c 0 ∷ ds)
      (beside_append codes more []
      ∙ ap (λ (vs : List ℕ). beside l period black codes [] ++ beside l period black more vs) (drop-nil (length codes)))
  beside_append (c ∷ codes) more (v ∷ vcom) = ap (λ (ds : List ℤ). drive_of l period black c v ∷ ds) (beside_append codes more vcom)

  -- VCOM's codes past as many as there are do not count
  pub beside_first : (codes vcom more : List ℕ) → length codes ≡ length vcom →
      beside l period black codes (vcom ++ more) ≡ beside l period black codes vcom
  beside_first [] vcom more e = refl
  beside_first (c ∷ codes) [] more e = absurd (omega arith)
  beside_first (c ∷ codes) (v ∷ vcom) more e =
      ap (λ (ds : List ℤ). drive_of l period black c v ∷ ds) (beside_first codes vcom more (omega arith))

  -- k frames of one code against k frames of one of VCOM's
  pub beside_run : (k c v : ℕ) (vcom : List ℕ) → ((i : ℕ) → i < k → get_or vcom i 0 ≡ v) →
      beside l period black (replicate k c) vcom ≡ replicate k (drive_of l period black c v)
  beside_run zero c v vcom h = refl
  beside_run (suc k) c v [] h =
      λ i. drive_of l period black c (h 0 (omega arith) i) ∷ beside_run k c v [] (λ j b. h (suc j) (omega arith)) i
  beside_run (suc k) c v (w ∷ vcom) h =
      λ i. drive_of l period black c (h 0 (omega arith) i) ∷ beside_run k c v vcom (λ j b. h (suc j) (omega arith)) i
