-- Greys as bytes: one more of a row, how many there are; and a picture of bytes at the top 255 is written as it stands.
use mathlib.Core.Path.{◌≡◌, refl, sym, ap, ◌∙◌}
use mathlib.Core.List.{List, [], ◌∷◌, ◌++◌, append-nil, append_assoc}
use Prim.Native.Nat.{ℕ, zero, suc, ◌+◌, ◌*◌, ◌/◌, ◌%◌, ◌≤◌, ◌<◌, min}
use native.Mathlib.Nat.{mod-eq_of_lt}
use native.Mathlib.Numerals.{add-one}
use native.Mathlib.Omega.{arith}
use lib.Dec.{leb}
use lib.ListN.{length, take, drop, get_or, length-append, length-take}
use Rattle.base.proofs.Cases.{both}
use Rattle.std.specs.Borrow.{MutBor}
use Rattle.text.specs.declared.Text.{Text}
use Rattle.text.specs.Text.{filled, begun, put}
use Rattle.text.proofs.Filling.{take_filled, put_held, put_buffer, laid_zero}
use Rattle.png.specs.Png.{png_of}
use Rattle.glass.specs.declared.PanelImage.{PanelImage}
use Rattle.output.specs.Units.{row_of, rows_of, sample_of, samples_of, wide_rows, graymap_units, graymap_of, graymap_at, png_units, png_at}
use Rattle.output.proofs.UnitLaws.{up_to_same, row_below}

samples_suc : (top : ℕ) (xs : List ℕ) (k : ℕ) → k < length xs
    → samples_of top (take k xs) ++ sample_of top (get_or xs k 0) ≡ samples_of top (take (suc k) xs)
samples_suc top [] k h = absurd (omega arith)
samples_suc top (x ∷ xs) zero h = sym (append-nil (sample_of top x))
samples_suc top (x ∷ xs) (suc k) h =
    append_assoc (sample_of top x) (samples_of top (take k xs)) (sample_of top (get_or xs k 0))
    ∙ ap (λ (l : List ℕ). sample_of top x ++ l) (samples_suc top xs k (omega arith))

pub samples_more : (top : ℕ) (xs : List ℕ) (k : ℕ) → k < length xs
    → samples_of top (take k xs) ++ sample_of top (get_or xs k 0) ≡ samples_of top (take (k + 1) xs)
samples_more top xs k h = rw (add-one k) (samples_suc top xs k h)

sample_long : (top x : ℕ) → length (sample_of top x) ≤ 2
unfolding sample_of
sample_long top x =
    both (λ (l : List ℕ). length l ≤ 2) (leb top 255) {a = x % 0x100 ∷ []} {b = x / 0x100 ∷ x % 0x100 ∷ []} (omega arith) (omega arith)

pub length_samples : (top : ℕ) (xs : List ℕ) → length (samples_of top xs) ≤ 2 * length xs
length_samples top [] = omega arith
length_samples top (x ∷ xs) =
    rw (length-append (sample_of top x) (samples_of top xs)) (omega (arith, sample_long top x, length_samples top xs))

-- what was put at the start of a list that is long enough stands there; so do the samples of a row of at most 65,535 pixels
pub row_front : (top w y : ℕ) (p : List ℕ) {row : List ℕ} (b : MutBor (List ℕ)) (s t : Text) → w < 65_536 → 131_070 ≤ length b.now
    → s ≡ begun b → row ≡ row_of w y p → t ≡ put (samples_of top row) s → take t.held t.buffer.now ≡ samples_of top (row_of w y p)
row_front top w y p b s t h k i e q =
    let x = samples_of top (row_of w y p) in
    let long : length x ≤ 131_070 = omega (arith, length_samples top (row_of w y p), length-take w (drop (y * w) p)) in
    let f : t ≡ put x (begun b) = q ∙ rw (i, e) in
    let n : min (length x) (length b.now) ≡ length x = omega (arith, long) in
    let m : t.held ≡ length x = omega (arith, ap (λ (u : Text). u.held) f, put_held x (begun b)) in
    let c : t.buffer.now ≡ filled (x ++ []) b.now =
    ap (λ (u : Text). u.buffer.now) f ∙ put_buffer x (begun b) ∙ laid_zero x b.now ∙ ap (λ (y : List ℕ). filled y b.now) (sym (append-nil x)) in
    rw (m, c) (take_filled x [] b.now (omega (arith, long)))

-- ---- bytes at the top 255
bytes_samples : (xs : List ℕ) → ((i : ℕ) → get_or xs i 0 < 256) → samples_of 255 xs ≡ xs
unfolding sample_of
bytes_samples [] h = refl
bytes_samples (x ∷ xs) h = rw (mod-eq_of_lt (h 0)) (ap (λ (l : List ℕ). x ∷ l) (bytes_samples xs (λ i. h (suc i))))

module _ (p : List ℕ) (h : (i : ℕ) → get_or p i 0 < 256) where
  pub bytes_rows : (width height : ℕ) → wide_rows 255 width height p ≡ rows_of width height p
  unfolding wide_rows rows_of
  bytes_rows width height =
      up_to_same height (λ y. samples_of 255 (row_of width y p)) (λ y. row_of width y p)
      (λ y. bytes_samples (row_of width y p) (row_below 256 width y p h))

  -- the two words of document 01's picture are those at the top 255
  pub graymap_255 : (i : PanelImage) → graymap_at 255 i p ≡ graymap_of i p
  graymap_255 i = ap (graymap_units 255 i) (bytes_rows i.width i.height)

  pub png_255 : (i : PanelImage) → png_at 255 i p ≡ png_units i p
  unfolding png_units
  png_255 i = ap (png_of i.width i.height 8) (bytes_rows i.width i.height)
