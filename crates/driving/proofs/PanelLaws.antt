-- A panel driven row by row: the rows before are driven, and the next is driven from where they end.
use mathlib.Core.Path.{◌≡◌, refl, sym, ap, ◌∙◌}
use mathlib.Core.List.{List, [], ◌∷◌, ◌++◌, append-nil}
use Prim.Native.Nat.{ℕ, ◌+◌, ◌*◌, ◌≤◌}
use native.Mathlib.Omega.{arith}
use lib.IntN.{ℤ}
use lib.ListN.{length, take, drop, drop_of_length-le}
use lib.Seq.{take_all}
use Rattle.base.specs.InTurn.{in_turn}
use Rattle.base.specs.Listed.{listed}
use Rattle.base.proofs.InTurn.{in_turn_more}
use Rattle.glass.specs.declared.Transfer.{Transfer}
use Rattle.numbers.specs.Filled.{filled}
use Rattle.numbers.proofs.FilledLaws.{filled_taken, length_in_rows}
use Rattle.pixels.specs.Drive.{moved_by, driven}
use Rattle.pixels.proofs.ListLaws.{beside_on}

module _ (ww kw wk kk : Transfer) where
  -- no state is left to drive
  driven_nothing : (numbers : List ℕ) → driven ww kw wk kk numbers [] ≡ []
  driven_nothing [] = refl
  driven_nothing (n ∷ ns) = refl

  pub driven_past : (at : ℕ) (numbers : List ℕ) (states : List ℤ) → length states ≤ at
      → states ≡ take at states ++ driven ww kw wk kk numbers (drop at states)
  driven_past at numbers states h =
      rw (take_all at states h, drop_of_length-le states h, driven_nothing numbers) (sym (append-nil states))

  -- one row more
  pub driven_row : (f : ℕ → ℕ → ℕ) (w y : ℕ) (states₀ states driven' : List ℤ) (row row' : List ℕ) → w ≤ length row
      → states ≡ driven ww kw wk kk (in_turn y (λ v. listed w (λ x. f x v))) states₀
      → row' ≡ filled (λ x. f x y) 0 w row
      → driven' ≡ take (y * w) states ++ driven ww kw wk kk (take w row') (drop (y * w) states)
      → driven' ≡ driven ww kw wk kk (in_turn (y + 1) (λ v. listed w (λ x. f x v))) states₀
  driven_row f w y states₀ states driven' row row' h es er ed =
      ed
      ∙ (λ i. take (y * w) (es i) ++ driven ww kw wk kk (numbers i) (drop (y * w) (es i)))
      ∙ (λ i. take (long i) before ++ driven ww kw wk kk (listed w (λ x. f x y)) (drop (long i) before))
      ∙ beside_on (moved_by ww kw wk kk) (in_turn y rows) (listed w (λ x. f x y)) states₀
      ∙ ap (λ (ns : List ℕ). driven ww kw wk kk ns states₀) (in_turn_more y rows)
    where
      rows : ℕ → List ℕ
      rows v = listed w (λ x. f x v)

      before : List ℤ
      before = driven ww kw wk kk (in_turn y rows) states₀

      numbers : take w row' ≡ listed w (λ x. f x y)
      numbers = ap (take w) er ∙ ap (λ (k : ℕ). take k (filled (λ x. f x y) 0 w row)) {x = w} {y = 0 + w} (omega arith) ∙ filled_taken (λ x. f x y) 0 w row (omega arith)

      long : y * w ≡ length (in_turn y rows)
      long = sym (length_in_rows f w y)
