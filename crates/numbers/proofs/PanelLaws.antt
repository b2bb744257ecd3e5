-- The numbers of the whole panel are what rows written over a list of that length leave: how many, and which stands where.
use mathlib.Core.Path.{◌≡◌, sym, ap, ◌∙◌}
use mathlib.Core.List.{List}
use Prim.Native.Nat.{ℕ, ◌+◌, ◌*◌, ◌<◌}
use native.Mathlib.Omega.{arith}
use lib.ListN.{length, get_or, replicate, length-replicate}
use Rattle.numbers.specs.declared.Mapping.{Mapping}
use Rattle.numbers.specs.Filled.{rows_filled}
use Rattle.numbers.specs.Number.{number_of, panel_numbers}
use Rattle.numbers.proofs.FilledLaws.{rows_at, rows_in_turn, length_in_rows}

module _ (p : Mapping) (old new : List ℕ) where
  pub panel_rows : (l : List ℕ) → length l ≡ p.rows.count * p.columns.count
      → rows_filled (number_of p old new) p.columns.count p.rows.count l ≡ panel_numbers p old new
  unfolding panel_numbers
  panel_rows l e = rows_in_turn (number_of p old new) p.columns.count p.rows.count l e

  pub panel_length : length (panel_numbers p old new) ≡ p.rows.count * p.columns.count
  unfolding panel_numbers
  panel_length = length_in_rows (number_of p old new) p.columns.count p.rows.count

  pub panel_at : (x y d : ℕ) → x < p.columns.count → y < p.rows.count
      → get_or (panel_numbers p old new) (y * p.columns.count + x) d ≡ number_of p old new x y
  panel_at x y d h k =
      let n = p.columns.count in
      let m = p.rows.count in
      let zeros : List ℕ = replicate (m * n) 0 in
      let long : length zeros ≡ m * n = length-replicate {A = ℕ} (m * n) 0 in
      ap (λ (l : List ℕ). get_or l (y * n + x) d) (sym (panel_rows zeros long))
      ∙ rows_at (number_of p old new) n m zeros x y d h k (omega (arith, long))
