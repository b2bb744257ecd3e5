-- Where two lists differ first, and what two captures differ in first. Places, events and rows are counted from 0.
use Rattle.std.specs.Prelude.{Bool, Option, Some, None, List, [], ◌∷◌, ℕ, suc, ◌/◌, eqb}
use Rattle.base.specs.Pick.{pick}
use Rattle.differences.specs.declared.finding.Finding.{Finding}
use Rattle.differences.specs.declared.finding.Finding.TheVariants as finding

-- an entry that is not the same by a test, or the end of one list alone; i is the place of the first entry
abbrev pub first_by : {A : Type 0} → (A → A → Bool) → ℕ → List A → List A → Option ℕ
first_by eq i [] [] = None
first_by eq i [] (y ∷ ys) = Some i
first_by eq i (x ∷ xs) [] = Some i
first_by eq i (x ∷ xs) (y ∷ ys) = pick (eq x y) (first_by eq (suc i) xs ys) (Some i)

-- of numbers
abbrev pub first_from : ℕ → List ℕ → List ℕ → Option ℕ
first_from i a b = first_by eqb i a b

unfoldable pub first_place : List ℕ → List ℕ → Option ℕ
first_place a b = first_from 0 a b

-- the first event, of ten bytes each; else the first diagnostic row, of five numbers each; else the first pixel
abbrev pub finding_by : Option ℕ → Option ℕ → Option ℕ → Option Finding
finding_by (Some k) rows pixels = Some (finding.Event (k / 10))
finding_by None (Some k) pixels = Some (finding.Row (k / 5))
finding_by None None (Some k) = Some (finding.Pixel k)
finding_by None None None = None
