-- The numbers that a refresh's end works out, row by row, are the ones that the walk's machine notes at its start, pixel by pixel, as long as
-- registers and planes are the same.
use mathlib.Core.Path.{◌≡◌, refl, ap, subst, ◌∙◌}
use mathlib.Core.List.{List, [], ◌∷◌}
use Prim.Native.Nat.{ℕ, suc, ◌+◌, ◌*◌, ◌/◌, ◌%◌, ◌<◌}
use native.Mathlib.Omega.{arith}
use lib.ListN.{length, get_or}
use Rattle.numbers.specs.Number.{number_of, panel_numbers}
use Rattle.controller.specs.declared.Uc8253.{Uc8253}
use Rattle.controller.specs.Refresh.{mapping_now}
use Rattle.controller.specs.Glass.{numbers_now}
use Rattle.controller.specs.Sound.{SoundChip}
use Rattle.controller.proofs.Glass.{numbers_length, number_at}
use Rattle.walk.specs.Machine.{tabulate}

-- a list is what stands at its places
listed : (l : List ℕ) (g : ℕ → ℕ) (from : ℕ) → ((i : ℕ) → i < length l → get_or l i 0 ≡ g (from + i)) → l ≡ tabulate g from (length l)
listed [] g from h = refl
listed (x ∷ l) g from h =
    (λ i. head i ∷ l)
    ∙ ap (λ (t : List ℕ). g from ∷ t)
    (listed l g (suc from) (λ i k. h (suc i) (omega arith) ∙ ap g {x = from + suc i} {y = suc from + i} (omega arith)))
  where
    head : x ≡ g from
    head = h 0 (omega arith) ∙ ap g {x = from + 0} {y = from} (omega arith)

pub numbers_tabulated : (p : Uc8253) (old new : List ℕ) → SoundChip p
    → panel_numbers (mapping_now p) old new
    ≡ tabulate (λ i. number_of (mapping_now p) old new (i % p.config.panel.sources) (i / p.config.panel.sources)) 0
    (p.config.panel.sources * p.config.panel.gates)
unfolding numbers_now
numbers_tabulated p old new s =
    let n = p.config.panel.sources in
    let f : ℕ → ℕ = λ i. number_of (mapping_now p) old new (i % n) (i / n) in
    listed (numbers_now p old new) f 0
    (λ i h. number_at p old new s 0 i (subst (λ (k : ℕ). i < k) (numbers_length p old new) h) ∙ ap f {x = i} {y = 0 + i} (omega arith))
    ∙ ap (tabulate f 0) (numbers_length p old new)
