-- Texts that are put one after the other are the words of a line.
use mathlib.Core.Path.{◌≡◌, refl, sym, ap, ◌∙◌}
use mathlib.Core.List.{List, [], ◌∷◌, ◌++◌, map, append-nil, append_assoc}
use Prim.Native.Nat.{ℕ, ◌+◌, ◌≤◌, ◌<◌}
use native.Mathlib.Numerals.{add-one}
use native.Mathlib.Omega.{arith}
use lib.ListN.{length, take, get_or}
use lib.Seq.{take-suc, take_all}
use Rattle.text.specs.Text.{ascii, digits}
use Rattle.output.specs.Lines.{behind, greys_line}

-- one word more behind others
behind_last : (ws : List (List ℕ)) (w : List ℕ) → behind (ws ++ (w ∷ [])) ≡ behind ws ++ (32 ∷ w)
behind_last [] w = append-nil (32 ∷ w)
behind_last (v ∷ ws) w = ap (λ (l : List ℕ). (32 ∷ v) ++ l) (behind_last ws w) ∙ sym (append_assoc (32 ∷ v) (behind ws) (32 ∷ w))

-- ---- numbers in a row: one more, and all
map_last : (xs : List ℕ) (x : ℕ) → map digits (xs ++ (x ∷ [])) ≡ map digits xs ++ (digits x ∷ [])
map_last [] x = refl
map_last (y ∷ xs) x = ap (λ (l : List (List ℕ)). digits y ∷ l) (map_last xs x)

numbers_last : (xs : List ℕ) (k : ℕ) → k < length xs → map digits (take (k + 1) xs) ≡ map digits (take k xs) ++ (digits (get_or xs k 0) ∷ [])
numbers_last xs k h = rw (add-one k, take-suc xs k 0 h) (map_last (take k xs) (get_or xs k 0))

pub behind_more : (xs : List ℕ) (k : ℕ) → k < length xs
    → behind (map digits (take k xs)) ++ (32 ∷ digits (get_or xs k 0)) ≡ behind (map digits (take (k + 1) xs))
behind_more xs k h = sym (ap behind (numbers_last xs k h) ∙ behind_last (map digits (take k xs)) (digits (get_or xs k 0)))

-- a row with its first grey, and one without
pub greys_row : (row rest : List ℕ) (x k : ℕ) → row ≡ x ∷ rest → length rest ≤ k
    → digits x ++ (behind (map digits (take k rest)) ++ ascii "\n") ≡ greys_line row
unfolding greys_line
greys_row row rest x k e h = rw (e, take_all k rest h, append_assoc)

pub greys_none : (xs : List ℕ) → length xs ≡ 0 → ascii "\n" ≡ greys_line xs
unfolding greys_line
greys_none [] e = refl
greys_none (x ∷ xs) e = absurd (omega arith)

-- numbers in a row, one more and all
pub ruleset numbers = (behind_more, take_all)
