-- The words of some bytes, put together, are the bytes without their blanks; there is no word exactly if all are blanks.
use mathlib.Core.Path.{◌≡◌, refl, ap, ◌∙◌}
use mathlib.Core.List.{List, [], ◌∷◌, ◌++◌, append_assoc}
use Prim.Native.Nat.{ℕ}
use native.Mathlib.Omega.{arith}
use lib.ListN.{length}
use Rattle.base.proofs.Cases.{by_cases}
use Rattle.vcd_words.specs.Words.{is_blank, shut, closed_from, open_from, closed, opened, words}
use Rattle.vcd_values.specs.Names.{joined}
use Rattle.vcd_values.specs.Selects.{solid}

joined_shut : (w : List ℕ) (ws vs : List (List ℕ)) → joined (shut w ws ++ vs) ≡ w ++ joined (ws ++ vs)
joined_shut [] ws vs = refl
joined_shut (b ∷ w) ws vs = refl

-- behind the bytes w of an open word
joined_from : (w l : List ℕ) → joined (closed_from w l ++ shut (open_from w l) []) ≡ w ++ solid l
joined_from [] [] = refl
joined_from (a ∷ w) [] = refl
joined_from w (b ∷ l) =
    by_cases (is_blank b)
    (λ e. rw e (joined_shut w (closed_from [] l) (shut (open_from [] l) []) ∙ ap (λ (m : List ℕ). w ++ m) (joined_from [] l)))
    (λ e. rw e (joined_from (w ++ b ∷ []) l ∙ append_assoc w (b ∷ []) (solid l)))

pub joined_words : (l : List ℕ) → joined (words l) ≡ solid l
unfolding words closed opened
joined_words l = joined_from [] l

none_from : (l : List ℕ) → solid l ≡ [] → (closed_from [] l ≡ []) × (open_from [] l ≡ [])
none_from [] h = (refl, refl)
none_from (b ∷ l) h =
    by_cases (is_blank b)
    (λ e. rw e (none_from l (rw e at h)))
    (λ e. absurd (omega (arith, ap length (rw e at h))))

pub words_none : (l : List ℕ) → solid l ≡ [] → words l ≡ []
unfolding words closed opened
words_none l h = rw ((none_from l h).0, (none_from l h).1)
