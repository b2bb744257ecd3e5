-- A reference by what is read after it.
use mathlib.Core.Path.{◌≡◌, refl, ap, ◌∙◌}
use mathlib.Core.Bool.{true, false}
use mathlib.Core.List.{List, [], ◌∷◌}
use Prim.Native.Nat.{ℕ, ◌<◌}
use native.Mathlib.Omega.{arith}
use lib.ListN.{length}
use Rattle.base.specs.Pick.{pick}
use Rattle.vcd_words.specs.Words.{words, alike}
use Rattle.vcd_values.specs.declared.selects.State.{State}
use Rattle.vcd_values.specs.declared.selects.State.TheVariants.{Before}
use Rattle.vcd_values.specs.Names.{joined, is_select, bare, name_of, signal_of, no_name}
use Rattle.vcd_values.specs.Selects.{run, is_before, is_closed, solid}
use Rattle.vcd_values.proofs.WordLaws.{joined_words, words_none}
use Rattle.vcd_values.proofs.SelectLaws.{left_run, run_begun}

-- ---- a reference and what stands after it
name_by : (w : List ℕ) (ws : List (List ℕ)) (b : ℕ) (m : List ℕ) → joined ws ≡ b ∷ m → name_of w ws ≡ pick (is_select (b ∷ m)) (bare w) []
unfolding name_of
name_by w [] b m e = absurd (omega (arith, ap length e))
name_by w (s ∷ ws) b m e = rw e

name_solid : (w l m : List ℕ) → solid l ≡ m
    → name_of w (words l) ≡ pick (is_before (run Before m)) (name_of w []) (pick (is_closed (run Before m)) (bare w) [])
name_solid w l [] e = ap (name_of w) (words_none l e)
name_solid w l (b ∷ m) e =
    name_by w (words l) b m (joined_words l ∙ e) ∙ rw (run_begun Before b m, left_run Before (b ∷ m))

-- by the state that the bytes after it lead to
module _ (w l : List ℕ) (s : State) (is : s ≡ run Before (solid l)) where
  name_read : name_of w (words l) ≡ pick (is_before s) (name_of w []) (pick (is_closed s) (bare w) [])
  name_read = rw is (name_solid w l (solid l) refl)

  pub name_alone : is_before s ≡ true → name_of w (words l) ≡ name_of w []
  name_alone e = name_read ∙ rw e

  pub name_selected : is_before s ≡ false → is_closed s ≡ true → name_of w (words l) ≡ bare w
  name_selected e f = name_read ∙ rw (e, f)

  pub name_none : is_before s ≡ false → is_closed s ≡ false → name_of w (words l) ≡ []
  name_none e f = name_read ∙ rw (e, f)

pub signal_none : signal_of [] ≡ no_name
unfolding signal_of
signal_none = refl

pub some_bytes : (w : List ℕ) → 0 < length w → alike w [] ≡ false
some_bytes [] h = absurd (omega arith)
some_bytes (b ∷ w) h = refl
