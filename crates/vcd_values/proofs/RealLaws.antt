-- A word that spells a name of small letters, in any case.
use mathlib.Core.Path.{◌≡◌, refl, sym, ◌∙◌}
use mathlib.Core.Bool.{◌||◌}
use mathlib.Core.List.{List, [], ◌∷◌}
use Prim.Native.Nat.{ℕ}
use native.Mathlib.Omega.{arith}
use lib.Dec.{eqb, leb}
use borrow.Author.Tests.{eqb-true, eqb-false, ne_eqb}
use Rattle.std.specs.Str.{str_eq_ignore_ascii_case}
use Rattle.std.specs.Char.{to_ascii_lowercase}
use Rattle.std.proofs.lemmas.Grind.{common_steps}
use Rattle.base.proofs.Cases.{by_cases}
use Rattle.text.specs.Text.{ascii}
use Rattle.vcd_words.specs.Words.{alike}
use Rattle.vcd_values.specs.Numbers.{small, smalls, is_nameless}

lower_is : (b : ℕ) → to_ascii_lowercase b ≡ small b
lower_is b = by_cases (leb 65 b) (λ e. by_cases (leb b 90) (λ f. grind (arith, common_steps)) (λ f. grind (arith, common_steps))) (λ e. grind (arith, common_steps))

spelled : (w v : List ℕ) → smalls v ≡ v → str_eq_ignore_ascii_case w v ≡ alike v (smalls w)
spelled [] [] h = refl
spelled [] (b ∷ v) h = refl
spelled (a ∷ w) [] h = refl
spelled (a ∷ w) (b ∷ v) h =
    let e : small b ≡ b = cc in
    let t : smalls v ≡ v = cc in
    rw (lower_is a, lower_is b, e, either (small a) b, spelled w v t)
  where
    either : (x y : ℕ) → eqb x y ≡ eqb y x
    either x y = by_cases (eqb x y) (λ e. rw (eqb-true x y e)) (λ e. e ∙ sym (ne_eqb y x (λ h. eqb-false x y e (sym h))))

pub nameless_is : (w : List ℕ) → is_nameless w ≡ (str_eq_ignore_ascii_case w (ascii "nan") || str_eq_ignore_ascii_case w (ascii "inf"))
nameless_is w = rw (spelled w (ascii "nan") refl, spelled w (ascii "inf") refl)
