-- A line byte by byte.
use mathlib.Core.Path.{◌≡◌, refl, sym, ap, ◌∙◌}
use mathlib.Core.Bool.{Bool, true, false, ◌&&◌, not, false≢true}
use mathlib.Core.List.{List, [], ◌∷◌, ◌++◌}
use Prim.Native.Nat.{ℕ, ◌+◌, ◌<◌}
use native.Mathlib.Omega.{arith}
use native.Mathlib.Numerals.{add-one}
use borrow.Author.Tests.{ne_eqb}
use lib.Dec.{eqb}
use lib.ListN.{length, take, drop, set, length-set}
use lib.Seq.{take-suc-set, drop-set-lt, drop-drop}
use Rattle.files.specs.Reading.{no_newline, Fills}

bare_join : (l k : List ℕ) → no_newline l ≡ true → no_newline k ≡ true → no_newline (l ++ k) ≡ true
bare_join [] k e f = f
bare_join (b ∷ l) k e f = rw (first_of (eqb b 10) (no_newline l) e) (bare_join l k (rest_of (eqb b 10) (no_newline l) e) f)
  where
    first_of : (s t : Bool) → (not s && t) ≡ true → not s ≡ true
    first_of true t e = e
    first_of false t e = refl

    rest_of : (s t : Bool) → (not s && t) ≡ true → t ≡ true
    rest_of true t e = absurd (false≢true e)
    rest_of false t e = e

pub one_filled : (held b : ℕ) (line line' : List ℕ) → Fills held line line' → held < length line' → (b ≡ 10 → ⊥)
    → Fills (held + 1) line (set line' held b)
one_filled held b line line' f h n = record {
  inside = omega (arith, h, length-set line' held b);
  bare = ap no_newline (ap (λ (k : ℕ). take k (set line' held b)) (add-one held) ∙ take-suc-set line' held b h)
      ∙ bare_join (take held line') (b ∷ []) f.bare (rw (ne_eqb b 10 n));
  rest = drop-set-lt (held + 1) line' held b (omega arith)
      ∙ sym (drop-drop 1 held line') ∙ ap (drop 1) f.rest ∙ drop-drop 1 held line;
}
