-- A chain of tests against the answer that it gives: the tests known on a path are taken one by one.
use mathlib.Core.Path.{◌≡◌}
use mathlib.Core.Bool.{Bool, true, false, ◌||◌, ◌&&◌}
use Rattle.base.specs.Pick.{pick}

-- the first of several that holds decides
pub held : {a : Bool} (b : Bool) → a ≡ true → true ≡ (a || b)
held b e = simp e

pub passed : {a r : Bool} (b : Bool) → a ≡ false → r ≡ b → r ≡ (a || b)
passed b e f = simp (e, f)

pub not_either : {a b : Bool} → a ≡ false → b ≡ false → (a || b) ≡ false
not_either e f = simp (e, f)

-- the first of two holds, so the second decides
pub also : {a r : Bool} (b : Bool) → a ≡ true → r ≡ b → r ≡ (a && b)
also b e f = simp (e, f)

-- a choice
pub yes : {A : Type 0} {t : Bool} {r a : A} (b : A) → t ≡ true → r ≡ a → r ≡ pick t a b
yes b e f = simp (e, f)

pub no : {A : Type 0} {t : Bool} {r b : A} (a : A) → t ≡ false → r ≡ b → r ≡ pick t a b
no a e f = simp (e, f)
