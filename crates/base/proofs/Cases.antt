-- A proof by the two cases of a test, and of what a test picks.
use mathlib.Core.Path.{◌≡◌, refl}
use mathlib.Core.Bool.{Bool, true, false}
use Rattle.base.specs.Pick.{pick}

pub by_cases {ℓ} : {G : Type ℓ} (t : Bool) → (t ≡ true → G) → (t ≡ false → G) → G
by_cases true p q = p refl
by_cases false p q = q refl

-- what holds of both answers holds of the one picked
pub both : {A : Type 0} (P : A → Type 0) (t : Bool) {a b : A} → P a → P b → P (pick t a b)
both P true p q = p
both P false p q = q
