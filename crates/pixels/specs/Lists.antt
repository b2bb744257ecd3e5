-- Buffers, entry by entry.
use Rattle.std.specs.Prelude.{Bool, true, false, List, [], ◌∷◌}
use Rattle.base.specs.Pick.{pick}

-- each entry changed by the one at its place in another list; past that list's end it stays
abbrev pub beside : {A B : Type 0} → (B → A → A) → List B → List A → List A
beside f [] l = l
beside f (b ∷ bs) [] = []
beside f (b ∷ bs) (x ∷ l) = f b x ∷ beside f bs l

-- each entry passes a test
abbrev pub every : {A : Type 0} → (A → Bool) → List A → Bool
every p [] = true
every p (x ∷ l) = pick (p x) (every p l) false
