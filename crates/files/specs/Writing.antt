-- Where a job writes. What the system answers is free.
use Rattle.std.specs.Prelude.{List, [], ◌∷◌, ℕ, Option, None, Some}
use Rattle.files.specs.declared.stream.Stream.{Stream}
use Rattle.files.specs.declared.stream.Stream.TheVariants.{Standard, Named}

-- an empty name is standard output, every other name a file
abbrev pub Opens : {S F : Type 0} → List ℕ → Option (Stream S F) → Type 0
Opens [] (Some (Standard s)) = Unit
Opens [] (Some (Named f)) = ⊥
Opens [] None = ⊥
Opens (b ∷ name) (Some (Standard s)) = ⊥
Opens (b ∷ name) (Some (Named f)) = Unit
Opens (b ∷ name) None = Unit
