-- What is lent by five slices, one beside the other, as another language lends them.
use Rattle.std.specs.Prelude.{List, ℕ, ℤ}
use Rattle.std.specs.Borrow.{MutBor}
use denote.Triple.Both.{Both}
use Rattle.controller.specs.World.{Buffers, buffers}

abbrev pub Slice : Type 0 → Type 0
Slice X = Both (MutBor (List X)) (MutBor (List X))

-- the old plane, the new, the states, the picture and the rows
abbrev pub Over {ℓ} : Type ℓ → Type ℓ
Over A = Slice ℕ → Slice ℕ → Slice ℤ → Slice ℕ → Slice ℕ → A

-- before the call and after it
abbrev pub before : Over Buffers
before old new states picture rows = buffers old.entry.now new.entry.now states.entry.now picture.entry.now rows.entry.now

abbrev pub after : Over Buffers
after old new states picture rows = buffers old.exit.now new.exit.now states.exit.now picture.exit.now rows.exit.now
