-- Units joined to a text, and the parts in which it goes through a buffer.
use Rattle.std.specs.Prelude.{◌≡◌, List, [], ◌∷◌, ◌++◌, ℕ, suc, ◌+◌, ◌-◌, ltb, length, take, drop}
use Rattle.base.specs.Pick.{pick}
use Rattle.text.specs.Text.{filled}
use Rattle.output.specs.declared.Part.{Part}

-- one unit after the other
abbrev pub joined : List (List ℕ) → List ℕ
joined [] = []
joined (u ∷ us) = u ++ joined us

-- how many of the first units, joined, are shorter than n bytes
abbrev pub reach : ℕ → List (List ℕ) → ℕ
reach n [] = 0
reach n (u ∷ us) = pick (ltb (length u) n) (suc (reach (n - length u) us)) 0

-- from unit `from` on, k units
abbrev pub units_from : ℕ → ℕ → List (List ℕ) → List ℕ
units_from from k us = joined (take k (drop from us))

-- the part of units from one on that goes into a buffer of n bytes: how many bytes it has, and the unit after it
unfoldable pub part_of : ℕ → ℕ → List (List ℕ) → Part
part_of n from us = record { held = length (units_from from (reach n (drop from us)) us); next = from + reach n (drop from us) }

-- the buffer b takes the text of the units from one on, as far as it reaches, and becomes c; the part r of it is whole units
pub record Lays (us : List (List ℕ)) (from : ℕ) (b c : List ℕ) (r : Part) : Type 0 where
  pub buffer : c ≡ filled (joined (drop from us)) b
  pub part : r ≡ part_of (length b) from us
