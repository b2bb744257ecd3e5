-- Events as a capture has them, ten bytes each, in a buffer of which the first bytes are held.
use Rattle.std.specs.Prelude.{◌≡◌, List, [], ◌∷◌, ◌++◌, ℕ, zero, suc, ◌+◌, ◌/◌, ◌%◌, length, take, drop}
use Rattle.event.specs.declared.Event.{Event}

-- n bytes of a number, the lowest first
abbrev pub lowest : ℕ → ℕ → List ℕ
lowest zero x = []
lowest (suc n) x = x % 256 ∷ lowest n (x / 256)

-- time (8), kind, value
unfoldable pub event_bytes : Event → List ℕ
event_bytes e = lowest 8 e.time ++ (e.kind ∷ e.value ∷ [])

abbrev pub written : List Event → List ℕ
written [] = []
written (e ∷ es) = event_bytes e ++ written es

-- behind the bytes held of a buffer b stand some more in the buffer c, of which r bytes are held then; what follows them is as it was
pub record Holds (more : List ℕ) (held r : ℕ) (b c : List ℕ) : Type 0 where
  pub bytes : take r c ≡ take held b ++ more
  pub count : r ≡ held + length more
  pub size : length c ≡ length b
  pub rest : drop r c ≡ drop r b
