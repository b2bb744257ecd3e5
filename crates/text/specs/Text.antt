-- Text as bytes, numbers in decimal, and text put into a buffer.
use Rattle.std.specs.Prelude.{List, [], ◌∷◌, ◌++◌, ℕ, zero, suc, ◌+◌, ◌-◌, ◌/◌, ◌%◌, min, ltb, length, take, drop}
use Rattle.std.specs.Borrow.{MutBor}
use Prim.Native.Char.{code}
use Prim.Native.String.{String}
use Prim.Native.String.{[] as none, ◌∷◌ as then}
use Rattle.base.specs.Pick.{pick}
use Rattle.text.specs.declared.Text.{Text}

-- the codes of the characters
abbrev pub ascii : String → List ℕ
ascii none = []
ascii (then c s) = code c ∷ ascii s

-- the decimal digits of x, the most significant first, where k are enough: below 10 one digit, else those of a tenth and the last one
abbrev pub digits_in : ℕ → ℕ → List ℕ
digits_in zero x = []
digits_in (suc k) x = let tenth = digits_in k (x / 10) in pick (ltb x 10) ((48 + x) ∷ []) (tenth ++ ((48 + x % 10) ∷ []))

-- no number has more digits than one more than itself
unfoldable pub digits : ℕ → List ℕ
digits x = digits_in (suc x) x

-- the buffer b with the text t over its start, as far as it reaches
unfoldable pub filled : List ℕ → List ℕ → List ℕ
filled t b = take (length b) t ++ drop (length t) b

-- the same from place held on
unfoldable pub laid : ℕ → List ℕ → List ℕ → List ℕ
laid held x b = take held b ++ filled x (drop held b)

-- the text in the buffer b, of which nothing is held
abbrev pub begun : MutBor (List ℕ) → Text
begun b = record { buffer = b; held = 0 }

-- and the one of which so many bytes are held, all at most
abbrev pub holding : MutBor (List ℕ) → ℕ → Text
holding b held = record { buffer = b; held = min held (length b.now) }

-- the text t with x put behind what it holds: the same buffer, with x laid over it from there; as much more is held as there is room for
unfoldable pub put : List ℕ → Text → Text
put x t = record {
  buffer = record { ref_ptr = t.buffer.ref_ptr; ghost_name = t.buffer.ghost_name; now = laid t.held x t.buffer.now };
  held = t.held + min (length x) (length t.buffer.now - t.held);
}
