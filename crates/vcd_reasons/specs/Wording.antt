-- Refusals 11 and 12 of a dump in words, behind the refusal's name.
use Rattle.std.specs.Prelude.{Bool, ◌&&◌, not, List, ◌++◌, map, ℕ, eqb, take}
use Rattle.base.specs.Pick.{pick, between}
use Rattle.text.specs.Text.{ascii, digits}
use Rattle.vcd_words.specs.declared.Span.{Span}
use Rattle.vcd_declarations.specs.declared.head.Head.{Head}
use Rattle.vcd_declarations.specs.declared.head.Begun.{Begun}

-- a byte that is not printable is shown as ?
abbrev pub visible : ℕ → ℕ
visible b = pick (between 33 126 b) b 0x3f

-- at most 40 bytes of a word
abbrev pub shown : List ℕ → List ℕ
shown word = map visible (take 40 word)

-- 11: a word of the simulation
abbrev pub at_word : ℕ → List ℕ → List ℕ
at_word line word = ascii ": line " ++ digits line ++ ascii ": " ++ shown word

-- 11: the declarations
abbrev pub is_declared_well : Begun → Bool
is_declared_well b = not b.head.broken && (b.ended && b.head.scaled)

abbrev pub declared : Begun → List ℕ
declared b =
    pick b.head.broken (ascii ": in the declarations")
    (pick b.ended (ascii ": no timescale") (ascii ": ends within a declaration"))

-- 11: the dump's end
abbrev pub unfinished : List ℕ
unfinished = ascii ": ends within a section, a comment or a change"

-- 12: the first that is missing; else one is declared twice or too wide
abbrev pub is_none : Span → Bool
is_none s = eqb s.from s.to

abbrev pub unsignalled : Head → List ℕ
unsignalled h =
    pick (is_none h.codes.cs) (ascii ": cs missing")
    (pick (is_none h.codes.dc) (ascii ": dc missing")
    (pick (is_none h.codes.clk) (ascii ": clk missing")
    (pick (is_none h.codes.mosi) (ascii ": mosi missing")
    (pick (is_none h.codes.rst) (ascii ": rst missing")
    (ascii ": one of cs, dc, clk, mosi, rst is declared twice or wider than a bit")))))
