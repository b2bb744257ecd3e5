-- The reference of a variable: its name, and perhaps a bit or a range of it.
use Rattle.std.specs.Prelude.{Bool, false, ◌&&◌, ◌||◌, List, [], ◌∷◌, ◌++◌, ℕ, suc, ◌-◌, eqb, ltb, length, take, drop, get_or, Option, Some, None}
use Rattle.base.specs.Pick.{pick}
use Rattle.text.specs.Text.{ascii}
use Rattle.vcd_words.specs.Words.{alike}
use Rattle.vcd_values.specs.declared.names.Pin.{Pin}
use Rattle.vcd_values.specs.declared.names.Pin.TheVariants.{Cs, Dc, Clk, Mosi, Rst}
use Rattle.vcd_values.specs.declared.names.Name.{Name}
use Rattle.vcd_values.specs.declared.names.Name.TheVariants as name
use Rattle.vcd_values.specs.Numbers.{leading, past_digits}

-- what follows a minus, if there is one
abbrev pub past_minus : List ℕ → List ℕ
past_minus [] = []
past_minus (b ∷ w) = pick (eqb b 45) w (b ∷ w)

-- an index, perhaps negative, begins there; what follows it
abbrev pub has_index : List ℕ → Bool
has_index w = ltb 0 (leading (past_minus w))

abbrev pub past_index : List ℕ → List ℕ
past_index w = past_digits (past_minus w)

-- ] closes, or a second index behind : does before it
abbrev pub is_closing : List ℕ → Bool
is_closing w = alike w (ascii "]")

abbrev pub is_range : List ℕ → Bool
is_range [] = false
is_range (b ∷ w) = eqb b 58 && (has_index w && is_closing (past_index w))

-- a select: [n] or [n:m]
abbrev pub is_select : List ℕ → Bool
is_select [] = false
is_select (b ∷ w) = eqb b 91 && (has_index w && (is_closing (past_index w) || is_range (past_index w)))

-- the words of a select, put together without their spaces
abbrev pub joined : List (List ℕ) → List ℕ
joined [] = []
joined (w ∷ ws) = w ++ joined ws

-- how many bytes stand before the last [, all of them where there is none; `best` for those seen so far
abbrev pub bracket_from : ℕ → ℕ → List ℕ → ℕ
bracket_from at best [] = best
bracket_from at best (b ∷ w) = bracket_from (suc at) (pick (eqb b 91) at best) w

abbrev pub bracket : List ℕ → ℕ
bracket w = bracket_from 0 (length w) w

-- a name ends in [..]
abbrev pub is_indexed : List ℕ → Bool
is_indexed w = eqb (get_or w (length w - 1) 0) 93 && ltb (bracket w) (length w)

-- a name with nothing after it: a select at its end is cut off, with something before it. No bytes where it is none
abbrev pub stem : List ℕ → List ℕ
stem w = pick (is_indexed w) (pick (is_select (drop (bracket w) w)) (take (bracket w) w) []) w

-- an escaped name is what follows the \, with nothing cut off
abbrev pub is_escaped : List ℕ → Bool
is_escaped [] = false
is_escaped (b ∷ w) = eqb b 92

-- a name whose select stands after it
abbrev pub bare : List ℕ → List ℕ
bare w = pick (is_escaped w) (drop 1 w) w

-- the name of a reference and the words after it; no bytes where they are none
unfoldable pub name_of : List ℕ → List (List ℕ) → List ℕ
name_of w [] = pick (is_escaped w) (drop 1 w) (stem w)
name_of w (s ∷ after) = pick (is_select (joined (s ∷ after))) (bare w) []

-- the five signals in the order in which the request names them: 0 cs, 1 dc, 2 clk, 3 mosi, 4 rst; 5 is any other name, 6 none
abbrev pub other_signal : ℕ
other_signal = 5

abbrev pub no_name : ℕ
no_name = 6

abbrev pub pin_number : Pin → ℕ
pin_number Cs = 0
pin_number Dc = 1
pin_number Clk = 2
pin_number Mosi = 3
pin_number Rst = 4

abbrev pub name_number : Option Name → ℕ
name_number None = no_name
name_number (Some (name.Of s)) = pin_number s
name_number (Some name.Other) = other_signal

unfoldable pub signal_of : List ℕ → ℕ
signal_of name =
    pick (alike name (ascii "cs")) 0
    (pick (alike name (ascii "dc")) 1
    (pick (alike name (ascii "clk")) 2
    (pick (alike name (ascii "mosi")) 3
    (pick (alike name (ascii "rst")) 4
    (pick (alike name []) no_name other_signal)))))
