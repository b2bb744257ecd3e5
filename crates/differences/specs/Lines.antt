-- The lines of a comparison of A and B, in words. Events and rows are counted from 0, as in the words of a refusal.
use Rattle.std.specs.Prelude.{Bool, List, [], ◌∷◌, ◌++◌, ℕ, ◌+◌, ◌*◌, ◌/◌, ◌%◌, eqb, ltb, length, get_or}
use Rattle.base.specs.Pick.{pick}
use Rattle.text.specs.Text.{ascii, digits}
use Rattle.capture.specs.Layout.{kind_at, value_at}
use Rattle.capture.specs.Little.{little}
use Rattle.differences.specs.declared.distances.Spread.{Spread}

-- the kinds of event from 1 on, by number; any other has no word
abbrev pub kinds : List (List ℕ)
kinds = [] ∷ ascii "command" ∷ ascii "data" ∷ ascii "read" ∷ ascii "reset" ∷ ascii "advance" ∷ ascii "rule" ∷ []

unfoldable pub kind_word : ℕ → List ℕ
kind_word kind = get_or kinds kind []

-- a number behind a blank
abbrev pub blank : ℕ → List ℕ
blank n = 32 ∷ digits n

-- `command 18 at 100`: an event's kind, value and time; nothing past the last
unfoldable pub event_words : List ℕ → ℕ → List ℕ
event_words events i =
    pick (ltb i (length events / 10))
    (kind_word (kind_at events i) ++ blank (value_at events i) ++ ascii " at" ++ blank (little events (10 * i) 8))
    []

-- `100 13 34 6 0`: the five numbers of a row; nothing past the last
unfoldable pub row_words : List ℕ → ℕ → List ℕ
row_words rows i =
    pick (ltb i (length rows / 5))
    (digits (get_or rows (5 * i) 0) ++ blank (get_or rows (5 * i + 1) 0) ++ blank (get_or rows (5 * i + 2) 0) ++ blank (get_or rows (5 * i + 3) 0)
    ++ blank (get_or rows (5 * i + 4) 0))
    []

-- both, or the one that there is
abbrev pub sides : Bool → Bool → List ℕ → List ℕ → List ℕ
sides in_a in_b a b = pick in_a (pick in_b (a ++ ascii ", " ++ b) (ascii "only in A, " ++ a)) (ascii "only in B, " ++ b)

abbrev pub event_sides : List ℕ → List ℕ → ℕ → List ℕ
event_sides a b i = sides (ltb i (length a / 10)) (ltb i (length b / 10)) (event_words a i) (event_words b i)

abbrev pub row_sides : List ℕ → List ℕ → ℕ → List ℕ
row_sides a b i = sides (ltb i (length a / 5)) (ltb i (length b / 5)) (row_words a i) (row_words b i)

-- `event 17: command 18 at 100, data 18 at 100`
unfoldable pub event_line : List ℕ → List ℕ → ℕ → List ℕ
event_line a b i = ascii "event " ++ digits i ++ ascii ": " ++ event_sides a b i ++ ascii "\n"

-- `row 3: 100 13 34 6 0, 100 5 34 6 0`
unfoldable pub row_line : List ℕ → List ℕ → ℕ → List ℕ
row_line a b i = ascii "row " ++ digits i ++ ascii ": " ++ row_sides a b i ++ ascii "\n"

-- `128, 0`: entry k of two lists
abbrev pub pair : List ℕ → List ℕ → ℕ → List ℕ
pair a b k = digits (get_or a k 0) ++ ascii ", " ++ digits (get_or b k 0)

-- `pixel 5 2: 128, 0`: column and row of pixel k, and its greys
unfoldable pub pixel_line : ℕ → List ℕ → List ℕ → ℕ → List ℕ
pixel_line width a b k = ascii "pixel" ++ blank (k % width) ++ blank (k / width) ++ ascii ": " ++ pair a b k ++ ascii "\n"

-- `configuration byte 6: 0, 255`: of the 312 bytes
unfoldable pub config_line : List ℕ → List ℕ → ℕ → List ℕ
config_line a b k = ascii "configuration byte" ++ blank k ++ ascii ": " ++ pair a b k ++ ascii "\n"

-- `configuration rate: 1000000000, 32768`
unfoldable pub rate_line : ℕ → ℕ → List ℕ
rate_line a b = ascii "configuration rate:" ++ blank a ++ ascii "," ++ blank b ++ ascii "\n"

-- `8 by 1`
abbrev pub size_words : ℕ → ℕ → List ℕ
size_words width height = digits width ++ ascii " by" ++ blank height

-- `panels of 8 by 1 and 16 by 1: pixels not compared`
unfoldable pub sizes_line : ℕ → ℕ → ℕ → ℕ → List ℕ
sizes_line wa ha wb hb =
    ascii "panels of " ++ size_words wa ha ++ ascii " and " ++ size_words wb hb ++ ascii ": pixels not compared\n"

-- by how much, where some differ
abbrev pub by_most : Spread → List ℕ
by_most d = pick (eqb d.count 0) (ascii "\n") (ascii ", by at most" ++ blank d.most ++ ascii "\n")

-- `5 of 8 pixels differ, by at most 128`
unfoldable pub pixels_line : Spread → ℕ → List ℕ
pixels_line d pixels = digits d.count ++ ascii " of" ++ blank pixels ++ ascii " pixels differ" ++ by_most d

unfoldable pub agreement_line : List ℕ
agreement_line = ascii "the captures agree\n"

-- `refused 8 NAME`
unfoldable pub refused_line : ℕ → List ℕ → List ℕ
refused_line number name = ascii "refused" ++ blank number ++ ascii " " ++ name ++ ascii "\n"
