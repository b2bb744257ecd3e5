-- Document 01, "The capture program": the lines, word by word; and the head of a graymap (Netpbm, P5).
use Rattle.std.specs.Prelude.{Bool, List, [], ◌∷◌, ◌++◌, map, ℕ, eqb}
use Rattle.base.specs.Pick.{pick}
use Rattle.glass.specs.declared.PanelImage.{PanelImage}
use Rattle.glass.specs.declared.RefreshKind.{RefreshKind}
use Rattle.glass.specs.declared.RefreshKind.TheVariants.{PowerOn, Full, Partial}
use Rattle.text.specs.Text.{ascii, digits}

-- each word behind a blank
abbrev pub behind : List (List ℕ) → List ℕ
behind [] = []
behind (w ∷ ws) = (32 ∷ w) ++ behind ws

-- the words with a blank between
abbrev pub spaced : List (List ℕ) → List ℕ
spaced [] = []
spaced (w ∷ ws) = w ++ behind ws

-- and a newline after the last
abbrev pub line : List (List ℕ) → List ℕ
line ws = spaced ws ++ ascii "\n"

-- `no events` alone, for an empty file (2026-06)
unfoldable pub no_events_line : List ℕ
no_events_line = line (ascii "no" ∷ ascii "events" ∷ [])

-- `refused` and the number
unfoldable pub refused_line : ℕ → List ℕ
refused_line n = line (ascii "refused" ∷ digits n ∷ [])

-- `read TIME BYTE`: the event's time, the byte in decimal or `none`; a read that gave none has the answer 256
abbrev pub byte_word : ℕ → List ℕ
byte_word answer = pick (eqb answer 256) (ascii "none") (digits answer)

unfoldable pub read_line : ℕ → ℕ → List ℕ
read_line time answer = line (ascii "read" ∷ digits time ∷ byte_word answer ∷ [])

-- `diag` holds the five numbers
unfoldable pub diag_line : List ℕ → List ℕ
diag_line numbers = line (ascii "diag" ∷ map digits numbers)

unfoldable pub dropped_line : ℕ → List ℕ
dropped_line n = line (ascii "dropped" ∷ digits n ∷ [])

-- `image` holds width, height, generation, kind (`poweron`, `full`, `partial`), interrupted, start, end
abbrev pub kind_word : RefreshKind → List ℕ
kind_word PowerOn = ascii "poweron"
kind_word Full = ascii "full"
kind_word Partial = ascii "partial"

abbrev pub flag_word : Bool → List ℕ
flag_word b = pick b (ascii "1") (ascii "0")

-- the last four
abbrev pub refresh_words : PanelImage → List (List ℕ)
refresh_words i = kind_word i.kind ∷ flag_word i.interrupted ∷ digits i.started ∷ digits i.at ∷ []

unfoldable pub image_line : PanelImage → List ℕ
image_line i = line (ascii "image" ∷ digits i.width ∷ digits i.height ∷ digits i.generation ∷ refresh_words i)

-- then rows: the greys in decimal
unfoldable pub greys_line : List ℕ → List ℕ
greys_line row = line (map digits row)

-- a graymap's head: width, height and the largest grey
unfoldable pub graymap_head : ℕ → ℕ → ℕ → List ℕ
graymap_head top width height = ascii "P5\n" ++ line (digits width ∷ digits height ∷ []) ++ line (digits top ∷ [])
