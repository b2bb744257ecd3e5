-- Value Change Dump (IEEE 1364, four-state): a dump is words with white space between them.
use Rattle.std.specs.Prelude.{Bool, true, false, ◌&&◌, List, [], ◌∷◌, ◌++◌, ℕ, eqb}
use Rattle.std.specs.List.{list_all}
use Rattle.base.specs.Pick.{pick, between}

-- white space: bytes 9 to 13 and 32
abbrev pub is_blank : ℕ → Bool
is_blank b = pick (eqb b 32) true (between 9 13 b)

-- a word that is over, before the words that follow; without bytes there is none
abbrev pub shut : List ℕ → List (List ℕ) → List (List ℕ)
shut [] ws = ws
shut (b ∷ w) ws = (b ∷ w) ∷ ws

-- the words that a blank closes, behind the bytes w of a word that is open
abbrev pub closed_from : List ℕ → List ℕ → List (List ℕ)
closed_from w [] = []
closed_from w (b ∷ bytes) = pick (is_blank b) (shut w (closed_from [] bytes)) (closed_from (w ++ b ∷ []) bytes)

-- the word that is still open at the end
abbrev pub open_from : List ℕ → List ℕ → List ℕ
open_from w [] = w
open_from w (b ∷ bytes) = pick (is_blank b) (open_from [] bytes) (open_from (w ++ b ∷ []) bytes)

unfoldable pub closed : List ℕ → List (List ℕ)
closed bytes = closed_from [] bytes

unfoldable pub opened : List ℕ → List ℕ
opened bytes = open_from [] bytes

-- all words: the end of the dump closes the last one
unfoldable pub words : List ℕ → List (List ℕ)
words bytes = closed bytes ++ shut (opened bytes) []

-- two words are the same, byte by byte
abbrev pub alike : List ℕ → List ℕ → Bool
alike [] [] = true
alike [] (b ∷ w) = false
alike (a ∷ v) [] = false
alike (a ∷ v) (b ∷ w) = eqb a b && alike v w

-- a word is one of these
abbrev pub among : List (List ℕ) → List ℕ → Bool
among [] w = false
among (v ∷ vs) w = pick (alike w v) true (among vs w)

-- every byte of a word passes a test
abbrev pub every : (ℕ → Bool) → List ℕ → Bool
every t w = list_all t w

-- bytes 33 to 126, of which all words but those of a text are made
unfoldable pub printable : List ℕ → Bool
printable w = every (between 33 126) w
