-- Where the next word of some bytes lies.
use Rattle.std.specs.Prelude.{◌≡◌, Bool, not, List, [], ◌∷◌, ℕ, suc, ◌+◌, ◌-◌, ◌<◌, length, take, drop}
use Rattle.base.specs.Pick.{pick}
use Rattle.vcd_words.specs.Words.{is_blank, words}
use Rattle.vcd_words.specs.declared.Span.{Span}

-- how many bytes at the front pass a test
abbrev pub front : (ℕ → Bool) → List ℕ → ℕ
front t [] = 0
front t (b ∷ bytes) = pick (t b) (suc (front t bytes)) 0

abbrev pub is_solid : ℕ → Bool
is_solid b = not (is_blank b)

-- from a place on: past the blanks, and to the next blank
abbrev pub word_from : List ℕ → ℕ → ℕ
word_from bytes at = at + front is_blank (drop at bytes)

abbrev pub word_to : List ℕ → ℕ → ℕ
word_to bytes from = from + front is_solid (drop from bytes)

unfoldable pub span_at : List ℕ → ℕ → Span
span_at bytes at = record { from = word_from bytes at; to = word_to bytes (word_from bytes at) }

-- the bytes from one place up to another
abbrev pub part : List ℕ → ℕ → ℕ → List ℕ
part bytes from to = take (to - from) (drop from bytes)

-- some bytes are a word and what follows it
pub record Splits (bytes word rest : List ℕ) : Type 0 where
  pub words_are : words bytes ≡ word ∷ words rest
  pub shorter : length rest < length bytes
