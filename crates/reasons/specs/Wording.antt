-- A refusal in words: its number and name, and why a capture file meets it.
use Rattle.std.specs.Prelude.{Option, Some, None, List, [], ◌∷◌, ◌++◌, ℕ, ◌+◌, ◌*◌, get_or}
use Rattle.text.specs.Text.{ascii, digits}
use Rattle.reasons.specs.declared.causes.Reason.{Reason}
use Rattle.reasons.specs.declared.causes.Reason.TheVariants as reason
use Rattle.reasons.specs.Groups.{grouped}

-- the names of 1 to 13, by number, behind a colon; any other number has none
abbrev pub names : List (List ℕ)
names =
    []
    ∷ ascii ": empty panel"
    ∷ ascii ": oversized panel"
    ∷ ascii ": swing"
    ∷ ascii ": frame period"
    ∷ ascii ": buffer length"
    ∷ ascii ": foreign record"
    ∷ ascii ": foreign contents"
    ∷ ascii ": broken capture"
    ∷ ascii ": bad event"
    ∷ ascii ": too many pixels"
    ∷ ascii ": malformed dump"
    ∷ ascii ": signals"
    ∷ ascii ": rate out of range"
    ∷ []

unfoldable pub name_of : ℕ → List ℕ
name_of number = get_or names number []

-- `refused 8: broken capture`
unfoldable pub words_of : ℕ → List ℕ
words_of number = ascii "refused " ++ digits number ++ name_of number

-- the texts of two numbers and more
abbrev pub offset_words : ℕ → ℕ → List ℕ
offset_words offset count =
    ascii ": offset " ++ grouped offset ++ ascii " for " ++ grouped count ++ ascii " events, not " ++ grouped (10 * count)

abbrev pub length_words : ℕ → ℕ → List ℕ
length_words bytes offset =
    ascii ": " ++ grouped bytes ++ ascii " bytes, not " ++ grouped (offset + 320) ++ ascii " or " ++ grouped (offset + 328)

-- events are counted from 0
abbrev pub kind_words : ℕ → ℕ → List ℕ
kind_words event kind = ascii ": event " ++ grouped event ++ ascii ": kind " ++ grouped kind

abbrev pub value_words : ℕ → ℕ → ℕ → List ℕ
value_words event kind value = kind_words event kind ++ ascii ", value " ++ grouped value

-- a configuration by itself, as `vcd` takes one
abbrev pub config_length : ℕ → List ℕ
config_length bytes = ascii ": " ++ grouped bytes ++ ascii " bytes, a configuration has 312"

-- why, behind the words of the refusal
abbrev pub because_of : Option Reason → List ℕ
because_of (Some (reason.Short bytes)) = ascii ": " ++ grouped bytes ++ ascii " bytes, at least 320"
because_of (Some (reason.Long bytes)) = ascii ": " ++ grouped bytes ++ ascii " bytes, at most 65,536"
because_of (Some (reason.Offset offset count)) = offset_words offset count
because_of (Some (reason.Length bytes offset)) = length_words bytes offset
because_of (Some (reason.Variant v)) = ascii ": variant " ++ grouped v ++ ascii ", at most 1"
because_of (Some (reason.Flags f)) = ascii ": flags " ++ grouped f ++ ascii ", at most 15"
because_of (Some (reason.Kind event kind)) = kind_words event kind
because_of (Some (reason.Value event kind value)) = value_words event kind value
because_of None = []
