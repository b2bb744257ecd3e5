-- The lines on small cases, computed.
use mathlib.Core.Path.{◌≡◌, refl}
use mathlib.Core.List.{List, [], ◌∷◌, ◌++◌}
use Prim.Native.Nat.{ℕ}
use Rattle.text.specs.Text.{ascii, digits}
use Rattle.differences.specs.Places.{first_place, finding_by}
use Rattle.differences.specs.Apart.{apart_of}
use Rattle.differences.specs.Lines.{kind_word, event_words, row_words, event_line, row_line, pixel_line, config_line, rate_line, sizes_line, pixels_line, refused_line}
use Rattle.differences.specs.Parts.{config_part, finding_part, pixels_part}

-- an event at a time below 256
abbrev event : ℕ → ℕ → ℕ → List ℕ
event time kind value = time ∷ 0 ∷ 0 ∷ 0 ∷ 0 ∷ 0 ∷ 0 ∷ 0 ∷ kind ∷ value ∷ []

abbrev said_of : List ℕ → List ℕ → List ℕ → List ℕ → List ℕ → List ℕ → List ℕ
said_of ea eb ra rb pa pb = finding_part (finding_by (first_place ea eb) (first_place ra rb) (first_place pa pb)) ea eb ra rb 4 pa pb

abbrev both : List ℕ
both = event 0 4 1 ++ event 100 1 18

abbrev row : List ℕ
row = 100 ∷ 13 ∷ 34 ∷ 6 ∷ 0 ∷ []

pub said : (said_of both (event 0 4 1 ++ event 100 2 18) [] [] [] [] ≡ ascii "event 1: command 18 at 100, data 18 at 100\n")
    × (said_of both (event 0 4 1) [] [] [] [] ≡ ascii "event 1: only in A, command 18 at 100\n")
    × (said_of [] both [] [] [] [] ≡ ascii "event 0: only in B, reset 1 at 0\n")
    × (said_of both both row (100 ∷ 5 ∷ 34 ∷ 6 ∷ 0 ∷ []) [] [] ≡ ascii "row 0: 100 13 34 6 0, 100 5 34 6 0\n")
    × (said_of both both row [] [] [] ≡ ascii "row 0: only in A, 100 13 34 6 0\n")
    × (said_of both both row row (0 ∷ 0 ∷ 0 ∷ 0 ∷ 0 ∷ 128 ∷ []) (0 ∷ 0 ∷ 0 ∷ 0 ∷ 0 ∷ 0 ∷ []) ≡ ascii "pixel 1 1: 128, 0\n")
    × (said_of both both row row both both ≡ [])
unfolding first_place event_line row_line pixel_line event_words row_words kind_word digits
said = (refl, refl, refl, refl, refl, refl, refl)

pub said_sizes : (config_part (0 ∷ 5 ∷ []) (0 ∷ 7 ∷ []) 1 2 ≡ ascii "configuration byte 1: 5, 7\n")
    × (config_part row row 1_000_000_000 1_000_000_000 ≡ [])
    × (config_part row row 1_000_000_000 32_768 ≡ ascii "configuration rate: 1000000000, 32768\n")
    × (pixels_part 2 1 (0 ∷ 200 ∷ []) 2 1 (40 ∷ 0 ∷ []) ≡ ascii "2 of 2 pixels differ, by at most 200\n")
    × (pixels_part 2 1 (0 ∷ 200 ∷ []) 2 1 (0 ∷ 200 ∷ []) ≡ ascii "0 of 2 pixels differ\n")
    × (pixels_part 8 1 [] 16 1 [] ≡ ascii "panels of 8 by 1 and 16 by 1: pixels not compared\n")
    × (refused_line 8 (ascii "b.capture") ≡ ascii "refused 8 b.capture\n")
unfolding first_place config_part config_line rate_line pixels_part pixels_line apart_of sizes_line refused_line digits
said_sizes = (refl, refl, refl, refl, refl, refl, refl)
