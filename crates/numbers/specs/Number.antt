-- Document 01, "A refresh": the number of a pixel, the table that drives it.
use Rattle.std.specs.Prelude.{Bool, false, ◌&&◌, ◌||◌, not, List, [], ◌∷◌, ℕ, zero, suc, ◌+◌, ◌-◌, eqb, leb, get_or}
use Rattle.base.specs.InTurn.{in_turn}
use Rattle.base.specs.Listed.{listed}
use Rattle.base.specs.Pick.{pick}
use Rattle.registers.specs.Area.{inside}
use Rattle.registers.specs.declared.Registers.{Registers}
use Rattle.registers.specs.Flags.{bit_set, one_is_white}
use Rattle.registers.specs.Written.{active_of, written_of}
use Rattle.config.specs.declared.Uc8253Geometry.{Uc8253Geometry}
use Rattle.config.specs.declared.Variant.{Variant}
use Rattle.ram.specs.Plane.{bit_at}
use Rattle.numbers.specs.declared.Scan.{Scan}
use Rattle.numbers.specs.declared.Mapping.{Mapping}

-- what the numbers go by: the panel's flags and size, bits 2 and 3 of the first 00 byte, the areas, and the value of white
unfoldable pub mapping_of : Uc8253Geometry → Registers → Variant → Mapping
mapping_of g r v = record {
  columns = record { reversed = g.columns_reversed; count = g.sources; straight = bit_set (get_or r.psr 0 0) 2 };
  rows = record { reversed = g.rows_reversed; count = g.gates; straight = bit_set (get_or r.psr 0 0) 3 };
  active = active_of r;
  area = written_of r;
  white = pick (one_is_white v r) 1 0;
}

-- the panel flags reverse a column or row within the panel
abbrev pub reversed_of : Scan → ℕ → ℕ
reversed_of s v = pick s.reversed (s.count - 1 - v) v

-- no area has this column or row
abbrev pub nowhere : ℕ
nowhere = 65_536

-- the bit of the first 00 byte, if clear, then mirrors it: first + last of the start and resolution area, less it; below 0 is nowhere
unfoldable pub shown_at : Scan → ℕ → ℕ → ℕ → ℕ
shown_at s first last v =
    pick s.straight (reversed_of s v)
    (pick (leb (reversed_of s v) (first + last)) (first + last - reversed_of s v) nowhere)

-- WW 1, KW 2, WK 3, KK 4, by whether the old and the new bit are white
unfoldable pub transition_of : Bool → Bool → ℕ
transition_of old new = pick old (pick new 1 3) (pick new 2 4)

-- the number of the pixel in column x and row y of the panel: outside that area or the written one 255
unfoldable pub number_of : Mapping → List ℕ → List ℕ → ℕ → ℕ → ℕ
number_of p old new x y =
    let c = shown_at p.columns p.active.x0 p.active.x1 x in
    let r = shown_at p.rows p.active.y0 p.active.y1 y in
    pick (inside p.active c r && inside p.area c r)
    (transition_of (eqb (bit_at old c r) p.white) (eqb (bit_at new c r) p.white))
    255

-- the picture is partial if any number is 255
abbrev pub some_undriven : List ℕ → Bool
some_undriven [] = false
some_undriven (n ∷ ns) = eqb n 255 || some_undriven ns

-- ---- the whole panel
-- each pixel's number, row by row
unfoldable pub panel_numbers : Mapping → List ℕ → List ℕ → List ℕ
panel_numbers p old new = in_turn p.rows.count (λ y. listed p.columns.count (λ x. number_of p old new x y))

-- a test passes at some number below n
abbrev pub some_below : ℕ → (ℕ → Bool) → Bool
some_below zero t = false
some_below (suc n) t = some_below n t || t n

-- v lies in first .. last and in from .. to, the ends included
abbrev pub between_both : ℕ → ℕ → ℕ → ℕ → ℕ → Bool
between_both first last from to v = leb first v && leb v last && leb from v && leb v to

-- column or row v of the panel shows one that lies outside of first .. last, the active area's, or of from .. to, the written one's
abbrev pub outside_at : Scan → ℕ → ℕ → ℕ → ℕ → ℕ → Bool
outside_at s first last from to v = not (between_both first last from to (shown_at s first last v))

-- some column of the panel shows one outside of an area, or some row does; a panel with no columns or no rows has no pixel
unfoldable pub outside_some : Mapping → Bool
outside_some p =
    pick (eqb p.columns.count 0) false
    (pick (eqb p.rows.count 0) false
    (some_below p.columns.count (outside_at p.columns p.active.x0 p.active.x1 p.area.x0 p.area.x1)
    || some_below p.rows.count (outside_at p.rows p.active.y0 p.active.y1 p.area.y0 p.area.y1)))
