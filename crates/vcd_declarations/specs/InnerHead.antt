-- What the declarations say, by places in the bytes of a dump.
use Rattle.std.specs.Prelude.{◌≡◌, Bool, true, false, ◌||◌, not, List, [], ◌∷◌, ℕ, ◌+◌, eqb, ltb, length, take, drop, get_or, replicate}
use Rattle.base.specs.Pick.{pick}
use Rattle.vcd_words.specs.Words.{alike, among}
use Rattle.vcd_words.specs.Places.{front, is_solid}
use Rattle.vcd_words.specs.declared.Span.{Span}
use Rattle.vcd_declarations.specs.declared.codes.Codes.{Codes}
use Rattle.vcd_declarations.specs.declared.codes.Further.{Further}
use Rattle.vcd_declarations.specs.declared.head.Head as place
use Rattle.vcd_declarations.specs.Codes.{five_in, placed_in, AllWithin, FurtherWithin}
use Rattle.vcd_declarations.specs.Declarations.{Head}

-- the places tell what the declarations say
pub record Tells (bytes : List ℕ) (h : place.Head) (s : Head) : Type 0 where
  pub broken_is : h.broken ≡ s.broken
  pub scaled_is : h.scaled ≡ s.scaled
  pub bad_is : h.bad ≡ s.bad
  pub codes_are : five_in bytes h.codes ≡ s.codes
  pub codes_in_lem : AllWithin h.codes (length bytes)
  pub all_are : h.further.full ≡ false → (code : List ℕ) → alike code [] ≡ false
      → among (placed_in bytes h.codes h.further) code ≡ among s.all code
  pub further_in_lem : FurtherWithin h.further (length bytes)

abbrev pub nowhere : Span
nowhere = record { from = 0; to = 0 }

abbrev pub blank_head : place.Head
blank_head = record {
  broken = false;
  scaled = false;
  bad = false;
  codes = record { cs = nowhere; dc = nowhere; clk = nowhere; mosi = nowhere; rst = nowhere };
  further = record { codes = replicate 8 nowhere; full = false };
}

abbrev pub holding_head : Bool → place.Head → place.Head
holding_head right h =
    record { broken = h.broken || not right; scaled = h.scaled; bad = h.bad; codes = h.codes; further = h.further }

abbrev pub scale_head : Bool → place.Head → place.Head
scale_head right h =
    record { broken = h.broken || not right; scaled = true; bad = h.bad; codes = h.codes; further = h.further }

-- the place of a signal's code: 0 cs, 1 dc, 2 clk, 3 mosi, else rst
abbrev pub place_of : Codes → ℕ → Span
place_of c signal =
    pick (eqb signal 0) c.cs (pick (eqb signal 1) c.dc (pick (eqb signal 2) c.clk (pick (eqb signal 3) c.mosi c.rst)))

abbrev pub with_place : Codes → ℕ → Span → Codes
with_place c signal s = record {
  cs = pick (eqb signal 0) s c.cs;
  dc = pick (eqb signal 1) s c.dc;
  clk = pick (eqb signal 2) s c.clk;
  mosi = pick (eqb signal 3) s c.mosi;
  rst = pick (ltb 3 signal) s c.rst;
}

-- so many bytes further on
abbrev pub moved : ℕ → Span → Span
moved n s = record { from = n + s.from; to = n + s.to }

-- one code more; the last place is lost
abbrev pub last_of : Further → Span
last_of f = get_or f.codes 7 nowhere

abbrev pub shifted : Further → Span → Further
shifted f s = record { codes = s ∷ take 7 f.codes; full = f.full || not (eqb (last_of f).from (last_of f).to) }

abbrev pub added : Further → Bool → Span → Further
added f placed s = pick placed f (shifted f s)

-- one of the five: the first code stays, another one is added
abbrev pub declare_head : place.Head → ℕ → Bool → Span → Bool → place.Head
declare_head h signal wide code placed =
    pick (eqb (place_of h.codes signal).from (place_of h.codes signal).to)
    (record {
      broken = h.broken;
      scaled = h.scaled;
      bad = h.bad || wide;
      codes = with_place h.codes signal code;
      further = h.further;
    })
    (record {
      broken = h.broken;
      scaled = h.scaled;
      bad = true;
      codes = h.codes;
      further = added h.further placed code;
    })

-- no word goes on at a place: a blank stands there, or the bytes end
pub record Shut (bytes : List ℕ) (at : ℕ) : Type 0 where
  pub no_solid : front is_solid (drop at bytes) ≡ 0
