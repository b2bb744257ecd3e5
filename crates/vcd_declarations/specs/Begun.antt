-- What reading the declarations of a dump gives: what they say, by places in it, and where they are over.
use Rattle.std.specs.Prelude.{◌≡◌, false, List, [], ℕ, ◌≤◌, length, drop}
use Rattle.base.specs.Pick.{pick}
use Rattle.vcd_words.specs.Words.{words, alike, among}
use Rattle.vcd_declarations.specs.declared.head.Head.{Head}
use Rattle.vcd_declarations.specs.declared.head.Begun.{Begun}
use Rattle.vcd_declarations.specs.Codes.{five_in, placed_in, AllWithin, FurtherWithin}
use Rattle.vcd_declarations.specs.Declarations.{cut, head_of}

-- every code of one of the five, by its place; by the declarations where there are more codes than places
unfoldable pub all_by : List ℕ → Head → List (List ℕ)
all_by bytes h = pick h.further.full (head_of (words bytes)).all (placed_in bytes h.codes h.further)

pub record Begins (dump : List ℕ) (b : Begun) : Type 0 where
  pub broken_is : b.head.broken ≡ (head_of (words dump)).broken
  pub scaled_is : b.head.scaled ≡ (head_of (words dump)).scaled
  pub bad_is : b.head.bad ≡ (head_of (words dump)).bad
  pub codes_are : five_in dump b.head.codes ≡ (head_of (words dump)).codes
  pub codes_in_lem : AllWithin b.head.codes (length dump)
  pub all_are : (code : List ℕ) → alike code [] ≡ false → among (all_by dump b.head) code ≡ among (head_of (words dump)).all code
  pub further_in_lem : FurtherWithin b.head.further (length dump)
  pub ended_is : b.ended ≡ (cut (words dump)).ended
  pub rest_is : words (drop b.next dump) ≡ (cut (words dump)).rest
  pub next_in : b.next ≤ length dump
