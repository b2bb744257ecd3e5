-- Document 01, "Making a panel, and being turned back", 8 to 10, and request 2026-05: what turns a capture back, in the program's
-- order 8, 9, 1 to 4, 13, 10.
use Rattle.std.specs.Prelude.{◌≡◌, Bool, true, false, ◌||◌, ◌&&◌, not, List, ◌⊎◌, ℕ, zero, suc, ◌+◌, ◌*◌, ◌≤◌, ◌<◌, eqb, ltb, leb, length}
use Rattle.base.specs.Pick.{pick, between}
use Rattle.config.specs.declared.Uc8253Config.{Uc8253Config}
use Rattle.config.specs.Refusal.{refusal}
use Rattle.capture.specs.Layout.{kind_at, value_at, variant_at, flags_at, offset_of, count_of, rated, config_in, pixel_count}

-- 8, broken capture: file under 320 or over 65,536 bytes, trailer offset not 10 × its count, or file length neither
-- offset + 320 nor offset + 328
unfoldable pub broken : List ℕ → Bool
broken file =
    ltb (length file) 320
    || (ltb 65536 (length file)
    || (not (eqb (offset_of file) (10 * count_of file))
    || not (eqb (length file) (offset_of file + 320) || rated file)))

-- the events listed: 1 command, 2 data, 3 read (0), 4 reset (1 asserted, 0 released), 5 advance (0), 6 VCOM's rule (1 or 2)
unfoldable pub listed : ℕ → ℕ → Bool
listed kind value =
    pick (eqb kind 1) true
    (pick (eqb kind 2) true
    (pick (eqb kind 3) (eqb value 0)
    (pick (eqb kind 4) (leb value 1)
    (pick (eqb kind 5) (eqb value 0)
    (pick (eqb kind 6) (between 1 2 value) false)))))

-- each of the first n events is listed
abbrev pub all_listed : List ℕ → ℕ → Bool
all_listed file zero = true
all_listed file (suc n) = all_listed file n && listed (kind_at file n) (value_at file n)

-- of a configuration: variant above 1, a flag bit above bit 3
unfoldable pub bad_config : List ℕ → ℕ → Bool
bad_config file at = ltb 1 (variant_at file at) || ltb 15 (flags_at file at)

-- 9, bad event: a bad configuration, or an event kind or value not listed
unfoldable pub bad_event : List ℕ → Bool
bad_event file = bad_config file (offset_of file) || not (all_listed file (count_of file))

-- the number of the first of 8, 9, 1 to 4 and 13 that a file meets, 0 if it meets none
unfoldable pub file_refused : List ℕ → ℕ
file_refused file = pick (broken file) 8 (pick (bad_event file) 9 (refusal (config_in file)))

-- 10, too many pixels: the program's panel has more than 8,000
unfoldable pub too_many : Uc8253Config → Bool
too_many c = ltb 8000 (pixel_count c)

-- the program's: those of the file, and last 10
unfoldable pub capture_refused : List ℕ → ℕ
capture_refused file = pick (eqb (file_refused file) 0) (pick (too_many (config_in file)) 10 0) (file_refused file)

-- what a file has that meets none of its own
pub record Taken (file : List ℕ) : Type 0 where
  pub least : 320 ≤ length file
  pub most : length file ≤ 65536
  pub offset_is : offset_of file ≡ 10 * count_of file
  pub length_is : (length file ≡ offset_of file + 320) ⊎ (length file ≡ offset_of file + 328)
  pub count_most : count_of file ≤ 6521
  pub variant_most : variant_at file (offset_of file) ≤ 1
  pub flags_most : flags_at file (offset_of file) ≤ 15
  pub events_listed : (i : ℕ) → i < count_of file → listed (kind_at file i) (value_at file i) ≡ true
  pub config_taken_lem : refusal (config_in file) ≡ 0
