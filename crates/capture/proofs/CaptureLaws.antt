-- The order in which a capture is turned back, and what holds of one that is taken: exactly if it meets none of the refusals.
-- 6,521 events fit, 6,522 do not, and with a rate one fewer. 10 comes last, and only the program has it.
use mathlib.Core.Path.{◌≡◌, refl, sym, ◌∙◌}
use mathlib.Core.Bool.{Bool, true, false, ◌||◌, not, true≢false}
use mathlib.Core.List.{List}
use mathlib.Core.Logic.{◌⊎◌, inl, inr, ⊎_elim}
use Prim.Native.Nat.{ℕ, ◌+◌, ◌*◌, ◌≤◌, ◌<◌, zero-le}
use native.Mathlib.Omega.{arith}
use lib.Dec.{eqb, ltb}
use lib.ListN.{length}
use lib.Seq.{get_or-take}
use borrow.Author.Tests.{ltb-false, eqb-true, eqb-false, le-ltb, eq-eqb, ne_eqb, not-false}
use Rattle.base.proofs.Cases.{by_cases}
use Rattle.config.specs.Refusal.{refusal}
use Rattle.capture.specs.Layout.{kind_at, value_at, variant_at, offset_of, count_of, rated, config_in, pixel_count}
use Rattle.capture.specs.Refused.{broken, bad_config, bad_event, file_refused, too_many, capture_refused, Taken}
use Rattle.capture.specs.Reading.{events_end, events_of}
use Rattle.capture.proofs.ListedLaws.{each_listed, listed_all}

-- ---- the order: 8, 9, 1 to 4 and 13; of the program then 10
module _ (file : List ℕ) where
  pub broken_first : broken file ≡ true → file_refused file ≡ 8
  unfolding file_refused
  broken_first b = simp b

  pub event_second : broken file ≡ false → bad_event file ≡ true → file_refused file ≡ 9
  unfolding file_refused
  event_second b e = simp (b, e)

  pub config_third : broken file ≡ false → bad_event file ≡ false → file_refused file ≡ refusal (config_in file)
  unfolding file_refused
  config_third b e = simp (b, e)

  pub file_before : (file_refused file ≡ 0 → ⊥) → capture_refused file ≡ file_refused file
  unfolding capture_refused
  file_before r = simp (ne_eqb _ _ r)

  pub pixels_last : file_refused file ≡ 0 → too_many (config_in file) ≡ true → capture_refused file ≡ 10
  unfolding capture_refused
  pixels_last r t = simp (eq-eqb _ _ r, t)

  pub none_met : file_refused file ≡ 0 → too_many (config_in file) ≡ false → capture_refused file ≡ 0
  unfolding capture_refused
  none_met r t = simp (eq-eqb _ _ r, t)

-- ---- what a file that is taken has
neither : (a b : Bool) → (a || b) ≡ false → (a ≡ false) × (b ≡ false)
neither true b e = absurd (true≢false e)
neither false b e = (refl, e)

-- none of the three is met
record Passed (file : List ℕ) : Type 0 where
  whole : broken file ≡ false
  events : bad_event file ≡ false
  config : refusal (config_in file) ≡ 0

eight : ◌≡◌ {A = ℕ} 8 0 → ⊥
eight e = omega arith

zero_passed : (file : List ℕ) → file_refused file ≡ 0 → Passed file
zero_passed file z =
    by_cases (broken file)
    (λ b. absurd (eight (sym (broken_first file b) ∙ z)))
    (λ b. by_cases (bad_event file)
    (λ e. absurd (nine (sym (event_second file b e) ∙ z)))
    (λ e. record { whole = b; events = e; config = sym (config_third file b e) ∙ z }))
  where
    nine : ◌≡◌ {A = ℕ} 9 0 → ⊥
    nine e = omega arith

-- what refusal 8 leaves
pub record Whole (file : List ℕ) : Type 0 where
  pub least : 320 ≤ length file
  pub most : length file ≤ 65536
  pub offset_is : offset_of file ≡ 10 * count_of file
  pub length_is : (length file ≡ offset_of file + 320) ⊎ (length file ≡ offset_of file + 328)

pub either_length : (bytes offset : ℕ) → (eqb bytes (offset + 320) || eqb bytes (offset + 328)) ≡ true
    → (bytes ≡ offset + 320) ⊎ (bytes ≡ offset + 328)
either_length bytes offset e =
    by_cases (eqb bytes (offset + 320))
    (λ plain. inl (eqb-true _ _ plain))
    (λ more. inr (eqb-true _ _ (rw more at e)))

pub whole : (file : List ℕ) → broken file ≡ false → Whole file
unfolding broken rated
whole file b =
    let short = neither (ltb (length file) 320) _ b in
    let long = neither (ltb 65536 (length file)) _ short.1 in
    let tail = neither (not (eqb (offset_of file) (10 * count_of file))) _ long.1 in
    record {
      least = ltb-false _ _ short.0;
      most = ltb-false _ _ long.0;
      offset_is = eqb-true _ _ (not-false _ tail.0);
      length_is = either_length (length file) (offset_of file) (not-false _ tail.1);
    }

one_length : (file : List ℕ) → (length file ≡ offset_of file + 320) ⊎ (length file ≡ offset_of file + 328)
    → (eqb (length file) (offset_of file + 320) || rated file) ≡ true
unfolding rated
one_length file (inl e) = simp (eq-eqb _ _ e)
one_length file (inr e) = rw (eq-eqb _ _ e) (or-true (eqb (length file) (offset_of file + 320)))
  where
    or-true : (a : Bool) → (a || true) ≡ true
    or-true true = refl
    or-true false = refl

pub unbroken : (file : List ℕ) → Whole file → broken file ≡ false
unfolding broken
unbroken file w = simp (le-ltb _ _ w.least, le-ltb _ _ w.most, eq-eqb _ _ w.offset_is, one_length file w.length_is)

-- 320 bytes at least lie behind the events
pub behind : (file : List ℕ) → (length file ≡ offset_of file + 320) ⊎ (length file ≡ offset_of file + 328) → offset_of file + 320 ≤ length file
behind file = ⊎_elim (λ e. omega (arith, e)) (λ e. omega (arith, e))

-- (1) a file that is not refused has all of it
pub taken : (file : List ℕ) → file_refused file ≡ 0 → Taken file
unfolding bad_config bad_event
taken file z =
    let p = zero_passed file z in
    let w = whole file p.whole in
    let both = neither (bad_config file (offset_of file)) _ p.events in
    let config = neither (ltb 1 (variant_at file (offset_of file))) _ both.0 in
    record {
      least = w.least;
      most = w.most;
      offset_is = w.offset_is;
      length_is = w.length_is;
      count_most = omega (arith, w.most, w.offset_is, behind file w.length_is);
      variant_most = ltb-false _ _ config.0;
      flags_most = ltb-false _ _ config.1;
      events_listed = each_listed file (count_of file) (not-false _ both.1);
      config_taken_lem = p.config;
    }

-- (2) a file that has all of it is not refused
pub takes : (file : List ℕ) → Taken file → file_refused file ≡ 0
unfolding bad_config bad_event
takes file t =
    config_third file
    (unbroken file (record { least = t.least; most = t.most; offset_is = t.offset_is; length_is = t.length_is }))
    (simp (le-ltb _ _ t.variant_most, le-ltb _ _ t.flags_most, listed_all file (count_of file) t.events_listed))
    ∙ t.config_taken_lem

-- ---- the program takes exactly the files that are taken and have at most 8,000 pixels
pub program_taken : (file : List ℕ) → capture_refused file ≡ 0 → (file_refused file ≡ 0) × (pixel_count (config_in file) ≤ 8000)
unfolding too_many
program_taken file z =
    by_cases (eqb (file_refused file) 0)
    (λ r. by_cases (ltb 8000 (pixel_count (config_in file)))
    (λ t. absurd (ten (sym (pixels_last file (eqb-true _ _ r) t) ∙ z)))
    (λ t. (eqb-true _ _ r, ltb-false _ _ t)))
    (λ r. absurd (eqb-false _ _ r (sym (file_before file (eqb-false _ _ r)) ∙ z)))
  where
    ten : ◌≡◌ {A = ℕ} 10 0 → ⊥
    ten e = omega arith

pub program_takes : (file : List ℕ) → file_refused file ≡ 0 → pixel_count (config_in file) ≤ 8000 → capture_refused file ≡ 0
unfolding too_many
program_takes file r h = none_met file r (le-ltb _ _ h)

-- a broken file is turned back by the program as 8
pub broken_refused : (file : List ℕ) → broken file ≡ true → capture_refused file ≡ 8
broken_refused file b =
    let e = broken_first file b in
    file_before file (λ z. eight (sym e ∙ z)) ∙ e

-- ---- the events of any file end inside it
pub events_within : (file : List ℕ) → events_end file ≤ length file
unfolding events_end
events_within file =
    by_cases (eqb (file_refused file) 0)
    (λ z.
    let t = taken file (eqb-true _ _ z) in
    rw z (omega (arith, t.offset_is, behind file t.length_is)))
    (λ z. rw z zero-le)

-- those of a file that is taken end where its configuration begins
pub events_end_lem : (file : List ℕ) → file_refused file ≡ 0 → events_end file ≡ offset_of file
unfolding events_end
events_end_lem file z = rw (eq-eqb _ _ z) (sym (taken file z).offset_is)

-- and they can be read from that part alone
pub event_in_front : (file : List ℕ) → file_refused file ≡ 0 → (i : ℕ) → i < count_of file
    → (kind_at (events_of file) i ≡ kind_at file i) × (value_at (events_of file) i ≡ value_at file i)
event_in_front file z i h =
    let t = taken file z in
    let e = events_end_lem file z in (
      get_or-take (events_end file) file (10 * i + 8) 0 (omega (arith, t.offset_is, e)),
      get_or-take (events_end file) file (10 * i + 9) 0 (omega (arith, t.offset_is, e)),
    )

-- 10 × count is exact: at 32 bits it would be 4 here
pub count_exact : (file : List ℕ) → offset_of file ≡ 4 → count_of file ≡ 429_496_730 → file_refused file ≡ 8
count_exact file o n =
    by_cases (broken file)
    (broken_first file)
    (λ b. absurd (omega (arith, (whole file b).offset_is)))

-- (4) 6,522 events do not fit
pub too_many_events : (file : List ℕ) → 6522 ≤ count_of file → file_refused file ≡ 8
too_many_events file h =
    by_cases (broken file)
    (broken_first file)
    (λ b.
    let w = whole file b in
    absurd (omega (arith, w.most, w.offset_is, behind file w.length_is)))

-- and with a rate 6,521 do not
pub too_many_rated : (file : List ℕ) → rated file ≡ true → 6521 ≤ count_of file → file_refused file ≡ 8
unfolding rated
too_many_rated file r h =
    by_cases (broken file)
    (broken_first file)
    (λ b.
    let w = whole file b in
    absurd (omega (arith, w.most, w.offset_is, eqb-true (length file) (offset_of file + 328) r)))
