-- 6,521 events fit and 6,522 do not, and with a rate 6,520 and 6,521: the example's configuration behind n advances is taken exactly if n
-- is at most that.
use mathlib.Core.Path.{◌≡◌, refl, sym, ap, ◌∙◌}
use mathlib.Core.Bool.{Bool, true, false}
use mathlib.Core.List.{List, [], ◌∷◌, ◌++◌}
use mathlib.Core.Logic.{◌⊎◌, inl, inr}
use Prim.Native.Nat.{ℕ, zero, suc, ◌+◌, ◌-◌, ◌*◌, ◌/◌, ◌%◌, ◌≤◌, ◌<◌}
use native.Mathlib.Omega.{arith}
use lib.ListN.{length, get_or, replicate, length-append}
use lib.Seq.{get_or-append-add}
use borrow.Author.Tests.{lt-ltb, le-ltb}
use Rattle.base.specs.Pick.{pick}
use Rattle.clock.specs.Clock.{billion, bad_rate}
use Rattle.config.specs.declared.Uc8253Config.{Uc8253Config}
use Rattle.config.specs.declared.Variant.TheVariants.{Uc8253}
use Rattle.config.specs.Refusal.{refusal, empty_panel, oversized_panel, swing_refused, period_refused, rate_refused}
use Rattle.capture.specs.Little.{little}
use Rattle.capture.specs.Layout.{kind_at, value_at, config_by, config_in, offset_of, count_of}
use Rattle.capture.specs.Refused.{broken, listed, file_refused, capture_refused}
use Rattle.capture.proofs.Placed.{little_behind}
use Rattle.capture.proofs.RateLaws.{parts_offset, parts_byte, plain_config, rated_config}
use Rattle.capture.proofs.CaptureLaws.{takes, program_takes, broken_refused}

-- ---- the files
abbrev advance : List ℕ
advance = 0 ∷ 0 ∷ 0 ∷ 0 ∷ 0 ∷ 0 ∷ 0 ∷ 0 ∷ 5 ∷ 0 ∷ []

abbrev advances : ℕ → List ℕ
advances zero = []
advances (suc n) = advance ++ advances n

-- a number below 2^16 in eight bytes, and in four
abbrev eight : ℕ → List ℕ
eight x = x % 256 ∷ x / 256 ∷ 0 ∷ 0 ∷ 0 ∷ 0 ∷ 0 ∷ 0 ∷ []

abbrev four : ℕ → List ℕ
four x = x % 256 ∷ x / 256 ∷ 0 ∷ 0 ∷ []

abbrev times : ℕ → List ℕ → List ℕ
times zero l = []
times (suc n) l = l ++ times n l

-- document 01's example: UC8253, 8 by 1, flags 4, grey 0, ambient 0, swing 28,000,000 (1AB 3F00),
-- power on 100, other times 0, periods 1,000
abbrev example : List ℕ
example =
    0 ∷ 4 ∷ 8 ∷ 0 ∷ 1 ∷ 0 ∷ 0 ∷ 0 ∷ 0x00 ∷ 0x3f ∷ 0xab ∷ 0x01 ∷ 0 ∷ 0 ∷ 0 ∷ 0 ∷ (eight 100 ++ times 4 (eight 0) ++ times 32 (eight 1000))

-- with a rate, 32,768 Hz, or without
abbrev rate_bytes : Bool → List ℕ
rate_bytes true = eight 32_768
rate_bytes false = []

abbrev hertz : Bool → ℕ
hertz rate = pick rate 32_768 billion

-- how many events fit
abbrev pub fit : Bool → ℕ
fit rate = pick rate 6520 6521

abbrev trailer : ℕ → List ℕ
trailer n = four (10 * n) ++ four n

abbrev pub file : Bool → ℕ → List ℕ
file rate n = advances n ++ (example ++ (rate_bytes rate ++ trailer n))

-- the example, decoded
abbrev pub example_config : Bool → Uc8253Config
example_config rate = record {
  variant = Uc8253;
  panel = record { sources = 8; gates = 1; rows_reversed = false; columns_reversed = false };
  optics = record { full_swing = 28_000_000; positive_drives_black = true; initial_gray = 0 };
  timing = record {
    power_on = 100;
    power_off = 0;
    deep_sleep = 0;
    soft_reset = 0;
    hardware_reset = 0;
    frame_period = replicate 32 1_000;
    rate = hertz rate;
  };
  ambient_celsius = 0;
  vcom_by_frame = false;
}

pub example_config_lem : (rate : Bool) → config_by (hertz rate) example 0 ≡ example_config rate
example_config_lem rate = refl

example_accepted : (rate : Bool) → refusal (example_config rate) ≡ 0
unfolding refusal empty_panel oversized_panel swing_refused period_refused rate_refused bad_rate
example_accepted true = refl
example_accepted false = refl

-- ---- their parts
length_advances : (n : ℕ) → length (advances n) ≡ 10 * n
length_advances zero = refl
length_advances (suc n) = omega (arith, length_advances n)

event_at_lem : (n i : ℕ) (ys : List ℕ) → i < n → (kind_at (advances n ++ ys) i ≡ 5) × (value_at (advances n ++ ys) i ≡ 0)
event_at_lem zero i ys h = absurd (omega arith)
event_at_lem (suc n) zero ys h = (refl, refl)
event_at_lem (suc n) (suc i) ys h =
    let l = advances n ++ ys in
    let kind : 10 * suc i + 8 ≡ 10 + (10 * i + 8) = omega arith in
    let value : 10 * suc i + 9 ≡ 10 + (10 * i + 9) = omega arith in
    let next = event_at_lem n i ys (omega arith) in (
      ap (λ (p : ℕ). get_or (advance ++ l) p 0) kind ∙ get_or-append-add advance l (10 * i + 8) 0 ∙ next.0,
      ap (λ (p : ℕ). get_or (advance ++ l) p 0) value ∙ get_or-append-add advance l (10 * i + 9) 0 ∙ next.1,
    )

length_file : (rate : Bool) (n : ℕ) → length (file rate n) ≡ 10 * n + (320 + length (rate_bytes rate))
length_file rate n =
    omega (
      arith,
      length_advances n,
      length-append (advances n) (example ++ (rate_bytes rate ++ trailer n)),
      length-append example (rate_bytes rate ++ trailer n),
      length-append (rate_bytes rate) (trailer n),
    )

module _ (rate : Bool) (n : ℕ) (h : n ≤ 6521) where
  points : little (trailer n) 0 4 ≡ length (advances n)
  points =
      let read : little (trailer n) 0 4 ≡ 10 * n = omega arith in
      read ∙ sym (length_advances n)

  offset_file : offset_of (file rate n) ≡ 10 * n
  offset_file = parts_offset (advances n) example (rate_bytes rate) (trailer n) refl refl points ∙ length_advances n

  count_file : count_of (file rate n) ≡ n
  unfolding count_of
  count_file =
      let place : length (file rate n) - 4 ≡ length (advances n) + (312 + (length (rate_bytes rate) + 4)) =
      omega (arith, length_file rate n, length_advances n) in
      let read : little (trailer n) 4 4 ≡ n = omega arith in
      ap (λ (p : ℕ). little (file rate n) p 4) place
      ∙ little_behind (advances n) (example ++ (rate_bytes rate ++ trailer n)) (312 + (length (rate_bytes rate) + 4)) 4
      ∙ little_behind example (rate_bytes rate ++ trailer n) (length (rate_bytes rate) + 4) 4
      ∙ little_behind (rate_bytes rate) (trailer n) 4 4
      ∙ read

  byte_file : (p : ℕ) → p < 312 → get_or (file rate n) (offset_of (file rate n) + p) 0 ≡ get_or example p 0
  byte_file = parts_byte (advances n) example (rate_bytes rate) (trailer n) refl refl points

config_file : (rate : Bool) (n : ℕ) → n ≤ 6521 → config_in (file rate n) ≡ example_config rate
config_file true n h = rated_config (advances n) example (eight 32_768) (trailer n) refl refl refl (points true n h) ∙ example_config_lem true
config_file false n h = plain_config (advances n) example (trailer n) refl refl (points false n h) ∙ example_config_lem false

length_fits_lem : (rate : Bool) (n : ℕ) → n ≤ 6521
    → (length (file rate n) ≡ offset_of (file rate n) + 320) ⊎ (length (file rate n) ≡ offset_of (file rate n) + 328)
length_fits_lem true n h = inr (omega (arith, length_file true n, offset_file true n h))
length_fits_lem false n h = inl (omega (arith, length_file false n, offset_file false n h))

-- ---- as many as fit: taken, and played
bounds : (rate : Bool) (n : ℕ) → n ≤ fit rate → (n ≤ 6521) × (length (file rate n) ≤ 65536)
bounds true n h = (omega (arith, h), omega (arith, h, length_file true n))
bounds false n h = (omega (arith, h), omega (arith, h, length_file false n))

module _ (rate : Bool) (n : ℕ) (h : n ≤ fit rate) where
  few : n ≤ 6521
  few = (bounds rate n h).0

  first : offset_of (file rate n) ≡ offset_of (file rate n) + 0
  first = omega arith

  pub file_taken : file_refused (file rate n) ≡ 0
  unfolding listed
  file_taken = takes (file rate n) (record {
    least = omega (arith, length_file rate n);
    most = (bounds rate n h).1;
    offset_is = offset_file rate n few ∙ ap (λ (m : ℕ). 10 * m) (sym (count_file rate n few));
    length_is = length_fits_lem rate n few;
    count_most = omega (arith, few, count_file rate n few);
    variant_most = rw (first, byte_file rate n few 0 (omega arith)) (omega arith);
    flags_most = rw (byte_file rate n few 1 (omega arith)) (omega arith);
    events_listed = λ i l.
        (let e = event_at_lem n i (example ++ (rate_bytes rate ++ trailer n)) (omega (arith, l, count_file rate n few)) in rw (e.0, e.1));
    config_taken_lem = ap refusal (config_file rate n few) ∙ example_accepted rate;
  })

  pub file_played : capture_refused (file rate n) ≡ 0
  file_played = program_takes (file rate n) file_taken (rw (config_file rate n few) (omega arith))

-- beyond: refusal 8
long : (rate : Bool) (n : ℕ) → fit rate < n → 65536 < length (file rate n)
long true n h = omega (arith, h, length_file true n)
long false n h = omega (arith, h, length_file false n)

pub file_refused_lem : (rate : Bool) (n : ℕ) → fit rate < n → capture_refused (file rate n) ≡ 8
unfolding broken
file_refused_lem rate n h =
    let least : 320 ≤ length (file rate n) = omega (arith, length_file rate n) in
    broken_refused (file rate n) (simp (le-ltb _ _ least, lt-ltb _ _ (long rate n h)))
