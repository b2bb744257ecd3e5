-- 312 bytes of configuration are read at 1 GHz and 320 at the rate that they end with, so that a rate of 1 GHz appended changes nothing.
use mathlib.Core.Path.{◌≡◌, sym, ap, ◌∙◌}
use mathlib.Core.List.{List, [], ◌++◌}
use Prim.Native.Nat.{ℕ, ◌+◌, ◌-◌, ◌<◌}
use native.Mathlib.Nat.{zero-add}
use native.Mathlib.Omega.{arith}
use lib.Dec.{lit≤}
use lib.ListN.{length, get_or, length-append, get_or-append}
use borrow.Author.Tests.{eq-eqb, ne_eqb}
use Rattle.base.specs.Pick.{pick}
use mathlib.Core.Bool.{false}
use Rattle.config.specs.declared.Uc8253Config.{Uc8253Config}
use Rattle.clock.specs.Clock.{billion, bad_rate}
use Rattle.clock.proofs.ClockLaws.{rate_good}
use Rattle.config.specs.Refusal.{empty_panel, oversized_panel, swing_refused, period_refused, rate_refused, refusal}
use Rattle.capture.specs.Little.{little}
use Rattle.capture.specs.Layout.{config_by, config_of, offset_of, rated, rate_in, config_in}
use Rattle.capture.proofs.Placed.{little_same, byte_behind, little_behind, config_same}

-- 1 to 4, the tests of a configuration before there was a rate
abbrev pub unrated : Uc8253Config → ℕ
unrated c = pick (empty_panel c) 1 (pick (oversized_panel c) 2 (pick (swing_refused c) 3 (pick (period_refused c) 4 0)))

module _ (file : List ℕ) where
  pub rate_none : length file ≡ offset_of file + 320 → rate_in file ≡ billion
  unfolding rate_in rated
  rate_none e = simp (ne_eqb (length file) (offset_of file + 328) (λ (f : length file ≡ offset_of file + 328). omega (arith, e, f)))

  rate_right : length file ≡ offset_of file + 320 → rate_refused (config_in file) ≡ false
  unfolding rate_refused config_in
  rate_right e = ap bad_rate (rate_none e) ∙ rate_good billion (lit≤ tt) (lit≤ tt)

  -- 13 is not met, and the others are as they were
  pub old_refused : length file ≡ offset_of file + 320 → refusal (config_in file) ≡ unrated (config_in file)
  unfolding refusal
  old_refused e = rw (rate_right e)

  pub rate_last : length file ≡ offset_of file + 328 → rate_in file ≡ little file (offset_of file + 312) 8
  unfolding rate_in rated
  rate_last e = simp (eq-eqb _ _ e)

-- ---- events, 312 bytes, what comes before the trailer, and the trailer, which points behind the events
module _ (events config more trailer : List ℕ) (long : length config ≡ 312) (end : length trailer ≡ 8)
    (points : little trailer 0 4 ≡ length events) where
  abbrev file : List ℕ
  file = events ++ (config ++ (more ++ trailer))

  pub parts_length : length file ≡ length events + (320 + length more)
  parts_length =
      omega (
        arith,
        long,
        end,
        length-append events (config ++ (more ++ trailer)),
        length-append config (more ++ trailer),
        length-append more trailer,
      )

  pub parts_offset : offset_of file ≡ length events
  unfolding offset_of
  parts_offset =
      let place : length file - 8 ≡ length events + (length config + (length more + 0)) = omega (arith, long, parts_length) in
      ap (λ (p : ℕ). little file p 4) place
      ∙ little_behind events (config ++ (more ++ trailer)) (length config + (length more + 0)) 4
      ∙ little_behind config (more ++ trailer) (length more + 0) 4
      ∙ little_behind more trailer 0 4
      ∙ points

  pub parts_byte : (p : ℕ) → p < 312 → get_or file (offset_of file + p) 0 ≡ get_or config p 0
  parts_byte p h =
      ap (λ (q : ℕ). get_or file (q + p) 0) parts_offset
      ∙ byte_behind events (config ++ (more ++ trailer)) p
      ∙ get_or-append config (more ++ trailer) 0 p (omega (arith, h, long))

  pub parts_config : config_in file ≡ config_by (rate_in file) config 0
  unfolding config_in
  parts_config = config_same file config (offset_of file) parts_byte (rate_in file)

-- ---- without a rate, and with one
module _ (events config trailer : List ℕ) (long : length config ≡ 312) (end : length trailer ≡ 8)
    (points : little trailer 0 4 ≡ length events) where
  pub plain_config : config_in (events ++ (config ++ trailer)) ≡ config_of config 0
  plain_config =
      let whole : length (events ++ (config ++ trailer)) ≡ offset_of (events ++ (config ++ trailer)) + 320 =
      omega (arith, parts_length events config [] trailer long end points, parts_offset events config [] trailer long end points) in
      parts_config events config [] trailer long end points
      ∙ ap (λ (rate : ℕ). config_by rate config 0) (rate_none (events ++ (config ++ trailer)) whole)

module _ (events config rate trailer : List ℕ) (long : length config ≡ 312) (eight : length rate ≡ 8) (end : length trailer ≡ 8)
    (points : little trailer 0 4 ≡ length events) where
  abbrev with_rate : List ℕ
  with_rate = events ++ (config ++ (rate ++ trailer))

  rate_bytes_lem : little with_rate (offset_of with_rate + 312) 8 ≡ little rate 0 8
  rate_bytes_lem =
      let place : offset_of with_rate + 312 ≡ length events + (length config + 0) =
      omega (arith, long, parts_offset events config rate trailer long end points) in
      ap (λ (p : ℕ). little with_rate p 8) place
      ∙ little_behind events (config ++ (rate ++ trailer)) (length config + 0) 8
      ∙ little_behind config (rate ++ trailer) 0 8
      ∙ little_same (rate ++ trailer) rate 0 8 front 0 8 (omega arith)
    where
      front : (p : ℕ) → p < 8 → get_or (rate ++ trailer) (0 + p) 0 ≡ get_or rate p 0
      front p h = rw (zero-add p) (get_or-append rate trailer 0 p (omega (arith, h, eight)))

  pub rated_config : config_in with_rate ≡ config_by (little rate 0 8) config 0
  rated_config =
      let whole : length with_rate ≡ offset_of with_rate + 328 =
      omega (
        arith,
        eight,
        parts_length events config rate trailer long end points,
        parts_offset events config rate trailer long end points,
      )
      in
      parts_config events config rate trailer long end points
      ∙ ap (λ (r : ℕ). config_by r config 0) (rate_last with_rate whole ∙ rate_bytes_lem)

  pub rate_appended : little rate 0 8 ≡ billion → config_in with_rate ≡ config_in (events ++ (config ++ trailer))
  rate_appended e = rated_config ∙ ap (λ (r : ℕ). config_by r config 0) e ∙ sym (plain_config events config trailer long end points)
