-- A dump of at most 6,521 events leaves what the capture with these events leaves; `panel` takes that capture if its panel has at most
-- 8,000 pixels. Each part of the file is read where it was written, so reading it gives back the configuration and the events.
use mathlib.Core.Path.{◌≡◌, refl, sym, ap, ◌∙◌}
use mathlib.Core.Bool.{Bool, true, false, ◌||◌}
use mathlib.Core.List.{List, [], ◌∷◌, ◌++◌}
use mathlib.Core.Logic.{inl}
use Prim.Native.Nat.{ℕ, zero, suc, ◌+◌, ◌-◌, ◌*◌, ◌≤◌, ◌<◌}
use native.Mathlib.Omega.{arith}
use lib.Dec.{eqb}
use lib.ListN.{length, get_or, length-append}
use lib.Seq.{get_or-append-add, take_at}
use borrow.Author.Tests.{eqb-true, eq-eqb}
use Rattle.base.specs.Pick.{pick}
use Rattle.base.proofs.Cases.{by_cases}
use Rattle.config.specs.declared.Uc8253Config.{Uc8253Config}
use Rattle.config.specs.Refusal.{refusal}
use Rattle.capture.specs.Little.{little}
use Rattle.capture.specs.Layout.{kind_at, value_at, config_of, offset_of, count_of, pixel_count}
use Rattle.capture.specs.Layout as layout
use Rattle.capture.specs.Refused.{listed, all_listed, broken, bad_config, bad_event, file_refused, capture_refused}
use Rattle.capture.specs.Reading.{events_end, events_of}
use Rattle.capture.proofs.ListedLaws.{listed_all}
use Rattle.capture.proofs.Placed.{little_behind, bad_same}
use Rattle.capture.proofs.RateLaws.{parts_offset, parts_byte, plain_config}
use Rattle.capture.proofs.CaptureLaws.{unbroken, events_end_lem, program_takes}
use Rattle.controller.specs.World.{Buffers}
use Rattle.controller.specs.TurnedBack.{making_refused}
use Rattle.controller.specs.Calls.{made}
use Rattle.event.specs.declared.Event.{Event}
use Rattle.events.specs.Played as events
use Rattle.vcd_simulation.specs.Written.{lowest, event_bytes, written}
use Rattle.vcd.specs.Dump.{config_in, dump_refused, dump_events}
use Rattle.vcd.specs.Played.{calls, dump_played}
use Rattle.vcd.specs.Captured.{trailer, capture_of, as_capture}
use Rattle.vcd.proofs.Calls.{AllFit, lowest_number, calls_run}
use Rattle.vcd.proofs.Taken.{passed, dump_fits}

-- ---- events in front of other bytes: ten bytes each, and each is listed
length_written : (es : List Event) → length (written es) ≡ 10 * length es
unfolding event_bytes
length_written [] = refl
length_written (e ∷ es) = omega (arith, length_written es)

event_listed : (es : List Event) (ys : List ℕ) → AllFit es → (i : ℕ) → i < length es
    → listed (kind_at (written es ++ ys) i) (value_at (written es ++ ys) i) ≡ true
unfolding event_bytes
event_listed [] ys f i h = absurd (omega (arith, h))
event_listed (e ∷ es) ys (AllFit.one_more f fs) zero h = f.listed_fits
event_listed (e ∷ es) ys (AllFit.one_more f fs) (suc i) h =
    let l = written es ++ ys in
    let kind : 10 * suc i + 8 ≡ 10 + (10 * i + 8) = omega arith in
    let value : 10 * suc i + 9 ≡ 10 + (10 * i + 9) = omega arith in
    rw (kind, value, get_or-append-add (event_bytes e) l (10 * i + 8) 0, get_or-append-add (event_bytes e) l (10 * i + 9) 0)
    (event_listed es ys fs i (omega (arith, h)))

-- ---- the file
module _ (config : List ℕ) (es : List Event) (long : length config ≡ 312) (few : length es ≤ 6521) where
  length_file : length (capture_of config es) ≡ 10 * length es + 320
  unfolding capture_of
  length_file =
      omega (arith, long, length_written es, length-append (written es) (config ++ trailer es), length-append config (trailer es))

  points : little (trailer es) 0 4 ≡ length (written es)
  points = lowest_number 4 (10 * length es) (lowest 4 (length es)) (omega (arith, few)) ∙ sym (length_written es)

  offset_length : offset_of (capture_of config es) ≡ length (written es)
  unfolding capture_of
  offset_length = parts_offset (written es) config [] (trailer es) long refl points

  offset_file : offset_of (capture_of config es) ≡ 10 * length es
  offset_file = offset_length ∙ length_written es

  count_file : count_of (capture_of config es) ≡ length es
  unfolding count_of capture_of
  count_file =
      let place : length (capture_of config es) - 4 ≡ length (written es) + (length config + 4) =
      omega (arith, long, length_written es, length_file) in
      ap (λ (q : ℕ). little (capture_of config es) q 4) place
      ∙ little_behind (written es) (config ++ trailer es) (length config + 4) 4
      ∙ little_behind config (trailer es) 4 4
      ∙ lowest_number 4 (length es) [] (omega (arith, few))

  config_byte : (p : ℕ) → p < 312 → get_or (capture_of config es) (offset_of (capture_of config es) + p) 0 ≡ get_or config p 0
  unfolding capture_of
  config_byte = parts_byte (written es) config [] (trailer es) long refl points

  -- its configuration is that of the 312 bytes
  pub captured_config : layout.config_in (capture_of config es) ≡ config_of config 0
  unfolding capture_of
  captured_config = plain_config (written es) config (trailer es) long refl points

  -- it is not broken, and has no bad event
  unbroken_file : broken (capture_of config es) ≡ false
  unbroken_file = unbroken (capture_of config es) (record {
    least = omega (arith, length_file);
    most = omega (arith, length_file, few);
    offset_is = offset_file ∙ ap (λ (n : ℕ). 10 * n) (sym count_file);
    length_is = inl (length_file ∙ ap (λ (n : ℕ). n + 320) (sym offset_file));
  })

  listed_file : AllFit es → all_listed (capture_of config es) (count_of (capture_of config es)) ≡ true
  unfolding capture_of
  listed_file f =
      listed_all (capture_of config es) (count_of (capture_of config es))
      (λ i h. event_listed es (config ++ trailer es) f i (omega (arith, h, count_file)))

  -- so what turns it back is its configuration alone
  pub captured_refused : AllFit es → file_refused (capture_of config es) ≡ pick (bad_config config 0) 9 (refusal (config_of config 0))
  unfolding file_refused bad_event
  captured_refused f =
      rw (
        unbroken_file,
        bad_same (capture_of config es) config (offset_of (capture_of config es)) config_byte,
        listed_file f,
        captured_config,
      )
      (ap (λ (t : Bool). pick t 9 (refusal (config_of config 0))) (or_none (bad_config config 0)))
    where
      or_none : (t : Bool) → (t || false) ≡ t
      or_none true = refl
      or_none false = refl

  -- and where nothing does, its events are these
  pub captured_events : file_refused (capture_of config es) ≡ 0 → events_of (capture_of config es) ≡ written es
  unfolding capture_of
  captured_events z =
      take_at (written es) (config ++ trailer es) (events_end (capture_of config es))
      (sym offset_length ∙ sym (events_end_lem (capture_of config es) z))

-- ---- a dump that is not refused: so is its configuration not, and a run of its events is their calls
making_config : (c : Uc8253Config) (b : Buffers) → making_refused c b ≡ 0 → refusal c ≡ 0
unfolding making_refused
making_config c b e = by_cases (eqb (refusal c) 0) (λ t. eqb-true (refusal c) 0 t) (λ t. rw t at e)

calls_played : (c : Uc8253Config) (es : List Event) (b : Buffers) → AllFit es → making_refused c b ≡ 0
    → events.played c (written es) b ≡ calls es (made c b)
unfolding events.played
calls_played c es b f m = rw (eq-eqb (making_refused c b) 0 m) (calls_run es f (made c b))

module _ (config dump : List ℕ) (b : Buffers) (e : dump_refused config dump b ≡ 0) (few : length (dump_events dump) ≤ 6521) where
  same_config : layout.config_in (as_capture config dump) ≡ config_in config
  unfolding config_in
  same_config = captured_config config (dump_events dump) (passed config dump b e).length_is few

  taken_capture : file_refused (as_capture config dump) ≡ 0
  unfolding config_in
  taken_capture =
      let p = passed config dump b e in
      captured_refused config (dump_events dump) p.length_is few (dump_fits dump)
      ∙ rw p.config_good (making_config (config_in config) b p.making_taken)

  same_played : events.played (layout.config_in (as_capture config dump)) (events_of (as_capture config dump)) b ≡ dump_played config dump b
  unfolding dump_played
  same_played =
      let p = passed config dump b e in
      let same-events = captured_events config (dump_events dump) p.length_is few taken_capture in
      (λ i. events.played (same_config i) (same-events i) b)
      ∙ calls_played (config_in config) (dump_events dump) b (dump_fits dump) p.making_taken
      ∙ rw (eq-eqb (dump_refused config dump b) 0 e)

  -- (1) the capture with its events is taken, and leaves what the dump leaves
  pub small_dump : (file_refused (as_capture config dump) ≡ 0)
      × (events.played (layout.config_in (as_capture config dump)) (events_of (as_capture config dump)) b ≡ dump_played config dump b)
  small_dump = (taken_capture, same_played)

  -- (2) so it is by `panel`, if its panel has at most 8,000 pixels
  pub small_panel : pixel_count (config_in config) ≤ 8000 → capture_refused (as_capture config dump) ≡ 0
  small_panel h = program_takes (as_capture config dump) taken_capture (rw same_config h)
