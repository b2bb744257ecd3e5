-- A refresh's start and its end leave a sound record sound: its period is not 0, its levels are at most 15,000; the states stay in
-- 0 .. full swing. Each pixel's number is a table's, or 255.
use Rattle.std.proofs.Common.{None, Some}
use mathlib.Core.Path.{◌≡◌, refl, sym, subst, ◌∙◌}
use mathlib.Core.Bool.{Bool, true, false, ◌&&◌, false≢true}
use mathlib.Core.List.{List, [], ◌∷◌, ◌++◌}
use Prim.Native.Nat.{ℕ, zero, suc, ◌+◌, ◌*◌, ◌/◌, ◌%◌, ◌≤◌, ◌<◌}
use native.Mathlib.Nat.{mod-lt, div-add-mod', div-lt_iff_lt-mul, mul_comm}
use native.Mathlib.Omega.{arith}
use native.Mathlib.Decide.{dec_le}
use lib.Dec.{eqb}
use lib.IntN.{ℤ, pos}
use lib.ListN.{length, get_or, take}
use borrow.Author.Tests.{ne_eqb, le-ltb}
use Rattle.base.specs.Integer.{up}
use Rattle.base.specs.InTurn.{in_turn}
use Rattle.base.specs.Listed.{listed}
use Rattle.base.proofs.Cases.{by_cases, both}
use Rattle.config.proofs.RefusalLaws.{accepted}
use Rattle.registers.specs.Area.{inside}
use Rattle.registers.specs.Written.{written_of}
use Rattle.registers.proofs.RangeLaws.{written_in_range}
use Rattle.ram.specs.Plane.{bit_at}
use Rattle.numbers.specs.declared.Mapping.{Mapping}
use Rattle.numbers.specs.Number.{mapping_of, number_of, transition_of, shown_at, panel_numbers}
use Rattle.numbers.proofs.PanelLaws.{panel_length, panel_at}
use Rattle.waveform.specs.Levels.{levels_of}
use Rattle.glass.specs.Walk.{walk}
use Rattle.glass.proofs.WalkLaws.{walk_within}
use Rattle.pixels.specs.Drive.{frames_for}
use Rattle.pixels.specs.Lists.{every}
use Rattle.pixels.specs.States.{every_state, StateInRange, is_number, every_number}
use Rattle.pixels.proofs.ListLaws.{beside_length, beside_at, beside_past}
use Rattle.pixels.proofs.StateLaws.{states_in_range, in_range_states, table_number, undriven_number}
use Rattle.pixels.proofs.DrawLaws.{drawn_length}
use Rattle.controller.specs.declared.Uc8253.{Uc8253}
use Rattle.controller.specs.declared.drives.Drive.{Drive}
use Rattle.controller.specs.declared.drives.Drive.TheVariants as drive
use Rattle.controller.specs.Maybe.{Note}
use Rattle.controller.specs.TurnedBack.{bad_levels}
use Rattle.controller.specs.Refresh.{refresh_note, waveform_now, mapping_now, refreshing, refresh_started, refreshed_by, refreshed, all_frames}
use Rattle.controller.specs.Glass.{numbers_now, walked, states_by, picture_by}
use Rattle.controller.specs.Sound.{SoundChip}
use Rattle.controller.specs.Counting.{own}
use Rattle.controller.proofs.Parts.{good_area}

-- ---- the states stay in range
module _ (swing : ℕ) (frames : ℕ → List ℤ) (numbers : List ℕ) (states : List ℤ) where
  abbrev stepped : ℕ → ℤ → ℤ
  stepped n z = pos (walk swing (up z) (frames_for frames n))

  pub walked_length : length (walked swing frames numbers states) ≡ length states
  unfolding walked
  walked_length = beside_length stepped numbers states

  walked_at : every_state swing states ≡ true → (i : ℕ) → i < length states
      → StateInRange swing (get_or (walked swing frames numbers states) i (pos 0))
  unfolding walked
  walked_at e i h = elim (dec_le (length numbers) i) [
    | yes k ↦ subst (λ (z : ℤ). StateInRange swing z) (sym (beside_past stepped i numbers states (pos 0) k)) (states_in_range swing states e i h)
    | no k ↦
        subst (λ (z : ℤ). StateInRange swing z) (sym (beside_at stepped i numbers states 255 (pos 0) (omega arith) h))
        (record {
          is = refl;
          within =
              walk_within swing (up (get_or states i (pos 0))) (frames_for frames (get_or numbers i 255))
              (states_in_range swing states e i h).within;
        })
  ]

  pub walked_states : every_state swing states ≡ true → every_state swing (walked swing frames numbers states) ≡ true
  walked_states e =
      in_range_states swing (walked swing frames numbers states) (λ i h. walked_at e i (subst (λ (n : ℕ). i < n) walked_length h))

-- ---- what a call does to the glass
module _ (p : Uc8253) (old new : List ℕ) where
  pub states_length : (d : Drive) (states : List ℤ) → length (states_by d p old new states) ≡ length states
  states_length drive.Nothing states = refl
  states_length drive.Whole states = walked_length p.config.optics.full_swing (all_frames p) (numbers_now p old new) states
  states_length (drive.First n) states =
      walked_length p.config.optics.full_swing (λ k. take n (all_frames p k)) (numbers_now p old new) states

  pub states_sound : (d : Drive) (states : List ℤ) → every_state p.config.optics.full_swing states ≡ true
      → every_state p.config.optics.full_swing (states_by d p old new states) ≡ true
  states_sound drive.Nothing states e = e
  states_sound drive.Whole states e = walked_states p.config.optics.full_swing (all_frames p) (numbers_now p old new) states e
  states_sound (drive.First n) states e =
      walked_states p.config.optics.full_swing (λ k. take n (all_frames p k)) (numbers_now p old new) states e

pub picture_length : (d : Drive) (p : Uc8253) (states : List ℤ) (picture : List ℕ) → length (picture_by d p states picture) ≡ length picture
picture_length drive.Nothing p states picture = refl
picture_length drive.Whole p states picture = drawn_length p.config.optics.full_swing states picture
picture_length (drive.First n) p states picture = drawn_length p.config.optics.full_swing states picture

-- ---- each number is a table's, or 255
pub record Known (n : ℕ) : Type 0 where
  pub ok : is_number n ≡ true

table : (n : ℕ) → 1 ≤ n → n ≤ 4 → Known n
table n h k = record { ok = table_number n h k }

table_known : (old new : Bool) → Known (transition_of old new)
unfolding transition_of
table_known old new =
    both Known old (both Known new (table 1 (omega arith) (omega arith)) (table 3 (omega arith) (omega arith)))
    (both Known new (table 2 (omega arith) (omega arith)) (table 4 (omega arith) (omega arith)))

pub number_known : (q : Mapping) (old new : List ℕ) (x y : ℕ) → Known (number_of q old new x y)
unfolding number_of
number_known q old new x y =
    let c = shown_at q.columns q.active.x0 q.active.x1 x in
    let r = shown_at q.rows q.active.y0 q.active.y1 y in
    both Known (inside q.active c r && inside q.area c r)
    (table_known (eqb (bit_at old c r) q.white) (eqb (bit_at new c r) q.white))
    (record { ok = undriven_number })

-- lists of which each entry passes a test
module _ {A : Type 0} (t : A → Bool) where
  every_on : (l m : List A) → every t l ≡ true → every t m ≡ true → every t (l ++ m) ≡ true
  every_on [] m e f = f
  every_on (x ∷ l) m e f =
      by_cases (t x) (λ y. rw y (every_on l m (rw y at e) f)) (λ n. absurd (false≢true (rw n at e)))

  every_listed : (n : ℕ) (f : ℕ → A) → ((k : ℕ) → t (f k) ≡ true) → every t (listed n f) ≡ true
  every_listed zero f h = refl
  every_listed (suc n) f h = every_on (listed n f) (f n ∷ []) (every_listed n f h) (rw (h n))

  every_in_turn : (n : ℕ) (f : ℕ → List A) → ((k : ℕ) → every t (f k) ≡ true) → every t (in_turn n f) ≡ true
  every_in_turn zero f h = refl
  every_in_turn (suc n) f h = every_on (in_turn n f) (f n) (every_in_turn n f h) (h n)

-- the number of each pixel, row by row
module _ (p : Uc8253) (old new : List ℕ) where
  pub numbers_length : length (numbers_now p old new) ≡ p.config.panel.sources * p.config.panel.gates
  unfolding numbers_now mapping_of
  numbers_length = panel_length (mapping_now p) old new ∙ mul_comm p.config.panel.gates p.config.panel.sources

  pub number_at : SoundChip p → (d i : ℕ) → i < p.config.panel.sources * p.config.panel.gates
      → get_or (numbers_now p old new) i d
      ≡ number_of (mapping_now p) old new (i % p.config.panel.sources) (i / p.config.panel.sources)
  unfolding numbers_now mapping_of
  number_at s d i h =
      let n = p.config.panel.sources in
      let m = p.config.panel.gates in
      let some : 0 < n = (accepted p.config s.config).sources_least in
      let row : i / n < m = (div-lt_iff_lt-mul {k = n} {x = i} {y = m} some).1 (omega (arith, mul_comm n m)) in
      subst (λ (k : ℕ). get_or (numbers_now p old new) k d ≡ number_of (mapping_now p) old new (i % n) (i / n)) (div-add-mod' i n)
      (panel_at (mapping_now p) old new (i % n) (i / n) d (mod-lt i some) row)

  pub numbers_known : every_number (numbers_now p old new) ≡ true
  unfolding numbers_now panel_numbers
  numbers_known =
      every_in_turn is_number (mapping_now p).rows.count _
      (λ y. every_listed is_number (mapping_now p).columns.count _ (λ x. (number_known (mapping_now p) old new x y).ok))

-- ---- a refresh's start
-- the levels of 01 and the period of 30
level_most : (code : ℕ) → 2400 + 200 * (code % 64) ≤ 15000
level_most code = omega arith

good_levels : (power : List ℕ) → bad_levels (levels_of power) ≡ false
unfolding bad_levels
good_levels power =
    rw (
      le-ltb 15000 (levels_of power).vdh (level_most (get_or power 2 0)),
      le-ltb 15000 (levels_of power).vdl (level_most (get_or power 3 0)),
      le-ltb 15000 (levels_of power).vdhr (level_most (get_or power 4 0)),
    )

some_period : (p : Uc8253) → SoundChip p → eqb (get_or p.config.timing.frame_period (p.regs.pll % 32) 0) 0 ≡ false
some_period p s =
    let least = (accepted p.config s.config).period_least (p.regs.pll % 32) (omega arith) in
    ne_eqb (get_or p.config.timing.frame_period (p.regs.pll % 32) 0) 0 (λ e. omega arith)

sound_refresh_started : (p : Uc8253) → SoundChip p → SoundChip (refresh_started own p)
unfolding refresh_started refreshing waveform_now
sound_refresh_started p s = record {
  config = s.config;
  regs = s.regs;
  stage = s.stage;
  work =
      rw (
        good_area (written_of p.regs) (written_in_range p.regs s.regs),
        some_period p s,
        good_levels p.regs.power,
      );
  stored = s.stored;
}

sound_refreshed_by : (n : Note) (p : Uc8253) → SoundChip p → SoundChip (refreshed_by own n p)
sound_refreshed_by None p s = sound_refresh_started p s
sound_refreshed_by (Some d) p s = s

pub sound_refreshed : (p : Uc8253) → SoundChip p → SoundChip (refreshed own p)
unfolding refreshed
sound_refreshed p s = sound_refreshed_by (refresh_note (get_or p.regs.psr 0 0) p.mode.powered) p s
