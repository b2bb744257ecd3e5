-- What a capture that was played came to is its output: of what is lent only the sizes count, since making sets all of it.
use mathlib.Core.Path.{◌≡◌, refl, sym, ap, ◌∙◌}
use mathlib.Core.Bool.{true, false}
use mathlib.Core.List.{List}
use Prim.Native.Nat.{ℕ}
use lib.Dec.{eqb}
use lib.IntN.{ℤ}
use lib.ListN.{length}
use Rattle.std.proofs.Common.{Result, Ok, Err}
use Rattle.std.specs.Result.{result_unwrap_or}
use Rattle.base.specs.declared.refusals.Refusal.{Refusal}
use Rattle.base.specs.RefusalNumbers.{given}
use Rattle.base.specs.Pick.{pick}
use Rattle.base.proofs.Cases.{by_cases}
use Rattle.config.specs.Refusal.{empty_panel, refusal}
use Rattle.outcome.specs.declared.Came.{Came}
use Rattle.output.specs.declared.Form.{Form}
use Rattle.output.specs.Units.{played_of, units_by, units_of}
use Rattle.capture.specs.Layout.{config_in}
use Rattle.controller.specs.declared.Uc8253.{Uc8253}
use Rattle.controller.specs.World.{Buffers, world}
use Rattle.controller.specs.TurnedBack.{bad_config, foreign_record, lengths_fit, making_refused}
use Rattle.controller.specs.Calls.{wide_refused, wide_answer, no_config, no_registers, zeros, made}
use Rattle.shades.specs.Shades.{shades_of}
use Rattle.capture.specs.Reading.{events_of}
use Rattle.events.specs.Played as events
use Rattle.showing.specs.declared.Sizes.{Sizes}
use Rattle.showing.specs.Played.{is_panel, tested_by, play_refused, played, answers_played}
use Rattle.showing.specs.Shown.{fitted, sizes_of, blank, lent_answers, Fits}
use Rattle.showing.specs.Output.{came_of, units_played, output_of, Output, shades_played, shaded_of}

-- the record that playing left, that of zeros where the file was turned back
pub chip_left : (r : Result Uc8253 Refusal) {p z : Uc8253} → p ≡ result_unwrap_or r z → z ≡ zeros → p ≡ given (λ q. q) zeros r
chip_left (Ok q) e h = e
chip_left (Err x) e h = e ∙ h

-- a file that is not played has one unit, whatever is lent
not_played : (f : Form) (file : List ℕ) (n : ℕ) (us vs : List (List ℕ)) → eqb n 0 ≡ false
    → units_by (came_of f file n) us ≡ units_by (came_of f file n) vs
not_played f file n us vs h =
    by_cases (is_panel f)
    (λ p. by_cases (eqb (length file) 0) (λ q. rw (p, q)) (λ q. rw (p, q, h)))
    (λ p. rw (p, h))

-- the question of a record of zeros is turned back, whatever the states are
zeros_shades : (f : Form) (top : ℕ) (s t : List ℤ) → shades_of f top zeros s ≡ shades_of f top zeros t
unfolding shades_of wide_refused wide_answer foreign_record bad_config refusal empty_panel zeros no_config no_registers
zeros_shades f top s t = refl

-- ---- two lendings of the same sizes
module _ (f : Form) (file : List ℕ) (b c : Buffers) (e : sizes_of b ≡ sizes_of c) where
  making_alike : making_refused (config_in file) b ≡ making_refused (config_in file) c
  unfolding making_refused
  making_alike = λ i.
      let g = config_in file in
      let s = e i in
      pick (eqb (refusal g) 0)
      (pick (lengths_fit g s.old s.new s.states s.picture s.rows) 0 5)
      (refusal g)

  numbers_alike : play_refused f file b ≡ play_refused f file c
  unfolding play_refused
  numbers_alike = λ i. pick (eqb (tested_by f file) 0) (making_alike i) (tested_by f file)

  -- the units of what was played
  units_in : List ℕ → Buffers → List (List ℕ)
  units_in l x =
      let w = played f file x in
      played_of f w.chip.log w.chip.image (events_of file) (answers_played f file x l) w.lent.picture w.lent.rows

  -- refused alike
  refused_alike : (l : List ℕ) → eqb (play_refused f file b) 0 ≡ false → units_played f file b l ≡ units_played f file c l
  unfolding units_of units_in
  refused_alike l h =
      not_played f file (play_refused f file b) (units_in l b) (units_in l c) h
      ∙ ap (λ (n : ℕ). units_by (came_of f file n) (units_in l c)) numbers_alike

  -- made and run alike
  record Alike : Type 0 where
    answers : answers_played f file b lent_answers ≡ answers_played f file c lent_answers
    chip : (played f file b).chip ≡ (played f file c).chip
    states : (played f file b).lent.states ≡ (played f file c).lent.states
    picture : (played f file b).lent.picture ≡ (played f file c).lent.picture
    rows : (played f file b).lent.rows ≡ (played f file c).lent.rows

  alike : eqb (tested_by f file) 0 ≡ true → eqb (making_refused (config_in file) b) 0 ≡ true → Alike
  unfolding answers_played events.answers_played played events.played made
  alike p q =
      let r = ap (λ (x : ℕ). eqb x 0) (sym making_alike) ∙ q in
      record { answers = rw (p, q, r); chip = rw (p, q, r); states = rw (p, q, r); picture = rw (p, q, r); rows = rw (p, q, r) }

  accepted_alike : Alike → units_played f file b lent_answers ≡ units_played f file c lent_answers
  accepted_alike a =
      λ i. units_of f (record { came = came_of f file (numbers_alike i); log = (a.chip i).log; image = (a.chip i).image })
      (events_of file) (a.answers i) (a.picture i) (a.rows i)

  pub lent_alike : units_played f file b lent_answers ≡ units_played f file c lent_answers
  unfolding play_refused
  lent_alike =
      by_cases (eqb (tested_by f file) 0)
      (λ p. by_cases (eqb (making_refused (config_in file) b) 0)
      (λ q. accepted_alike (alike p q))
      (λ q. refused_alike lent_answers (rw p q)))
      (λ p. refused_alike lent_answers (rw p p))

  -- the picture at a top
  pub shades_alike : (top : ℕ) → shades_played f top file b ≡ shades_played f top file c
  unfolding played events.played made
  shades_alike top =
      by_cases (eqb (tested_by f file) 0)
      (λ p. by_cases (eqb (making_refused (config_in file) b) 0)
      (λ q.
      let a = alike p q in
      λ i. shades_of f top (a.chip i) (a.states i))
      (λ q. rw (p, q, ap (λ (x : ℕ). eqb x 0) (sym making_alike) ∙ q) (zeros_shades f top b.states c.states)))
      (λ p. rw p (zeros_shades f top b.states c.states))

-- ---- what is written
module _ (f : Form) (file : List ℕ) (s : Sizes) (b : Buffers) (given : List ℕ) (fits : Fits file s b) (eg : given ≡ lent_answers) where
  same : units_played f file b given ≡ output_of f file s
  unfolding output_of
  same = ap (units_played f file b) eg ∙ lent_alike f file b (fitted file (blank s)) fits

  pub written : (p : Uc8253) (c : Buffers) (x : Came) (answers : List ℕ)
      → world p c ≡ played f file b → x ≡ came_of f file (play_refused f file b) → answers ≡ answers_played f file b given
      → Output f file s
      (units_of f (record { came = x; log = p.log; image = p.image }) (events_of file) answers c.picture c.rows)
  written p c x answers ew ex ea =
      (λ i. units_of f (record { came = ex i; log = (ew i).chip.log; image = (ew i).chip.image })
      (events_of file) (ea i) (ew i).lent.picture (ew i).lent.rows)
      ∙ same

pub shaded : (f : Form) (top : ℕ) (file : List ℕ) (s : Sizes) (b : Buffers) → Fits file s b → (p : Uc8253) (c : Buffers)
    → world p c ≡ played f file b → shades_of f top p c.states ≡ shaded_of f top file s
unfolding shaded_of
shaded f top file s b fits p c e =
    (λ i. shades_of f top (e i).chip (e i).lent.states) ∙ shades_alike f file b (fitted file (blank s)) fits top
