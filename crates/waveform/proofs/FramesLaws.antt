-- How many frames a table has: whatever is laid out over its groups, a value a frame, is as long as they count.
use mathlib.Core.Path.{◌≡◌, refl, ap, ◌∙◌}
use mathlib.Core.Bool.{Bool}
use mathlib.Core.List.{List, [], ◌∷◌}
use Prim.Native.Nat.{ℕ, suc, ◌+◌, ◌*◌, ◌≤◌}
use native.Mathlib.Omega.{arith}
use lib.ListN.{length, get_or, replicate, length-replicate}
use Rattle.base.specs.InTurn.{in_turn}
use Rattle.base.specs.Listed.{sum_to}
use Rattle.base.proofs.Cases.{both}
use Rattle.base.proofs.InTurn.{length_in_turn, sum_first, sum_equal}
use Rattle.base.proofs.Lists.{get_d_past}
use lib.IntN.{ℤ}
use Rattle.waveform.specs.declared.Group.{Group}
use Rattle.waveform.specs.declared.Levels.{Levels}
use Rattle.waveform.specs.declared.Waveform.{Waveform}
use Rattle.waveform.specs.Tables.{sum_of, running, frame_count, table_frame_count, table_at}
use Rattle.waveform.specs.Frames.{blank, drive_of, vcom_codes, table_frames, codes_of, beside_frames, frames_of}
use Rattle.waveform.proofs.BesideLaws.{beside_length}

-- in a round of a group, d p for the frames of phase p
abbrev pub laid_round : {A : Type 0} → Group → (ℕ → A) → List A
laid_round g d = in_turn 4 (λ p. replicate (get_or g.frames p 0) (d p))

-- that in each round
abbrev pub laid_group : {A : Type 0} → Group → (ℕ → A) → List A
laid_group g d = in_turn g.repeats (λ i. laid_round g d)

-- group by group, d k in group k
abbrev pub laid : {A : Type 0} → List Group → (ℕ → ℕ → A) → List A
laid gs d = in_turn (length gs) (λ k. laid_group (get_or gs k blank) (d k))

module _ {A : Type 0} where
  pub round_length : (g : Group) (d : ℕ → A) → length (laid_round g d) ≡ sum_of g.frames
  round_length g d = length_in_turn 4 (λ p. replicate (get_or g.frames p 0) (d p)) ∙ simp length-replicate

  pub group_length : (g : Group) (d : ℕ → A) → length (laid_group g d) ≡ g.repeats * sum_of g.frames
  group_length g d =
      length_in_turn g.repeats (λ i. laid_round g d)
      ∙ ap (λ (m : ℕ). sum_to g.repeats (λ k. m)) (round_length g d)
      ∙ sum_equal g.repeats (sum_of g.frames)

  groups_length : (gs : List Group) (d : ℕ → ℕ → A) →
      sum_to (length gs) (λ k. length (laid_group (get_or gs k blank) (d k))) ≡ frame_count gs
  groups_length [] d = refl
  groups_length (g ∷ gs) d =
      sum_first (length gs) (λ k. length (laid_group (get_or (g ∷ gs) k blank) (d k)))
      ∙ (λ i. group_length g (d 0) i + groups_length gs (λ k. d (suc k)) i)

  pub laid_length : (gs : List Group) (d : ℕ → ℕ → A) → length (laid gs d) ≡ frame_count gs
  laid_length gs d = length_in_turn (length gs) (λ k. laid_group (get_or gs k blank) (d k)) ∙ groups_length gs d

pub codes_length : (table : List Group) → length (codes_of table) ≡ table_frame_count table
codes_length table = laid_length (running table) (λ k p. get_or (get_or (running table) k blank).codes p 0)

module _ (l : Levels) (period : ℕ) (black : Bool) where
  pub frames_length : (table vcom : List Group) → length (table_frames l period black table vcom) ≡ table_frame_count table
  frames_length table vcom =
      laid_length (running table)
      (λ k p. drive_of l period black (get_or (get_or (running table) k blank).codes p 0) (get_or (vcom_codes vcom k) p 0))

  pub beside_frames_length : (table vcom : List Group) → length (beside_frames l period black table vcom) ≡ table_frame_count table
  beside_frames_length table vcom = beside_length l period black (codes_of table) (codes_of vcom) ∙ codes_length table

-- by either rule there are as many frames as the table counts
pub frames_counted : (w : Waveform) (black : Bool) (lut : ℕ) → length (frames_of w black lut) ≡ table_frame_count (table_at w lut)
frames_counted w black lut =
    both (λ (ds : List ℤ). length ds ≡ table_frame_count (table_at w lut)) w.vcom_by_frame
    (beside_frames_length w.levels w.frame_ns black (table_at w lut) (table_at w 0))
    (frames_length w.levels w.frame_ns black (table_at w lut) (table_at w 0))

-- a number that no table has
pub frames_none : (w : Waveform) (black : Bool) (lut : ℕ) → length w.tables ≤ lut → frames_of w black lut ≡ []
frames_none w black lut h = empty (frames_of w black lut) (frames_counted w black lut ∙ ap table_frame_count (get_d_past w.tables lut [] h))
  where
    empty : (ds : List ℤ) → length ds ≡ 0 → ds ≡ []
    empty [] e = refl
    empty (d ∷ ds) e = absurd (omega arith)
