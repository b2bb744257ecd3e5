-- The two rules of VCOM: each frame of rule 2, how many there are, and that equal times give equal frames by both.
use mathlib.Core.Path.{◌≡◌, refl, sym, ap, ◌∙◌}
use mathlib.Core.Bool.{Bool, true, false}
use mathlib.Core.List.{List, [], ◌∷◌, ◌++◌, append-nil}
use Prim.Native.Nat.{ℕ, zero, suc, ◌<◌}
use native.Mathlib.Omega.{arith}
use lib.Dec.{eqb}
use lib.ListN.{length, get_or, take, replicate, length-replicate}
use lib.Seq.{get_or-take, drop_at}
use lib.IntN.{ℤ, pos}
use Rattle.base.specs.Pick.{pick}
use Rattle.base.specs.InTurn.{in_turn}
use Rattle.base.specs.Listed.{sum_to}
use Rattle.base.proofs.Cases.{by_cases}
use Rattle.base.proofs.InTurn.{length_in_turn}
use Rattle.waveform.specs.declared.Group.{Group}
use Rattle.waveform.specs.declared.Levels.{Levels}
use Rattle.waveform.specs.declared.Waveform.{Waveform}
use Rattle.waveform.specs.Tables.{sum_of, ends, running, table_frame_count, table_at}
use Rattle.waveform.specs.Frames.{blank, drive_of, vcom_codes, table_frames, codes_of, beside, beside_frames, frames_of}
use Rattle.waveform.proofs.BesideLaws.{beside_at, beside_append, beside_first, beside_run}
use Rattle.waveform.proofs.FramesLaws.{laid_round, laid_group, laid, round_length, group_length, codes_length}
use Rattle.waveform.proofs.PlaceLaws.{run_at}

-- ---- frame k of a refresh by rule 2 is the drive of the table's code k against VCOM's code k
module _ (w : Waveform) (black : Bool) (lut k : ℕ) (rule : w.vcom_by_frame ≡ true) (h : k < table_frame_count (table_at w lut)) where
  pub frame_at : get_or (frames_of w black lut) k (pos 0) ≡
      drive_of w.levels w.frame_ns black (get_or (codes_of (table_at w lut)) k 0) (get_or (codes_of (table_at w 0)) k 0)
  frame_at =
      rw rule
      (beside_at w.levels w.frame_ns black (codes_of (table_at w lut)) (codes_of (table_at w 0)) k
      (omega (arith, codes_length (table_at w lut))))

  -- and so it is of the first n frames
  pub first_at : (n : ℕ) → k < n → get_or (take n (frames_of w black lut)) k (pos 0) ≡
      drive_of w.levels w.frame_ns black (get_or (codes_of (table_at w lut)) k 0) (get_or (codes_of (table_at w 0)) k 0)
  first_at n l = get_or-take n (frames_of w black lut) k (pos 0) l ∙ frame_at

-- ---- equal counts and repeats in every group
abbrev pub SameTimes : List Group → List Group → Type 0
SameTimes table vcom =
    (k : ℕ) → ((get_or table k blank).frames ≡ (get_or vcom k blank).frames) × ((get_or table k blank).repeats ≡ (get_or vcom k blank).repeats)

same_ends : (g h : Group) → g.frames ≡ h.frames → g.repeats ≡ h.repeats → ends g ≡ ends h
unfolding ends
same_ends g h frames repeats = λ i. pick (eqb (repeats i) 0) true (eqb (sum_of (frames i)) 0)

blank_ends : ends blank ≡ true
unfolding ends
blank_ends = refl

-- such tables end together
same_running : (table vcom : List Group) → SameTimes table vcom →
    (length (running table) ≡ length (running vcom)) × SameTimes (running table) (running vcom)
same_running [] [] same = (refl, λ k. (refl, refl))
same_running [] (v ∷ vcom) same = rw (sym (same_ends blank v (same 0).0 (same 0).1) ∙ blank_ends) (refl, λ k. (refl, refl))
same_running (g ∷ table) [] same = rw (same_ends g blank (same 0).0 (same 0).1 ∙ blank_ends) (refl, λ k. (refl, refl))
same_running (g ∷ table) (v ∷ vcom) same =
    let both_end = same_ends g v (same 0).0 (same 0).1 in
    let later = same_running table vcom (λ k. same (suc k)) in
    by_cases (ends g) (λ yes. rw (yes, sym both_end ∙ yes) (refl, λ k. (refl, refl)))
    (λ no. rw (no, sym both_end ∙ no) (ap suc later.0, at g v (running table) (running vcom) (same 0) later.1))
  where
    at : (g v : Group) (gs vs : List Group) → (g.frames ≡ v.frames) × (g.repeats ≡ v.repeats) → SameTimes gs vs →
        SameTimes (g ∷ gs) (v ∷ vs)
    at g v gs vs first later zero = first
    at g v gs vs first later (suc k) = later k

-- ---- what is laid out over the same groups meets value by value
module _ (l : Levels) (period : ℕ) (black : Bool) where
  abbrev meet : List ℕ → List ℕ → List ℤ
  meet codes vcom = beside l period black codes vcom

  meet_turns : (n : ℕ) (f g : ℕ → List ℕ) → ((k : ℕ) → length (f k) ≡ length (g k)) →
      meet (in_turn n f) (in_turn n g) ≡ in_turn n (λ k. meet (f k) (g k))
  meet_turns zero f g e = refl
  meet_turns (suc n) f g e =
      let long : length (in_turn n f) ≡ length (in_turn n g) =
      length_in_turn n f ∙ (λ i. sum_to n (λ k. e k i)) ∙ sym (length_in_turn n g) in
      beside_append l period black (in_turn n f) (f n) (in_turn n g ++ g n)
      ∙ (λ i. (beside_first l period black (in_turn n f) (in_turn n g) (g n) long ∙ meet_turns n f g e) i
      ++ meet (f n) (drop_at (in_turn n g) (g n) (length (in_turn n f)) (sym long) i))

  module _ (g : Group) (d e : ℕ → ℕ) where
    meet_phase : (p : ℕ) →
        meet (replicate (get_or g.frames p 0) (d p)) (replicate (get_or g.frames p 0) (e p)) ≡
        replicate (get_or g.frames p 0) (drive_of l period black (d p) (e p))
    meet_phase p =
        let n = get_or g.frames p 0 in
        beside_run l period black n (d p) (e p) (replicate n (e p))
        (λ i h. ap (λ (codes : List ℕ). get_or codes i 0) (sym (append-nil (replicate n (e p)))) ∙ run_at n (e p) [] i h)

    meet_round : meet (laid_round g d) (laid_round g e) ≡ laid_round g (λ p. drive_of l period black (d p) (e p))
    meet_round =
        meet_turns 4 (λ p. replicate (get_or g.frames p 0) (d p)) (λ p. replicate (get_or g.frames p 0) (e p))
        (λ p. length-replicate (get_or g.frames p 0) (d p) ∙ sym (length-replicate (get_or g.frames p 0) (e p)))
        ∙ (λ i. in_turn 4 (λ p. meet_phase p i))

    meet_group : meet (laid_group g d) (laid_group g e) ≡ laid_group g (λ p. drive_of l period black (d p) (e p))
    meet_group =
        meet_turns g.repeats (λ j. laid_round g d) (λ j. laid_round g e) (λ j. round_length g d ∙ sym (round_length g e))
        ∙ (λ i. in_turn g.repeats (λ j. meet_round i))

  meet_laid : (gs : List Group) (d e : ℕ → ℕ → ℕ) →
      meet (laid gs d) (laid gs e) ≡ laid gs (λ k p. drive_of l period black (d k p) (e k p))
  meet_laid gs d e =
      meet_turns (length gs) (λ k. laid_group (get_or gs k blank) (d k)) (λ k. laid_group (get_or gs k blank) (e k))
      (λ k. group_length (get_or gs k blank) (d k) ∙ sym (group_length (get_or gs k blank) (e k)))
      ∙ (λ i. in_turn (length gs) (λ k. meet_group (get_or gs k blank) (d k) (e k) i))

  same_frames : (table vcom : List Group) → SameTimes table vcom →
      beside_frames l period black table vcom ≡ table_frames l period black table vcom
  same_frames table vcom same =
      let both_run = same_running table vcom same in
      let e : ℕ → ℕ → ℕ = λ k p. get_or (vcom_codes vcom k) p 0 in
      let times : laid (running table) e ≡ laid (running vcom) e =
      λ i. in_turn (both_run.0 i)
      (λ k. in_turn ((both_run.1 k).1 i) (λ j. in_turn 4 (λ p. replicate (get_or ((both_run.1 k).0 i) p 0) (e k p)))) in
      ap (meet (codes_of table)) (sym times)
      ∙ meet_laid (running table) (λ k p. get_or (get_or (running table) k blank).codes p 0) e

-- ---- so a refresh with such tables is the same by both rules
abbrev pub by_rule : Bool → Waveform → Waveform
by_rule rule w = record { tables = w.tables; levels = w.levels; frame_ns = w.frame_ns; vcom_by_frame = rule }

pub rules_agree : (w : Waveform) (black : Bool) (lut : ℕ) → SameTimes (table_at w lut) (table_at w 0) →
    frames_of (by_rule true w) black lut ≡ frames_of (by_rule false w) black lut
rules_agree w black lut same = same_frames w.levels w.frame_ns black (table_at w lut) (table_at w 0) same
