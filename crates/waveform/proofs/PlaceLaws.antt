-- The codes to come from a place: the phase after it begins with the rest, and the first place of a table with all.
use mathlib.Core.Path.{◌≡◌, refl, sym, ap, ◌∙◌}
use mathlib.Core.Bool.{false, true≢false}
use mathlib.Core.List.{List, [], ◌∷◌, ◌++◌, append_assoc, append-nil}
use Prim.Native.Nat.{ℕ, zero, suc, ◌+◌, ◌-◌, ◌*◌, ◌<◌, ◌≤◌, min}
use native.Mathlib.Omega.{arith}
use lib.Dec.{ltb, eqb}
use lib.ListN.{length, get_or, drop, replicate, length-append, length-replicate}
use lib.Seq.{drop-append-le, drop-nil}
use borrow.Author.Tests.{le-ltb, ltb-true, ltb-false, eqb-false}
use Rattle.base.specs.InTurn.{in_turn}
use Rattle.base.proofs.Cases.{by_cases, both}
use Rattle.waveform.specs.declared.Group.{Group}
use Rattle.waveform.specs.declared.Place.{Place}
use Rattle.waveform.specs.Tables.{ends, running}
use Rattle.waveform.specs.Frames.{blank, phase_codes, round_codes, group_codes, codes_of}
use Rattle.waveform.specs.InnerPlaces.{group_at, place_at, start_at, next_place, turns_from, codes_after, codes_from, Placed}

-- ---- lists in turn, from the front
in_turn_first : {A : Type 0} (n : ℕ) (f : ℕ → List A) → in_turn (suc n) f ≡ f 0 ++ in_turn n (λ k. f (suc k))
in_turn_first zero f = sym (append-nil (f 0))
in_turn_first (suc n) f =
    ap (λ (l : List _). l ++ f (suc n)) (in_turn_first n f) ∙ append_assoc (f 0) (in_turn n (λ k. f (suc k))) (f (suc n))

turns_first : {A : Type 0} (k n : ℕ) (f : ℕ → List A) → k < n → turns_from k n f ≡ f k ++ turns_from (k + 1) n f
turns_first k n f h =
    let one : n - k ≡ suc (n - (k + 1)) = omega arith in
    let here : k + 0 ≡ k = omega arith in
    let there : (i : ℕ) → k + suc i ≡ k + 1 + i = λ i. omega arith in
    ap (λ (m : ℕ). in_turn m (λ i. f (k + i))) one
    ∙ in_turn_first (n - (k + 1)) (λ i. f (k + i))
    ∙ (λ j. f (here j) ++ in_turn (n - (k + 1)) (λ i. f (there i j)))

turns_none : {A : Type 0} (k n : ℕ) (f : ℕ → List A) → n ≤ k → turns_from k n f ≡ []
turns_none k n f h = ap (λ (m : ℕ). in_turn m (λ i. f (k + i))) {x = n - k} {y = 0} (omega arith)

-- ---- a group that runs, runs at least once
goes_once : (g : Group) → ends g ≡ false → 0 < g.repeats
unfolding ends
goes_once g goes =
    by_cases (eqb g.repeats 0) (λ yes. absurd (true≢false (rw yes at goes))) (λ more. one g.repeats (eqb-false g.repeats 0 more))
  where
    one : (n : ℕ) → (n ≡ 0 → ⊥) → 0 < n
    one n h = omega arith

pub runs_once : (t : List Group) (k : ℕ) → k < length (running t) → 0 < (group_at t k).repeats
runs_once [] k h = absurd (omega arith)
runs_once (g ∷ t) k h =
    by_cases (ends g) (λ yes. absurd (nothing k (rw yes at h))) (λ no. rw no (later g no (running t) (runs_once t) k (rw no at h)))
  where
    nothing : (k : ℕ) → k < 0 → ⊥
    nothing k l = omega arith

    later : (g : Group) → ends g ≡ false → (gs : List Group) → ((k : ℕ) → k < length gs → 0 < (get_or gs k blank).repeats) → (k : ℕ) →
        k < suc (length gs) → 0 < (get_or (g ∷ gs) k blank).repeats
    later g goes gs each zero l = goes_once g goes
    later g goes gs each (suc k) l = each k (omega arith)

module _ (table : List Group) where
  -- the groups from k on
  abbrev groups_from : ℕ → List ℕ
  groups_from k = turns_from k (length (running table)) (λ j. group_codes (group_at table j))

  -- a round from its start
  round_codes_lem : (k rounds : ℕ) →
      codes_from table (place_at table k rounds 0) ≡
      round_codes (group_at table k) ++ (in_turn rounds (λ i. round_codes (group_at table k)) ++ groups_from (k + 1))
  round_codes_lem k rounds =
      let g = group_at table k in
      let rest = in_turn rounds (λ i. round_codes g) ++ groups_from (k + 1) in
      sym (append_assoc (phase_codes g 0) (turns_from 1 4 (phase_codes g)) rest)
      ∙ ap (λ (codes : List ℕ). codes ++ rest) (sym (turns_first 0 4 (phase_codes g) (omega arith)))

  -- one round more
  rounds_codes : (k rounds : ℕ) → 0 < rounds →
      codes_from table (place_at table k (rounds - 1) 0) ≡ in_turn rounds (λ i. round_codes (group_at table k)) ++ groups_from (k + 1)
  rounds_codes k rounds h =
      let g = group_at table k in
      let one : suc (rounds - 1) ≡ rounds = omega arith in
      round_codes_lem k (rounds - 1)
      ∙ sym (append_assoc (round_codes g) (in_turn (rounds - 1) (λ i. round_codes g)) (groups_from (k + 1)))
      ∙ ap (λ (codes : List ℕ). codes ++ groups_from (k + 1)) (sym (in_turn_first (rounds - 1) (λ i. round_codes g)))
      ∙ ap (λ (n : ℕ). in_turn n (λ i. round_codes g) ++ groups_from (k + 1)) one

  start_codes : (k : ℕ) → codes_from table (start_at table k) ≡ groups_from k
  unfolding start_at
  start_codes k =
      by_cases (ltb k (length (running table)))
      (λ yes.
      let h = ltb-true k (length (running table)) yes in
      rw yes (rounds_codes k (group_at table k).repeats (runs_once table k h)
      ∙ sym (turns_first k (length (running table)) (λ j. group_codes (group_at table j)) h)))
      (λ no.
      let h = ltb-false k (length (running table)) no in
      rw no (turns_none (k + 1) (length (running table)) (λ j. group_codes (group_at table j)) (omega arith)
      ∙ sym (turns_none k (length (running table)) (λ j. group_codes (group_at table j)) h)))

  -- a table's first place stands before all its codes
  pub all_codes : codes_from table (start_at table 0) ≡ codes_of table
  all_codes =
      let all : length (running table) - 0 ≡ length (running table) = omega arith in
      let at : (k : ℕ) → 0 + k ≡ k = λ k. omega arith in
      start_codes 0 ∙ (λ i. in_turn (all i) (λ k. group_codes (group_at table (at k i))))

  pub start_placed : (k : ℕ) → Placed table (start_at table k)
  unfolding start_at
  start_placed k h =
      let past = both (λ (p : Place). length (running table) ≤ p.group → length (running table) ≤ k) (ltb k (length (running table)))
      {a = place_at table k ((group_at table k).repeats - 1) 0} (λ l. l) (λ l. l) h in
      (rw (le-ltb k (length (running table)) past), start_codes k ∙ turns_none k (length (running table)) (λ j. group_codes (group_at table j)) past)

  -- the phases to come from a place, or more
  abbrev phases_from : ℕ → List ℕ
  phases_from k = turns_from k (length (running table)) (λ j. replicate (5 * (group_at table j).repeats) 0)

  abbrev pub phases_left : Place → ℕ
  phases_left p = length (running table) - p.group + length (phases_from (p.group + 1)) + p.rounds * 5 + (4 - p.phase)

  start_few : (k : ℕ) → phases_left (start_at table k) ≤ length (running table) - k + length (phases_from k)
  unfolding start_at
  start_few k =
      by_cases (ltb k (length (running table)))
      (λ yes.
      let h = ltb-true k (length (running table)) yes in
      let f : ℕ → List ℕ = λ j. replicate (5 * (group_at table j).repeats) 0 in
      let more : length (phases_from k) ≡ 5 * (group_at table k).repeats + length (phases_from (k + 1)) =
      ap length (turns_first k (length (running table)) f h) ∙ length-append (f k) (phases_from (k + 1))
      ∙ ap (λ (n : ℕ). n + length (phases_from (k + 1))) (length-replicate (5 * (group_at table k).repeats) 0) in
      rw yes (omega (arith, more, runs_once table k h)))
      (λ no.
      let h = ltb-false k (length (running table)) no in
      let none : length (phases_from (k + 1)) ≡ 0 =
      ap length (turns_none (k + 1) (length (running table)) (λ j. replicate (5 * (group_at table j).repeats) 0) (omega arith)) in
      rw no (omega (arith, none)))

  module _ (p : Place) (runs : p.group < length (running table)) where
    pub next_codes : codes_from table (next_place table p) ≡ codes_after table p
    unfolding next_place
    next_codes =
        let g = group_at table p.group in
        let rest = in_turn p.rounds (λ i. round_codes g) ++ groups_from (p.group + 1) in
        by_cases (ltb p.phase 3)
        (λ yes.
        let h = ltb-true p.phase 3 yes in
        rw yes (sym (append_assoc (phase_codes g (p.phase + 1)) (turns_from (p.phase + 1 + 1) 4 (phase_codes g)) rest)
        ∙ ap (λ (codes : List ℕ). codes ++ rest) (sym (turns_first (p.phase + 1) 4 (phase_codes g) (omega arith)))))
        (λ no.
        let h = ltb-false p.phase 3 no in
        let none : turns_from (p.phase + 1) 4 (phase_codes g) ≡ [] = turns_none (p.phase + 1) 4 (phase_codes g) (omega arith) in
        by_cases (ltb 0 p.rounds)
        (λ more. rw (no, more, none) (rounds_codes p.group p.rounds (ltb-true 0 p.rounds more)))
        (λ last.
        let zero : p.rounds ≡ 0 = omega (arith, ltb-false 0 p.rounds last) in
        rw (no, last, none, zero) (start_codes (p.group + 1))))

    pub next_placed : Placed table (next_place table p)
    unfolding next_place
    next_placed =
        both (Placed table) (ltb p.phase 3) (λ h. absurd (omega arith))
        (both (Placed table) (ltb 0 p.rounds) (λ h. absurd (omega arith)) (start_placed (p.group + 1)))

    pub next_less : phases_left (next_place table p) < phases_left p
    unfolding next_place
    next_less =
        by_cases (ltb p.phase 3) (λ yes. let h = ltb-true p.phase 3 yes in rw yes (omega arith))
        (λ no. by_cases (ltb 0 p.rounds) (λ more. let h = ltb-true 0 p.rounds more in rw (no, more) (omega arith))
        (λ last. rw (no, last) start_less))
      where
        start_less : phases_left (start_at table (p.group + 1)) < phases_left p
        start_less = omega (arith, start_few (p.group + 1))

-- ---- some frames of a phase
pub drop_run : (n m x : ℕ) → drop m (replicate n x) ≡ replicate (n - m) x
drop_run n zero x = ap (λ (k : ℕ). replicate k x) {x = n} {y = n - 0} (omega arith)
drop_run zero (suc m) x = ap (λ (k : ℕ). replicate k x) {x = 0} {y = 0 - suc m} (omega arith)
drop_run (suc n) (suc m) x = drop_run n m x ∙ ap (λ (k : ℕ). replicate k x) {x = n - m} {y = suc n - suc m} (omega arith)

pub split_run : (n k x : ℕ) (rest : List ℕ) → k ≤ n → replicate n x ++ rest ≡ replicate k x ++ drop k (replicate n x ++ rest)
split_run n zero x rest h = refl
split_run zero (suc k) x rest h = absurd (omega arith)
split_run (suc n) (suc k) x rest h = ap (λ (l : List ℕ). x ∷ l) (split_run n k x rest (omega arith))

pub run_at : (n x : ℕ) (rest : List ℕ) (i : ℕ) → i < n → get_or (replicate n x ++ rest) i 0 ≡ x
run_at zero x rest i h = absurd (omega arith)
run_at (suc n) x rest zero h = refl
run_at (suc n) x rest (suc i) h = run_at n x rest i (omega arith)

-- a place n frames on, or at its phase's end
abbrev pub frames_on : Place → ℕ → Place
frames_on p left = record { group = p.group; rounds = p.rounds; phase = p.phase; code = p.code; left = left }

module _ (table : List Group) (p : Place) (n : ℕ) where
  pub later_codes : codes_from table (frames_on p (p.left - n)) ≡ drop (min n p.left) (codes_from table p)
  later_codes =
      let few : min n p.left ≤ length (replicate p.left p.code) = simp length-replicate (omega arith) in
      let rest : p.left - min n p.left ≡ p.left - n = omega arith in
      sym (drop-append-le (min n p.left) (replicate p.left p.code) (codes_after table p) few
      ∙ ap (λ (l : List ℕ). l ++ codes_after table p)
      (drop_run p.left (min n p.left) p.code ∙ ap (λ (k : ℕ). replicate k p.code) rest))

  pub later_placed : Placed table p → Placed table (frames_on p (p.left - n))
  later_placed at h = ((at h).0, later_codes ∙ ap (drop (min n p.left)) (at h).1 ∙ drop-nil (min n p.left))
