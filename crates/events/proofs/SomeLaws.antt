-- Some events at once: a stretch of events that read nothing, one event, and a run that goes on by some.
use mathlib.Core.Path.{◌≡◌, refl, sym, ap, ◌∙◌}
use mathlib.Core.List.{List}
use Prim.Native.Nat.{ℕ, zero, suc, ◌+◌, ◌<◌}
use native.Mathlib.Nat.{add-zero, add-suc}
use native.Mathlib.Omega.{arith}
use lib.Dec.{eqb}
use lib.ListN.{length, set, length-set}
use borrow.Author.Tests.{eqb-true}
use Rattle.std.proofs.Common.{Option, Some, None}
use Rattle.std.specs.Option.{option_or}
use Rattle.base.specs.declared.refusals.Refusal.{Refusal}
use Rattle.base.specs.RefusalNumbers.{number_of}
use Rattle.base.proofs.RefusalWords.{turned}
use Rattle.base.proofs.Cases.{by_cases}
use Rattle.base.proofs.Turns.{turns_join, turns_same, turns_keep}
use Rattle.controller.specs.World.{World}
use Rattle.event.specs.declared.Event.{Event}
use Rattle.event.specs.Events.{events_in, event_at, event_done, event_refused, event_answer, ran_to, answers_to, earlier, refused_in}
use Rattle.streams.specs.InnerStretch.{ran_on, answers_on, refused_on, Stretch, marked, Goes}
use Rattle.events.proofs.Going.{Going}

pub marked_length : (i k : ℕ) (answers : List ℕ) → length (marked i k answers) ≡ length answers
marked_length i k answers = turns_keep (λ l. length l ≡ length answers) k (λ j l. set l (i + j) 257) answers (λ j l h e. length-set l (i + j) 257 ∙ e) refl

-- ---- a stretch
marked_answers : (bytes : List ℕ) (i k : ℕ) (w v : World) (answers : List ℕ) → Stretch bytes i k w v
    → marked i k answers ≡ answers_on bytes i k w answers
unfolding answers_on
marked_answers bytes i k w v answers s = turns_same k _ _ answers (λ j l h. ap (set l (i + j)) (sym (s.silent j h)))

none_refused : (bytes : List ℕ) (i k : ℕ) (w : World) → ((j : ℕ) → j < k → event_refused (event_at bytes (i + j)) (ran_on bytes i j w) ≡ 0)
    → 0 ≡ refused_on bytes i k w
unfolding refused_on earlier
none_refused bytes i zero w h = refl
none_refused bytes i (suc k) w h = rw (sym (none_refused bytes i k w (λ j l. h j (omega arith)))) (sym (h k (omega arith)))

pub goes_stretch : {bytes : List ℕ} {i k : ℕ} {w v : World} {answers more : List ℕ} → i < events_in bytes → Stretch bytes i k w v → (k ≡ 0 → ⊥)
    → more ≡ marked i k answers → Goes bytes i k w v answers more 0
goes_stretch {bytes} {i} {k} {w} {v} {answers} h s n e =
    record {
      some = omega (arith, n);
      within = s.within (omega (arith, h));
      is = s.is;
      gave = e ∙ marked_answers bytes i k w v answers s;
      turned = none_refused bytes i k w s.taken;
    }

-- ---- one event
stretch_empty : {bytes : List ℕ} {i k : ℕ} {w v : World} → Stretch bytes i k w v → k ≡ 0 → v ≡ w
unfolding ran_on
stretch_empty {bytes} {i} {k} {w} s e = s.is ∙ ap (λ (n : ℕ). ran_on bytes i n w) e

pub goes_one : {bytes : List ℕ} {i k : ℕ} {w v u : World} {answers more : List ℕ} {n x : ℕ} {e : Event}
    → Stretch bytes i k w v → k ≡ 0 → i < events_in bytes → e ≡ event_at bytes i
    → u ≡ event_done e v → n ≡ event_refused e v → x ≡ event_answer e v → more ≡ set answers i x
    → Goes bytes i 1 w u answers more n
unfolding ran_on answers_on refused_on earlier
goes_one {bytes} {i} {w = w} {answers = answers} {e = e} s z h q done turned gives put =
    let v = stretch_empty s z in
    let p : e ≡ event_at bytes (i + 0) = q ∙ ap (event_at bytes) (sym (add-zero i)) in
    record {
      some = omega arith;
      within = omega arith;
      is = done ∙ (λ j. event_done (p j) (v j));
      gave = put ∙ (λ j. set answers (sym (add-zero i) j) ((gives ∙ (λ k. event_answer (p k) (v k))) j));
      turned = turned ∙ (λ j. event_refused (p j) (v j));
    }

-- ---- a run that goes on
ran_on_lem : (bytes : List ℕ) (i k : ℕ) (w : World) → ran_on bytes i k (ran_to bytes i w) ≡ ran_to bytes (i + k) w
unfolding ran_on ran_to
ran_on_lem bytes i k w = turns_join i k (λ j v. event_done (event_at bytes j) v) w

answers_on_lem : (bytes : List ℕ) (i k : ℕ) (w : World) (answers : List ℕ)
    → answers_on bytes i k (ran_to bytes i w) (answers_to bytes i w answers) ≡ answers_to bytes (i + k) w answers
unfolding answers_on answers_to
answers_on_lem bytes i k w answers =
    turns_same k _ _ _ (λ j l h. ap (λ (v : World). set l (i + j) (event_answer (event_at bytes (i + j)) v)) (ran_on_lem bytes i j w))
    ∙ turns_join i k (λ j l. set l j (event_answer (event_at bytes j) (ran_to bytes j w))) answers

earlier_assoc : (a b c : ℕ) → earlier (earlier a b) c ≡ earlier a (earlier b c)
unfolding earlier
earlier_assoc a b c = by_cases (eqb a 0) (λ h. simp h) (λ h. simp h)

earlier_none : (a : ℕ) → earlier a 0 ≡ a
unfolding earlier
earlier_none a = by_cases (eqb a 0) (λ h. rw h (sym (eqb-true a 0 h))) (λ h. rw h)

refused_on_lem : (bytes : List ℕ) (i k : ℕ) (w : World)
    → earlier (refused_in bytes i w) (refused_on bytes i k (ran_to bytes i w)) ≡ refused_in bytes (i + k) w
unfolding refused_on refused_in
refused_on_lem bytes i zero w = earlier_none (refused_in bytes i w) ∙ ap (λ (n : ℕ). refused_in bytes n w) (sym (add-zero i))
refused_on_lem bytes i (suc k) w =
    sym (earlier_assoc (refused_in bytes i w) (refused_on bytes i k (ran_to bytes i w)) (event_refused (event_at bytes (i + k)) (ran_on bytes i k (ran_to bytes i w))))
    ∙ (λ j. earlier (refused_on_lem bytes i k w j) (event_refused (event_at bytes (i + k)) (ran_on_lem bytes i k w j)))
    ∙ ap (λ (n : ℕ). refused_in bytes n w) (sym (add-suc i k))

pub going_on : {bytes : List ℕ} {i k : ℕ} {w v u : World} {answers₀ answers more : List ℕ} {refused r n : ℕ}
    → Going bytes i w v answers₀ answers refused → Goes bytes i k v u answers more n → r ≡ earlier refused n
    → Going bytes (i + k) w u answers₀ more r
going_on {bytes} {i} {k} {w} {answers₀ = answers₀} g h first =
    record {
      is = h.is ∙ ap (ran_on bytes i k) g.is ∙ ran_on_lem bytes i k w;
      gave = h.gave ∙ (λ j. answers_on bytes i k (g.is j) (g.gave j)) ∙ answers_on_lem bytes i k w answers₀;
      turned = first ∙ (λ j. earlier (g.turned j) ((h.turned ∙ ap (refused_on bytes i k) g.is) j)) ∙ refused_on_lem bytes i k w;
    }

-- the first of two refusals has the earlier number
pub first_of : (a b : Option Refusal) → number_of (option_or a b) ≡ earlier (number_of a) (number_of b)
unfolding earlier
first_of None b = refl
first_of (Some r) b = rw (turned r refl)
