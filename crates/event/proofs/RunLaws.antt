-- A run of events: two runs joined, and that on a sound record no event is turned back and it stays sound.
use mathlib.Core.Path.{◌≡◌, refl, sym, ap, ◌∙◌}
use mathlib.Core.List.{List}
use Prim.Native.Nat.{ℕ, ◌+◌, ◌*◌, ◌<◌, ◌≤◌}
use native.Mathlib.Omega.{arith}
use native.Mathlib.Decide.{dec_le}
use lib.Dec.{eqb}
use lib.ListN.{length, get_or, take, drop, length-set, length-take, length-drop}
use lib.Seq.{get_or-take}
use Rattle.base.specs.Pick.{between}
use Rattle.base.specs.Turns.{turns}
use Rattle.base.proofs.Cases.{both}
use Rattle.base.proofs.Lists.{get_d_past}
use Rattle.base.proofs.Turns.{turns_join, turns_same, turns_keep}
use Rattle.controller.specs.World.{World}
use Rattle.controller.specs.Ask.{Ask, command, datum, reading, advance, reset, vcom_rule, IsByte, refused_by, did_by, did}
use Rattle.controller.specs.Sound.{Sound}
use Rattle.controller.proofs.Sound.{sound_done, never_turned}
use Rattle.event.specs.declared.Event.{Event}
use Rattle.event.specs.Events.{events_in, event_at, ran, asserts, event_done, event_done_by, event_refused, event_answer, ran_to, answers_to, earlier, refused_in}
use Rattle.event.proofs.EventLaws.{event_drop}

pub answers_length : (bytes : List ℕ) (n : ℕ) (w : World) (answers : List ℕ) → length (answers_to bytes n w answers) ≡ length answers
unfolding answers_to
answers_length bytes n w answers =
    turns_keep (λ l. length l ≡ length answers) n _ answers
    (λ k l h e. length-set l k (event_answer (event_at bytes k) (ran_to bytes k w)) ∙ e) refl

-- ---- i events and then k: the run of what is left of the bytes, after the first i
pub ran_join : (bytes : List ℕ) (i k : ℕ) (w : World) → ran_to bytes (i + k) w ≡ ran_to (drop (i * 10) bytes) k (ran_to bytes i w)
unfolding ran_to
ran_join bytes i k w =
    sym (turns_join i k (λ j v. event_done (event_at bytes j) v) w)
    ∙ turns_same k (λ j v. event_done (event_at bytes (i + j)) v) (λ j v. event_done (event_at (drop (i * 10) bytes) j) v) (turns i (λ j v. event_done (event_at bytes j) v) w)
    (λ j v h. ap (λ (e : Event). event_done e v) (sym (event_drop i bytes j)))

-- a run is its first event, and then the run of what is left; bytes that hold no event do nothing
pub ran_first : (bytes : List ℕ) (w : World) → 10 ≤ length bytes → ran bytes w ≡ ran (drop 10 bytes) (event_done (event_at bytes 0) w)
unfolding ran_to
ran_first bytes w h =
    let n : events_in bytes ≡ 1 + events_in (drop 10 bytes) = omega (arith, h, length-drop 10 bytes) in
    ap (λ (k : ℕ). ran_to bytes k w) n ∙ ran_join bytes 1 (events_in (drop 10 bytes)) w

pub ran_none : (bytes : List ℕ) (w : World) → length bytes < 10 → ran bytes w ≡ w
unfolding ran_to
ran_none bytes w h =
    let n : events_in bytes ≡ 0 = omega (arith, h) in
    ap (λ (k : ℕ). ran_to bytes k w) n

-- ---- a sound record
sound_did : (a : Ask) (w : World) → IsByte a → Sound w → Sound (did a w)
unfolding did_by
sound_did a w b s = both Sound (eqb (refused_by a w) 0) (sound_done a w b s) s

pub sound_event : (e : Event) (w : World) → e.value < 256 → Sound w → Sound (event_done e w)
unfolding event_done event_done_by
sound_event e w h s =
    both Sound (eqb e.kind 1) (sound_did (command e.time e.value) w h s)
    (both Sound (eqb e.kind 2) (sound_did (datum e.time e.value) w h s)
    (both Sound (eqb e.kind 3) (sound_did (reading e.time) w tt s)
    (both Sound (eqb e.kind 4) (sound_did (reset e.time (eqb e.value 1)) w tt s)
    (both Sound (eqb e.kind 5) (sound_did (advance e.time) w tt s)
    (both Sound (eqb e.kind 6) (sound_did (vcom_rule e.time (eqb e.value 2)) w tt s)
    s)))))

pub event_taken : (e : Event) (w : World) → Sound w → event_refused e w ≡ 0
unfolding event_refused
event_taken e w s = both (λ n. n ≡ 0) (between 1 6 e.kind) (never_turned (asserts e) e.time w s) refl

-- every entry is a byte
abbrev pub Bytes : List ℕ → Type 0
Bytes bytes = (k : ℕ) → k < length bytes → get_or bytes k 0 < 256

pub byte_anywhere : (bytes : List ℕ) → Bytes bytes → (k : ℕ) → get_or bytes k 0 < 256
byte_anywhere bytes b k = elim (dec_le (length bytes) k) [
  | yes h ↦ omega (arith, get_d_past bytes k 0 h)
  | no h ↦ b k (omega (arith, h))
]

pub front_byte : (n : ℕ) (l : List ℕ) → Bytes l → Bytes (take n l)
front_byte n l h k q = rw (get_or-take n l k 0 (omega (arith, length-take n l))) (byte_anywhere l h k)

value_byte : (bytes : List ℕ) → Bytes bytes → (i : ℕ) → (event_at bytes i).value < 256
unfolding event_at
value_byte bytes b i = byte_anywhere bytes b (i * 10 + 9)

pub sound_run : (bytes : List ℕ) → Bytes bytes → (n : ℕ) (w : World) → Sound w → Sound (ran_to bytes n w)
unfolding ran_to
sound_run bytes b n w s = turns_keep Sound n (λ i v. event_done (event_at bytes i) v) w (λ k v h q. sound_event (event_at bytes k) v (value_byte bytes b k) q) s

pub run_taken : (bytes : List ℕ) → Bytes bytes → (n : ℕ) (w : World) → Sound w → refused_in bytes n w ≡ 0
unfolding refused_in earlier
run_taken bytes b n w s =
    turns_keep (λ r. r ≡ 0) n (λ i r. earlier r (event_refused (event_at bytes i) (ran_to bytes i w))) 0
    (λ k r h e. rw (e, event_taken (event_at bytes k) (ran_to bytes k w) (sound_run bytes b k w s)))
    refl
