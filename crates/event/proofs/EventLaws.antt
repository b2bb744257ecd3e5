-- What an event does by its kind, and that an event past the end, or of the rest of the bytes, is as the bytes have it.
use mathlib.Core.Path.{◌≡◌, refl, sym, ap, ◌∙◌}
use mathlib.Core.Bool.{false}
use mathlib.Core.List.{List, [], ◌∷◌}
use Prim.Native.Nat.{ℕ, zero, suc, ◌+◌, ◌*◌, ◌/◌, ◌≤◌, ◌<◌}
use native.Mathlib.Nat.{add-mul, add_assoc}
use native.Mathlib.Numerals.{add-one}
use native.Mathlib.Omega.{arith}
use lib.Dec.{eqb}
use lib.ListN.{length, get_or, drop}
use lib.Seq.{get_or-drop}
use borrow.Author.Tests.{ne_eqb, le-leb, lt-leb}
use Rattle.base.specs.Pick.{between}
use Rattle.base.proofs.Lists.{get_d_past}
use Rattle.base.proofs.Sorting.{Rest}
use Rattle.controller.specs.World.{World}
use Rattle.controller.specs.TurnedBack.{turned_back}
use Rattle.controller.specs.Calls.{read_answer}
use Rattle.controller.specs.Ask.{command, datum, reading, advance, reset, vcom_rule, did}
use Rattle.controller.specs.Ask.{Answer, nothing, byte, count, low, due, bit, part, wide}
use Rattle.event.specs.declared.Event.{Event}
use Rattle.capture.specs.Little.{little}
use Rattle.event.specs.Events.{event_at, asserts, event_done, event_done_by, event_refused, read_number, event_answer}
use Rattle.event.proofs.LittleLaws.{little_past, little_drop}

-- ---- what is done, refused and answered, together
pub record Does (e : Event) (w v : World) (refused answer : ℕ) : Type 0 where
  pub done : v ≡ event_done e w
  pub turned : refused ≡ event_refused e w
  pub gives : answer ≡ event_answer e w

module _ (e : Event) (w v : World) (n : ℕ) where
  pub does_command : e.kind ≡ 1 → v ≡ did (command e.time e.value) w → n ≡ turned_back false e.time w → Does e w v n 257
  unfolding event_done event_done_by event_refused event_answer asserts
  does_command k h r = record { done = rw k h; turned = rw k r; gives = rw k }

  pub does_data : e.kind ≡ 2 → v ≡ did (datum e.time e.value) w → n ≡ turned_back false e.time w → Does e w v n 257
  unfolding event_done event_done_by event_refused event_answer asserts
  does_data k h r = record { done = rw k h; turned = rw k r; gives = rw k }

  pub does_read : (b : ℕ) → e.kind ≡ 3 → v ≡ did (reading e.time) w → n ≡ turned_back false e.time w
      → b ≡ read_number (read_answer e.time w) → Does e w v n b
  unfolding event_done event_done_by event_refused event_answer asserts
  does_read b k h r a = record { done = rw k h; turned = rw k r; gives = rw k a }

  pub does_reset : e.kind ≡ 4 → v ≡ did (reset e.time (eqb e.value 1)) w → n ≡ turned_back (eqb e.value 1) e.time w
      → Does e w v n 257
  unfolding event_done event_done_by event_refused event_answer asserts
  does_reset k h r = record { done = rw k h; turned = rw k r; gives = rw k }

  pub does_advance : e.kind ≡ 5 → v ≡ did (advance e.time) w → n ≡ turned_back false e.time w → Does e w v n 257
  unfolding event_done event_done_by event_refused event_answer asserts
  does_advance k h r = record { done = rw k h; turned = rw k r; gives = rw k }

  pub does_rule : e.kind ≡ 6 → v ≡ did (vcom_rule e.time (eqb e.value 2)) w → n ≡ turned_back false e.time w → Does e w v n 257
  unfolding event_done event_done_by event_refused event_answer asserts
  does_rule k h r = record { done = rw k h; turned = rw k r; gives = rw k }

-- none of the kinds, as a `match` on them leaves it
abbrev pub NoKind : ℕ → Type 0
NoKind x = Rest ((6 ∷ []) ∷ (5 ∷ []) ∷ (4 ∷ []) ∷ (3 ∷ []) ∷ (2 ∷ []) ∷ (1 ∷ []) ∷ []) x

outside : (x : ℕ) → NoKind x → between 1 6 x ≡ false
outside zero r = refl
outside (suc zero) r = absurd (r.0.0.0.0.0.1 refl)
outside (suc (suc zero)) r = absurd (r.0.0.0.0.1 refl)
outside (suc (suc (suc zero))) r = absurd (r.0.0.0.1 refl)
outside (suc (suc (suc (suc zero)))) r = absurd (r.0.0.1 refl)
outside (suc (suc (suc (suc (suc zero))))) r = absurd (r.0.1 refl)
outside (suc (suc (suc (suc (suc (suc zero)))))) r = absurd (r.1 refl)
outside (suc (suc (suc (suc (suc (suc (suc n))))))) r =
    rw (
      le-leb 1 (suc (suc (suc (suc (suc (suc (suc n))))))) (omega arith),
      lt-leb (suc (suc (suc (suc (suc (suc (suc n))))))) 6 (omega arith),
    )

pub does_nothing : (e : Event) (w : World) → NoKind e.kind → Does e w w 0 257
unfolding event_done event_done_by event_refused event_answer
does_nothing e w r =
    record {
      done =
          rw (
            ne_eqb e.kind 1 r.0.0.0.0.0.1,
            ne_eqb e.kind 2 r.0.0.0.0.1,
            ne_eqb e.kind 3 r.0.0.0.1,
            ne_eqb e.kind 4 r.0.0.1,
            ne_eqb e.kind 5 r.0.1,
            ne_eqb e.kind 6 r.1,
          );
      turned = rw (outside e.kind r);
      gives = rw (ne_eqb e.kind 3 r.0.0.0.1);
    }

-- the number of what a read gave, by the answer of the call
abbrev pub number_in : Answer → ℕ
number_in nothing = 0
number_in (byte b) = read_number b
number_in (count n) = 0
number_in (low b) = 0
number_in (due d) = 0
number_in (bit f) = 0
number_in (part l) = 0
number_in (wide l) = 0

-- ---- the bytes of an event
pub event_past : (bytes : List ℕ) (i : ℕ) → length bytes / 10 < i → record { time = 0; kind = 0; value = 0 } ≡ event_at bytes i
unfolding event_at
event_past bytes i h =
    let l : length bytes ≤ i * 10 = omega arith in
    rw (little_past bytes (i * 10) 8 l, get_d_past bytes (i * 10 + 8) 0 (omega arith), get_d_past bytes (i * 10 + 9) 0 (omega arith))

pub event_read : (bytes : List ℕ) (i t k v : ℕ) → t ≡ little bytes (i * 10) 8 → k ≡ get_or bytes (i * 10 + 8) 0
    → v ≡ get_or bytes (i * 10 + 9) 0
    → record { time = t; kind = k; value = v } ≡ event_at bytes i
unfolding event_at
event_read bytes i t k v a b c = λ j. record { time = a j; kind = b j; value = c j }

-- one that lies whole in the bytes, its time by halves
little_step : (bytes : List ℕ) (p k n : ℕ) → little bytes (p + k) (suc n) ≡ get_or bytes (p + k) 0 + 256 * little bytes (p + (k + 1)) n
little_step bytes p k n =
    let e : suc (p + k) ≡ p + (k + 1) = omega arith in
    ap (λ (q : ℕ). get_or bytes (p + k) 0 + 256 * little bytes q n) e

little_eight : (bytes : List ℕ) (p a b c d f l t : ℕ)
    → a ≡ get_or bytes p 0 + 256 * get_or bytes (p + 1) 0 → b ≡ get_or bytes (p + 2) 0 + 256 * get_or bytes (p + 3) 0
    → c ≡ get_or bytes (p + 4) 0 + 256 * get_or bytes (p + 5) 0 → d ≡ get_or bytes (p + 6) 0 + 256 * get_or bytes (p + 7) 0
    → f ≡ a + 65_536 * b → l ≡ c + 65_536 * d → t ≡ f + 4_294_967_296 * l → t ≡ little bytes p 8
little_eight bytes p a b c d f l t ha hb hc hd hf hl ht =
    let e : little bytes p 8 ≡ get_or bytes p 0 + 256 * little bytes (p + 1) 7 = ap (λ (q : ℕ). get_or bytes p 0 + 256 * little bytes q 7) (sym (add-one p)) in
    omega (arith, e, little_step bytes p 1 6, little_step bytes p 2 5, little_step bytes p 3 4, little_step bytes p 4 3, little_step bytes p 5 2, little_step bytes p 6 1, little_step bytes p 7 0)

pub event_whole : (bytes : List ℕ) (i : ℕ) {a b c d f l t : ℕ}
    → a ≡ get_or bytes (i * 10) 0 + 256 * get_or bytes (i * 10 + 1) 0 → b ≡ get_or bytes (i * 10 + 2) 0 + 256 * get_or bytes (i * 10 + 3) 0
    → c ≡ get_or bytes (i * 10 + 4) 0 + 256 * get_or bytes (i * 10 + 5) 0 → d ≡ get_or bytes (i * 10 + 6) 0 + 256 * get_or bytes (i * 10 + 7) 0
    → f ≡ a + 65_536 * b → l ≡ c + 65_536 * d → t ≡ f + 4_294_967_296 * l
    → record { time = t; kind = get_or bytes (i * 10 + 8) 0; value = get_or bytes (i * 10 + 9) 0 } ≡ event_at bytes i
event_whole bytes i ha hb hc hd hf hl ht = event_read bytes i _ _ _ (little_eight bytes (i * 10) _ _ _ _ _ _ _ ha hb hc hd hf hl ht) refl refl

pub event_drop : (i : ℕ) (bytes : List ℕ) (j : ℕ) → event_at (drop (i * 10) bytes) j ≡ event_at bytes (i + j)
unfolding event_at
event_drop i bytes j =
    rw (little_drop (i * 10) bytes (j * 10) 8, get_or-drop (i * 10) bytes (j * 10 + 8) 0, get_or-drop (i * 10) bytes (j * 10 + 9) 0)
    (rw (sym (add_assoc (i * 10) (j * 10) 8), sym (add_assoc (i * 10) (j * 10) 9), sym (add-mul i j 10)))

-- ---- at 258 the command 22, then an event that is cut short
bytes_of_two : List ℕ
bytes_of_two = 2 ∷ 1 ∷ 0 ∷ 0 ∷ 0 ∷ 0 ∷ 0 ∷ 0 ∷ 1 ∷ 0x22 ∷ 5 ∷ []

first : event_at bytes_of_two 0 ≡ record { time = 258; kind = 1; value = 0x22 }
unfolding event_at bytes_of_two
first = refl

cut_short : event_at bytes_of_two 1 ≡ record { time = 5; kind = 0; value = 0 }
unfolding event_at bytes_of_two
cut_short = refl

past : event_at bytes_of_two 2 ≡ record { time = 0; kind = 0; value = 0 }
unfolding event_at bytes_of_two
past = refl
