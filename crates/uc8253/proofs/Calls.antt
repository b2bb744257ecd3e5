-- Every timed call is: it comes to its time (`come`), and then its own. What it leaves is `did` of it, by its parts where it is accepted,
-- and all as it was where it is turned back. One law for the six calls.
use Rattle.std.proofs.Common.{None}
use mathlib.Core.Path.{◌≡◌, sym, ap, ◌∙◌}
use mathlib.Core.Bool.{Bool, true, false}
use mathlib.Core.List.{List}
use Prim.Native.Nat.{ℕ}
use lib.Dec.{eqb}
use borrow.Author.Tests.{eqb-true}
use Rattle.base.specs.declared.refusals.Refusal.{Refusal}
use Rattle.base.specs.RefusalNumbers.{refusal_number}
use Rattle.base.proofs.RefusalWords.{taken, turned}
use Rattle.controller.specs.Maybe.{Read}
use Rattle.controller.specs.declared.Uc8253.{Uc8253}
use Rattle.controller.specs.World.{World, Buffers, buffers, world}
use Rattle.controller.specs.Counting.{own}
use Rattle.controller.specs.Arrives.{arrived}
use Rattle.controller.specs.Reading.{read_of}
use Rattle.controller.specs.DataByte.{for_old}
use Rattle.controller.specs.Glass.{states_by, picture_by}
use Rattle.controller.specs.TurnedBack.{turned_back}
use Rattle.controller.specs.Calls.{read_answer}
use Rattle.controller.specs.Ask.{Ask, command, datum, reading, advance, reset, vcom_rule, taking}
use Rattle.controller.specs.Ask.{ask_busy, ask_deadline, ask_bit, ask_row, ask_picture}
use Rattle.controller.specs.Ask.{When, at, when_of, copied_when, driven_when, put_by, record_after, old_after, new_after, rows_after}
use Rattle.controller.specs.Ask.{refused_by, did, byte}
use Rattle.controller.proofs.TurnedAway.{did_no, did_parts}
use Rattle.lending.specs.Settled.{settled, come_to}

-- a timed call is turned back by 6, 5 and 7
timed_refused : (a : Ask) (t : ℕ) (s : Bool) (w : World) → when_of a ≡ at t s → refused_by a w ≡ turned_back s t w
timed_refused (command t' x) t s w e = cc
timed_refused (datum t' x) t s w e = cc
timed_refused (reading t') t s w e = cc
timed_refused (advance t') t s w e = cc
timed_refused (reset t' x) t s w e = cc
timed_refused (vcom_rule t' x) t s w e = cc
timed_refused taking t s w e = cc
timed_refused (ask_busy t') t s w e = cc
timed_refused ask_deadline t s w e = cc
timed_refused (ask_bit older x y) t s w e = cc
timed_refused (ask_row y) t s w e = cc
timed_refused (ask_picture top buffer) t s w e = cc

-- p and b are record and buffers before the call, and m the buffers once it has come
module _ (a : Ask) {t : ℕ} {s : Bool} (timed : when_of a ≡ at t s) (p : Uc8253) (b : Buffers) {m : Buffers} (come : m ≡ come_to s t p b) where
  number : {n : ℕ} → n ≡ turned_back s t (world p b) → n ≡ refused_by a (world p b)
  number e = e ∙ sym (timed_refused a t s (world p b) timed)

  pub call_refused : (r : Refusal) → refusal_number r ≡ turned_back s t (world p b)
      → (world p m ≡ did a (world p b)) × (refusal_number r ≡ refused_by a (world p b))
  unfolding come_to
  call_refused r h =
      let e : m ≡ b = come ∙ rw (turned r h) in
      (ap (λ (x : Buffers). world p x) e ∙ sym (did_no a (world p b) (turned r (number h))), number h)

  pub call_accepted : {q : Uc8253} {o : Buffers} → 0 ≡ turned_back s t (world p b)
      → q ≡ record_after own a p
      → o.old ≡ put_by for_old a p m.old
      → o.new ≡ new_after a p m.new
      → o.states ≡ m.states
      → o.picture ≡ m.picture
      → o.rows ≡ rows_after a p m.rows
      → (world q o ≡ did a (world p b)) × (0 ≡ refused_by a (world p b))
  unfolding come_to settled old_after
  call_accepted {q} {o} h eq eo en es ep er =
      let e : m ≡ settled s t p b = come ∙ rw (taken h) in (
        did_parts a p b q o.old o.new o.states o.picture o.rows (sym (number h)) eq
            (eo ∙ ap (put_by for_old a p) (ap (λ (l : Buffers). l.old) e ∙ ap (λ (n : When). copied_when n p b.old b.new) (sym timed)))
            (en ∙ ap (λ (l : Buffers). new_after a p l.new) e)
            (es ∙ ap (λ (l : Buffers). l.states) e
            ∙ ap (λ (n : When). states_by (driven_when own n p) p b.old b.new b.states) (sym timed))
            (ep ∙ ap (λ (l : Buffers). l.picture) e
            ∙ (λ i. picture_by (driven_when own (sym timed i) p) p (sym (es ∙ ap (λ (l : Buffers). l.states) e) i) b.picture))
            (er ∙ ap (λ (l : Buffers). rows_after a p l.rows) e),
        number h,
      )

-- what a read gives back, once the call has arrived
module _ (t : ℕ) (p : Uc8253) (b : Buffers) where
  pub read_accepted : {here : Uc8253} {x : Read} → 0 ≡ turned_back false t (world p b) → here ≡ arrived t p → x ≡ read_of here
      → byte x ≡ byte (read_answer t (world p b))
  unfolding read_answer
  read_accepted h e g = rw (taken h) (ap byte (g ∙ ap read_of e))

  pub read_refused : (r : Refusal) → refusal_number r ≡ turned_back false t (world p b) → byte None ≡ byte (read_answer t (world p b))
  unfolding read_answer
  read_refused r h = rw (turned r h)
