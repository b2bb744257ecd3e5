-- Request 2026-10: the planes are quiet under busy, at any two places of a list. Each call keeps the invariant of the controller's part
-- (no data byte is taken while an operation runs), and so one that comes before the operation's end leaves what is to stay.
use mathlib.Core.Path.{◌≡◌, refl, sym, ap, subst, ◌∙◌}
use mathlib.Core.Bool.{true, false, false≢true}
use mathlib.Core.List.{List, [], ◌∷◌}
use Prim.Native.Nat.{ℕ, zero, suc, ◌≤◌, ◌<◌, max}
use native.Mathlib.Omega.{arith}
use native.Mathlib.Decide.{dec_le}
use lib.Dec.{ltb}
use lib.ListN.{length, take}
use borrow.Author.Tests.{ltb-true, lt-ltb, lt-leb}
use Rattle.config.specs.declared.Uc8253Config.{Uc8253Config}
use Rattle.controller.specs.declared.Uc8253.{Uc8253}
use Rattle.controller.specs.World.{World, Buffers}
use Rattle.controller.specs.Setters.{with_vcom_rule}
use Rattle.controller.specs.Arrives.{timed, arrived}
use Rattle.controller.specs.Command.{busy, command_byte}
use Rattle.controller.specs.DataByte.{data_byte, for_old, for_new, plane_byte}
use Rattle.controller.specs.Reading as rd
use Rattle.controller.specs.Reset.{reset_edge}
use Rattle.controller.specs.Planes.{old_arrived}
use Rattle.controller.specs.Counting.{own}
use Rattle.controller.specs.TurnedBack.{making_refused}
use Rattle.controller.specs.Ask.{Ask, command, datum, reading, advance, reset, vcom_rule, taking, ask_busy, ask_deadline, ask_bit, ask_row, ask_picture}
use Rattle.controller.specs.Ask.{when_of, clock_when, record_after, old_after, new_after, lent_after}
use Rattle.controller.proofs.Quiet.{Stays, stays, GuardedIn, guarded_after, arrived_before, spared_command, spared_data, plane_quiet}
use Rattle.controller.proofs.Quiet.{spared_reading, spared_released, guarded_made}
use Rattle.controller.proofs.Keeps.{clock_after_lem}
use Rattle.controller.proofs.TurnedAway.{done_to}
use Rattle.walk.specs.Calls.{Call, turned, next, after, OwnBuffers, start, place}
use Rattle.walk.specs.Quiet.{Runs, IsEntry, comes_before, Undisturbed, QuietUnderBusy}
use Rattle.walk.proofs.Lending.{Gone, back, on, gone}
use Rattle.walk.proofs.Demand.{made_is}

-- ---- an accepted call
-- what stays of record and planes
pub record StaysAll : Type 0 where
  pub chip : Stays
  pub old : List ℕ
  pub new : List ℕ

abbrev pub stays_all : World → StaysAll
stays_all w = record { chip = stays w.chip; old = w.lent.old; new = w.lent.new }

-- a timed call before the operation's end is its own part with the clock moved on, and nothing is copied
module _ (t : ℕ) (w : World) (h : ltb (max w.chip.now t) w.chip.operation.until ≡ true) where
  early : arrived t w.chip ≡ timed t w.chip
  early = arrived_before t w.chip (ltb-true (max w.chip.now t) w.chip.operation.until h)

  stays_timed : (f : Uc8253 → Uc8253) → stays (f (timed t w.chip)) ≡ stays w.chip → stays (f (arrived t w.chip)) ≡ stays w.chip
  stays_timed f s = ap (λ (p : Uc8253). stays (f p)) early ∙ s

  not_copied : old_arrived t w.chip w.lent.old w.lent.new ≡ w.lent.old
  unfolding old_arrived
  not_copied =
      rw (lt-leb w.chip.operation.until (max w.chip.now t) (ltb-true (max w.chip.now t) w.chip.operation.until h))

pub stays_done : (a : Ask) (w : World) → GuardedIn w.chip → Runs w → comes_before w.chip.operation.until w.chip.now a ≡ true
    → stays_all (done_to own a w) ≡ stays_all w
unfolding record_after lent_after old_after new_after
stays_done (command t c) w g r h =
    λ i. record { chip = stays_timed t w h (command_byte own c) ((spared_command c (timed t w.chip) g).same r) i; old = not_copied t w h i; new = w.lent.new }
stays_done (datum t b) w g r h =
    let quiet-old : (l : List ℕ) → plane_byte for_old b (arrived t w.chip) l ≡ l =
    λ l. ap (λ (p : Uc8253). plane_byte for_old b p l) (early t w h) ∙ plane_quiet for_old refl refl b (timed t w.chip) l g r in
    let quiet-new : plane_byte for_new b (arrived t w.chip) w.lent.new ≡ w.lent.new =
    ap (λ (p : Uc8253). plane_byte for_new b p w.lent.new) (early t w h) ∙ plane_quiet for_new refl refl b (timed t w.chip) w.lent.new g r in
    λ i. record {
      chip = stays_timed t w h (data_byte own b) ((spared_data b (timed t w.chip) g).same r) i;
      old = (quiet-old (old_arrived t w.chip w.lent.old w.lent.new) ∙ not_copied t w h) i;
      new = quiet-new i;
    }
stays_done (reading t) w g r h =
    λ i. record { chip = stays_timed t w h rd.reading ((spared_reading (timed t w.chip) g).same r) i; old = not_copied t w h i; new = w.lent.new }
stays_done (advance t) w g r h = λ i. record { chip = stays_timed t w h (λ p. p) refl i; old = not_copied t w h i; new = w.lent.new }
stays_done (reset t true) w g r h = absurd (false≢true h)
stays_done (reset t false) w g r h =
    λ i. record { chip = stays_timed t w h (reset_edge own false) ((spared_released (timed t w.chip) g).same r) i; old = not_copied t w h i; new = w.lent.new }
stays_done (vcom_rule t x) w g r h =
    λ i. record { chip = stays_timed t w h (with_vcom_rule x) refl i; old = not_copied t w h i; new = w.lent.new }
stays_done taking w g r h = refl
stays_done (ask_busy t) w g r h = refl
stays_done ask_deadline w g r h = refl
stays_done (ask_bit older x y) w g r h = refl
stays_done (ask_row y) w g r h = refl
stays_done (ask_picture top wide) w g r h = refl

-- ---- a call of the list, refused or accepted
guarded_next : (at : World) (c : Call) → Gone at c → GuardedIn at.chip → GuardedIn (next at c).chip
guarded_next at c (back b n) g = subst (λ (w : World). GuardedIn w.chip) (sym n) g
guarded_next at c (on b n) g = subst (λ (w : World). GuardedIn w.chip) (sym n) (guarded_after c.ask at.chip g)

stays_next : (at : World) (c : Call) → Gone at c → GuardedIn at.chip → Runs at
    → (turned at c ≡ false → comes_before at.chip.operation.until at.chip.now c.ask ≡ true)
    → stays_all (next at c) ≡ stays_all at
stays_next at c (back b n) g r h = ap stays_all n
stays_next at c (on b n) g r h = ap stays_all n ∙ stays_done c.ask at g r (h b)

-- ---- the list
-- what holds at place i and is handed on from each place to the next holds up to place j
onward : (P : ℕ → Type 0) (i j : ℕ) → P i → ((m : ℕ) → i ≤ m → m < j → P m → P (suc m)) → (m : ℕ) → i ≤ m → m ≤ j → P m
onward P i j p f zero lo hi = subst P {x = i} {y = zero} (omega arith) p
onward P i j p f (suc m) lo hi =
    elim (dec_le i m) [
      | yes q ↦ f m q hi (onward P i j p f m q (omega arith))
      | no q ↦ subst P {x = i} {y = suc m} (omega (arith, q)) p
    ]

-- the call between two neighbouring places
record Between (at : World) (cs : List Call) (m : ℕ) : Type 0 where
  call : Call
  is : IsEntry cs m call
  went : Gone (after at (take m cs)) call
  leads : after at (take (suc m) cs) ≡ next (after at (take m cs)) call

between : (at : World) (cs : List Call) (m : ℕ) → m < length cs → OwnBuffers at cs → Between at cs m
unfolding after
between at [] m h o = absurd (omega arith)
between at (c ∷ cs) zero h o = record { call = c; is = refl; went = gone at c o.0; leads = refl }
between at (c ∷ cs) (suc m) h o =
    let l = between (next at c) cs m (omega arith) o.1 in
    record { call = l.call; is = l.is; went = l.went; leads = l.leads }

module _ (g : Uc8253Config) (b : Buffers) (cs : List Call) (e : making_refused g b ≡ 0) (o : OwnBuffers (start g b) cs) where
  abbrev at : ℕ → World
  at m = place g b cs m

  guarded_at : (m : ℕ) → m ≤ length cs → GuardedIn (at m).chip
  unfolding place after
  guarded_at m h =
      onward (λ (k : ℕ). GuardedIn (at k).chip) 0 (length cs)
      (subst (λ (w : World). GuardedIn w.chip) (sym (made_is g b e)) (guarded_made g))
      (λ k lo hi p.
      let l = between (start g b) cs k hi o in
      subst (λ (w : World). GuardedIn w.chip) (sym l.leads) (guarded_next (at k) l.call l.went p))
      m (omega arith) h

  stays_to : (i j : ℕ) → i ≤ j → j ≤ length cs → Runs (at i) → Undisturbed g b cs i j → stays_all (at j) ≡ stays_all (at i)
  unfolding place
  stays_to i j le h r u =
      onward (λ (k : ℕ). stays_all (at k) ≡ stays_all (at i)) i j refl
      (λ k lo hi s.
      let l = between (start g b) cs k (omega (arith, hi)) o in
      ap stays_all l.leads
      ∙ stays_next (at k) l.call l.went (guarded_at k (omega (arith, hi))) (ap (λ (x : StaysAll). busy x.chip.operation.work) s ∙ r)
      (λ t. ap (λ (x : StaysAll). comes_before x.chip.operation.until (at k).chip.now l.call.ask) s ∙ u k lo hi l.call l.is t)
      ∙ s)
      j le (omega arith)

pub quiet_under_busy : QuietUnderBusy
quiet_under_busy g b cs gray e bytes o i j le lj r u =
    let s : stays_all (place g b cs j) ≡ stays_all (place g b cs i) = stays_to g b cs e o i j le lj r u in
    record {
      regs = ap (λ (x : StaysAll). x.chip.regs) s;
      luts = ap (λ (x : StaysAll). x.chip.luts) s;
      old = ap (λ (x : StaysAll). x.old) s;
      new = ap (λ (x : StaysAll). x.new) s;
      operation = ap (λ (x : StaysAll). x.chip.operation) s;
      waveform = ap (λ (x : StaysAll). x.chip.waveform) s;
    }

-- ---- by the times alone: where the clock lies below the end at i, it is enough that the time of each accepted timed call does
-- from a call that comes before one end, with the clock at 0, to another clock and end
module _ (early end now : ℕ) (h : (t : ℕ) → t < early → max now t < end) where
  timed_before : (t : ℕ) → ltb (max 0 t) early ≡ true → ltb (max now t) end ≡ true
  timed_before t e = let l = ltb-true (max 0 t) early e in lt-ltb (max now t) end (h t (omega (arith, l)))

  pub before : (a : Ask) → comes_before early 0 a ≡ true → comes_before end now a ≡ true
  before (command t c) e = timed_before t e
  before (datum t b) e = timed_before t e
  before (reading t) e = timed_before t e
  before (advance t) e = timed_before t e
  before (reset t true) e = e
  before (reset t false) e = timed_before t e
  before (vcom_rule t x) e = timed_before t e
  before taking e = refl
  before (ask_busy t) e = refl
  before ask_deadline e = refl
  before (ask_bit older x y) e = refl
  before (ask_row y) e = refl
  before (ask_picture top wide) e = refl

before_now : (end now : ℕ) → now < end → (a : Ask) → comes_before end 0 a ≡ true → comes_before end now a ≡ true
before_now end now n = before end end now (λ t l. omega (arith, l))

-- after it the clock is the larger one, still below the end
clock_below : (end : ℕ) (a : Ask) (now : ℕ) → now < end → comes_before end now a ≡ true → clock_when (when_of a) now < end
clock_below end (command t c) now n h = ltb-true (max now t) end h
clock_below end (datum t b) now n h = ltb-true (max now t) end h
clock_below end (reading t) now n h = ltb-true (max now t) end h
clock_below end (advance t) now n h = ltb-true (max now t) end h
clock_below end (reset t true) now n h = absurd (false≢true h)
clock_below end (reset t false) now n h = ltb-true (max now t) end h
clock_below end (vcom_rule t x) now n h = ltb-true (max now t) end h
clock_below end taking now n h = n
clock_below end (ask_busy t) now n h = n
clock_below end ask_deadline now n h = n
clock_below end (ask_bit older x y) now n h = n
clock_below end (ask_row y) now n h = n
clock_below end (ask_picture top wide) now n h = n

clock_done : (end : ℕ) (a : Ask) (w : World) → w.chip.now < end → comes_before end w.chip.now a ≡ true → (done_to own a w).chip.now < end
clock_done end a w n h = subst (λ (t : ℕ). t < end) (sym (clock_after_lem a w.chip)) (clock_below end a w.chip.now n h)

clock_next : (end : ℕ) (at : World) (c : Call) → Gone at c → at.chip.now < end
    → (turned at c ≡ false → comes_before end at.chip.now c.ask ≡ true) → (next at c).chip.now < end
clock_next end at c (back b n) l h = subst (λ (w : World). w.chip.now < end) (sym n) l
clock_next end at c (on b n) l h = subst (λ (w : World). w.chip.now < end) (sym n) (clock_done end c.ask at l (h b))

module _ (g : Uc8253Config) (b : Buffers) (cs : List Call) (o : OwnBuffers (start g b) cs) (i j : ℕ) (lj : j ≤ length cs)
    (below : (place g b cs i).chip.now < (place g b cs i).chip.operation.until)
    (early : (k : ℕ) → i ≤ k → k < j → (c : Call) → IsEntry cs k c → turned (place g b cs k) c ≡ false
    → comes_before (place g b cs i).chip.operation.until 0 c.ask ≡ true) where
  abbrev end : ℕ
  end = (place g b cs i).chip.operation.until

  clock_at_lem : (k : ℕ) → i ≤ k → k ≤ j → (place g b cs k).chip.now < end
  unfolding place
  clock_at_lem =
      onward (λ (k : ℕ). (place g b cs k).chip.now < end) i j below
      (λ k lo hi n.
      let l = between (start g b) cs k (omega (arith, hi)) o in
      subst (λ (w : World). w.chip.now < end) (sym l.leads)
      (clock_next end (place g b cs k) l.call l.went n
      (λ t. before_now end (place g b cs k).chip.now n l.call.ask (early k lo hi l.call l.is t))))

  pub undisturbed_by_times : Undisturbed g b cs i j
  undisturbed_by_times k lo hi c is t =
      before_now end (place g b cs k).chip.now (clock_at_lem k lo (omega (arith, hi))) c.ask (early k lo hi c is t)
