-- One call of a list: turned back, or accepted; what either makes of the place.
use mathlib.Core.Path.{◌≡◌, refl, sym, ap, ◌∙◌}
use mathlib.Core.Bool.{Bool, true, false, not, ◌&&◌, ◌||◌, true≢false}
use mathlib.Core.List.{List, [], ◌∷◌}
use Prim.Native.Nat.{ℕ, ◌*◌, ◌<◌}
use lib.Dec.{eqb, ltb}
use lib.ListN.{length}
use borrow.Author.Tests.{eqb-true, ltb-true}
use Rattle.base.specs.Pick.{pick}
use Rattle.base.proofs.Cases.{by_cases, both}
use Rattle.config.specs.declared.Uc8253Config.{Uc8253Config}
use Rattle.numbers.specs.Number.{panel_numbers}
use Rattle.controller.specs.declared.Uc8253.{Uc8253}
use Rattle.controller.specs.declared.Work.{Work}
use Rattle.controller.specs.declared.Work.TheVariants as work
use Rattle.controller.specs.World.{World, Buffers, world}
use Rattle.controller.specs.TurnedBack.{foreign_record, turned_back, lengths_fit, lent_fits, lent_refused, making_refused}
use Rattle.controller.specs.Calls as calls
use Rattle.controller.specs.Sound.{Sound}
use Rattle.controller.specs.Refresh.{mapping_now}
use Rattle.controller.specs.Glass.{numbers_now}
use Rattle.controller.specs.Counting.{own}
use Rattle.controller.proofs.TurnedAway.{done_to, did_no, did_yes}
use Rattle.controller.proofs.Glass.{numbers_length, numbers_known}
use Rattle.controller.proofs.Sound.{home, never_turned}
use Rattle.walk.specs.Machine.{Fed}
use Rattle.controller.specs.Ask.{Ask, command, datum, reading, advance, reset, vcom_rule, taking, ask_busy, ask_deadline, ask_bit, ask_row, ask_picture}
use Rattle.walk.specs.Calls.{Call, handed, result, turned, next, OwnFor, OwnBuffers, Bytes, fed_at, fed_by, start}
use Rattle.controller.specs.Ask.{IsByte, record_after, old_after, new_after, rows_after, lent_after, did_by, did, refused_by, writes}
use Rattle.walk.proofs.Seen.{job_of, machine_of}
use Rattle.walk.proofs.Pixel.{ServesJob}

-- ---- what is lent to a call that changes no entry of it
-- taking the rows and the questions look at the record alone
spared : (a : Ask) (w : World) → writes a ≡ false → lent_after own a w.chip w.lent ≡ w.lent
unfolding lent_after old_after new_after rows_after
spared (command t c) w e = absurd (true≢false e)
spared (datum t b) w e = absurd (true≢false e)
spared (reading t) w e = absurd (true≢false e)
spared (advance t) w e = absurd (true≢false e)
spared (reset t asserted) w e = absurd (true≢false e)
spared (vcom_rule t x) w e = absurd (true≢false e)
spared taking w e = refl
spared (ask_busy t) w e = refl
spared ask_deadline w e = refl
spared (ask_bit older x y) w e = refl
spared (ask_row y) w e = refl
spared (ask_picture top wide) w e = refl

pub spares : (a : Ask) (w : World) → writes a ≡ false → (did a w).lent ≡ w.lent
unfolding did_by
spares a w e = both (λ (v : World). v.lent ≡ w.lent) (eqb (refused_by a w) 0) (spared a w e) refl

-- the place after an accepted call
place_on : (a : Ask) (at : World) (l : Buffers) (t : Bool) → t ≡ false → (writes a ≡ true → l ≡ at.lent)
    → world (record_after own a at.chip) (pick (t || not (writes a)) at.lent (lent_after own a at.chip l)) ≡ done_to own a at
place_on a at l t e lent =
    by_cases (writes a)
    (λ y. rw (e, y, lent y))
    (λ n. rw (e, n) (ap (world (record_after own a at.chip)) (sym (spared a at n))))

-- ---- a call is turned back or accepted
pub data Gone (at : World) (c : Call) : Type 0 where
  back : turned at c ≡ true → next at c ≡ at → Gone at c
  on : turned at c ≡ false → next at c ≡ done_to own c.ask at → Gone at c

turned_no : (at : World) (c : Call) → eqb (refused_by c.ask (handed at c)) 0 ≡ true → turned at c ≡ false
unfolding turned
turned_no at c e = rw e

turned_yes : (at : World) (c : Call) → eqb (refused_by c.ask (handed at c)) 0 ≡ false → turned at c ≡ true
unfolding turned
turned_yes at c e = rw e

next_on : (at : World) (c : Call) → eqb (refused_by c.ask (handed at c)) 0 ≡ true → (writes c.ask ≡ true → c.lent ≡ at.lent)
    → next at c ≡ done_to own c.ask at
unfolding next result
next_on at c e own =
    ap (λ (w : World). world w.chip (pick (turned at c || not (writes c.ask)) at.lent w.lent))
    (did_yes c.ask (handed at c) e)
    ∙ place_on c.ask at c.lent (turned at c) (turned_no at c e) own

next_back : (at : World) (c : Call) → eqb (refused_by c.ask (handed at c)) 0 ≡ false → next at c ≡ at
unfolding next result
next_back at c e = rw (did_no c.ask (handed at c) e, turned_yes at c e)

-- the condition on what is lent
own_for : (t : Bool) (at : World) (c : Call) → OwnFor t at c → turned at c ≡ false → t ≡ true → c.lent ≡ at.lent
own_for true at c own e q = own e
own_for false at c own e q = absurd (true≢false (sym q))

pub gone : (at : World) (c : Call) → OwnFor (writes c.ask) at c → Gone at c
gone at c own =
    by_cases (eqb (refused_by c.ask (handed at c)) 0)
    (λ e. on (turned_no at c e) (next_on at c e (own_for (writes c.ask) at c own (turned_no at c e))))
    (λ e. back (turned_yes at c e) (next_back at c e))

-- a call turned back gives back the record that it was given, and leaves every lent entry
pub refused_leaves : (at : World) (c : Call) → turned at c ≡ true → ((result at c).chip ≡ at.chip) × ((result at c).lent ≡ c.lent)
unfolding result
refused_leaves at c e =
    by_cases (eqb (refused_by c.ask (handed at c)) 0)
    (λ y. absurd (true≢false (sym e ∙ turned_no at c y)))
    (λ n. (ap (λ (w : World). w.chip) (did_no c.ask (handed at c) n), ap (λ (w : World). w.lent) (did_no c.ask (handed at c) n)))

-- ---- a question's own buffer, if it has one, has an entry for each pixel
abbrev pub pixels : Uc8253Config → ℕ
pixels g = g.panel.sources * g.panel.gates

abbrev pub roomy : ℕ → Ask → Bool
roomy n (command t c) = true
roomy n (datum t b) = true
roomy n (reading t) = true
roomy n (advance t) = true
roomy n (reset t asserted) = true
roomy n (vcom_rule t x) = true
roomy n taking = true
roomy n (ask_busy t) = true
roomy n ask_deadline = true
roomy n (ask_bit older x y) = true
roomy n (ask_row y) = true
roomy n (ask_picture top wide) = eqb (length wide) n

-- ---- what a sound world has
and_left : (a b : Bool) → (a && b) ≡ true → a ≡ true
and_left true b e = refl
and_left false b e = e

and_right : (a b : Bool) → (a && b) ≡ true → b ≡ true
and_right true b e = e
and_right false b e = absurd (true≢false (sym e))

pub record Long (w : World) : Type 0 where
  pub old : eqb (length w.lent.old) 60000 ≡ true
  pub new : eqb (length w.lent.new) 60000 ≡ true
  pub states : eqb (length w.lent.states) (w.chip.config.panel.sources * w.chip.config.panel.gates) ≡ true
  pub picture : eqb (length w.lent.picture) (w.chip.config.panel.sources * w.chip.config.panel.gates) ≡ true
  pub rows : eqb (length w.lent.rows) 5120 ≡ true

pub lengths : (w : World) → lent_fits w.chip.config w.lent ≡ true → Long w
unfolding lengths_fit
lengths w e0 =
    let n = w.chip.config.panel.sources * w.chip.config.panel.gates in
    let e1 = and_right (eqb (length w.lent.old) 60000) _ e0 in
    let e2 = and_right (eqb (length w.lent.new) 60000) _ e1 in
    let e3 = and_right (eqb (length w.lent.states) n) _ e2 in
    let e4 = and_right (eqb (length w.lent.picture) n) _ e3 in
    record {
      old = and_left (eqb (length w.lent.old) 60000) _ e0;
      new = and_left (eqb (length w.lent.new) 60000) _ e1;
      states = and_left (eqb (length w.lent.states) n) _ e2;
      picture = and_left (eqb (length w.lent.picture) n) _ e3;
      rows = e4;
    }

pub states_long : (w : World) → Sound w → length w.lent.states ≡ w.chip.config.panel.sources * w.chip.config.panel.gates
states_long w s = eqb-true _ _ (lengths w s.fits).states

module _ (w : World) (s : Sound w) where
  serves_work : (x : Work)
      → ServesJob (length w.lent.states)
      (job_of x w.chip.operation.started w.chip.operation.until w.chip.waveform
      (panel_numbers (mapping_now w.chip) w.lent.old w.lent.new))
  unfolding numbers_now
  serves_work work.Nothing = tt
  serves_work work.PowerOn = tt
  serves_work work.PowerOff = tt
  serves_work work.DeepSleep = tt
  serves_work work.SoftReset = tt
  serves_work work.HardwareReset = tt
  serves_work (work.Refresh r) = record {
    known = numbers_known w.chip w.lent.old w.lent.new;
    long = numbers_length w.chip w.lent.old w.lent.new ∙ sym (states_long w s);
  }

  pub serves : ServesJob (length w.lent.states) (machine_of w).job
  serves = serves_work w.chip.operation.work

-- ---- a sound world is never turned back
lent_accepted : (w : World) → Sound w → (fits : Bool) → fits ≡ true → lent_refused w.chip fits ≡ 0
unfolding lent_refused
lent_accepted w s fits e = rw (home w.chip s.chip, e)

plane_long : (older : Bool) (w : World) → Long w → eqb (length (pick older w.lent.old w.lent.new)) 60000 ≡ true
plane_long true w l = l.old
plane_long false w l = l.new

pub sound_accepted : (a : Ask) (w : World) → Sound w → roomy (pixels w.chip.config) a ≡ true → refused_by a w ≡ 0
unfolding calls.taking_refused calls.question_refused calls.bit_refused calls.row_refused calls.wide_refused
sound_accepted (command t c) w s r = never_turned false t w s
sound_accepted (datum t b) w s r = never_turned false t w s
sound_accepted (reading t) w s r = never_turned false t w s
sound_accepted (advance t) w s r = never_turned false t w s
sound_accepted (reset t asserted) w s r = never_turned asserted t w s
sound_accepted (vcom_rule t x) w s r = never_turned false t w s
sound_accepted taking w s r = lent_accepted w s _ (lengths w s.fits).rows
sound_accepted (ask_busy t) w s r = lent_accepted w s true refl
sound_accepted ask_deadline w s r = lent_accepted w s true refl
sound_accepted (ask_bit older x y) w s r = lent_accepted w s _ (plane_long older w (lengths w s.fits))
sound_accepted (ask_row y) w s r = lent_accepted w s _ (lengths w s.fits).picture
sound_accepted (ask_picture top wide) w s r = rw (home w.chip s.chip, (lengths w s.fits).states, r, s.states)

-- ---- lists that can be: the calls that are to be turned back are lent empty buffers, the others the place's own
abbrev pub no_buffers : Buffers
no_buffers = record { old = []; new = []; states = []; picture = []; rows = [] }

abbrev pub lending_of : World → Fed → Call
lending_of at f = record { ask = f.ask; lent = pick f.back no_buffers at.lent }

unfoldable pub lending : World → List Fed → List Call
lending at [] = []
lending at (f ∷ fs) = lending_of at f ∷ lending (next at (lending_of at f)) fs

-- bytes are bytes; what is to be turned back may change a lent entry, and what is not has room in its own buffer
abbrev pub is_byte : Ask → Bool
is_byte (command t c) = ltb c 256
is_byte (datum t b) = ltb b 256
is_byte (reading t) = true
is_byte (advance t) = true
is_byte (reset t asserted) = true
is_byte (vcom_rule t x) = true
is_byte taking = true
is_byte (ask_busy t) = true
is_byte ask_deadline = true
is_byte (ask_bit older x y) = true
is_byte (ask_row y) = true
is_byte (ask_picture top wide) = true

abbrev pub plain : ℕ → List Fed → Bool
plain n [] = true
plain n (f ∷ fs) = (is_byte f.ask && pick f.back (writes f.ask) (roomy n f.ask)) && plain n fs

is_byte_lem : (a : Ask) → is_byte a ≡ true → IsByte a
is_byte_lem (command t c) e = ltb-true c 256 e
is_byte_lem (datum t b) e = ltb-true b 256 e
is_byte_lem (reading t) e = tt
is_byte_lem (advance t) e = tt
is_byte_lem (reset t asserted) e = tt
is_byte_lem (vcom_rule t x) e = tt
is_byte_lem taking e = tt
is_byte_lem (ask_busy t) e = tt
is_byte_lem ask_deadline e = tt
is_byte_lem (ask_bit older x y) e = tt
is_byte_lem (ask_row y) e = tt
is_byte_lem (ask_picture top wide) e = tt

module _ (n : ℕ) (f : Fed) (fs : List Fed) (e : plain n (f ∷ fs) ≡ true) where
  pub plain_byte : IsByte f.ask
  plain_byte = is_byte_lem f.ask (and_left _ (pick f.back (writes f.ask) (roomy n f.ask)) (and_left _ (plain n fs) e))

  pub plain_rest : plain n fs ≡ true
  plain_rest = and_right (is_byte f.ask && pick f.back (writes f.ask) (roomy n f.ask)) (plain n fs) e

  pub plain_back : pick f.back (writes f.ask) (roomy n f.ask) ≡ true
  plain_back = and_right (is_byte f.ask) _ (and_left _ (plain n fs) e)

pub bytes_lending : (n : ℕ) (at : World) (fs : List Fed) → plain n fs ≡ true → Bytes (lending at fs)
unfolding lending
bytes_lending n at [] e = tt
bytes_lending n at (f ∷ fs) e = (plain_byte n f fs e, bytes_lending n (next at (lending_of at f)) fs (plain_rest n f fs e))

-- lent nothing, a call that may change a lent entry is turned back
lent_none : (asserted : Bool) (t : ℕ) (p : Uc8253) → eqb (turned_back asserted t (world p no_buffers)) 0 ≡ false
unfolding turned_back lengths_fit
lent_none asserted t p = by_cases (foreign_record p) (λ e. rw e) (λ e. rw e)

turned_none : (a : Ask) (at : World) → writes a ≡ true → turned at (record { ask = a; lent = no_buffers }) ≡ true
unfolding turned
turned_none (command t c) at e = rw (lent_none false t at.chip)
turned_none (datum t b) at e = rw (lent_none false t at.chip)
turned_none (reading t) at e = rw (lent_none false t at.chip)
turned_none (advance t) at e = rw (lent_none false t at.chip)
turned_none (reset t asserted) at e = rw (lent_none asserted t at.chip)
turned_none (vcom_rule t x) at e = rw (lent_none false t at.chip)
turned_none taking at e = absurd (true≢false (sym e))
turned_none (ask_busy t) at e = absurd (true≢false (sym e))
turned_none ask_deadline at e = absurd (true≢false (sym e))
turned_none (ask_bit older x y) at e = absurd (true≢false (sym e))
turned_none (ask_row y) at e = absurd (true≢false (sym e))
turned_none (ask_picture top wide) at e = absurd (true≢false (sym e))

-- one call of it, where a call lent the place's buffers is accepted
module _ (at : World) (n : ℕ) (accepts : (a : Ask) → roomy n a ≡ true → turned at (record { ask = a; lent = at.lent }) ≡ false) where
  turned_by : (a : Ask) (b : Bool) → pick b (writes a) (roomy n a) ≡ true
      → turned at (record { ask = a; lent = pick b no_buffers at.lent }) ≡ b
  turned_by a true e = turned_none a at e
  turned_by a false e = accepts a e

  own_by : (t : Bool) (a : Ask) (b : Bool) → pick b (writes a) (roomy n a) ≡ true
      → OwnFor t at (record { ask = a; lent = pick b no_buffers at.lent })
  own_by false a b e = tt
  own_by true a false e = λ q. refl
  own_by true a true e = λ q. absurd (true≢false (sym (turned_none a at e) ∙ q))

  pub lent_turned : (f : Fed) (fs : List Fed) → plain n (f ∷ fs) ≡ true → fed_at at (lending_of at f) ≡ f
  lent_turned f fs e = ap (λ (b : Bool). record { ask = f.ask; back = b }) (turned_by f.ask f.back (plain_back n f fs e))

  pub lent_own : (f : Fed) (fs : List Fed) → plain n (f ∷ fs) ≡ true → OwnFor (writes f.ask) at (lending_of at f)
  lent_own f fs e = own_by (writes f.ask) f.ask f.back (plain_back n f fs e)

-- calls that lend so meet the condition on what is lent, and the walk is fed just this list
pub record Lent (g : Uc8253Config) (b : Buffers) (fs : List Fed) : Type 0 where
  pub own : OwnBuffers (start g b) (lending (start g b) fs)
  pub fed : fed_by (start g b) (lending (start g b) fs) ≡ fs

-- so it is, after an accepted making, with each list whose bytes are bytes and in which only calls that may change a lent entry are
-- turned back; lists in which the taking of the rows or a question is turned back are left out, a question too whose own buffer does
-- not fit
abbrev pub Lendable : Type 0
Lendable = (g : Uc8253Config) (b : Buffers) (fs : List Fed) → g.optics.initial_gray < 256 → making_refused g b ≡ 0
    → plain (pixels g) fs ≡ true → Lent g b fs
