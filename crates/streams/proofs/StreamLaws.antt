-- A run of pixel bytes does what its calls do, one by one: none is turned back, and each puts its eight pixels,
-- moves the cursor, counts and moves the clock.
use Rattle.std.proofs.Common.{None}
use mathlib.Core.Path.{◌≡◌, refl, sym, ap, subst, ◌∙◌}
use mathlib.Core.Bool.{Bool, true, false, ◌||◌, ◌&&◌, not, true≢false, false≢true}
use mathlib.Core.List.{List}
use Prim.Native.Nat.{ℕ, zero, suc, ◌+◌, ◌≤◌, ◌<◌, max}
use native.Mathlib.Omega.{arith}
use native.Mathlib.Decide.{dec_le}
use lib.Dec.{eqb, ltb, leb}
use lib.ListN.{length}
use borrow.Author.Tests.{eqb-true, eq-eqb, ltb-false}
use Rattle.base.specs.Pick.{pick}
use Rattle.base.proofs.Cases.{by_cases, both}
use Rattle.command.specs.declared.kinds.Kind.{Kind}
use Rattle.command.specs.declared.kinds.Kind.TheVariants as kind
use Rattle.command.specs.declared.kinds.Params.{Params}
use Rattle.command.specs.declared.kinds.Params.TheVariants as params
use Rattle.registers.specs.declared.Area.{Area}
use Rattle.registers.specs.declared.Pair.{Pair}
use Rattle.registers.specs.declared.Registers.{Registers}
use Rattle.registers.specs.Range.{InRam, InTenBits, InRange}
use Rattle.registers.specs.Written.{written_of}
use Rattle.registers.proofs.RangeLaws.{written_in_range}
use Rattle.ram.specs.declared.Cursor.{Cursor}
use Rattle.ram.proofs.WriteLaws.{length_written}
use Rattle.controller.specs.declared.Active.{Active}
use Rattle.controller.specs.declared.Current.{Current}
use Rattle.controller.specs.declared.Current.TheVariants as current
use Rattle.controller.specs.declared.Work.{Work}
use Rattle.controller.specs.declared.Work.TheVariants as work
use Rattle.controller.specs.declared.Uc8253.{Uc8253}
use Rattle.controller.specs.declared.drives.Drive.TheVariants as drive
use Rattle.controller.specs.declared.uses.Use.{Use}
use Rattle.controller.specs.declared.uses.Use.TheVariants as use-for
use Rattle.controller.specs.World.{World, Buffers, buffers, world}
use Rattle.controller.specs.Setters.{with_current, with_log, with_old, with_new}
use Rattle.controller.specs.TurnedBack.{bad_area, bad_pair, bad_registers, bad_current, bad_config, bad_stage}
use Rattle.controller.specs.TurnedBack.{bad_work, foreign_record, lent_fits, ends_refresh, turned_back}
use Rattle.controller.specs.Arrives.{ended_by, ended, arrived}
use Rattle.controller.specs.Tell.{notes, log_told, rows_told}
use Rattle.controller.specs.DataByte.{counted_of, doing, purpose_of, past_row, pixel_chip, pixel_byte, used_by, data_byte, more_of}
use Rattle.controller.specs.DataByte.{past_note, used_note, data_note, put_at, for_old, for_new, plane_byte}
use Rattle.controller.specs.Planes.{copied_by, old_arrived}
use Rattle.controller.specs.Glass.{driven_at, states_by, picture_by}
use Rattle.controller.specs.Ask.{datum, record_after, old_after, new_after, rows_after, lent_after, did}
use Rattle.controller.specs.Counting.{own}
use Rattle.controller.proofs.Parts.{Stands, stands, good_cursor, next_stands}
use Rattle.controller.proofs.TurnedAway.{did_yes}
use Rattle.event.specs.declared.Event.{Event}
use Rattle.streams.specs.declared.Flowed.{Flowed}
use Rattle.event.specs.Events.{events_in, event_at, event_done, event_refused, event_answer}
use Rattle.event.proofs.EventLaws.{Does, does_data}
use Rattle.streams.specs.InnerStretch.{ran_on, Stretch, on_from, cursor_to, count_to, clock_to, plane_to, flows_by, AllFlow}
use Rattle.streams.specs.InnerStretch.{flowed_chip, FlowsInto, rests_by, calm_with, endless_by, pixels_by, Aimed}

-- ---- tests that fail
neither : (x y : Bool) → (x || y) ≡ false → (x ≡ false) × (y ≡ false)
neither true y e = absurd (true≢false e)
neither false y e = (refl, e)

each : (x y : Bool) → (x && y) ≡ true → (x ≡ true) × (y ≡ true)
each true y e = (refl, e)
each false y e = absurd (false≢true e)

denied : (x : Bool) → not x ≡ true → x ≡ false
denied true e = absurd (false≢true e)
denied false e = refl

-- ---- registers that are not foreign are in range
area_held : (a : Area) → bad_area a ≡ false → InRam a
unfolding bad_area
area_held a e =
    let p = neither (ltb 799 a.x0) _ e in
    let q = neither (ltb 599 a.y0) _ p.1 in
    let r = neither (ltb 799 a.x1) _ q.1 in
    record { x0_most = ltb-false 799 a.x0 p.0; y0_most = ltb-false 599 a.y0 q.0; x1_most = ltb-false 799 a.x1 r.0; y1_most = ltb-false 599 a.y1 r.1 }

pair_held : (p : Pair) → bad_pair p ≡ false → InTenBits p
unfolding bad_pair
pair_held p e =
    let q = neither (ltb 1023 p.h) _ e in
    record { h_most = ltb-false 1023 p.h q.0; v_most = ltb-false 1023 p.v q.1 }

registers_held : (r : Registers) → bad_registers r ≡ false → InRange r
unfolding bad_registers
registers_held r e =
    let p = neither (bad_area r.window) _ e in
    let q = neither (bad_pair r.resolution) _ p.1 in
    record { resolution_held = pair_held r.resolution q.0; start_held = pair_held r.start q.1; window_held = area_held r.window p.0 }

-- what holds of a record that is not foreign, part by part
record Parts (p : Uc8253) : Type 0 where
  config : bad_config p.config ≡ false
  regs : bad_registers p.regs ≡ false
  stage : bad_stage p.stage ≡ false
  runs : bad_work p.operation.work p.waveform.frame_ns p.waveform.levels ≡ false
  stored : ltb 1024 p.log.stored ≡ false

parts : (p : Uc8253) → foreign_record p ≡ false → Parts p
unfolding foreign_record
parts p e =
    let a = neither (bad_config p.config) _ e in
    let b = neither (bad_registers p.regs) _ a.1 in
    let c = neither (bad_stage p.stage) _ b.1 in
    let d = neither (bad_work p.operation.work p.waveform.frame_ns p.waveform.levels) _ c.1 in
    record { config = a.0; regs = b.0; stage = c.0; runs = d.0; stored = d.1 }

-- ---- the planes by the command: true for the old one
abbrev plane_of : Bool → Buffers → List ℕ
plane_of true b = b.old
plane_of false b = b.new

abbrev with_plane : Bool → List ℕ → Buffers → Buffers
with_plane true l b = with_old l b
with_plane false l b = with_new l b

abbrev command_for : Bool → ℕ
command_for true = 0x10
command_for false = 0x13

-- nothing runs on a record that is not foreign, what is lent fits, and the command under way takes pixel bytes
record Streams (older : Bool) (p : Uc8253) (b : Buffers) (a : Active) : Type 0 where
  resting : p.operation.work ≡ work.Nothing
  active : p.stage.current ≡ current.Active a
  endless : a.kind ≡ kind.Write params.Stream
  command : a.command ≡ command_for older
  home : Parts p
  fits : lent_fits p.config b ≡ true

abbrev flowed : Bool → Uc8253 → Buffers → Active → Cursor → ℕ → ℕ → List ℕ → World
flowed older p b a c n t l = world (flowed_chip p a c n t) (with_plane older l b)

module _ (p : Uc8253) (b : Buffers) (a : Active) where
  flowed_first : (older : Bool) → Streams older p b a → world p b ≡ flowed older p b a a.cursor a.received p.now (plane_of older b)
  flowed_first true s = ap (λ (x : Current). world (with_current x p) b) s.active
  flowed_first false s = ap (λ (x : Current). world (with_current x p) b) s.active

  -- no data byte is turned back
  fits_still : (older : Bool) (l : List ℕ) → length l ≡ length (plane_of older b) → lent_fits p.config b ≡ true
      → lent_fits p.config (with_plane older l b) ≡ true
  fits_still true l e f = rw e f
  fits_still false l e f = rw e f

  taken_at : (older : Bool) → Streams older p b a → (c : Cursor) (n t u : ℕ) (l : List ℕ) → Stands c → length l ≡ length (plane_of older b)
      → turned_back false u (flowed older p b a c n t l) ≡ 0
  unfolding turned_back foreign_record ends_refresh
  taken_at older s c n t u l d e =
      rw (s.home.config, s.home.regs, good_cursor (record { command = a.command; kind = a.kind; received = n; read = a.read; cursor = c; extra_reported = a.extra_reported; past_reported = a.past_reported }) d, s.home.runs, s.home.stored, fits_still older l e s.fits, s.resting)

  -- the command under way, so far along
  abbrev along : Cursor → ℕ → Active
  along c n = record { command = a.command; kind = a.kind; received = n; read = a.read; cursor = c; extra_reported = a.extra_reported; past_reported = a.past_reported }

  abbrev use_for : Bool → Use
  use_for true = use-for.Older
  use_for false = use-for.Newer

  used_for : (older : Bool) → Streams older p b a → (c : Cursor) (n v : ℕ) → purpose_of (along c n) v ≡ use_for older
  unfolding purpose_of doing
  used_for true s c n v = rw (s.endless, s.command)
  used_for false s c n v = rw (s.endless, s.command)

  abbrev area : Area
  area = written_of p.regs

  -- the byte is put, or passed over silently where that was reported
  abbrev Fine : Cursor → Type 0
  Fine c = pick (past_row area c) a.past_reported true ≡ true

  pixel_at : (c : Cursor) (n t : ℕ) → Fine c
      → pixel_byte (more_of (along c n)) (flowed_chip p a c n t) ≡ flowed_chip p a (on_from area c) (counted_of n) t
  unfolding pixel_byte pixel_chip on_from
  pixel_at c n t f = by_cases (past_row area c) (λ h. rw (h, rw h at f)) (λ h. rw h)

  quiet_at : (c : Cursor) (n t : ℕ) → Fine c → past_note (along c n) (flowed_chip p a c n t) ≡ None
  unfolding past_note
  quiet_at c n t f = by_cases (past_row area c) (λ h. rw (h, rw h at f)) (λ h. rw h)

  -- ---- a data byte at a time: the record, what it tells, the planes, the glass
  module _ (older : Bool) (s : Streams older p b a) (c : Cursor) (n t u v : ℕ) (f : Fine c) where
    abbrev here : Uc8253
    here = flowed_chip p a c n t

    abbrev there : Uc8253
    there = flowed_chip p a c n (max t u)

    -- nothing ends as it arrives
    arrived_at : arrived u here ≡ there
    unfolding arrived ended
    arrived_at =
        both (λ (x : Uc8253). x ≡ there) (leb p.operation.until (max t u)) (ap (λ (x : Work). ended_by x there) s.resting) refl

    copied_at : (old new : List ℕ) → old_arrived u here old new ≡ old
    unfolding old_arrived
    copied_at old new =
        both (λ (x : List ℕ). x ≡ old) (leb p.operation.until (max t u)) (ap (λ (x : Work). copied_by x here old new) s.resting) refl

    driven_at_lem : driven_at own false u here ≡ drive.Nothing
    unfolding driven_at ends_refresh
    driven_at_lem = rw s.resting

    used_by_lem : (older : Bool) → used_by own (use_for older) (along c n) v there ≡ flowed_chip p a (on_from area c) (counted_of n) (max t u)
    used_by_lem true = pixel_at c n (max t u) f
    used_by_lem false = pixel_at c n (max t u) f

    byte_at : data_byte own v there ≡ flowed_chip p a (on_from area c) (counted_of n) (max t u)
    unfolding data_byte
    byte_at = ap (λ (x : Use). used_by own x (along c n) v there) (used_for older s c n v) ∙ used_by_lem older

    told_by_lem : (older : Bool) → used_note (use_for older) (along c n) v there ≡ None
    told_by_lem true = quiet_at c n (max t u) f
    told_by_lem false = quiet_at c n (max t u) f

    note_at : data_note v (arrived u here) ≡ None
    unfolding data_note
    note_at = ap (data_note v) arrived_at ∙ ap (λ (x : Use). used_note x (along c n) v there) (used_for older s c n v) ∙ told_by_lem older

    record_at : record_after own (datum u v) here ≡ flowed_chip p a (on_from area c) (counted_of n) (max t u)
    unfolding record_after
    record_at =
        let done = ap (data_byte own v) arrived_at ∙ byte_at in
        λ i. with_log (log_told (notes (note_at i) None) (done i).log) (done i)

    plane_at : (mine : Use → Bool) (l : List ℕ) → plane_byte mine v (arrived u here) l ≡ pick (mine (use_for older)) (put_at area c v l) l
    unfolding plane_byte
    plane_at mine l =
        ap (λ (x : Uc8253). plane_byte mine v x l) arrived_at
        ∙ ap (λ (x : Use). pick (mine x) (put_at area c v l) l) (used_for older s c n v)

    lent_at : (l : Buffers) → lent_after own (datum u v) here l
        ≡ buffers (pick (for_old (use_for older)) (put_at area c v l.old) l.old)
        (pick (for_new (use_for older)) (put_at area c v l.new) l.new) l.states l.picture l.rows
    unfolding lent_after old_after new_after rows_after
    lent_at l =
        let old = ap (plane_byte for_old v (arrived u here)) (copied_at l.old l.new) ∙ plane_at for_old l.old in
        λ i. buffers (old i) (plane_at for_new l.new i) (states_by (driven_at_lem i) here l.old l.new l.states)
        (picture_by (driven_at_lem i) here (states_by (driven_at_lem i) here l.old l.new l.states) l.picture)
        (rows_told (notes (note_at i) None) (max t u) p.log l.rows)

  done_at : (older : Bool) → Streams older p b a → (c : Cursor) (n t u v : ℕ) (l : List ℕ) → Fine c
      → lent_after own (datum u v) (flowed_chip p a c n t) (with_plane older l b) ≡ with_plane older (put_at area c v l) b
  done_at true s c n t u v l f = lent_at true s c n t u v f (with_plane true l b)
  done_at false s c n t u v l f = lent_at false s c n t u v f (with_plane false l b)

  -- an event of the run
  data_at : (older : Bool) → Streams older p b a → (e : Event) (c : Cursor) (n t : ℕ) (l : List ℕ) → Stands c
      → length l ≡ length (plane_of older b) → e.kind ≡ 2
      → Does e (flowed older p b a c n t l) (did (datum e.time e.value) (flowed older p b a c n t l)) 0 257
  data_at older s e c n t l d q k =
      does_data e (flowed older p b a c n t l) _ 0 k refl (sym (taken_at older s c n t e.time l d q))

  one_more : (older : Bool) → Streams older p b a → (e : Event) (c : Cursor) (n t : ℕ) (l : List ℕ) → Stands c
      → length l ≡ length (plane_of older b)
      → flows_by e.kind area c a.past_reported ≡ true
      → event_done e (flowed older p b a c n t l)
      ≡ flowed older p b a (on_from area c) (counted_of n) (max t e.time) (put_at area c e.value l)
  unfolding flows_by
  one_more older s e c n t l d q f =
      let g = each (eqb e.kind 2) _ f in
      let h = taken_at older s c n t e.time l d q in
      sym (data_at older s e c n t l d q (eqb-true e.kind 2 g.0)).done
      ∙ did_yes (datum e.time e.value) (flowed older p b a c n t l) (eq-eqb (turned_back false e.time (flowed older p b a c n t l)) 0 h)
      ∙ (λ i. world (record_at older s c n t e.time e.value g.1 i) (done_at older s c n t e.time e.value l g.1 i))

-- ---- where the cursor stands, and how long the plane is
on_stands : (r : Area) (c : Cursor) → InRam r → Stands c → Stands (on_from r c)
unfolding on_from
on_stands r c q d = by_cases (ltb r.y1 c.y) (λ h. rw h d) (λ h. rw h (next_stands r c q (ltb-false r.y1 c.y h)))

cursor_stands : (r : Area) (k : ℕ) (c : Cursor) → InRam r → Stands c → Stands (cursor_to r k c)
cursor_stands r zero c q d = d
cursor_stands r (suc k) c q d = on_stands r (cursor_to r k c) q (cursor_stands r k c q d)

length_put : (r : Area) (c : Cursor) (v : ℕ) (l : List ℕ) → length (put_at r c v l) ≡ length l
unfolding put_at
length_put r c v l = both (λ (m : List ℕ). length m ≡ length l) (ltb r.y1 c.y) refl (length_written l r c.x c.y v)

pub plane_length : (bytes : List ℕ) (i k : ℕ) (r : Area) (c : Cursor) (l : List ℕ) → length (plane_to bytes i k r c l) ≡ length l
plane_length bytes i zero r c l = refl
plane_length bytes i (suc k) r c l = length_put r (cursor_to r k c) (event_at bytes (i + k)).value (plane_to bytes i k r c l) ∙ plane_length bytes i k r c l

-- ---- k bytes of the run
module _ (older : Bool) (p : Uc8253) (b : Buffers) (a : Active) (s : Streams older p b a) (bytes : List ℕ) (i : ℕ) where
  in_ram : InRam (written_of p.regs)
  in_ram = written_in_range p.regs (registers_held p.regs s.home.regs)

  first_stands : Stands a.cursor
  first_stands = stands a (subst (λ (x : Current). bad_current x ≡ false) s.active s.home.stage)

  -- after k bytes
  abbrev reached : ℕ → World
  reached k = flowed older p b a (cursor_to (written_of p.regs) k a.cursor) (count_to k a.received) (clock_to bytes i k p.now) (plane_to bytes i k (written_of p.regs) a.cursor (plane_of older b))

  stands_at : (k : ℕ) → Stands (cursor_to (written_of p.regs) k a.cursor)
  stands_at k = cursor_stands (written_of p.regs) k a.cursor in_ram first_stands

  long_at : (k : ℕ) → length (plane_to bytes i k (written_of p.regs) a.cursor (plane_of older b)) ≡ length (plane_of older b)
  long_at k = plane_length bytes i k (written_of p.regs) a.cursor (plane_of older b)

  runs : (k : ℕ) → AllFlow bytes i k (written_of p.regs) a.cursor a.past_reported → ran_on bytes i k (world p b) ≡ reached k
  unfolding ran_on
  runs zero all = flowed_first p b a older s
  runs (suc k) all =
      ap (λ (w : World). event_done (event_at bytes (i + k)) w) (runs k (λ j h. all j (omega arith)))
      ∙ one_more p b a older s (event_at bytes (i + k)) _ _ _ _ (stands_at k) (long_at k) (all k (omega arith))

  does_at : (k j : ℕ) → j < k → AllFlow bytes i k (written_of p.regs) a.cursor a.past_reported
      → Does (event_at bytes (i + j)) (reached j)
      (did (datum (event_at bytes (i + j)).time (event_at bytes (i + j)).value) (reached j)) 0 257
  unfolding flows_by
  does_at k j h all =
      data_at p b a older s (event_at bytes (i + j)) _ _ _ _ (stands_at j) (long_at j) (eqb-true (event_at bytes (i + j)).kind 2 (each (eqb (event_at bytes (i + j)).kind 2) _ (all j h)).0)

  stretch : (k : ℕ) (v : World) → i + k ≤ events_in bytes → AllFlow bytes i k (written_of p.regs) a.cursor a.past_reported
      → v ≡ reached k → Stretch bytes i k (world p b) v
  stretch k v h all e =
      record {
        within = λ _. h;
        is = e ∙ sym (runs k all);
        taken = λ j l. ap (event_refused (event_at bytes (i + j))) (runs j (λ m n. all m (omega arith))) ∙ sym (does_at k j l all).turned;
        silent = λ j l. ap (event_answer (event_at bytes (i + j))) (runs j (λ m n. all m (omega arith))) ∙ sym (does_at k j l all).gives;
      }

-- ---- from the tests of the code
rest_is : (x : Work) → rests_by x ≡ true → x ≡ work.Nothing
rest_is work.Nothing e = refl
rest_is work.PowerOn e = absurd (false≢true e)
rest_is work.PowerOff e = absurd (false≢true e)
rest_is work.DeepSleep e = absurd (false≢true e)
rest_is work.SoftReset e = absurd (false≢true e)
rest_is work.HardwareReset e = absurd (false≢true e)
rest_is (work.Refresh r) e = absurd (false≢true e)

stream_is : (n : Params) → endless_by n ≡ true → n ≡ params.Stream
stream_is (params.Exactly n) e = absurd (false≢true e)
stream_is (params.Between m n) e = absurd (false≢true e)
stream_is params.Stream e = refl

pixels_are : (k : Kind) → pixels_by k ≡ true → k ≡ kind.Write params.Stream
pixels_are (kind.Write n) e = ap kind.Write (stream_is n e)
pixels_are kind.Read e = absurd (false≢true e)
pixels_are (kind.Unsupported n) e = absurd (false≢true e)
pixels_are kind.Unknown e = absurd (false≢true e)

streams : (older : Bool) (p : Uc8253) (b : Buffers) (a : Active) → calm_with p (lent_fits p.config b) ≡ true
    → Aimed p.stage.current a (command_for older) → Streams older p b a
unfolding calm_with
streams older p b a e m =
    let g = each (rests_by p.operation.work) _ e in
    let h = each (lent_fits p.config b) _ g.1 in
    record {
      resting = rest_is p.operation.work g.0;
      active = m.active;
      endless = pixels_are a.kind m.pixels;
      command = m.is;
      home = parts p (denied (foreign_record p) h.1);
      fits = h.0;
    }

-- no events
pub stretch_none : (bytes : List ℕ) (i : ℕ) (w : World) → Stretch bytes i 0 w w
unfolding ran_on
stretch_none bytes i w = record { within = λ h. omega (arith, h); is = refl; taken = λ j l. absurd (omega arith); silent = λ j l. absurd (omega arith) }

pub stretch_older : (bytes : List ℕ) (i : ℕ) (p : Uc8253) (b : Buffers) (a : Active) (m : List ℕ) (f : Flowed)
    → calm_with p (lent_fits p.config b) ≡ true → Aimed p.stage.current a 0x10 → FlowsInto bytes i p a b.old m f
    → Stretch bytes i f.done (world p b) (world f.chip (with_old m b))
stretch_older bytes i p b a m f e q r =
    stretch true p b a (streams true p b a e q) bytes i f.done _ r.within r.all (λ j. world (r.chip j) (with_old (r.plane j) b))

pub stretch_newer : (bytes : List ℕ) (i : ℕ) (p : Uc8253) (b : Buffers) (a : Active) (m : List ℕ) (f : Flowed)
    → calm_with p (lent_fits p.config b) ≡ true → Aimed p.stage.current a 0x13 → FlowsInto bytes i p a b.new m f
    → Stretch bytes i f.done (world p b) (world f.chip (with_new m b))
stretch_newer bytes i p b a m f e q r =
    stretch false p b a (streams false p b a e q) bytes i f.done _ r.within r.all (λ j. world (r.chip j) (with_new (r.plane j) b))

-- ---- the loop over the bytes of a run
more_flow : (bytes : List ℕ) (i k : ℕ) (r : Area) (c : Cursor) (reported : Bool) → AllFlow bytes i k r c reported
    → flows_by (event_at bytes (i + k)).kind r (cursor_to r k c) reported ≡ true → AllFlow bytes i (suc k) r c reported
more_flow bytes i k r c reported all last j h = elim (dec_le k j) [
  | yes g ↦ subst (λ (x : ℕ). flows_by (event_at bytes (i + x)).kind r (cursor_to r x c) reported ≡ true) (same_place k j g h) last
  | no g ↦ all j (omega (arith, g))
]
  where
    same_place : (k j : ℕ) → k ≤ j → j < suc k → k ≡ j
    same_place k j g h = omega arith

-- k bytes of a run from event i on, by what the loop holds: the plane m, the cursor d, the count o, the clock u
pub record Along (bytes : List ℕ) (i : ℕ) (r : Area) (reported : Bool) (c : Cursor) (n t : ℕ) (l m : List ℕ) (d : Cursor) (o u k : ℕ) : Type 0 where
  pub within : i + k ≤ events_in bytes
  pub all : AllFlow bytes i k r c reported
  pub stands : d ≡ cursor_to r k c
  pub count : o ≡ count_to k n
  pub clock : u ≡ clock_to bytes i k t
  pub plane : m ≡ plane_to bytes i k r c l

module _ {bytes : List ℕ} {i : ℕ} {r : Area} {reported : Bool} {c : Cursor} {n t : ℕ} {l : List ℕ} where
  pub along_first : i ≤ events_in bytes → Along bytes i r reported c n t l l c n t 0
  along_first h = record { within = omega arith; all = λ j m. absurd (omega arith); stands = refl; count = refl; clock = refl; plane = refl }

  pub along_more : {m m' : List ℕ} {d d' : Cursor} {o o' u u' k : ℕ} {e : Event}
      → Along bytes i r reported c n t l m d o u k
      → e ≡ event_at bytes (i + k) → flows_by e.kind r d reported ≡ true → i + k < events_in bytes
      → m' ≡ put_at r d e.value m → d' ≡ on_from r d → o' ≡ counted_of o → u' ≡ max u e.time → (k' : ℕ) → k' ≡ suc k
      → Along bytes i r reported c n t l m' d' o' u' k'
  along_more {k = k} {e = e} f q w h hm hd ho hu k' z =
      rw z
      (record {
        within = omega arith;
        all = more_flow bytes i k r c reported f.all (subst (λ (x : Event). flows_by x.kind r (cursor_to r k c) reported ≡ true) q (subst (λ (x : Cursor). flows_by e.kind r x reported ≡ true) f.stands w));
        stands = hd ∙ ap (on_from r) f.stands;
        count = ho ∙ ap counted_of f.count;
        clock = hu ∙ (λ j. max (f.clock j) (q j).time);
        plane = hm ∙ (λ j. put_at r (f.stands j) (q j).value (f.plane j));
      })

  pub along_length : {m : List ℕ} {d : Cursor} {o u k : ℕ} → Along bytes i r reported c n t l m d o u k → length m ≡ length l
  along_length {k = k} x = ap (λ (y : List ℕ). length y) x.plane ∙ plane_length bytes i k r c l

-- the record takes over what a run of bytes changed
pub into_of : (bytes : List ℕ) (i : ℕ) (p : Uc8253) (a : Active) (l m : List ℕ) (r : Area) (d : Cursor) (o u k : ℕ) → r ≡ written_of p.regs
    → Along bytes i r a.past_reported a.cursor a.received p.now l m d o u k
    → FlowsInto bytes i p a l m (record { chip = flowed_chip p a d o u; done = k })
into_of bytes i p a l m r d o u k e h =
    let g = subst (λ (x : Area). Along bytes i x a.past_reported a.cursor a.received p.now l m d o u k) e h in
    record { within = g.within; all = g.all; chip = λ j. flowed_chip p a (g.stands j) (g.count j) (g.clock j); plane = g.plane }
