-- Document 01, "A data byte": after the soft reset by the first byte of 00 later bytes are ignored silently, and so is the command's end.
-- The command that `soft_of` leaves under way has had its byte, and the bytes past it count as reported; no later byte changes that.
use Rattle.std.proofs.Common.{None}
use mathlib.Core.Path.{◌≡◌, refl, sym, ap, ◌∙◌, subst}
use mathlib.Core.Bool.{Bool, true, false, false≢true}
use mathlib.Core.List.{List, [], ◌∷◌}
use Prim.Native.Nat.{ℕ, ◌≤◌, max}
use native.Mathlib.Omega.{arith}
use lib.Dec.{leb}
use borrow.Author.Tests.{le-ltb}
use Rattle.base.specs.Pick.{pick}
use Rattle.base.proofs.Cases.{both}
use Rattle.registers.specs.Flags.{bit_set}
use Rattle.registers.specs.Written.{written_of}
use Rattle.command.specs.declared.kinds.Kind.TheVariants as kind
use Rattle.command.specs.declared.kinds.Params.{Params}
use Rattle.command.specs.declared.kinds.Params.TheVariants as params
use Rattle.command.specs.Kinds.{kind_of}
use Rattle.controller.specs.declared.drives.Drive.TheVariants as drive
use Rattle.controller.specs.declared.Active.{Active}
use Rattle.controller.specs.declared.Current.{Current}
use Rattle.controller.specs.declared.Current.TheVariants as current
use Rattle.controller.specs.declared.Work.{Work}
use Rattle.controller.specs.declared.Work.TheVariants as work
use Rattle.controller.specs.declared.Uc8253.{Uc8253}
use Rattle.controller.specs.Maybe.{Note}
use Rattle.controller.specs.declared.uses.Use.{Use}
use Rattle.controller.specs.declared.uses.Use.TheVariants as use-for
use Rattle.controller.specs.World.{Buffers}
use Rattle.controller.specs.Setters.{with_now, with_operation, with_current, with_rows}
use Rattle.controller.specs.Tell.{row_noted}
use Rattle.controller.specs.Arrives.{rest, timed, ended_by, ended, arrived}
use Rattle.controller.specs.Command.{closing_note}
use Rattle.controller.specs.DataByte.{more_of, soft_of, doing, purpose_of, under, soft_reset, used_note}
use Rattle.controller.specs.DataByte.{for_old, for_new, put_at, taken_by, plane_byte}
use Rattle.controller.specs.Planes.{copied_by, old_arrived}
use Rattle.controller.specs.Glass.{driven_at, states_by, picture_by}
use Rattle.controller.specs.TurnedBack.{refresh_runs, ends_refresh}
use Rattle.controller.specs.Counting.{own}
use Rattle.controller.specs.Ask as ask
use Rattle.controller.specs.Ask.{record_after, old_after, new_after, rows_after, lent_after}
use Rattle.controller.proofs.Keeps.{kept_arrived}
use Rattle.controller.proofs.Meanwhile.{Meanwhile, datum, reading, advance, ask_of, Diary, came_one, came_all}
use Rattle.controller.proofs.Meanwhile.{diagnosed, closes, leaving, here, byte_is, read_is, close_is}

-- all but the clock, the command under way and what runs
abbrev pub apart : Uc8253 → Uc8253
apart p = with_now 0 (with_current current.Idle (with_operation rest p))

-- the diagnostics, stored and dropped, and their rows are in it
abbrev pub besides : Diary → Diary
besides d = record { chip = apart d.chip; rows = d.rows }

-- ---- what stays so from byte to byte: the command that is left under way, and what runs
abbrev resets : Work → Bool
resets work.Nothing = true
resets work.PowerOn = false
resets work.PowerOff = false
resets work.DeepSleep = false
resets work.SoftReset = true
resets work.HardwareReset = false
resets (work.Refresh r) = false

-- nothing, or the soft reset
resting : (P : Work → Type 0) → P work.Nothing → P work.SoftReset → (x : Work) → resets x ≡ true → P x
resting P p q work.Nothing e = p
resting P p q work.SoftReset e = q
resting P p q work.PowerOn e = absurd (false≢true e)
resting P p q work.PowerOff e = absurd (false≢true e)
resting P p q work.DeepSleep e = absurd (false≢true e)
resting P p q work.HardwareReset e = absurd (false≢true e)
resting P p q (work.Refresh r) e = absurd (false≢true e)

record Spent (a : Active) (c : Current) (x : Work) : Type 0 where
  is : c ≡ current.Active a
  zero : a.command ≡ 0x00
  one : a.kind ≡ kind.Write (params.Exactly 1)
  had : 1 ≤ a.received
  reported : a.extra_reported ≡ true
  runs : resets x ≡ true

abbrev SpentIn : Active → Uc8253 → Type 0
SpentIn a p = Spent a p.stage.current p.operation.work

record After (a : Active) (d e : Diary) : Type 0 where
  spent : SpentIn a e.chip
  left : besides e ≡ besides d

-- time goes by: only the soft reset can come to its end
in_time : (t : ℕ) (p : Uc8253) → resets p.operation.work ≡ true
    → (resets (arrived t p).operation.work ≡ true) × (apart (arrived t p) ≡ apart p)
unfolding arrived ended
in_time t p runs =
    let P : Uc8253 → Type 0 = λ q. (resets q.operation.work ≡ true) × (apart q ≡ apart p) in
    both P (leb p.operation.until (max p.now t))
    (resting (λ (x : Work). P (ended_by x (timed t p))) (runs, refl) (refl, refl) p.operation.work runs) (runs, refl)

-- a byte more is counted
quietly : (b : ℕ) (a : Active) (c : Current) (x : Work) → Spent a c x → purpose_of a b ≡ use-for.Quiet
unfolding purpose_of
quietly b a c x s = rw (s.one, le-ltb a.received 1 s.had, s.reported)

abbrev counted : Meanwhile → Active → Active
counted (datum t b) a = more_of a
counted (reading t) a = a
counted (advance t) a = a

waited : (t : ℕ) (a : Active) (d : Diary) → SpentIn a d.chip → After a d (came_one (ask.advance t) d)
unfolding record_after rows_after
waited t a d s =
    let on = in_time t d.chip s.runs in
    record {
      spent = record {
        is = here t d a s.is;
        zero = s.zero;
        one = s.one;
        had = s.had;
        reported = s.reported;
        runs = on.0;
      };
      left = λ i. record { chip = on.1 i; rows = d.rows };
    }

came : (x : Meanwhile) (a : Active) (d : Diary) → SpentIn a d.chip → After (counted x a) d (came_one (ask_of x) d)
came (datum t b) a d s =
    let on = in_time t d.chip s.runs in
    subst (λ (e : Diary). After (more_of a) d e) (sym (byte_is t d a s.is use-for.Quiet b (quietly b a _ _ s)))
    (record {
      spent = record {
        is = refl;
        zero = s.zero;
        one = s.one;
        had = omega (arith, s.had);
        reported = s.reported;
        runs = on.0;
      };
      left = λ i. record { chip = on.1 i; rows = d.rows };
    })
came (reading t) a d s =
    subst (λ (e : Diary). After a d e) (sym (read_is t d a s.is (params.Exactly 1) s.one)) (waited t a d s)
came (advance t) a d s = waited t a d s

abbrev counted_all : List Meanwhile → Active → Active
counted_all [] a = a
counted_all (x ∷ xs) a = counted_all xs (counted x a)

later : (xs : List Meanwhile) (a : Active) (d : Diary) → SpentIn a d.chip → After (counted_all xs a) d (came_all xs d)
later [] a d s = record { spent = s; left = refl }
later (x ∷ xs) a d s =
    let on = came x a d s in
    let more = later xs (counted x a) (came_one (ask_of x) d) on.spent in
    record { spent = more.spent; left = more.left ∙ on.left }

-- ---- what is lent: a byte of no plane that tells nothing leaves what an advance leaves, and so does a read
module _ (t : ℕ) (a : Active) (p : Uc8253) (is : p.stage.current ≡ current.Active a) (l : Buffers) where
  abbrev diary : Diary
  diary = record { chip = p; rows = l.rows }

  plane_is : (mine : Use → Bool) (b : ℕ) → mine (purpose_of a b) ≡ false → (m : List ℕ) → plane_byte mine b (arrived t p) m ≡ m
  unfolding plane_byte
  plane_is mine b none m =
      let area = written_of (arrived t p).regs in
      ap (λ (x : Current). taken_by mine x b area m) (here t diary a is)
      ∙ ap (λ (y : Bool). pick y (put_at area a.cursor b m) m) none

  byte_lent : (u : Use) (b : ℕ) → purpose_of a b ≡ u → used_note u a b (arrived t p) ≡ None → for_old u ≡ false → for_new u ≡ false
      → lent_after own (ask.datum t b) p l ≡ lent_after own (ask.advance t) p l
  unfolding lent_after old_after new_after rows_after
  byte_lent u b f tells old new =
      let told = ap (λ (d : Diary). d.rows) (byte_is t diary a is u b f)
      ∙ ap (λ (n : Note). row_noted n (max p.now t) p.log l.rows) tells in
      λ i. record {
        old = plane_is for_old b (ap for_old f ∙ old) (old_arrived t p l.old l.new) i;
        new = plane_is for_new b (ap for_new f ∙ new) l.new i;
        states = (lent_after own (ask.advance t) p l).states;
        picture = (lent_after own (ask.advance t) p l).picture;
        rows = told i;
      }

  read_lent : (n : Params) → a.kind ≡ kind.Write n → lent_after own (ask.reading t) p l ≡ lent_after own (ask.advance t) p l
  unfolding lent_after old_after new_after
  read_lent n f = ap (λ (d : Diary). with_rows d.rows (lent_after own (ask.advance t) p l)) (read_is t diary a is n f)

-- and an advance leaves all as it was lent, where nothing runs or the soft reset does
wait_lent : (t : ℕ) (p : Uc8253) → resets p.operation.work ≡ true → (l : Buffers) → lent_after own (ask.advance t) p l ≡ l
unfolding lent_after old_after new_after rows_after old_arrived driven_at ends_refresh
wait_lent t p runs l =
    let copies : old_arrived t p l.old l.new ≡ l.old
    = both (λ (m : List ℕ). m ≡ l.old) (leb p.operation.until (max p.now t))
    (resting (λ (x : Work). copied_by x p l.old l.new ≡ l.old) refl refl p.operation.work runs) refl in
    let drives : driven_at own false t p ≡ drive.Nothing
    = rw (resting (λ (x : Work). refresh_runs x ≡ false) refl refl p.operation.work runs) in
    λ i.
    let states = states_by (drives i) p l.old l.new l.states in
    record { old = copies i; new = l.new; states = states; picture = picture_by (drives i) p states l.picture; rows = l.rows }

spares : (x : Meanwhile) (a : Active) (p : Uc8253) → SpentIn a p → (l : Buffers) → lent_after own (ask_of x) p l ≡ l
spares (datum t b) a p s l = byte_lent t a p s.is l use-for.Quiet b (quietly b a _ _ s) refl refl refl ∙ wait_lent t p s.runs l
spares (reading t) a p s l = read_lent t a p s.is l (params.Exactly 1) s.one ∙ wait_lent t p s.runs l
spares (advance t) a p s l = wait_lent t p s.runs l

-- the end of the command
ends : (a : Active) (c : Current) (x : Work) → Spent a c x → closing_note a ≡ None
unfolding closing_note
ends a c x s = rw (s.one, le-ltb a.received 1 s.had, s.zero)

-- ---- the first byte of 00, with bit 0 clear
module _ (u b : ℕ) (a : Active) (d : Diary) (is : d.chip.stage.current ≡ current.Active a) (zero : a.command ≡ 0x00)
    (k : a.kind ≡ kind_of 0x00 d.chip.config.variant) (first : a.received ≡ 0) (clear : bit_set b 0 ≡ false) where
  abbrev pub softened : Diary
  softened = came_one (ask.datum u b) d

  softly : purpose_of a b ≡ use-for.Soft
  unfolding purpose_of doing kind_of
  softly = rw (k, first, zero, clear)

  soft_is : softened ≡ leaving None (max d.chip.now u) (under (soft_of (more_of a)) (soft_reset own (arrived u d.chip))) d
  soft_is = byte_is u d a is use-for.Soft b softly

  spent : SpentIn (soft_of (more_of a)) softened.chip
  spent =
      subst (λ (e : Diary). SpentIn (soft_of (more_of a)) e.chip) (sym soft_is)
      (record { is = refl; zero = zero; one = refl; had = omega (arith, first); reported = refl; runs = refl })

  -- it tells nothing itself, and of what is lent it changes no more than an advance to its time
  pub soft_silent : (diagnosed softened ≡ diagnosed d)
      × ((l : Buffers) → lent_after own (ask.datum u b) d.chip l ≡ lent_after own (ask.advance u) d.chip l)
  soft_silent = (
    ap diagnosed soft_is ∙ rw (kept_arrived u d.chip).log,
    λ l. byte_lent u a d.chip is l use-for.Soft b softly refl refl refl,
  )

  -- no later byte of the command tells or changes anything (no kind 4, no register), nor does a read or an advance
  pub soft_later : (xs : List Meanwhile) → besides (came_all xs softened) ≡ besides softened
  soft_later xs = (later xs _ softened spent).left

  -- nor does any of them change what is lent: no pixel of the planes, no state, no row
  pub soft_spares : (xs : List Meanwhile) (x : Meanwhile) (l : Buffers) → lent_after own (ask_of x) (came_all xs softened).chip l ≡ l
  soft_spares xs x l = spares x _ (came_all xs softened).chip (later xs _ softened spent).spent l

  -- nor does its end tell anything, whenever that comes (no kind 5); the arrival of the call that ends it is an advance
  pub soft_closed : (xs : List Meanwhile) (t : ℕ) → closes t (came_all xs softened) ≡ diagnosed softened
  soft_closed xs t =
      let on = later xs _ softened spent in
      close_is t (came_all xs softened) _ on.spent.is None (ends _ _ _ on.spent) ∙ ap diagnosed on.left
