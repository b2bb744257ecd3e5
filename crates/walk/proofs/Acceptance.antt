-- The table of acceptance, proved: what computes is proved in its line, what takes more before it.
use Rattle.std.proofs.Common.{None, Some}
use mathlib.Core.Path.{◌≡◌, refl, sym, ap, subst, ◌∙◌}
use mathlib.Core.Bool.{false}
use mathlib.Core.List.{List, [], ◌∷◌}
use Prim.Native.Nat.{ℕ, zero, suc, ◌+◌, ◌*◌, ◌-◌, ◌≤◌, ◌<◌, min, max}
use native.Mathlib.Nat.{div-lt_iff_lt-mul}
use native.Mathlib.Omega.{arith}
use lib.Dec.{lit<, lit≤, leb, eqb}
use lib.IntN.{ℤ, pos}
use lib.ListN.{length}
use borrow.Author.Tests.{eq-eqb}
use Rattle.base.proofs.Cases.{both}
use Rattle.config.specs.declared.Uc8253Config.{Uc8253Config}
use Rattle.config.specs.declared.Variant.{Variant}
use Rattle.config.specs.declared.Variant.TheVariants as variant
use Rattle.glass.specs.Walk.{hold, step, walk}
use Rattle.glass.proofs.WalkLaws.{step_up, step_down, step_within}
use Rattle.registers.specs.Bytes.{ten_bits, window_set, held_area, put_at, byte_of}
use Rattle.registers.specs.Luts.{reset_luts}
use Rattle.registers.specs.Reset.{reset_of}
use Rattle.registers.specs.Written.{active_of, written_of}
use Rattle.registers.proofs.Examples.{last_column_only, columns_8_to_23, column_8_only}
use Rattle.waveform.specs.Levels.{level_of_code}
use Rattle.waveform.specs.Tables.{ends}
use Rattle.waveform.proofs.TableLaws.{longest_empty}
use Rattle.command.specs.declared.kinds.Kind.TheVariants as kind
use Rattle.command.specs.Kinds.{kind_of}
use Rattle.controller.specs.declared.Active.{Active}
use Rattle.controller.specs.declared.Current.{Current}
use Rattle.controller.specs.declared.Current.TheVariants as current
use Rattle.controller.specs.declared.Operation.{Operation}
use Rattle.controller.specs.declared.Power.TheVariants as power
use Rattle.controller.specs.declared.Uc8253.{Uc8253}
use Rattle.controller.specs.Maybe.{Read}
use Rattle.controller.specs.World.{World, Buffers}
use Rattle.controller.specs.Setters.{mode_of}
use Rattle.controller.specs.Arrives.{timed, rest, ended_by, ended, arrived}
use Rattle.controller.specs.Command.{barred_note, begun, executed, command_byte}
use Rattle.controller.specs.Reading.{flags_of, bytes_of, byte_at, driven_byte, read_from, read_of}
use Rattle.controller.specs.Reading as byte
use Rattle.controller.specs.Refresh.{waveform_now}
use Rattle.controller.specs.Calls.{read_answer, first_chip, made}
use Rattle.controller.specs.Ask.{Ask, command, reading, record_after, refused_by, did}
use Rattle.controller.specs.Sound.{Sound}
use Rattle.controller.specs.Counting.{own}
use Rattle.controller.proofs.Sound.{sound_made, sound_done, never_turned}
use Rattle.controller.proofs.TurnedAway.{done_to, did_yes}
use Rattle.walk.specs.Machine.{frames_at}
use Rattle.walk.specs.OnePixel.{bench, slow}
use Rattle.walk.specs.Table.{power_bytes, drives_of_seven, AllEmpty, after_reads, answers, Made8279d, Table}
use Rattle.walk.proofs.Demand.{made_is}
use Rattle.walk.proofs.TwoDriven.{two_whole, states_two, cut_two, frames_two, state_two}
use Rattle.walk.proofs.Inhabited.{refresh_met, drive_met, three_met, state_before, state_after, luts_met, made_met}

-- ---- a register of five bytes
abbrev kept : List ℕ → List ℕ
kept l = put_at 5 4 0x03 (put_at 5 3 0x3A (put_at 5 2 0x3A (put_at 5 1 0x17 (put_at 5 0 0x07 l))))

five_kept : (l : List ℕ) → length l ≡ 5 → kept l ≡ power_bytes
unfolding put_at
five_kept [] e = absurd (omega arith)
five_kept (a ∷ []) e = absurd (omega arith)
five_kept (a ∷ b ∷ []) e = absurd (omega arith)
five_kept (a ∷ b ∷ c ∷ []) e = absurd (omega arith)
five_kept (a ∷ b ∷ c ∷ d ∷ []) e = absurd (omega arith)
five_kept (a ∷ b ∷ c ∷ d ∷ f ∷ []) e = refl
five_kept (a ∷ b ∷ c ∷ d ∷ f ∷ g ∷ l) e = absurd (omega arith)

-- ---- from every start
ends_at_7 : (x : ℕ) → x ≤ 14 → walk 14 x drives_of_seven ≡ 7
ends_at_7 x h =
    let a = step 14 x (pos 7) in
    let b = step 14 a (pos 7) in
    omega (arith, step_up 14 x 7, step_up 14 a 7, step_down 14 b 6 (step_within 14 a (pos 7)))

-- ---- the tables that a reset leaves
empty_reset : (p : Uc8253) → p.luts ≡ reset_luts → AllEmpty (waveform_now p)
unfolding waveform_now reset_luts ends
empty_reset p e zero = rw e
empty_reset p e (suc zero) = rw e
empty_reset p e (suc (suc zero)) = rw e
empty_reset p e (suc (suc (suc zero))) = rw e
empty_reset p e (suc (suc (suc (suc zero)))) = rw e
empty_reset p e (suc (suc (suc (suc (suc k))))) = rw e

-- ---- reads
-- a UC8279d as making leaves it, all that a read looks at
record Rested (p : Uc8253) : Type 0 where
  chip : p.config.variant ≡ variant.Uc8279d
  rests : p.operation ≡ rest
  mode : p.mode ≡ mode_of power.Running false false p.mode.vcom_by_frame
  whole : p.regs.partial ≡ false

abbrev identity : List ℕ
identity = 0x00 ∷ 0x03 ∷ 0x66 ∷ 0xFF ∷ 0xFF ∷ []

bytes_70 : (p : Uc8253) → Rested p → bytes_of 0x70 p ≡ identity
unfolding bytes_of
bytes_70 p r = refl

bytes_71 : (p : Uc8253) → Rested p → bytes_of 0x71 p ≡ 0x13 ∷ []
unfolding bytes_of flags_of
bytes_71 p r = rw (r.rests, r.mode, r.whole)

-- nothing comes to its end
arrives : (t : ℕ) (p : Uc8253) → p.operation ≡ rest → arrived t p ≡ timed t p
unfolding arrived ended
arrives t p e =
    both (λ (q : Uc8253). q ≡ timed t p) (leb p.operation.until (max p.now t))
    (ap (λ (o : Operation). ended_by o.work (timed t p)) e) refl

-- a sound world takes every call
takes : (a : Ask) (w : World) → Sound w → refused_by a w ≡ 0 → did a w ≡ done_to own a w
takes a w s e = did_yes a w (eq-eqb (refused_by a w) 0 e)

-- the command c under way, of which n bytes were read
abbrev order : ℕ → ℕ → Active
order c n = record {
  command = c;
  kind = kind.Read;
  received = 0;
  read = n;
  cursor = record { x = 0; y = 0 };
  extra_reported = false;
  past_reported = false;
}

record Under (c n : ℕ) (p : Uc8253) : Type 0 where
  rested : Rested p
  current : p.stage.current ≡ current.Active (order c n)

-- the record after a read: the log is not looked at
read_record : (c n t : ℕ) (p : Uc8253) → Under c n p → Under c (min (n + 1) 65535) (record_after own (reading t) p)
unfolding record_after byte.reading
read_record c n t p u =
    let r = u.rested in
    let here : Under c n (timed t p) = record {
      rested = record { chip = r.chip; rests = r.rests; mode = r.mode; whole = r.whole };
      current = u.current;
    } in
    let on : Under c (min (n + 1) 65535) (byte.reading_by (timed t p).stage.current (timed t p)) =
    subst (λ (x : Current). Under c (min (n + 1) 65535) (byte.reading_by x (timed t p))) (sym u.current)
    (record { rested = record { chip = r.chip; rests = r.rests; mode = r.mode; whole = r.whole }; current = refl }) in
    let told : Under c (min (n + 1) 65535) (byte.reading (arrived t p)) =
    subst (λ (q : Uc8253). Under c (min (n + 1) 65535) (byte.reading q)) (sym (arrives t p r.rests)) on in
    let v = told.rested in
    record { rested = record { chip = v.chip; rests = v.rests; mode = v.mode; whole = v.whole }; current = told.current }

-- reads of a command that gives these bytes
module _ (c : ℕ) (bs : List ℕ) (gives : (p : Uc8253) → Rested p → bytes_of c p ≡ bs) where
  reads : (n : ℕ) (p : Uc8253) → Under c n p → read_of p ≡ byte_at bs n
  unfolding read_of
  reads n p u =
      ap (λ (x : Current). read_from x p) u.current
      ∙ ap (λ (v : Variant). driven_byte v p c n) u.rested.chip
      ∙ ap (λ (l : List ℕ). byte_at l n) (gives p u.rested)

  answer : (t n : ℕ) (w : World) → Sound w → Under c n w.chip → read_answer t w ≡ byte_at bs n
  unfolding read_answer
  answer t n w s u =
      let r = u.rested in
      let a : arrived t w.chip ≡ timed t w.chip = arrives t w.chip r.rests in
      rw (never_turned false t w s, a)
      (reads n (timed t w.chip)
      (record { rested = record { chip = r.chip; rests = r.rests; mode = r.mode; whole = r.whole }; current = u.current }))

  read_sound : (t : ℕ) (w : World) → Sound w → Sound (did (reading t) w)
  read_sound t w s = subst (λ (v : World). Sound v) (sym (takes (reading t) w s (never_turned false t w s))) (sound_done (reading t) w tt s)

  read_under : (t n : ℕ) (w : World) → Sound w → Under c n w.chip → Under c (min (n + 1) 65535) (did (reading t) w).chip
  read_under t n w s u =
      subst (λ (v : World). Under c (min (n + 1) 65535) v.chip) (sym (takes (reading t) w s (never_turned false t w s)))
      (read_record c n t w.chip u)

  -- a read for each of the times, from byte number n on
  abbrev listed : ℕ → List ℕ → List Read
  listed n [] = []
  listed n (t ∷ ts) = byte_at bs n ∷ listed (min (n + 1) 65535) ts

  answers_listed : (ts : List ℕ) (n : ℕ) (w : World) → Sound w → Under c n w.chip → answers ts w ≡ listed n ts
  answers_listed [] n w s u = refl
  answers_listed (t ∷ ts) n w s u =
      λ i. answer t n w s u i ∷ answers_listed ts (min (n + 1) 65535) (did (reading t) w) (read_sound t w s) (read_under t n w s u) i

  last_answer : (m u : ℕ) → m ≤ 65535 → ((n : ℕ) → m ≤ n → byte_at bs n ≡ None)
      → (ts : List ℕ) (n : ℕ) (w : World) → Sound w → Under c n w.chip → m ≤ n + length ts → read_answer u (after_reads ts w) ≡ None
  last_answer m u most none [] n w s o h = answer u n w s o ∙ none n (omega arith)
  last_answer m u most none (t ∷ ts) n w s o h =
      last_answer m u most none ts (min (n + 1) 65535) (did (reading t) w) (read_sound t w s) (read_under t n w s o) (omega arith)

past_70 : (n : ℕ) → 5 ≤ n → byte_at identity n ≡ None
past_70 zero h = absurd (omega arith)
past_70 (suc zero) h = absurd (omega arith)
past_70 (suc (suc zero)) h = absurd (omega arith)
past_70 (suc (suc (suc zero))) h = absurd (omega arith)
past_70 (suc (suc (suc (suc zero)))) h = absurd (omega arith)
past_70 (suc (suc (suc (suc (suc n))))) h = refl

-- the command after making
module _ (g : Uc8253Config) (b : Buffers) (h : Made8279d g b) (t : ℕ) where
  made_sound : Sound (made g b)
  made_sound = sound_made g b h.gray h.accepted

  command_sound : (c : ℕ) → c < 256 → Sound (did (command t c) (made g b))
  command_sound c l =
      subst (λ (v : World). Sound v) (sym (takes (command t c) (made g b) made_sound (never_turned false t (made g b) made_sound)))
      (sound_done (command t c) (made g b) l made_sound)

  command_is : (c : ℕ) → (did (command t c) (made g b)).chip ≡ record_after own (command t c) (first_chip g)
  command_is c =
      ap (λ (v : World). v.chip) (takes (command t c) (made g b) made_sound (never_turned false t (made g b) made_sound))
      ∙ ap (λ (v : World). record_after own (command t c) v.chip) (made_is g b h.accepted)

  -- nothing has come to its end, and the log is not looked at
  under_command : (c : ℕ) → Under c 0 (command_byte own c (timed t (first_chip g))) → Under c 0 (did (command t c) (made g b)).chip
  unfolding first_chip record_after
  under_command c u =
      let v : Under c 0 (command_byte own c (arrived t (first_chip g))) =
      subst (λ (p : Uc8253). Under c 0 (command_byte own c p)) (sym (arrives t (first_chip g) refl)) u in
      let r = v.rested in
      subst (λ (p : Uc8253). Under c 0 p) (sym (command_is c))
      (record { rested = record { chip = r.chip; rests = r.rests; mode = r.mode; whole = r.whole }; current = v.current })

  under_70 : Under 0x70 0 (did (command t 0x70) (made g b)).chip
  unfolding first_chip command_byte barred_note kind_of begun executed reset_of active_of written_of
  under_70 =
      under_command 0x70 (record { rested = record { chip = h.chip; rests = refl; mode = refl; whole = refl }; current = refl })

  under_71 : Under 0x71 0 (did (command t 0x71) (made g b)).chip
  unfolding first_chip command_byte barred_note kind_of begun executed reset_of active_of written_of
  under_71 =
      under_command 0x71 (record { rested = record { chip = h.chip; rests = refl; mode = refl; whole = refl }; current = refl })

pub acceptance : Table
unfolding level_of_code reset_of put_at byte_of ten_bits active_of window_set held_area step hold waveform_now reset_luts ends frames_at
acceptance = record {
  level_1 = refl;
  level_2 = refl;
  level_3 = refl;
  level_0 = refl;
  level_bytes = λ r e. five_kept r.power e;
  level_3_f = refl;
  level_40 = refl;
  gray_1 = refl;
  gray_0 = λ s h. omega (arith, (div-lt_iff_lt-mul {k = 2 * s} {x = 2 * (0 * 255) + s} {y = 1} (omega arith)).1 (omega arith));
  column_799 = λ r. (omega arith, omega arith);
  area_799 = last_column_only;
  columns_8_23 = λ r. (omega arith, omega arith);
  window_8_23 = columns_8_to_23;
  column_8 = λ r e s. rw (e, s) (refl, refl);
  area_8 = column_8_only;
  swing_14 = ends_at_7;
  swing_15_from_0 = refl;
  swing_15_from_15 = refl;
  elapsed_2 = λ p r f n. two_whole p.config.timing.rate p.now p.operation.started p.waveform.frame_ns r f n;
  states_2 = states_two;
  walk_2 = cut_two;
  frames_2 = λ g m r end h p. rw (cut_two g m r end h);
  state_of_3 = state_two;
  frames_of_3 = frames_two;
  refresh_met = refresh_met;
  drive_met = drive_met;
  three_met = three_met;
  state_before = state_before;
  state_after = state_after;
  empty_long = λ w e h. rw (longest_empty w.tables e) (omega arith);
  empty_driven = λ w e black k. both (λ (ds : List ℤ). ds ≡ []) w.vcom_by_frame (rw (e k)) (rw (e k));
  empty_reset = empty_reset;
  empty_met = λ v. empty_reset (made (slow v) bench).chip (luts_met v);
  made_met = made_met;
  read_71 = λ c b h t t0 t1.
      answers_listed 0x71 (0x13 ∷ []) bytes_71 (t0 ∷ t1 ∷ []) 0 (did (command t 0x71) (made c b))
      (command_sound c b h t 0x71 (lit< tt)) (under_71 c b h t);
  read_70 = λ c b h t t0 t1 t2 t3 t4 t5.
      answers_listed 0x70 identity bytes_70 (t0 ∷ t1 ∷ t2 ∷ t3 ∷ t4 ∷ t5 ∷ []) 0 (did (command t 0x70) (made c b))
      (command_sound c b h t 0x70 (lit< tt)) (under_70 c b h t);
  then_none = λ c b h t u ts l.
      last_answer 0x70 identity bytes_70 5 u (lit≤ tt) past_70 ts 0 (did (command t 0x70) (made c b))
      (command_sound c b h t 0x70 (lit< tt)) (under_70 c b h t) (omega arith);
}
