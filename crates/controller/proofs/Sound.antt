-- Making gives a sound record and every call leaves it sound, and no call on it that is lent its buffers is turned back.
use Rattle.std.proofs.Common.{None, Some}
use mathlib.Core.Path.{◌≡◌, refl, sym, ap, subst, ◌∙◌}
use mathlib.Core.Bool.{Bool, true, false, ◌&&◌, and-false}
use mathlib.Core.List.{List, [], ◌∷◌}
use Prim.Native.Nat.{ℕ, ◌*◌, ◌≤◌, ◌<◌, max}
use native.Mathlib.Omega.{arith}
use lib.Dec.{eqb, ltb, leb}
use lib.ListN.{length, length-replicate}
use borrow.Author.Tests.{eqb-true, eq-eqb, le-ltb, ltb-false}
use Rattle.base.specs.Pick.{one_of}
use Rattle.base.proofs.Cases.{by_cases, both}
use Rattle.config.specs.declared.Uc8253Config.{Uc8253Config}
use Rattle.config.specs.Refusal.{refusal}
use Rattle.registers.specs.declared.Area.{Area}
use Rattle.registers.specs.declared.Pair.{Pair}
use Rattle.registers.specs.declared.Registers.{Registers}
use Rattle.registers.specs.Range.{InTenBits, InRange}
use Rattle.registers.specs.Bytes.{byte_of}
use Rattle.registers.specs.Flags.{copies_new_to_old}
use Rattle.registers.specs.Luts.{reset_luts, lut_byte_of}
use Rattle.registers.specs.Reset.{reset_of}
use Rattle.registers.specs.Written.{written_of}
use Rattle.registers.proofs.RangeLaws.{reset_in_range, byte_in_range, written_in_range}
use Rattle.ram.specs.declared.Cursor.{Cursor}
use Rattle.ram.proofs.WriteLaws.{length_written}
use Rattle.ram.proofs.CopyLaws.{length_copied}
use Rattle.command.specs.declared.kinds.Kind.{Kind}
use Rattle.command.specs.declared.kinds.Kind.TheVariants as kind
use Rattle.command.specs.Kinds.{kind_of}
use Rattle.glass.specs.Gray.{level_of}
use Rattle.diagnostic_log.specs.Log.{log_emptied}
use Rattle.pixels.specs.States.{every_state}
use Rattle.pixels.proofs.StateLaws.{states_replicate, level_within}
use Rattle.controller.specs.declared.Power.{Power}
use Rattle.controller.specs.declared.Power.TheVariants as power
use Rattle.controller.specs.declared.Work.{Work}
use Rattle.controller.specs.declared.Work.TheVariants as work
use Rattle.controller.specs.declared.Active.{Active}
use Rattle.controller.specs.declared.Current.{Current}
use Rattle.controller.specs.declared.Current.TheVariants as current
use Rattle.controller.specs.declared.Uc8253.{Uc8253}
use Rattle.controller.specs.Maybe.{Note}
use Rattle.controller.specs.declared.uses.Use.{Use}
use Rattle.controller.specs.declared.uses.Use.TheVariants as use-for
use Rattle.controller.specs.World.{World, Buffers, world}
use Rattle.controller.specs.Setters.{with_vcom_rule}
use Rattle.controller.specs.Arrives.{timed, rest, ended_by, ended, arrived}
use Rattle.controller.specs.Refresh.{published, ended_refresh, cut_refresh}
use Rattle.controller.specs.Command.{barred_note, ignoring, begun, with_partial, executed, sorted_by, passed_by, command_byte}
use Rattle.controller.specs.DataByte.{more_of, extra_of, past_of, soft_of, purpose_of, under, past_row, pixel_chip, pixel_byte, soft_reset}
use Rattle.controller.specs.DataByte.{register_byte, used_by, given_by, data_byte, put_at, taken_by, for_old, for_new, plane_byte}
use Rattle.controller.specs.Reading.{read_more, after_read, reading_by}
use Rattle.controller.specs.Reading as byte
use Rattle.controller.specs.Reset.{cut_by, cleared, lowered_by, raised_by, reset_edge}
use Rattle.controller.specs.Planes.{copied_by, old_arrived}
use Rattle.controller.specs.TurnedBack.{bad_config, bad_pair, bad_registers, bad_current, lent_fits, refresh_runs, ends_refresh}
use Rattle.controller.specs.TurnedBack.{foreign_contents, foreign_record, turned_back, making_refused}
use Rattle.controller.specs.Calls.{first_chip, first_buffers, made}
use Rattle.controller.specs.Sound.{SoundChip, Sound}
use Rattle.controller.specs.Counting.{own}
use Rattle.controller.specs.Ask.{Ask, command, datum, reading, advance, reset, vcom_rule, taking, ask_busy, ask_deadline, ask_bit, ask_row, ask_picture}
use Rattle.controller.specs.Ask.{IsByte, When, at, whenever, when_of, clock_when, chip_after, told_by, record_after, copied_when, put_by}
use Rattle.controller.specs.Ask.{old_after, new_after, rows_after, driven_by, lent_after}
use Rattle.controller.proofs.Parts.{Lengths, lengths, fitting, sound_regs, sound_luts, sound_mode, sound_current, sound_image, sound_log}
use Rattle.controller.proofs.Parts.{sound_now, sound_operation, sound_told, told_length, good_area, Stands, stands, good_cursor, next_stands}
use Rattle.controller.proofs.Glass.{states_length, states_sound, picture_length, sound_refreshed}
use Rattle.controller.proofs.Keeps.{config_after}
use Rattle.controller.proofs.TurnedAway.{done_to}

-- ---- a call arrives
sound_ended_by : (x : Work) (p : Uc8253) → SoundChip p → SoundChip (ended_by x p)
unfolding ended_refresh
sound_ended_by work.Nothing p s = s
sound_ended_by work.PowerOn p s = sound_operation rest _ refl (sound_mode _ p s)
sound_ended_by work.PowerOff p s = sound_operation rest _ refl (sound_mode _ p s)
sound_ended_by work.DeepSleep p s = sound_operation rest _ refl (sound_mode _ p s)
sound_ended_by work.SoftReset p s = sound_operation rest p refl s
sound_ended_by work.HardwareReset p s = sound_operation rest p refl s
sound_ended_by (work.Refresh r) p s = sound_operation rest _ refl (sound_image _ p s)

sound_ended : (p : Uc8253) → SoundChip p → SoundChip (ended p)
unfolding ended
sound_ended p s = both SoundChip (leb p.operation.until p.now) (sound_ended_by p.operation.work p s) s

pub sound_arrived : (t : ℕ) (p : Uc8253) → SoundChip p → SoundChip (arrived t p)
unfolding arrived
sound_arrived t p s = sound_ended (timed t p) (sound_now (max p.now t) p s)

-- ---- a command byte
sound_ignoring : (p : Uc8253) → SoundChip p → SoundChip (ignoring p)
sound_ignoring p s = sound_current current.Ignoring p refl s

pub sound_begun : (c : ℕ) (k : Kind) (p : Uc8253) → SoundChip p → SoundChip (begun c k p)
unfolding begun
sound_begun c k p s =
    let r = written_in_range p.regs s.regs in
    sound_current (begun c k p).stage.current p
    (rw (le-ltb 799 (written_of p.regs).x0 r.x0_most, le-ltb 600 (written_of p.regs).y0 (omega (arith, r.y0_most))))
    s

same_range : (x : Bool) (r : Registers) → InRange r → InRange (with_partial x r)
same_range x r q = record { resolution_held = q.resolution_held; start_held = q.start_held; window_held = q.window_held }

sound_executed : (c : ℕ) (p : Uc8253) → SoundChip p → SoundChip (executed own c p)
unfolding executed
sound_executed c p s =
    both SoundChip (eqb c 0x04) (both SoundChip p.mode.powered s (sound_operation _ p refl s))
    (both SoundChip (eqb c 0x02) (both SoundChip p.mode.powered (sound_operation _ p refl s) s)
    (both SoundChip (eqb c 0x12) (sound_refreshed p s)
    (both SoundChip (eqb c 0x91) (sound_regs (with_partial true p.regs) p (same_range true p.regs s.regs) s)
    (both SoundChip (eqb c 0x92) (sound_regs (with_partial false p.regs) p (same_range false p.regs s.regs) s)
    (both SoundChip (one_of (0x10 ∷ 0x13 ∷ []) c) (sound_mode _ p s)
    (both SoundChip (eqb c 0x11) (sound_mode _ p s)
    s))))))

sound_sorted_by : (k : Kind) (c : ℕ) (p : Uc8253) → SoundChip p → SoundChip (sorted_by own k c p)
sound_sorted_by kind.Unknown c p s = sound_ignoring p s
sound_sorted_by (kind.Unsupported n) c p s = sound_begun c (kind.Unsupported n) p s
sound_sorted_by (kind.Write n) c p s = sound_executed c _ (sound_begun c (kind.Write n) p s)
sound_sorted_by kind.Read c p s = sound_executed c _ (sound_begun c kind.Read p s)

sound_passed_by : (n : Note) (c : ℕ) (p : Uc8253) → SoundChip p → SoundChip (passed_by own n c p)
sound_passed_by (Some d) c p s = sound_ignoring p s
sound_passed_by None c p s = sound_sorted_by (kind_of c p.config.variant) c p s

sound_command : (c : ℕ) (p : Uc8253) → SoundChip p → SoundChip (command_byte own c p)
unfolding command_byte
sound_command c p s = sound_passed_by (barred_note p.mode.power p.operation.work c) c p s

-- ---- a data byte
sound_under : (a : Active) (p : Uc8253) → Stands a.cursor → SoundChip p → SoundChip (under a p)
sound_under a p c s = sound_current (current.Active a) p (good_cursor a c) s

sound_pixel : (a : Active) (p : Uc8253) → Stands a.cursor → SoundChip p → SoundChip (pixel_byte a p)
unfolding pixel_byte pixel_chip
sound_pixel a p c s =
    let area = written_of p.regs in
    by_cases (past_row area a.cursor)
    (λ t. rw t (sound_under (past_of a) p c s))
    (λ t. rw t (sound_under _ p (next_stands area a.cursor (written_in_range p.regs s.regs) (ltb-false area.y1 a.cursor.y t)) s))

sound_soft : (p : Uc8253) → SoundChip p → SoundChip (soft_reset own p)
sound_soft p s =
    sound_operation _ _ refl
    (sound_mode _ _ (sound_luts reset_luts _ (sound_regs (reset_of p.config.variant) p (reset_in_range p.config.variant) s)))

sound_register : (a : Active) (b : ℕ) (p : Uc8253) → b < 256 → SoundChip p → SoundChip (register_byte a b p)
sound_register a b p h s =
    sound_luts (lut_byte_of a.command a.received b p.luts) _
    (sound_regs (byte_of a.command a.received b p.regs) p (byte_in_range a.command a.received b p.regs s.regs h) s)

sound_used_by : (u : Use) (a : Active) (b : ℕ) (p : Uc8253) → b < 256 → Stands a.cursor → SoundChip p → SoundChip (used_by own u a b p)
sound_used_by use-for.Extra a b p h c s = sound_under (extra_of (more_of a)) p c s
sound_used_by use-for.Quiet a b p h c s = sound_under (more_of a) p c s
sound_used_by use-for.Soft a b p h c s = sound_under (soft_of (more_of a)) _ c (sound_soft p s)
sound_used_by use-for.Sleep a b p h c s = sound_under (more_of a) _ c (sound_operation _ p refl s)
sound_used_by use-for.Wrong a b p h c s = sound_under (more_of a) p c s
sound_used_by use-for.Register a b p h c s = sound_under (more_of a) _ c (sound_register a b p h s)
sound_used_by use-for.Older a b p h c s = sound_pixel (more_of a) p c s
sound_used_by use-for.Newer a b p h c s = sound_pixel (more_of a) p c s

sound_given_by : (x : Current) (b : ℕ) (p : Uc8253) → b < 256 → bad_current x ≡ false → SoundChip p → SoundChip (given_by own x b p)
sound_given_by current.Idle b p h e s = sound_ignoring p s
sound_given_by current.Ignoring b p h e s = s
sound_given_by (current.Active a) b p h e s = sound_used_by (purpose_of a b) a b p h (stands a e) s

sound_data : (b : ℕ) (p : Uc8253) → b < 256 → SoundChip p → SoundChip (data_byte own b p)
unfolding data_byte
sound_data b p h s = sound_given_by p.stage.current b p h s.stage s

-- ---- a read
sound_after_read : (k : Kind) (a : Active) (p : Uc8253) → Stands a.cursor → SoundChip p → SoundChip (after_read k a p)
sound_after_read (kind.Write n) a p c s = s
sound_after_read kind.Read a p c s = sound_under (read_more a) p c s
sound_after_read (kind.Unsupported n) a p c s = s
sound_after_read kind.Unknown a p c s = s

sound_reading_by : (x : Current) (p : Uc8253) → bad_current x ≡ false → SoundChip p → SoundChip (reading_by x p)
sound_reading_by current.Idle p e s = s
sound_reading_by current.Ignoring p e s = s
sound_reading_by (current.Active a) p e s = sound_after_read a.kind a p (stands a e) s

sound_reading : (p : Uc8253) → SoundChip p → SoundChip (byte.reading p)
unfolding byte.reading
sound_reading p s = sound_reading_by p.stage.current p s.stage s

-- ---- the reset line
sound_cut_by : (x : Work) (p : Uc8253) → SoundChip p → SoundChip (cut_by x p)
unfolding cut_refresh
sound_cut_by work.Nothing p s = s
sound_cut_by work.PowerOn p s = s
sound_cut_by work.PowerOff p s = s
sound_cut_by work.DeepSleep p s = s
sound_cut_by work.SoftReset p s = s
sound_cut_by work.HardwareReset p s = s
sound_cut_by (work.Refresh r) p s = sound_image _ p s

sound_cleared : (p : Uc8253) → SoundChip p → SoundChip (cleared p)
unfolding cleared
sound_cleared p s =
    sound_current current.Idle _ refl
    (sound_operation rest _ refl
    (sound_mode _ _ (sound_luts reset_luts _ (sound_regs (reset_of p.config.variant) p (reset_in_range p.config.variant) s))))

sound_lowered_by : (y : Power) (p : Uc8253) → SoundChip p → SoundChip (lowered_by y p)
sound_lowered_by power.Running p s = sound_cleared _ (sound_cut_by p.operation.work p s)
sound_lowered_by power.Asleep p s = sound_cleared _ (sound_cut_by p.operation.work p s)
sound_lowered_by power.InReset p s = s

sound_raised_by : (y : Power) (p : Uc8253) → SoundChip p → SoundChip (raised_by own y p)
sound_raised_by power.Running p s = s
sound_raised_by power.Asleep p s = s
sound_raised_by power.InReset p s = sound_operation _ _ refl (sound_mode _ p s)

sound_edge : (asserted : Bool) (p : Uc8253) → SoundChip p → SoundChip (reset_edge own asserted p)
unfolding reset_edge
sound_edge true p s = sound_lowered_by p.mode.power p s
sound_edge false p s = sound_raised_by p.mode.power p s

-- ---- every call: the record
sound_chip : (a : Ask) (p : Uc8253) → IsByte a → SoundChip p → SoundChip (chip_after own a p)
sound_chip (command t c) p b s = sound_command c (arrived t p) (sound_arrived t p s)
sound_chip (datum t x) p b s = sound_data x (arrived t p) b (sound_arrived t p s)
sound_chip (reading t) p b s = sound_reading (arrived t p) (sound_arrived t p s)
sound_chip (advance t) p b s = sound_arrived t p s
sound_chip (reset t asserted) p b s = sound_edge asserted (arrived t p) (sound_arrived t p s)
sound_chip (vcom_rule t x) p b s = sound_mode _ (arrived t p) (sound_arrived t p s)
sound_chip taking p b s = sound_log (log_emptied p.log) p (omega arith) s
sound_chip (ask_busy t) p b s = s
sound_chip ask_deadline p b s = s
sound_chip (ask_bit older x y) p b s = s
sound_chip (ask_row y) p b s = s
sound_chip (ask_picture top wide) p b s = s

pub sound_record : (a : Ask) (p : Uc8253) → IsByte a → SoundChip p → SoundChip (record_after own a p)
unfolding record_after
sound_record a p b s = sound_told (told_by a p) (chip_after own a p) (sound_chip a p b s)

-- ---- and what is lent: as long as it was
put_length : (area : Area) (c : Cursor) (b : ℕ) (l : List ℕ) → length (put_at area c b l) ≡ length l
unfolding put_at
put_length area c b l = both (λ (m : List ℕ). length m ≡ length l) (past_row area c) refl (length_written l area c.x c.y b)

taken_length : (mine : Use → Bool) (x : Current) (b : ℕ) (area : Area) (l : List ℕ) → length (taken_by mine x b area l) ≡ length l
taken_length mine current.Idle b area l = refl
taken_length mine current.Ignoring b area l = refl
taken_length mine (current.Active a) b area l =
    both (λ (m : List ℕ). length m ≡ length l) (mine (purpose_of a b)) (put_length area a.cursor b l) refl

module _ (mine : Use → Bool) (p : Uc8253) (l : List ℕ) where
  byte_length : (t b : ℕ) → length (plane_byte mine b (arrived t p) l) ≡ length l
  unfolding plane_byte
  byte_length t b = taken_length mine (arrived t p).stage.current b (written_of (arrived t p).regs) l

  put_by_length : (a : Ask) → length (put_by mine a p l) ≡ length l
  put_by_length (command t c) = refl
  put_by_length (datum t b) = byte_length t b
  put_by_length (reading t) = refl
  put_by_length (advance t) = refl
  put_by_length (reset t asserted) = refl
  put_by_length (vcom_rule t x) = refl
  put_by_length taking = refl
  put_by_length (ask_busy t) = refl
  put_by_length ask_deadline = refl
  put_by_length (ask_bit older x y) = refl
  put_by_length (ask_row y) = refl
  put_by_length (ask_picture top wide) = refl

module _ (p : Uc8253) (old new : List ℕ) where
  copied_by_length : (x : Work) → length (copied_by x p old new) ≡ length old
  copied_by_length work.Nothing = refl
  copied_by_length work.PowerOn = refl
  copied_by_length work.PowerOff = refl
  copied_by_length work.DeepSleep = refl
  copied_by_length work.SoftReset = refl
  copied_by_length work.HardwareReset = refl
  copied_by_length (work.Refresh r) =
      both (λ (m : List ℕ). length m ≡ length old) (copies_new_to_old p.config.variant p.regs) (length_copied old new r.area) refl

  arrived_length : (t : ℕ) → length (old_arrived t p old new) ≡ length old
  unfolding old_arrived
  arrived_length t =
      both (λ (m : List ℕ). length m ≡ length old) (leb p.operation.until (max p.now t)) (copied_by_length p.operation.work) refl

  when_length : (x : When) → length (copied_when x p old new) ≡ length old
  when_length (at t asserted) = arrived_length t
  when_length whenever = refl

pub lent_after_lem : (a : Ask) (p : Uc8253) (b : Buffers) → Lengths p.config b → Lengths p.config (lent_after own a p b)
unfolding lent_after old_after new_after rows_after
lent_after_lem a p b l = record {
  old = put_by_length for_old p (copied_when (when_of a) p b.old b.new) a ∙ when_length p b.old b.new (when_of a) ∙ l.old;
  new = put_by_length for_new p b.new a ∙ l.new;
  states = states_length p b.old b.new (driven_by own a p) b.states ∙ l.states;
  picture = picture_length (driven_by own a p) p _ b.picture ∙ l.picture;
  rows = told_length (told_by a p) (clock_when (when_of a) p.now) p.log b.rows ∙ l.rows;
}

-- ---- a sound world stays sound
pub sound_done : (a : Ask) (w : World) → IsByte a → Sound w → Sound (done_to own a w)
unfolding lent_after
sound_done a w b s =
    let p = w.chip in
    let e : (record_after own a p).config ≡ p.config = config_after a p in
    record {
      chip = sound_record a p b s.chip;
      fits =
          ap (λ (c : Uc8253Config). lent_fits c (lent_after own a p w.lent)) e
          ∙ fitting p.config (lent_after own a p w.lent) (lent_after_lem a p w.lent (lengths p.config w.lent s.fits));
      states =
          ap (λ (c : Uc8253Config). every_state c.optics.full_swing (lent_after own a p w.lent).states) e
          ∙ states_sound p w.lent.old w.lent.new (driven_by own a p) w.lent.states s.states;
    }

-- ---- a sound record is not foreign, and no call on it is turned back
good_pair : (p : Pair) → InTenBits p → bad_pair p ≡ false
unfolding bad_pair
good_pair p r = rw (le-ltb 1023 p.h r.h_most, le-ltb 1023 p.v r.v_most)

good_registers : (r : Registers) → InRange r → bad_registers r ≡ false
unfolding bad_registers
good_registers r q =
    rw (good_area r.window q.window_held, good_pair r.resolution q.resolution_held, good_pair r.start q.start_held)

pub home : (p : Uc8253) → SoundChip p → foreign_record p ≡ false
unfolding foreign_record bad_config
home p s =
    rw (
      eq-eqb (refusal p.config) 0 s.config,
      good_registers p.regs s.regs,
      s.stage,
      s.work,
      le-ltb 1024 p.log.stored s.stored,
    )

pub never_turned : (asserted : Bool) (t : ℕ) (w : World) → Sound w → turned_back asserted t w ≡ 0
unfolding turned_back
never_turned asserted t w s =
    rw (home w.chip s.chip, s.fits, s.states, and-false (ends_refresh asserted t w.chip))

-- ---- making
none_met : (c : Uc8253Config) (b : Buffers) → making_refused c b ≡ 0 → refusal c ≡ 0
unfolding making_refused
none_met c b e = by_cases (eqb (refusal c) 0) (λ t. eqb-true (refusal c) 0 t) (λ t. rw t at e)

sound_first : (c : Uc8253Config) → c.optics.initial_gray < 256 → refusal c ≡ 0 → Sound (world (first_chip c) (first_buffers c))
unfolding first_chip first_buffers
sound_first c h e =
    record {
      chip = record { config = e; regs = reset_in_range c.variant; stage = refl; work = refl; stored = omega arith };
      fits =
          fitting c (first_buffers c)
          (record {
            old = length-replicate {A = ℕ} 60000 0;
            new = length-replicate {A = ℕ} 60000 0;
            states = length-replicate _ _;
            picture = length-replicate _ _;
            rows = length-replicate {A = ℕ} 5120 0;
          });
      states =
          states_replicate c.optics.full_swing (c.panel.sources * c.panel.gates)
          (level_of c.optics.initial_gray c.optics.full_swing)
          (level_within c.optics.initial_gray c.optics.full_swing (omega arith));
    }

pub sound_made : (c : Uc8253Config) (b : Buffers) → c.optics.initial_gray < 256 → making_refused c b ≡ 0 → Sound (made c b)
unfolding made
sound_made c b h e = rw (eq-eqb (making_refused c b) 0 e) (sound_first c h (none_met c b e))
