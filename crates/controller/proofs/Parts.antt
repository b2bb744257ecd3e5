-- A sound record with one part changed is sound: the registers, the command under way, what runs, what is told; and what is lent, as
-- long as it was and the states in range.
use Rattle.std.proofs.Common.{None, Some}
use mathlib.Core.Path.{◌≡◌, refl, sym, ap, ◌∙◌}
use mathlib.Core.Bool.{true, false, true≢false, false≢true}
use mathlib.Core.List.{List}
use Prim.Native.Nat.{ℕ, ◌+◌, ◌*◌, ◌≤◌, min}
use native.Mathlib.Omega.{arith}
use native.Mathlib.Decide.{dec_le}
use lib.Dec.{eqb, ltb}
use lib.ListN.{length}
use borrow.Author.Tests.{eqb-true, eq-eqb, le-ltb, ltb-false}
use Rattle.base.proofs.Cases.{by_cases}
use Rattle.ram.specs.declared.Cursor.{Cursor}
use Rattle.ram.specs.Write.{next_of}
use Rattle.ram.proofs.AreaLaws.{and_both}
use Rattle.config.specs.declared.Uc8253Config.{Uc8253Config}
use Rattle.registers.specs.declared.Area.{Area}
use Rattle.registers.specs.declared.Registers.{Registers}
use Rattle.registers.specs.declared.luts.Luts.{Luts}
use Rattle.registers.specs.Range.{InRam, InRange}
use Rattle.waveform.specs.declared.Levels.{Levels}
use Rattle.glass.specs.declared.PanelImage.{PanelImage}
use Rattle.diagnostic_log.specs.declared.Log.{Log}
use Rattle.diagnostic_log.specs.Log.{reported}
use Rattle.diagnostic_log.proofs.LogLaws.{reported_room, reported_full, rows_length}
use Rattle.controller.specs.declared.Mode.{Mode}
use Rattle.controller.specs.declared.Work.{Work}
use Rattle.controller.specs.declared.Work.TheVariants as work
use Rattle.controller.specs.declared.Active.{Active}
use Rattle.controller.specs.declared.Current.{Current}
use Rattle.controller.specs.declared.Current.TheVariants as current
use Rattle.controller.specs.declared.Stage.{Stage}
use Rattle.controller.specs.declared.Operation.{Operation}
use Rattle.controller.specs.declared.Uc8253.{Uc8253}
use Rattle.controller.specs.Maybe.{Note}
use Rattle.controller.specs.declared.notes.Notes.{Notes}
use Rattle.controller.specs.World.{World, Buffers}
use Rattle.controller.specs.Setters.{record_of, with_regs, with_luts, with_mode, with_current, with_operation, with_image, with_log, with_now}
use Rattle.controller.specs.Tell.{log_noted, row_noted, log_told, rows_told}
use Rattle.controller.specs.TurnedBack.{bad_area, bad_current, bad_stage, bad_work, lengths_fit, lent_fits, refresh_runs}
use Rattle.controller.specs.Sound.{SoundChip, Sound}

-- ---- the lengths of what is lent
pub record Lengths (c : Uc8253Config) (b : Buffers) : Type 0 where
  pub old : length b.old ≡ 60000
  pub new : length b.new ≡ 60000
  pub states : length b.states ≡ c.panel.sources * c.panel.gates
  pub picture : length b.picture ≡ c.panel.sources * c.panel.gates
  pub rows : length b.rows ≡ 5120

pub lengths : (c : Uc8253Config) (b : Buffers) → lent_fits c b ≡ true → Lengths c b
unfolding lengths_fit
lengths c b e =
    let r₁ = and_both (eqb (length b.old) 60000) _ e in
    let r₂ = and_both (eqb (length b.new) 60000) _ r₁.1 in
    let r₃ = and_both (eqb (length b.states) (c.panel.sources * c.panel.gates)) _ r₂.1 in
    let r₄ = and_both (eqb (length b.picture) (c.panel.sources * c.panel.gates)) (eqb (length b.rows) 5120) r₃.1 in
    record {
      old = eqb-true _ _ r₁.0;
      new = eqb-true _ _ r₂.0;
      states = eqb-true _ _ r₃.0;
      picture = eqb-true _ _ r₄.0;
      rows = eqb-true _ _ r₄.1;
    }

pub fitting : (c : Uc8253Config) (b : Buffers) → Lengths c b → lent_fits c b ≡ true
unfolding lengths_fit
fitting c b l =
    rw (
      eq-eqb (length b.old) 60000 l.old,
      eq-eqb (length b.new) 60000 l.new,
      eq-eqb (length b.states) (c.panel.sources * c.panel.gates) l.states,
      eq-eqb (length b.picture) (c.panel.sources * c.panel.gates) l.picture,
      eq-eqb (length b.rows) 5120 l.rows,
    )

pub lent_lengths : (w : World) → Sound w → Lengths w.chip.config w.lent
lent_lengths w s = lengths w.chip.config w.lent s.fits

-- ---- the record alone: its registers, its command under way and the rows stored in range, the rest of it that may change as it likes
sound_with : (r : Registers) (l : Luts) (m : Mode) (c : Stage) (i : PanelImage) (g : Log) (t : ℕ) (p : Uc8253)
    → InRange r → bad_stage c ≡ false → g.stored ≤ 1024 → SoundChip p
    → SoundChip (record_of p.config r l m c p.operation p.waveform i g t)
sound_with r l m c i g t p regs stage stored s = record {
  config = s.config;
  regs = regs;
  stage = stage;
  work = s.work;
  stored = stored;
}

pub sound_regs : (r : Registers) (p : Uc8253) → InRange r → SoundChip p → SoundChip (with_regs r p)
sound_regs r p q s = sound_with r _ _ _ _ _ _ p q s.stage s.stored s

pub sound_luts : (l : Luts) (p : Uc8253) → SoundChip p → SoundChip (with_luts l p)
sound_luts l p s = sound_with _ l _ _ _ _ _ p s.regs s.stage s.stored s

pub sound_mode : (m : Mode) (p : Uc8253) → SoundChip p → SoundChip (with_mode m p)
sound_mode m p s = sound_with _ _ m _ _ _ _ p s.regs s.stage s.stored s

pub sound_current : (c : Current) (p : Uc8253) → bad_current c ≡ false → SoundChip p → SoundChip (with_current c p)
sound_current c p q s = sound_with _ _ _ (record { current = c }) _ _ _ p s.regs q s.stored s

pub sound_image : (i : PanelImage) (p : Uc8253) → SoundChip p → SoundChip (with_image i p)
sound_image i p s = sound_with _ _ _ _ i _ _ p s.regs s.stage s.stored s

pub sound_log : (g : Log) (p : Uc8253) → g.stored ≤ 1024 → SoundChip p → SoundChip (with_log g p)
sound_log g p q s = sound_with _ _ _ _ _ g _ p s.regs s.stage q s

pub sound_now : (t : ℕ) (p : Uc8253) → SoundChip p → SoundChip (with_now t p)
sound_now t p s = sound_with _ _ _ _ _ _ t p s.regs s.stage s.stored s

-- only a refresh that runs has anything to be foreign
quiet_work : (x : Work) (n : ℕ) (l : Levels) → refresh_runs x ≡ false → bad_work x n l ≡ false
quiet_work work.Nothing n l q = refl
quiet_work work.PowerOn n l q = refl
quiet_work work.PowerOff n l q = refl
quiet_work work.DeepSleep n l q = refl
quiet_work work.SoftReset n l q = refl
quiet_work work.HardwareReset n l q = refl
quiet_work (work.Refresh r) n l q = absurd (false≢true (sym q))

pub sound_operation : (o : Operation) (p : Uc8253) → refresh_runs o.work ≡ false → SoundChip p → SoundChip (with_operation o p)
sound_operation o p q s = record {
  config = s.config;
  regs = s.regs;
  stage = s.stage;
  work = quiet_work o.work p.waveform.frame_ns p.waveform.levels q;
  stored = s.stored;
}

-- ---- what is told
reported_within : (g : Log) → g.stored ≤ 1024 → (reported g).stored ≤ 1024
reported_within g h = elim (dec_le 1024 g.stored) [
  | yes k ↦ omega (arith, ap {B = ℕ} (λ x. x.stored) (reported_full g k))
  | no k ↦ omega (arith, ap {B = ℕ} (λ x. x.stored) (reported_room g (omega arith)))
]

noted_within : (n : Note) (g : Log) → g.stored ≤ 1024 → (log_noted n g).stored ≤ 1024
noted_within None g h = h
noted_within (Some k) g h = reported_within g h

pub sound_told : (n : Notes) (p : Uc8253) → SoundChip p → SoundChip (with_log (log_told n p.log) p)
sound_told n p s =
    sound_log (log_told n p.log) p
    (noted_within n.second (log_noted n.first p.log) (noted_within n.first p.log s.stored)) s

noted_length : (n : Note) (now : ℕ) (g : Log) (rows : List ℕ) → length (row_noted n now g rows) ≡ length rows
noted_length None now g rows = refl
noted_length (Some k) now g rows = rows_length g now k rows

pub told_length : (n : Notes) (now : ℕ) (g : Log) (rows : List ℕ) → length (rows_told n now g rows) ≡ length rows
told_length n now g rows =
    noted_length n.second now (log_noted n.first g) (row_noted n.first now g rows) ∙ noted_length n.first now g rows

-- ---- an area and a cursor in range
pub good_area : (a : Area) → InRam a → bad_area a ≡ false
unfolding bad_area
good_area a r =
    rw (le-ltb 799 a.x0 r.x0_most, le-ltb 599 a.y0 r.y0_most, le-ltb 799 a.x1 r.x1_most, le-ltb 599 a.y1 r.y1_most)

pub record Stands (c : Cursor) : Type 0 where
  pub column : c.x ≤ 799
  pub row : c.y ≤ 600

pub stands : (a : Active) → bad_current (current.Active a) ≡ false → Stands a.cursor
stands a e =
    by_cases (ltb 799 a.cursor.x)
    (λ t. absurd (true≢false (rw t at e)))
    (λ t. record { column = ltb-false 799 a.cursor.x t; row = ltb-false 600 a.cursor.y (rw t at e) })

pub good_cursor : (a : Active) → Stands a.cursor → bad_current (current.Active a) ≡ false
good_cursor a c = rw (le-ltb 799 a.cursor.x c.column, le-ltb 600 a.cursor.y c.row)

-- the cursor goes on from a row that is not past the last
pub next_stands : (a : Area) (c : Cursor) → InRam a → c.y ≤ a.y1 → Stands (next_of a c)
unfolding next_of
next_stands a c r h =
    by_cases (ltb a.x1 (min (c.x + 8) 65535))
    (λ t. rw t (record { column = r.x0_most; row = omega (arith, r.y1_most) }))
    (λ t. rw t (record { column = omega (arith, r.x1_most, ltb-false a.x1 (min (c.x + 8) 65535) t); row = omega (arith, r.y1_most) }))
