-- A command byte: what the controller makes of it, seen as what the machine makes of it. Where an operation runs only 70, 71 and 81 pass, so
-- that no register changes under a refresh.
use Rattle.std.proofs.Common.{None, Some}
use mathlib.Core.Path.{◌≡◌, refl, sym, ap, ◌∙◌}
use mathlib.Core.Bool.{Bool, true, false, not, ◌&&◌, ◌||◌, true≢false}
use mathlib.Core.List.{List, [], ◌∷◌}
use Prim.Native.Nat.{ℕ}
use lib.Dec.{eqb, ltb, leb}
use lib.ListN.{get_or}
use borrow.Author.Tests.{eqb-true, lt-ltb, leb-false}
use Rattle.base.specs.Pick.{pick, one_of}
use Rattle.base.proofs.Cases.{by_cases}
use Rattle.command.specs.declared.kinds.Kind.{Kind}
use Rattle.command.specs.declared.kinds.Kind.TheVariants as kind
use Rattle.command.specs.Kinds.{kind_of}
use Rattle.registers.specs.declared.Registers.{Registers}
use Rattle.registers.specs.Flags.{bit_set}
use Rattle.config.specs.declared.Variant.{Variant}
use Rattle.waveform.specs.declared.Waveform.{Waveform}
use Rattle.waveform.specs.Tables.{duration_of}
use Rattle.numbers.specs.Number.{mapping_of, panel_numbers}
use Rattle.diagnostic.specs.declared.DiagnosticKind.{DiagnosticKind}
use Rattle.controller.specs.declared.Uc8253.{Uc8253}
use Rattle.controller.specs.declared.Work.{Work}
use Rattle.controller.specs.declared.Work.TheVariants as work
use Rattle.controller.specs.Refresh as drv
use Rattle.controller.specs.Command as cmd
use Rattle.controller.specs.Counting.{own}
use Rattle.controller.specs.TurnedBack.{refresh_runs}
use Rattle.controller.specs.Sound.{SoundChip}
use Rattle.walk.specs.Machine.{busy, restarts, dropped, noted, able, refresh, begin, wave_now, acted, ordered, commanded, begun, windowed}
use Rattle.walk.specs.Kept.{Machine, Job, ignored, drives}
use Rattle.walk.specs.Parts.{with_hears, with_job}
use Rattle.walk.proofs.Arrival.{Waits}
use Rattle.walk.proofs.Numbers.{numbers_tabulated}
use Rattle.walk.proofs.Seen.{single, job_of, seen, job_free}

module _ (old new : List ℕ) where
  -- ---- a refresh
  -- its start: what it notes
  seen_started : (p : Uc8253) → SoundChip p
      → seen (drv.refresh_started own p) old new
      ≡ begin p.config (drives (noted p.config (seen p old new))) (duration_of (wave_now p.config (seen p old new))) (seen p old new)
  unfolding drv.refresh_started drv.refreshing drv.waveform_now noted
  seen_started p s = rw (numbers_tabulated p old new s)

  -- what lets it start
  module _ (k1 k2 k3 k4 : DiagnosticKind) (p : Uc8253) (s : SoundChip p) where
    seen_able : (e5 e4 e1 e : Bool)
        → seen (drv.refreshed_by own (pick e5 (pick e4 (pick e1 (pick e None (Some k4)) (Some k3)) (Some k2)) (Some k1)) p) old new
        ≡ pick (e5 && (e4 && (e1 && e)))
        (begin p.config (drives (noted p.config (seen p old new))) (duration_of (wave_now p.config (seen p old new))) (seen p old new))
        (seen p old new)
    seen_able true true true true = seen_started p s
    seen_able true true true false = refl
    seen_able true true false e = refl
    seen_able true false e1 e = refl
    seen_able false e4 e1 e = refl

  seen_refreshed : (p : Uc8253) → SoundChip p → seen (drv.refreshed own p) old new ≡ refresh p.config (seen p old new)
  unfolding drv.refreshed drv.refresh_note able refresh
  seen_refreshed p s =
      seen_able _ _ _ _ p s (bit_set (get_or p.regs.psr 0 0) 5) (bit_set (get_or p.regs.psr 0 0) 4)
      (bit_set (get_or p.regs.psr 0 0) 1) p.mode.powered

  -- ---- what a command does at once
  -- 91 and 92 come only where no refresh runs
  abbrev Parted : ℕ → Uc8253 → Type 0
  Parted c p = one_of (0x91 ∷ 0x92 ∷ []) c ≡ true → refresh_runs p.operation.work ≡ false

  same_job : (r : Registers) (p : Uc8253) → refresh_runs p.operation.work ≡ false
      → job_of p.operation.work p.operation.started p.operation.until p.waveform
      (panel_numbers (mapping_of p.config.panel r p.config.variant) old new)
      ≡ (seen p old new).job
  same_job r p f = job_free p.operation.work p.operation.started p.operation.until p.waveform _ _ f

  seen_executed : (c : ℕ) (p : Uc8253) → SoundChip p → Parted c p → seen (cmd.executed own c p) old new ≡ acted p.config c (seen p old new)
  unfolding cmd.executed acted
  seen_executed c p s f =
      by_cases (eqb c 0x04)
      (λ e. rw e (by_cases p.mode.powered (λ q. rw q) (λ q. rw q)))
      (λ e1. by_cases (eqb c 0x02)
      (λ e. rw (e1, e) (by_cases p.mode.powered (λ q. rw q) (λ q. rw q)))
      (λ e2. by_cases (eqb c 0x12)
      (λ e. rw (e1, e2, e) (seen_refreshed p s))
      (λ e3. by_cases (eqb c 0x91)
      (λ e. rw (e1, e2, e3, e) (ap (λ (j : Job). with_job j (windowed true (seen p old new))) (same_job _ p (f (rw e)))))
      (λ e4. by_cases (eqb c 0x92)
      (λ e. rw (e1, e2, e3, e4, e) (ap (λ (j : Job). with_job j (windowed false (seen p old new))) (same_job _ p (f (rw (e4, e))))))
      (λ e5. by_cases (one_of (0x10 ∷ 0x13 ∷ []) c) (λ e. rw (e1, e2, e3, e4, e5, e))
      (λ e6. by_cases (eqb c 0x11) (λ e. rw (e1, e2, e3, e4, e5, e6, e)) (λ e. rw (e1, e2, e3, e4, e5, e6, e))))))))

  -- ---- sorted
  -- a new command has had no byte
  begun_seen : (c : ℕ) (k : Kind) (p : Uc8253) → (eqb c 0 && single k) ≡ false → seen (cmd.begun c k p) old new ≡ begun c k (seen p old new)
  unfolding cmd.begun
  begun_seen c k p e = rw e

  begun_acts : (c : ℕ) (k : Kind) (p : Uc8253) → SoundChip (cmd.begun c k p) → Parted c p → (eqb c 0 && single k) ≡ false
      → seen (cmd.executed own c (cmd.begun c k p)) old new ≡ acted p.config c (begun c k (seen p old new))
  unfolding cmd.begun
  begun_acts c k p s f e = seen_executed c (cmd.begun c k p) s f ∙ ap (acted p.config c) (begun_seen c k p e)

  seen_sorted : (k : Kind) (c : ℕ) (p : Uc8253) → ((x : Kind) → SoundChip (cmd.begun c x p)) → Parted c p → (eqb c 0 && single k) ≡ false
      → seen (cmd.sorted_by own k c p) old new ≡ ordered k p.config c (seen p old new)
  seen_sorted kind.Unknown c p s f e = refl
  seen_sorted (kind.Unsupported n) c p s f e = begun_seen c (kind.Unsupported n) p e
  seen_sorted (kind.Write n) c p s f e = begun_acts c (kind.Write n) p (s (kind.Write n)) f e
  seen_sorted kind.Read c p s f e = begun_acts c kind.Read p (s kind.Read) f e

pub not_single : (c : ℕ) (v : Variant) → (eqb c 0 && single (kind_of c v)) ≡ false
unfolding kind_of
not_single c v = by_cases (eqb c 0) (λ e. rw (eqb-true c 0 e)) (λ e. rw e)

-- ---- dropped, by the four tests
restarts_as : (x : Work) (s e : ℕ) (v : Waveform) (ns : List ℕ) → restarts (job_of x s e v ns) ≡ cmd.initialises x
restarts_as work.Nothing s e v ns = refl
restarts_as work.PowerOn s e v ns = refl
restarts_as work.PowerOff s e v ns = refl
restarts_as work.DeepSleep s e v ns = refl
restarts_as work.SoftReset s e v ns = refl
restarts_as work.HardwareReset s e v ns = refl
restarts_as (work.Refresh r) s e v ns = refl

above : (e t : ℕ) → leb e t ≡ false → ltb t e ≡ true
above e t q = lt-ltb t e (leb-false e t q)

busy_as : (x : Work) (s e : ℕ) (v : Waveform) (ns : List ℕ) (t : ℕ) → (cmd.busy x && leb e t) ≡ false
    → busy (job_of x s e v ns) t ≡ cmd.busy x
busy_as work.Nothing s e v ns t q = refl
busy_as work.PowerOn s e v ns t q = above e t q
busy_as work.PowerOff s e v ns t q = above e t q
busy_as work.DeepSleep s e v ns t q = above e t q
busy_as work.SoftReset s e v ns t q = above e t q
busy_as work.HardwareReset s e v ns t q = above e t q
busy_as (work.Refresh r) s e v ns t q = above e t q

-- no refresh runs where nothing does; 70, 71 and 81 are neither 91 nor 92
pub idle_free : (x : Work) → cmd.busy x ≡ false → refresh_runs x ≡ false
idle_free work.Nothing e = refl
idle_free work.PowerOn e = refl
idle_free work.PowerOff e = refl
idle_free work.DeepSleep e = refl
idle_free work.SoftReset e = refl
idle_free work.HardwareReset e = refl
idle_free (work.Refresh r) e = e

other : (c : ℕ) → one_of (0x70 ∷ 0x71 ∷ 0x81 ∷ []) c ≡ true → one_of (0x91 ∷ 0x92 ∷ []) c ≡ false
other c e =
    by_cases (eqb c 0x91)
    (λ t. let n : one_of (0x70 ∷ 0x71 ∷ 0x81 ∷ []) c ≡ false = rw (eqb-true c 0x91 t) in absurd (true≢false (sym e ∙ n)))
    (λ f. by_cases (eqb c 0x92)
    (λ t. let n : one_of (0x70 ∷ 0x71 ∷ 0x81 ∷ []) c ≡ false = rw (eqb-true c 0x92 t) in absurd (true≢false (sym e ∙ n)))
    (λ t. rw (f, t)))

module _ (old new : List ℕ) (k8 k7 k6 : DiagnosticKind) (c : ℕ) (p : Uc8253) (s : (x : Kind) → SoundChip (cmd.begun c x p)) where
  seen_noted : (a b d e : Bool) → (d ≡ false → refresh_runs p.operation.work ≡ false) → (e ≡ true → one_of (0x91 ∷ 0x92 ∷ []) c ≡ false)
      → seen (cmd.passed_by own (pick a (Some k8) (pick b (Some k7) (pick d (pick e None (Some k6)) None))) c p) old new
      ≡ pick (a || (b || (d && not e))) (with_hears ignored (seen p old new)) (ordered (kind_of c p.config.variant) p.config c (seen p old new))
  seen_noted true b d e f o = refl
  seen_noted false true d e f o = refl
  seen_noted false false true true f o =
      seen_sorted old new (kind_of c p.config.variant) c p s (λ q. absurd (true≢false (sym q ∙ o refl))) (not_single c p.config.variant)
  seen_noted false false true false f o = refl
  seen_noted false false false e f o =
      seen_sorted old new (kind_of c p.config.variant) c p s (λ q. f refl) (not_single c p.config.variant)

pub seen_command : (c : ℕ) (p : Uc8253) (old new : List ℕ) → ((x : Kind) → SoundChip (cmd.begun c x p)) → Waits p
    → seen (cmd.command_byte own c p) old new ≡ commanded p.config c (seen p old new)
unfolding cmd.command_byte cmd.barred_note commanded dropped
seen_command c p old new s q =
    seen_noted old new _ _ _ c p s (cmd.in_reset p.mode.power || cmd.initialises p.operation.work) (cmd.asleep p.mode.power)
    (cmd.busy p.operation.work) (one_of (0x70 ∷ 0x71 ∷ 0x81 ∷ []) c) (idle_free p.operation.work) (other c)
    ∙ rw (
      restarts_as,
      busy_as p.operation.work p.operation.started p.operation.until p.waveform (panel_numbers (drv.mapping_now p) old new) p.now q,
    )
