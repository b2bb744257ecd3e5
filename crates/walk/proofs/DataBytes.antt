-- A data byte and a read: what the controller makes of them, seen as what the machine makes of them. While an operation runs no byte is
-- taken, so that no register and no plane changes under a refresh.
use mathlib.Core.Path.{◌≡◌, refl, sym, ap, ◌∙◌}
use mathlib.Core.Bool.{Bool, true, false, not, ◌&&◌, true≢false}
use mathlib.Core.List.{List}
use Prim.Native.Nat.{ℕ, zero, suc}
use native.Mathlib.Omega.{arith}
use lib.Dec.{eqb, ltb}
use borrow.Author.Tests.{eqb-true, le-ltb}
use Rattle.base.specs.Pick.{pick}
use Rattle.base.proofs.Cases.{by_cases}
use Rattle.command.specs.declared.kinds.Kind.{Kind}
use Rattle.command.specs.declared.kinds.Kind.TheVariants as kind
use Rattle.command.specs.declared.kinds.Params.{Params}
use Rattle.command.specs.declared.kinds.Params.TheVariants as params
use Rattle.command.specs.Kinds.{takes_byte}
use Rattle.registers.specs.declared.Registers.{Registers}
use Rattle.registers.specs.Bytes.{byte_of}
use Rattle.registers.specs.Flags.{bit_set}
use Rattle.registers.specs.Written.{written_of}
use Rattle.numbers.specs.Number.{mapping_of, panel_numbers}
use Rattle.ram.specs.Write.{written}
use Rattle.controller.specs.declared.Active.{Active}
use Rattle.controller.specs.declared.Current.{Current}
use Rattle.controller.specs.declared.Current.TheVariants as current
use Rattle.controller.specs.declared.Uc8253.{Uc8253}
use Rattle.controller.specs.declared.uses.Use.{Use}
use Rattle.controller.specs.declared.uses.Use.TheVariants as use-for
use Rattle.controller.specs.DataByte as byte
use Rattle.controller.specs.Reading as rd
use Rattle.controller.specs.Counting.{own}
use Rattle.controller.specs.TurnedBack.{refresh_runs}
use Rattle.controller.proofs.Quiet.{GuardedIn, taken_free}
use Rattle.walk.specs.Machine.{counted, forward, softened, streamed, stored, took, took_by, heard, given}
use Rattle.walk.specs.Kept.{Machine, Hearing, ignored, under, Job}
use Rattle.walk.specs.Parts.{with_hears, with_old, with_new, with_job}
use Rattle.walk.proofs.Commands.{idle_free}
use Rattle.walk.proofs.Seen.{order_of, single, over, hearing_of, apt, job_of, seen, job_free}

module _ (a : Active) (b : ℕ) (p : Uc8253) (old new : List ℕ) where
  -- what a use leaves of the record and the planes
  abbrev used : Use → Machine
  used u =
      seen (byte.used_by own u a b p) (pick (byte.for_old u) (byte.put_at (written_of p.regs) a.cursor b old) old)
      (pick (byte.for_new u) (byte.put_at (written_of p.regs) a.cursor b new) new)

  module _ (o : over a ≡ false) where
    -- a byte that the command takes: no refresh runs
    module _ (free : refresh_runs p.operation.work ≡ false) where
      same_job : (r : Registers) (o' n' : List ℕ)
          → job_of p.operation.work p.operation.started p.operation.until p.waveform
          (panel_numbers (mapping_of p.config.panel r p.config.variant) o' n')
          ≡ (seen p old new).job
      same_job r o' n' = job_free p.operation.work p.operation.started p.operation.until p.waveform _ _ free

      -- 10 and 13
      seen_older : eqb a.command 0x10 ≡ true → used use-for.Older ≡ streamed b (order_of a) (seen p old new)
      unfolding byte.pixel_byte byte.pixel_chip byte.put_at streamed
      seen_older e =
          let area = written_of p.regs in
          by_cases (ltb area.y1 a.cursor.y)
          (λ l. rw (l, o))
          (λ l. rw (l, e, o)
          (ap (λ (j : Job). with_job j
          (with_hears (under (forward area (order_of a))) (with_old (written old area a.cursor.x a.cursor.y b) (seen p old new))))
          (same_job p.regs _ new)))

      seen_newer : eqb a.command 0x10 ≡ false → used use-for.Newer ≡ streamed b (order_of a) (seen p old new)
      unfolding byte.pixel_byte byte.pixel_chip byte.put_at streamed
      seen_newer e =
          let area = written_of p.regs in
          by_cases (ltb area.y1 a.cursor.y)
          (λ l. rw (l, o))
          (λ l. rw (l, e, o)
          (ap (λ (j : Job). with_job j
          (with_hears (under (forward area (order_of a))) (with_new (written new area a.cursor.x a.cursor.y b) (seen p old new))))
          (same_job p.regs old _)))

      -- a register or a table
      seen_register : used use-for.Register ≡ stored b (order_of a) (seen p old new)
      unfolding stored
      seen_register =
          rw o
          (ap (λ (j : Job). with_job j (stored b (order_of a) (seen p old new)))
          (same_job (byte_of a.command a.received b p.regs) old new))

      zero_is_none : (k : ℕ) → eqb 0 k ≡ false → eqb a.command 0x00 ≡ true → eqb a.command k ≡ false
      zero_is_none k n z = ap (λ (c : ℕ). eqb c k) (eqb-true a.command 0x00 z) ∙ n

      seen_doing : used (byte.doing a.command a.received b) ≡ took p.config b (order_of a) (seen p old new)
      unfolding byte.doing took softened
      seen_doing =
          by_cases (eqb a.command 0x00)
          (λ z.
          let v = zero_is_none 0x07 refl z in
          let t = zero_is_none 0x10 refl z in
          let n = zero_is_none 0x13 refl z in
          by_cases (eqb a.received 0)
          (λ f. by_cases (bit_set b 0) (λ s. rw (z, f, s, v, t, n) seen_register) (λ s. rw (z, f, s, z)))
          (λ f. rw (z, f, v, t, n) seen_register))
          (λ z. by_cases (eqb a.command 0x07)
          (λ v. by_cases (eqb b 0xA5) (λ h. rw (z, v, h, o)) (λ h. rw (z, v, h, o)))
          (λ v. by_cases (eqb a.command 0x10)
          (λ t. rw (z, v, t) (seen_older t))
          (λ t. by_cases (eqb a.command 0x13)
          (λ n. rw (z, v, t, n) (seen_newer t))
          (λ n. rw (z, v, t, n) seen_register))))

      seen_kind : (k : Kind) → used (byte.done_by k a.command a.received b) ≡ took_by k p.config b (order_of a) (seen p old new)
      seen_kind (kind.Write n) = seen_doing
      seen_kind kind.Read = rw o
      seen_kind (kind.Unsupported n) = rw o
      seen_kind kind.Unknown = rw o

    -- a read command and one that is not modelled only count it, whatever runs
    seen_taken : (k : Kind) → ((n : Params) → k ≡ kind.Write n → refresh_runs p.operation.work ≡ false)
        → used (byte.done_by k a.command a.received b) ≡ took_by k p.config b (order_of a) (seen p old new)
    seen_taken (kind.Write n) f = seen_kind (f n refl) (kind.Write n)
    seen_taken kind.Read f = rw o
    seen_taken (kind.Unsupported n) f = rw o
    seen_taken kind.Unknown f = rw o

    -- beyond the largest count
    seen_purpose : (t x : Bool) → (t ≡ true → (n : Params) → a.kind ≡ kind.Write n → refresh_runs p.operation.work ≡ false)
        → used (pick t (byte.done_by a.kind a.command a.received b) (pick x use-for.Quiet use-for.Extra))
        ≡ pick t (took_by a.kind p.config b (order_of a) (seen p old new)) (with_hears (under (counted (order_of a))) (seen p old new))
    seen_purpose true x f = seen_taken a.kind (f refl)
    seen_purpose false true f = rw o
    seen_purpose false false f = rw o

-- after a soft reset: it takes no byte more, and stays so
takes_one : (k : Kind) (i : ℕ) → single k ≡ true → eqb i 0 ≡ false → takes_byte k i ≡ false
takes_one (kind.Write (params.Exactly n)) zero e f = absurd (true≢false f)
takes_one (kind.Write (params.Exactly n)) (suc i) e f = rw (eqb-true n 1 e) (le-ltb (suc i) 1 (omega arith))
takes_one (kind.Write (params.Between n m)) i e f = absurd (true≢false (sym e))
takes_one (kind.Write params.Stream) i e f = absurd (true≢false (sym e))
takes_one kind.Read i e f = absurd (true≢false (sym e))
takes_one (kind.Unsupported n) i e f = absurd (true≢false (sym e))
takes_one kind.Unknown i e f = absurd (true≢false (sym e))

over_single : (a b : Bool) → (a && b) ≡ true → b ≡ true
over_single true b e = e
over_single false b e = absurd (true≢false (sym e))

had : (t x : Bool) → t ≡ true → pick t (not x) true ≡ true → x ≡ false
had true true e q = absurd (true≢false (sym q))
had true false e q = refl
had false x e q = absurd (true≢false (sym e))

module _ (a : Active) (b : ℕ) (p : Uc8253) (old new : List ℕ) (e : p.stage.current ≡ current.Active a) (o : over a ≡ true) where
  ignored_here : (seen p old new).hears ≡ ignored
  ignored_here = ap hearing_of e ∙ rw o

  seen_silent : (x : Bool) → used a b p old new (pick x use-for.Quiet use-for.Extra) ≡ seen p old new
  seen_silent true = ap (λ (h : Hearing). with_hears h (seen p old new)) (silent ∙ sym ignored_here)
    where
      silent : hearing_of (current.Active (byte.more_of a)) ≡ ignored
      silent = rw o
  seen_silent false = ap (λ (h : Hearing). with_hears h (seen p old new)) (silent ∙ sym ignored_here)
    where
      silent : hearing_of (current.Active (byte.extra_of (byte.more_of a))) ≡ ignored
      silent = rw o

  seen_over : apt (current.Active a) ≡ true
      → used a b p old new (byte.purpose_of a b) ≡ heard (hearing_of (current.Active a)) p.config b (seen p old new)
  unfolding byte.purpose_of
  seen_over q =
      ap (λ (t : Bool). used a b p old new
      (pick t (byte.done_by a.kind a.command a.received b) (pick a.extra_reported use-for.Quiet use-for.Extra)))
      (takes_one a.kind a.received (over_single (eqb a.command 0) (single a.kind) o) (had (over a) (eqb a.received 0) o q))
      ∙ seen_silent a.extra_reported
      ∙ ap (λ (t : Bool). heard (pick t ignored (under (order_of a))) p.config b (seen p old new)) (sym o)

seen_live : (a : Active) (b : ℕ) (p : Uc8253) (old new : List ℕ) → over a ≡ false
    → (takes_byte a.kind a.received ≡ true → (n : Params) → a.kind ≡ kind.Write n → refresh_runs p.operation.work ≡ false)
    → used a b p old new (byte.purpose_of a b) ≡ heard (hearing_of (current.Active a)) p.config b (seen p old new)
unfolding byte.purpose_of
seen_live a b p old new o f =
    seen_purpose a b p old new o (takes_byte a.kind a.received) a.extra_reported f
    ∙ ap (λ (t : Bool). heard (pick t ignored (under (order_of a))) p.config b (seen p old new)) (sym o)

module _ (b : ℕ) (p : Uc8253) (old new : List ℕ) (g : GuardedIn p) where
  seen_given : (x : Current) → p.stage.current ≡ x → apt x ≡ true
      → seen (byte.given_by own x b p) (byte.taken_by byte.for_old x b (written_of p.regs) old) (byte.taken_by byte.for_new x b (written_of p.regs) new)
      ≡ heard (hearing_of x) p.config b (seen p old new)
  seen_given current.Idle e q = refl
  seen_given current.Ignoring e q = refl
  seen_given (current.Active a) e q =
      by_cases (over a) (λ o. seen_over a b p old new e o q)
      (λ o. seen_live a b p old new o (λ t n k. idle_free p.operation.work (taken_free n a p g e k t)))

  pub seen_data : apt p.stage.current ≡ true
      → seen (byte.data_byte own b p) (byte.plane_byte byte.for_old b p old) (byte.plane_byte byte.for_new b p new) ≡ given p.config b (seen p old new)
  unfolding byte.data_byte byte.plane_byte given
  seen_data q = seen_given p.stage.current refl q

-- a read changes nothing that the machine keeps
module _ (p : Uc8253) (old new : List ℕ) where
  seen_after : (a : Active) → p.stage.current ≡ current.Active a → (k : Kind) → seen (rd.after_read k a p) old new ≡ seen p old new
  seen_after a e (kind.Write n) = refl
  seen_after a e kind.Read = rw e
  seen_after a e (kind.Unsupported n) = refl
  seen_after a e kind.Unknown = refl

  seen_read : (x : Current) → p.stage.current ≡ x → seen (rd.reading_by x p) old new ≡ seen p old new
  seen_read current.Idle e = refl
  seen_read current.Ignoring e = refl
  seen_read (current.Active a) e = seen_after a e a.kind

  pub seen_reading : seen (rd.reading p) old new ≡ seen p old new
  unfolding rd.reading
  seen_reading = seen_read p.stage.current refl
