-- Request 2026-10, "Planes quiet under busy": while an operation runs, what a call does leaves the registers, the tables' bytes, both
-- planes, the operation and its noted waveform, unless it comes to the operation's end or asserts reset. The invariant: while one runs,
-- and in reset, no data byte is taken, since an operation is started by a command without data, by the last byte of one, or by the
-- reset's release; and in reset none runs.
use Rattle.std.proofs.Common.{None, Some}
use mathlib.Core.Path.{◌≡◌, refl, sym, ap, subst, ◌∙◌}
use mathlib.Core.Bool.{Bool, true, false, ◌||◌, true≢false, false≢true}
use mathlib.Core.List.{List, [], ◌∷◌}
use Prim.Native.Nat.{ℕ, ◌≤◌, ◌<◌, min, max}
use native.Mathlib.Omega.{arith}
use lib.Dec.{eqb, ltb, leb}
use lib.ListN.{get_or}
use borrow.Author.Tests.{eqb-true, le-ltb, le-leb, lt-leb, leb-true}
use Rattle.base.specs.Pick.{pick, one_of}
use Rattle.base.proofs.Cases.{by_cases, both}
use Rattle.config.specs.declared.Uc8253Config.{Uc8253Config}
use Rattle.config.specs.declared.Variant.{Variant}
use Rattle.registers.specs.declared.Area.{Area}
use Rattle.registers.specs.declared.Registers.{Registers}
use Rattle.registers.specs.declared.luts.Luts.{Luts}
use Rattle.registers.specs.Flags.{bit_set}
use Rattle.registers.specs.Written.{written_of}
use Rattle.waveform.specs.declared.Waveform.{Waveform}
use Rattle.command.specs.declared.kinds.Kind.{Kind}
use Rattle.command.specs.declared.kinds.Kind.TheVariants as kind
use Rattle.command.specs.declared.kinds.Params.{Params}
use Rattle.command.specs.declared.kinds.Params.TheVariants as params
use Rattle.command.specs.Kinds.{kind_of, takes_in, takes_byte}
use Rattle.diagnostic.specs.declared.DiagnosticKind.{DiagnosticKind}
use Rattle.controller.specs.declared.Power.{Power}
use Rattle.controller.specs.declared.Power.TheVariants as power
use Rattle.controller.specs.declared.Work.{Work}
use Rattle.controller.specs.declared.Work.TheVariants as work
use Rattle.controller.specs.declared.Operation.{Operation}
use Rattle.controller.specs.declared.Active.{Active}
use Rattle.controller.specs.declared.Current.{Current}
use Rattle.controller.specs.declared.Current.TheVariants as current
use Rattle.controller.specs.declared.Uc8253.{Uc8253}
use Rattle.controller.specs.Maybe.{Note}
use Rattle.controller.specs.declared.uses.Use.{Use}
use Rattle.controller.specs.declared.uses.Use.TheVariants as use-for
use Rattle.controller.specs.Counting.{own}
use Rattle.controller.specs.Arrives.{timed, rest, ended_by, ended, arrived}
use Rattle.controller.specs.Refresh.{refresh_note, refresh_started, refreshed_by, refreshed, ended_refresh}
use Rattle.controller.specs.Command.{in_reset, asleep, initialises, busy, barred_note, begun}
use Rattle.controller.specs.Command.{executed, sorted_by, passed_by, command_byte}
use Rattle.controller.specs.DataByte.{counted_of, more_of, doing, done_by, purpose_of, past_row, pixel_chip, pixel_byte}
use Rattle.controller.specs.DataByte.{used_by, given_by, data_byte, put_at, for_old, for_new, taken_by, plane_byte}
use Rattle.controller.specs.Reading as byte
use Rattle.controller.specs.Reading.{read_more, after_read, reading_by}
use Rattle.controller.specs.Reset.{cleared, lowered_by, raised_by, reset_edge}
use Rattle.controller.specs.Calls.{first_chip}
use Rattle.controller.specs.Ask.{Ask, command, datum, reading, advance, reset, vcom_rule, taking, ask_busy, ask_deadline, ask_bit, ask_row, ask_picture}
use Rattle.controller.specs.Ask.{record_after}

-- what stays of the record while an operation runs; the planes stay too (`plane_quiet`)
pub record Stays : Type 0 where
  pub regs : Registers
  pub luts : Luts
  pub operation : Operation
  pub waveform : Waveform

abbrev pub stays : Uc8253 → Stays
stays p = record { regs = p.regs; luts = p.luts; operation = p.operation; waveform = p.waveform }

-- ---- a command that takes no further byte
-- after i bytes the largest count is reached; counts hold at 65,535
abbrev full : Params → ℕ → Bool
full (params.Exactly n) i = leb n (min i 65535)
full (params.Between n m) i = leb m (min i 65535)
full params.Stream i = false

-- a further byte is extra, or is only counted
abbrev spent : Kind → ℕ → Bool
spent (kind.Write n) i = full n i
spent kind.Read i = true
spent (kind.Unsupported n) i = true
spent kind.Unknown i = true

abbrev deaf : Current → Bool
deaf current.Idle = true
deaf current.Ignoring = true
deaf (current.Active a) = spent a.kind a.received

-- 07, whose byte starts deep sleep, takes one byte
abbrev only_byte : ℕ → Kind → Bool
only_byte c k = pick (eqb c 0x07) (spent k 1) true

abbrev single : Current → Bool
single current.Idle = true
single current.Ignoring = true
single (current.Active a) = only_byte a.command a.kind

-- the invariant: in reset nothing runs; in reset, and while an operation runs, no byte is taken
pub record Guarded (y : Power) (x : Work) (c : Current) : Type 0 where
  pub alone : in_reset y ≡ true → busy x ≡ false
  pub low : in_reset y ≡ true → deaf c ≡ true
  pub runs : busy x ≡ true → deaf c ≡ true
  pub once : single c ≡ true

abbrev pub GuardedIn : Uc8253 → Type 0
GuardedIn p = Guarded p.mode.power p.operation.work p.stage.current

-- it holds of a command that takes no byte, out of reset; and where nothing runs
awake_deaf : {y : Power} {x : Work} {c : Current} → in_reset y ≡ false → deaf c ≡ true → single c ≡ true → Guarded y x c
awake_deaf n d s = record { alone = λ e. absurd (true≢false (sym e ∙ n)); low = λ e. d; runs = λ e. d; once = s }

awake_free : {y : Power} {x : Work} {c : Current} → in_reset y ≡ false → busy x ≡ false → single c ≡ true → Guarded y x c
awake_free n r s = record {
  alone = λ e. absurd (true≢false (sym e ∙ n));
  low = λ e. absurd (true≢false (sym e ∙ n));
  runs = λ e. absurd (true≢false (sym e ∙ r));
  once = s;
}

guarded_idle : {y : Power} → Guarded y work.Nothing current.Idle
guarded_idle = record { alone = λ e. refl; low = λ e. refl; runs = λ e. refl; once = refl }

guarded_ignoring : {y : Power} {x : Work} → (in_reset y ≡ true → busy x ≡ false) → Guarded y x current.Ignoring
guarded_ignoring a = record { alone = a; low = λ e. refl; runs = λ e. refl; once = refl }

-- what a call's own part makes of a world: the invariant again, and what stays if an operation runs
pub record Spared (p v : Uc8253) : Type 0 where
  pub guarded : GuardedIn v
  pub same : busy p.operation.work ≡ true → stays v ≡ stays p

-- nothing changes; nothing ran
spared_whole : (p : Uc8253) → GuardedIn p → Spared p p
spared_whole p g = record { guarded = g; same = λ e. refl }

spared_free : (p v : Uc8253) → busy p.operation.work ≡ false → GuardedIn v → Spared p v
spared_free p v r g = record { guarded = g; same = λ e. absurd (true≢false (sym e ∙ r)) }

-- ---- counts: what takes no byte takes none later
full_later : (p : Params) (i j : ℕ) → min i 65535 ≤ min j 65535 → full p i ≡ true → full p j ≡ true
full_later (params.Exactly n) i j h e = let l = leb-true n (min i 65535) e in le-leb n (min j 65535) (omega (arith, l))
full_later (params.Between n m) i j h e = let l = leb-true m (min i 65535) e in le-leb m (min j 65535) (omega (arith, l))
full_later params.Stream i j h e = e

spent_later : (k : Kind) (i j : ℕ) → min i 65535 ≤ min j 65535 → spent k i ≡ true → spent k j ≡ true
spent_later (kind.Write n) i j h e = full_later n i j h e
spent_later kind.Read i j h e = refl
spent_later (kind.Unsupported n) i j h e = refl
spent_later kind.Unknown i j h e = refl

spent_more : (k : Kind) (i : ℕ) → spent k i ≡ true → spent k (counted_of i) ≡ true
spent_more k i e = spent_later k i (counted_of i) (omega arith) e

spent_after : (k : Kind) (i : ℕ) → spent k 1 ≡ true → spent k (counted_of i) ≡ true
spent_after k i e = spent_later k 1 (counted_of i) (omega arith) e

full_takes : (p : Params) (i : ℕ) → full p i ≡ true → takes_in p i ≡ false
full_takes (params.Exactly n) i e = let l = leb-true n (min i 65535) e in le-ltb i n (omega (arith, l))
full_takes (params.Between n m) i e = let l = leb-true m (min i 65535) e in le-ltb i m (omega (arith, l))
full_takes params.Stream i e = absurd (true≢false (sym e))

-- ---- a call arrives
guarded_rests : {y : Power} {x : Work} {c : Current} → Guarded y x c → Guarded y work.Nothing c
guarded_rests g = record { alone = λ e. refl; low = g.low; runs = λ e. absurd (false≢true e); once = g.once }

guarded_ended_by : (x : Work) (p : Uc8253) → GuardedIn p → GuardedIn (ended_by x p)
unfolding ended_refresh
guarded_ended_by work.Nothing p g = g
guarded_ended_by work.PowerOn p g = guarded_rests g
guarded_ended_by work.PowerOff p g = guarded_rests g
guarded_ended_by work.DeepSleep p g = awake_free refl refl g.once
guarded_ended_by work.SoftReset p g = guarded_rests g
guarded_ended_by work.HardwareReset p g = guarded_rests g
guarded_ended_by (work.Refresh r) p g = guarded_rests g

pub guarded_arrived : (t : ℕ) (p : Uc8253) → GuardedIn p → GuardedIn (arrived t p)
unfolding arrived ended
guarded_arrived t p g =
    both GuardedIn (leb p.operation.until (max p.now t)) (guarded_ended_by p.operation.work (timed t p) g) g

-- before the operation's end the clock alone moves
pub arrived_before : (t : ℕ) (p : Uc8253) → max p.now t < p.operation.until → arrived t p ≡ timed t p
unfolding arrived ended
arrived_before t p h = rw (lt-leb p.operation.until (max p.now t) h)

-- ---- a command byte
-- it is dropped; or it passes, out of reset, and if an operation runs it is 70, 71 or 81
neither : (a b : Bool) → (a || b) ≡ false → a ≡ false
neither true b e = e
neither false b e = refl

noted_by : (P : Note → Type 0) (k8 k7 k6 : DiagnosticKind) (a b d e : Bool) → ((k : DiagnosticKind) → P (Some k))
    → (a ≡ false → (d ≡ true → e ≡ true) → P None)
    → P (pick a (Some k8) (pick b (Some k7) (pick d (pick e None (Some k6)) None)))
noted_by P k8 k7 k6 true b d e t q = t k8
noted_by P k8 k7 k6 false true d e t q = t k7
noted_by P k8 k7 k6 false false true true t q = q refl (λ z. refl)
noted_by P k8 k7 k6 false false true false t q = t k6
noted_by P k8 k7 k6 false false false e t q = q refl (λ z. absurd (false≢true z))

equals : (P : ℕ → Type 0) (k c : ℕ) → P k → eqb c k ≡ true → P c
equals P k c p e = subst P (sym (eqb-true c k e)) p

readable : (P : ℕ → Type 0) → P 0x70 → P 0x71 → P 0x81 → (c : ℕ) → one_of (0x70 ∷ 0x71 ∷ 0x81 ∷ []) c ≡ true → P c
readable P p q r c e =
    by_cases (eqb c 0x70) (equals P 0x70 c p)
    (λ t0. by_cases (eqb c 0x71) (equals P 0x71 c q)
    (λ t1. by_cases (eqb c 0x81) (equals P 0x81 c r)
    (λ t2. let n : one_of (0x70 ∷ 0x71 ∷ 0x81 ∷ []) c ≡ false = rw (t0, t1, t2) in absurd (false≢true (sym n ∙ e)))))

-- these three are read commands: nothing but the command under way changes
spared_read : (p : Uc8253) → in_reset p.mode.power ≡ false → (v : Variant) (c : ℕ) → one_of (0x70 ∷ 0x71 ∷ 0x81 ∷ []) c ≡ true
    → Spared p (sorted_by own (kind_of c v) c p)
unfolding kind_of executed begun
spared_read p n v =
    let one : (c : ℕ) → Spared p (begun c kind.Read p) = λ c. record {
      guarded = awake_deaf n refl (both (λ (t : Bool). t ≡ true) (eqb c 0x07) refl refl);
      same = λ e. refl;
    } in
    readable (λ (c : ℕ). Spared p (sorted_by own (kind_of c v) c p)) (one 0x70) (one 0x71) (one 0x81)

-- with nothing running: 04, 02 and 12, which may start an operation, take no byte; the others start none
refreshed_guarded : (n : Note) (p : Uc8253) → GuardedIn p → in_reset p.mode.power ≡ false → deaf p.stage.current ≡ true
    → GuardedIn (refreshed_by own n p)
unfolding refresh_started
refreshed_guarded (Some k) p g n d = g
refreshed_guarded None p g n d = awake_deaf n d g.once

module _ (p : Uc8253) (n : in_reset p.mode.power ≡ false) (r : busy p.operation.work ≡ false) (v : Variant) where
  module _ (c : ℕ) (no4 : eqb c 0x04 ≡ false) (no2 : eqb c 0x02 ≡ false) (no12 : eqb c 0x12 ≡ false) where
    executed_guarded : (u : Uc8253) → GuardedIn u → GuardedIn (executed own c u)
    unfolding executed
    executed_guarded u g =
        rw (no4, no2, no12)
        (both GuardedIn (eqb c 0x91) g
        (both GuardedIn (eqb c 0x92) g
        (both GuardedIn (one_of (0x10 ∷ 0x13 ∷ []) c) g
        (both GuardedIn (eqb c 0x11) g g))))

    others_guarded : (k : Kind) → only_byte c k ≡ true → GuardedIn (sorted_by own k c p)
    unfolding begun
    others_guarded kind.Unknown s = awake_free n r refl
    others_guarded (kind.Unsupported k) s = awake_free n r s
    others_guarded (kind.Write k) s = executed_guarded (begun c (kind.Write k) p) (awake_free n r s)
    others_guarded kind.Read s = executed_guarded (begun c kind.Read p) (awake_free n r s)

  only_kind : (c : ℕ) → only_byte c (kind_of c v) ≡ true
  unfolding kind_of
  only_kind c = by_cases (eqb c 0x07) (λ e. rw (eqb-true c 0x07 e)) (λ e. rw e)

  sorted_guarded : (c : ℕ) → GuardedIn (sorted_by own (kind_of c v) c p)
  unfolding kind_of executed refreshed begun
  sorted_guarded c =
      let P : ℕ → Type 0 = λ (k : ℕ). GuardedIn (sorted_by own (kind_of k v) k p) in
      let on = p.mode.powered in
      by_cases (eqb c 0x04) (equals P 0x04 c (both GuardedIn on (awake_deaf n refl refl) (awake_deaf n refl refl)))
      (λ no4. by_cases (eqb c 0x02) (equals P 0x02 c (both GuardedIn on (awake_deaf n refl refl) (awake_deaf n refl refl)))
      (λ no2. by_cases (eqb c 0x12)
      (equals P 0x12 c
      (refreshed_guarded (refresh_note (get_or p.regs.psr 0 0) on) (begun 0x12 (kind_of 0x12 v) p)
      (awake_deaf n refl refl) n refl))
      (λ no12. others_guarded c no4 no2 no12 (kind_of c v) (only_kind c))))

pub spared_command : (c : ℕ) (p : Uc8253) → GuardedIn p → Spared p (command_byte own c p)
unfolding command_byte barred_note
spared_command c p g =
    let y = p.mode.power in
    let x = p.operation.work in
    let v = p.config.variant in
    noted_by (λ (k : Note). Spared p (passed_by own k c p)) _ _ _ (in_reset y || initialises x) (asleep y) (busy x)
    (one_of (0x70 ∷ 0x71 ∷ 0x81 ∷ []) c)
    (λ k. record { guarded = guarded_ignoring g.alone; same = λ e. refl })
    (λ out three.
    let n = neither (in_reset y) (initialises x) out in
    by_cases (busy x) (λ r. spared_read p n v c (three r)) (λ r. spared_free p _ r (sorted_guarded p n r v c)))

-- ---- a data byte
-- while no byte is taken it is extra or only counted
deaf_by : (P : Use → Type 0) (k : Kind) (c i b : ℕ) (x : Bool) → spent k i ≡ true → P use-for.Quiet → P use-for.Extra
    → P (pick (takes_byte k i) (done_by k c i b) (pick x use-for.Quiet use-for.Extra))
deaf_by P (kind.Write n) c i b x e q z = rw (full_takes n i e) (both P x q z)
deaf_by P kind.Read c i b x e q z = both P (takes_byte kind.Read i) q (both P x q z)
deaf_by P (kind.Unsupported n) c i b x e q z = both P (takes_byte (kind.Unsupported n) i) q (both P x q z)
deaf_by P kind.Unknown c i b x e q z = both P (takes_byte kind.Unknown i) q (both P x q z)

-- only a byte of 07 starts deep sleep
abbrev sleeps : Use → Bool
sleeps use-for.Extra = false
sleeps use-for.Quiet = false
sleeps use-for.Soft = false
sleeps use-for.Sleep = true
sleeps use-for.Wrong = false
sleeps use-for.Register = false
sleeps use-for.Older = false
sleeps use-for.Newer = false

doing_awake : (c i b : ℕ) → eqb c 0x07 ≡ false → sleeps (doing c i b) ≡ false
unfolding doing
doing_awake c i b e =
    let P : Use → Type 0 = λ (u : Use). sleeps u ≡ false in
    rw e
    (both P (eqb c 0x00) (both P (eqb i 0) (both P (bit_set b 0) refl refl) refl)
    (both P (eqb c 0x10) refl (both P (eqb c 0x13) refl refl)))

awake_by : (k : Kind) (c i b : ℕ) (x : Bool) → eqb c 0x07 ≡ false
    → sleeps (pick (takes_byte k i) (done_by k c i b) (pick x use-for.Quiet use-for.Extra)) ≡ false
awake_by k c i b x e =
    let P : Use → Type 0 = λ (u : Use). sleeps u ≡ false in
    both P (takes_byte k i) (done k) (both P x refl refl)
  where
    done : (k : Kind) → sleeps (done_by k c i b) ≡ false
    done (kind.Write n) = doing_awake c i b e
    done kind.Read = refl
    done (kind.Unsupported n) = refl
    done kind.Unknown = refl

sleeps_once : (a : Active) (b : ℕ) → single (current.Active a) ≡ true → sleeps (purpose_of a b) ≡ true → spent a.kind 1 ≡ true
unfolding purpose_of
sleeps_once a b s e =
    by_cases (eqb a.command 0x07)
    (λ t. subst (λ (q : Bool). pick q (spent a.kind 1) true ≡ true) t s)
    (λ t. absurd (true≢false (sym e ∙ awake_by a.kind a.command a.received b a.extra_reported t)))

-- where nothing runs: a byte that starts an operation is the last that its command takes
module _ (a : Active) (b : ℕ) (p : Uc8253) (n : in_reset p.mode.power ≡ false) (r : busy p.operation.work ≡ false)
    (s : single (current.Active a) ≡ true) where
  used_free : (u : Use) → (sleeps u ≡ true → spent a.kind 1 ≡ true) → GuardedIn (used_by own u a b p)
  unfolding pixel_byte pixel_chip
  used_free use-for.Extra h = awake_free n r s
  used_free use-for.Quiet h = awake_free n r s
  used_free use-for.Soft h =
      awake_deaf n (le-leb 1 (min (counted_of a.received) 65535) (omega arith))
      (both (λ (t : Bool). t ≡ true) (eqb a.command 0x07) refl refl)
  used_free use-for.Sleep h = awake_deaf n (spent_after a.kind a.received (h refl)) s
  used_free use-for.Wrong h = awake_free n r s
  used_free use-for.Register h = awake_free n r s
  used_free use-for.Older h = both GuardedIn (past_row (written_of p.regs) a.cursor) (awake_free n r s) (awake_free n r s)
  used_free use-for.Newer h = both GuardedIn (past_row (written_of p.regs) a.cursor) (awake_free n r s) (awake_free n r s)

-- the command x under way
abbrev Under : Current → Uc8253 → Type 0
Under x p = Guarded p.mode.power p.operation.work x

spared_deaf : (a : Active) (b : ℕ) (p : Uc8253) → Under (current.Active a) p → deaf (current.Active a) ≡ true
    → Spared p (used_by own (purpose_of a b) a b p)
unfolding purpose_of
spared_deaf a b p h d =
    let more = spent_more a.kind a.received d in
    let on : Under (current.Active (more_of a)) p = record { alone = h.alone; low = λ e. more; runs = λ e. more; once = h.once } in
    deaf_by (λ (u : Use). Spared p (used_by own u a b p)) a.kind a.command a.received b a.extra_reported d
    (record { guarded = on; same = λ e. refl })
    (record { guarded = record { alone = on.alone; low = on.low; runs = on.runs; once = on.once }; same = λ e. refl })

spared_given_by : (x : Current) (b : ℕ) (p : Uc8253) → GuardedIn p → Under x p → Spared p (given_by own x b p)
spared_given_by current.Idle b p g h = record { guarded = guarded_ignoring h.alone; same = λ e. refl }
spared_given_by current.Ignoring b p g h = spared_whole p g
spared_given_by (current.Active a) b p g h =
    by_cases (in_reset p.mode.power) (λ l. spared_deaf a b p h (h.low l))
    (λ n. by_cases (busy p.operation.work) (λ r. spared_deaf a b p h (h.runs r))
    (λ r. spared_free p _ r (used_free a b p n r h.once (purpose_of a b) (sleeps_once a b h.once))))

pub spared_data : (b : ℕ) (p : Uc8253) → GuardedIn p → Spared p (data_byte own b p)
unfolding data_byte
spared_data b p g = spared_given_by p.stage.current b p g g

-- and no plane takes a byte in reset or while an operation runs
deaf_mine : (mine : Use → Bool) → mine use-for.Quiet ≡ false → mine use-for.Extra ≡ false → (a : Active) (b : ℕ)
    → deaf (current.Active a) ≡ true → mine (purpose_of a b) ≡ false
unfolding purpose_of
deaf_mine mine q x a b d =
    deaf_by (λ (u : Use). mine u ≡ false) a.kind a.command a.received b a.extra_reported d q x

module _ (mine : Use → Bool) (q : mine use-for.Quiet ≡ false) (x : mine use-for.Extra ≡ false) (b : ℕ) (area : Area) (l : List ℕ) where
  deaf_taken : (c : Current) → deaf c ≡ true → taken_by mine c b area l ≡ l
  deaf_taken current.Idle d = refl
  deaf_taken current.Ignoring d = refl
  deaf_taken (current.Active a) d = ap (λ (t : Bool). pick t (put_at area a.cursor b l) l) (deaf_mine mine q x a b d)

pub plane_quiet : (mine : Use → Bool) → mine use-for.Quiet ≡ false → mine use-for.Extra ≡ false → (b : ℕ) (p : Uc8253) (l : List ℕ)
    → GuardedIn p → busy p.operation.work ≡ true → plane_byte mine b p l ≡ l
unfolding plane_byte
plane_quiet mine q x b p l g r = deaf_taken mine q x b (written_of p.regs) l p.stage.current (g.runs r)

-- where a byte is taken, nothing runs
pub taken_free : (n : Params) (a : Active) (p : Uc8253) → GuardedIn p → p.stage.current ≡ current.Active a → a.kind ≡ kind.Write n
    → takes_byte a.kind a.received ≡ true → busy p.operation.work ≡ false
taken_free n a p g e k t =
    by_cases (busy p.operation.work)
    (λ r. absurd (true≢false (sym t ∙ ap (λ (x : Kind). takes_byte x a.received) k
    ∙ full_takes n a.received (ap (λ (x : Kind). spent x a.received) (sym k) ∙ ap deaf (sym e) ∙ g.runs r))))
    (λ r. r)

-- ---- a read
spared_after_read : (k : Kind) (a : Active) (p : Uc8253) → GuardedIn p → Under (current.Active a) p → Spared p (after_read k a p)
spared_after_read (kind.Write n) a p g h = spared_whole p g
spared_after_read kind.Read a p g h =
    record { guarded = record { alone = h.alone; low = h.low; runs = h.runs; once = h.once }; same = λ e. refl }
spared_after_read (kind.Unsupported n) a p g h = spared_whole p g
spared_after_read kind.Unknown a p g h = spared_whole p g

spared_reading_by : (x : Current) (p : Uc8253) → GuardedIn p → Under x p → Spared p (reading_by x p)
spared_reading_by current.Idle p g h = spared_whole p g
spared_reading_by current.Ignoring p g h = spared_whole p g
spared_reading_by (current.Active a) p g h = spared_after_read a.kind a p g h

pub spared_reading : (p : Uc8253) → GuardedIn p → Spared p (byte.reading p)
unfolding byte.reading
spared_reading p g = spared_reading_by p.stage.current p g g

-- ---- the reset line
guarded_lowered_by : (y : Power) (p : Uc8253) → GuardedIn p → GuardedIn (lowered_by y p)
unfolding cleared
guarded_lowered_by power.Running p g = guarded_idle
guarded_lowered_by power.Asleep p g = guarded_idle
guarded_lowered_by power.InReset p g = g

pub guarded_asserted : (p : Uc8253) → GuardedIn p → GuardedIn (reset_edge own true p)
unfolding reset_edge
guarded_asserted p g = guarded_lowered_by p.mode.power p g

-- released it starts an operation only where it was low, and nothing ran there
spared_raised_by : (y : Power) (p : Uc8253) → p.mode.power ≡ y → GuardedIn p → Spared p (raised_by own y p)
spared_raised_by power.Running p e g = spared_whole p g
spared_raised_by power.Asleep p e g = spared_whole p g
spared_raised_by power.InReset p e g =
    spared_free p _ (g.alone (ap in_reset e)) (awake_deaf refl (g.low (ap in_reset e)) g.once)

pub spared_released : (p : Uc8253) → GuardedIn p → Spared p (reset_edge own false p)
unfolding reset_edge
spared_released p g = spared_raised_by p.mode.power p refl g

-- ---- every call keeps the invariant
pub guarded_after : (a : Ask) (p : Uc8253) → GuardedIn p → GuardedIn (record_after own a p)
unfolding record_after
guarded_after (command t c) p g = (spared_command c (arrived t p) (guarded_arrived t p g)).guarded
guarded_after (datum t b) p g = (spared_data b (arrived t p) (guarded_arrived t p g)).guarded
guarded_after (reading t) p g = (spared_reading (arrived t p) (guarded_arrived t p g)).guarded
guarded_after (advance t) p g = guarded_arrived t p g
guarded_after (reset t true) p g = guarded_asserted (arrived t p) (guarded_arrived t p g)
guarded_after (reset t false) p g = (spared_released (arrived t p) (guarded_arrived t p g)).guarded
guarded_after (vcom_rule t x) p g = guarded_arrived t p g
guarded_after taking p g = g
guarded_after (ask_busy t) p g = g
guarded_after ask_deadline p g = g
guarded_after (ask_bit older x y) p g = g
guarded_after (ask_row y) p g = g
guarded_after (ask_picture top wide) p g = g

-- ---- making
pub guarded_made : (c : Uc8253Config) → GuardedIn (first_chip c)
unfolding first_chip
guarded_made c = guarded_idle
