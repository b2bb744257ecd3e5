-- The machine in reset: nothing runs and no command is under way, after every call.
use mathlib.Core.Path.{◌≡◌, refl, sym, subst, ◌∙◌}
use mathlib.Core.Bool.{Bool, true, false, not, ◌&&◌, ◌||◌, true≢false}
use mathlib.Core.List.{[], ◌∷◌}
use Prim.Native.Nat.{ℕ, max}
use lib.Dec.{eqb, ltb}
use Rattle.base.specs.Pick.{pick, one_of}
use Rattle.base.proofs.Cases.{by_cases, both}
use Rattle.config.specs.declared.Uc8253Config.{Uc8253Config}
use Rattle.command.specs.declared.kinds.Kind.{Kind}
use Rattle.command.specs.declared.kinds.Kind.TheVariants as kind
use Rattle.command.specs.Kinds.{kind_of, takes_byte}
use Rattle.registers.specs.Flags.{bit_set, copies_new_to_old}
use Rattle.registers.specs.Written.{written_of}
use Rattle.controller.specs.Ask.{Ask, command, datum, reading, advance, reset, vcom_rule, taking, ask_busy, ask_deadline, ask_bit, ask_row, ask_picture}
use Rattle.walk.specs.Machine.{busy, restarts, Out, done, reached, due, settled, dropped, able, refresh, acted, ordered, commanded}
use Rattle.walk.specs.Machine.{softened, streamed, stored, took, took_by, heard, given, cleared, lowered, raised, stepped, fresh}
use Rattle.walk.specs.Kept.{Order, Hearing, none, ignored, under, Task, powers_up, powers_down}
use Rattle.walk.specs.Kept.{falls_asleep, resets_softly, resets_hardly, drives, Job, idle, until, Machine}
use Rattle.walk.specs.Parts.{with_clock, with_hears, with_job}
use Rattle.walk.proofs.Seen.{live, works, Calm}

-- a command and a data byte leave the line as it is
low_refresh : (g : Uc8253Config) (m : Machine) → (refresh g m).low ≡ m.low
unfolding refresh
low_refresh g m = both (λ (n : Machine). n.low ≡ m.low) (able m) refl refl

low_acted : (g : Uc8253Config) (c : ℕ) (m : Machine) → (acted g c m).low ≡ m.low
unfolding acted
low_acted g c m =
    let P : Machine → Type 0 = λ (n : Machine). n.low ≡ m.low in
    both P (eqb c 0x04) (both P m.power refl refl)
    (both P (eqb c 0x02) (both P m.power refl refl)
    (both P (eqb c 0x12) (low_refresh g m)
    (both P (eqb c 0x91) refl
    (both P (eqb c 0x92) refl refl))))

low_ordered : (k : Kind) (g : Uc8253Config) (c : ℕ) (m : Machine) → (ordered k g c m).low ≡ m.low
low_ordered kind.Unknown g c m = refl
low_ordered (kind.Unsupported n) g c m = refl
low_ordered (kind.Write n) g c m = low_acted g c _
low_ordered kind.Read g c m = low_acted g c _

low_commanded : (g : Uc8253Config) (c : ℕ) (m : Machine) → (commanded g c m).low ≡ m.low
unfolding commanded
low_commanded g c m = both (λ (n : Machine). n.low ≡ m.low) (dropped c m) refl (low_ordered (kind_of c g.variant) g c m)

low_streamed : (b : ℕ) (o : Order) (m : Machine) → (streamed b o m).low ≡ m.low
unfolding streamed
low_streamed b o m =
    let P : Machine → Type 0 = λ (n : Machine). n.low ≡ m.low in
    both P (ltb (written_of m.regs).y1 o.cursor.y) refl (both P (eqb o.byte 0x10) refl refl)

low_took : (g : Uc8253Config) (b : ℕ) (o : Order) (m : Machine) → (took g b o m).low ≡ m.low
unfolding took softened stored
low_took g b o m =
    let P : Machine → Type 0 = λ (n : Machine). n.low ≡ m.low in
    both P (eqb o.byte 0x00 && (eqb o.count 0 && not (bit_set b 0))) refl
    (both P (eqb o.byte 0x07) (both P (eqb b 0xA5) refl refl)
    (both P (one_of (0x10 ∷ 0x13 ∷ []) o.byte) (low_streamed b o m) refl))

low_took_by : (k : Kind) (g : Uc8253Config) (b : ℕ) (o : Order) (m : Machine) → (took_by k g b o m).low ≡ m.low
low_took_by (kind.Write n) g b o m = low_took g b o m
low_took_by kind.Read g b o m = refl
low_took_by (kind.Unsupported n) g b o m = refl
low_took_by kind.Unknown g b o m = refl

low_heard : (h : Hearing) (g : Uc8253Config) (b : ℕ) (m : Machine) → (heard h g b m).low ≡ m.low
low_heard none g b m = refl
low_heard ignored g b m = refl
low_heard (under o) g b m = both (λ (n : Machine). n.low ≡ m.low) (takes_byte o.kind o.count) (low_took_by o.kind g b o m) refl

-- out of reset there is nothing to show
calm_high : (m : Machine) → m.low ≡ false → Calm m
calm_high m e = record { still = λ l. absurd (true≢false (sym l ∙ e)); deaf = λ l. absurd (true≢false (sym l ∙ e)) }

-- arrival
calm_done : (g : Uc8253Config) (k : Task) (m : Machine) → works m.job ≡ false → Calm m → Calm (done g k m).machine
calm_done g powers_up m e c = record { still = c.still; deaf = c.deaf }
calm_done g powers_down m e c = record { still = c.still; deaf = c.deaf }
calm_done g falls_asleep m e c = record { still = c.still; deaf = c.deaf }
calm_done g resets_softly m e c = c
calm_done g resets_hardly m e c = c
calm_done g (drives r) m e c = both Calm (copies_new_to_old g.variant m.regs) (record { still = c.still; deaf = c.deaf }) c

calm_due : (g : Uc8253Config) (j : Job) (m : Machine) → Calm m → Calm (due g j m).machine
calm_due g idle m c = c
calm_due g (until e k) m c =
    both (λ (o : Out). Calm o.machine) (reached e m)
    (calm_done g k (with_job idle m) refl (record { still = λ l. refl; deaf = c.deaf })) c

calm_settled : (g : Uc8253Config) (t : ℕ) (m : Machine) → Calm m → Calm (settled g t m).machine
unfolding settled
calm_settled g t m c = calm_due g m.job (with_clock (max m.clock t) m) (record { still = c.still; deaf = c.deaf })

-- a command byte: in reset it is dropped
calm_in_reset : (g : Uc8253Config) (b : ℕ) (m : Machine) → Calm m → m.low ≡ true → Calm (commanded g b m)
unfolding commanded dropped
calm_in_reset g b m c l =
    subst (λ (t : Bool). Calm
    (pick ((t || restarts m.job) || (m.sleep || (busy m.job m.clock && not (one_of (0x70 ∷ 0x71 ∷ 0x81 ∷ []) b))))
    (with_hears ignored m) (ordered (kind_of b g.variant) g b m)))
    (sym l) (record { still = c.still; deaf = λ q. refl })

calm_commanded : (g : Uc8253Config) (b : ℕ) (m : Machine) → Calm m → Calm (commanded g b m)
calm_commanded g b m c = by_cases m.low (calm_in_reset g b m c) (λ l. calm_high (commanded g b m) (low_commanded g b m ∙ l))

-- a data byte: in reset no command is under way
calm_heard : (h : Hearing) (g : Uc8253Config) (b : ℕ) (m : Machine) → m.hears ≡ h → live h ≡ false → Calm m → Calm (heard h g b m)
calm_heard none g b m e q c = record { still = c.still; deaf = λ l. refl }
calm_heard ignored g b m e q c = c
calm_heard (under o) g b m e q c = absurd (true≢false q)

calm_given : (g : Uc8253Config) (b : ℕ) (m : Machine) → Calm m → Calm (given g b m)
unfolding given
calm_given g b m c =
    by_cases m.low (λ l. calm_heard m.hears g b m refl (c.deaf l) c)
    (λ l. calm_high (heard m.hears g b m) (low_heard m.hears g b m ∙ l))

-- the edges
calm_lowered : (g : Uc8253Config) (o : Out) → Calm o.machine → Calm (lowered g o).machine
unfolding lowered cleared
calm_lowered g o c = both (λ (q : Out). Calm q.machine) o.machine.low c (record { still = λ l. refl; deaf = λ l. refl })

calm_raised : (g : Uc8253Config) (m : Machine) → Calm m → Calm (raised g m)
unfolding raised
calm_raised g m c = both Calm m.low (record { still = λ l. absurd (true≢false (sym l)); deaf = λ l. absurd (true≢false (sym l)) }) c

pub calm_stepped : (g : Uc8253Config) (m : Machine) (a : Ask) → Calm m → Calm (stepped g m a).machine
unfolding stepped
calm_stepped g m (command t b) c = calm_commanded g b (settled g t m).machine (calm_settled g t m c)
calm_stepped g m (datum t b) c = calm_given g b (settled g t m).machine (calm_settled g t m c)
calm_stepped g m (reading t) c = calm_settled g t m c
calm_stepped g m (advance t) c = calm_settled g t m c
calm_stepped g m (reset t true) c = calm_lowered g (settled g t m) (calm_settled g t m c)
calm_stepped g m (reset t false) c = calm_raised g (settled g t m).machine (calm_settled g t m c)
calm_stepped g m (vcom_rule t x) c = let s = calm_settled g t m c in record { still = s.still; deaf = s.deaf }
calm_stepped g m taking c = c
calm_stepped g m (ask_busy t) c = c
calm_stepped g m ask_deadline c = c
calm_stepped g m (ask_bit older x y) c = c
calm_stepped g m (ask_row y) c = c
calm_stepped g m (ask_picture top wide) c = c

pub calm_fresh : (g : Uc8253Config) → Calm (fresh g)
unfolding fresh
calm_fresh g = record { still = λ l. refl; deaf = λ l. refl }
