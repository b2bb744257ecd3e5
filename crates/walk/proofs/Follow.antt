-- Every accepted call: record and planes, seen as a machine, are what the machine makes of the call, and the glass moves as the machine says.
use mathlib.Core.Path.{◌≡◌, refl, sym, ap, ◌∙◌}
use mathlib.Core.Bool.{Bool, true, false, ◌||◌, ◌&&◌}
use mathlib.Core.List.{List}
use Prim.Native.Nat.{ℕ, max}
use lib.Dec.{leb}
use lib.IntN.{ℤ}
use Rattle.base.proofs.Cases.{by_cases, both}
use Rattle.command.specs.declared.kinds.Kind.{Kind}
use Rattle.config.specs.declared.Uc8253Config.{Uc8253Config}
use Rattle.registers.specs.Flags.{copies_new_to_old}
use Rattle.controller.specs.declared.Power.{Power}
use Rattle.controller.specs.declared.Power.TheVariants as power
use Rattle.controller.specs.declared.Refresh.{Refresh}
use Rattle.controller.specs.declared.Uc8253.{Uc8253}
use Rattle.controller.specs.declared.Work.{Work}
use Rattle.controller.specs.declared.Work.TheVariants as work
use Rattle.controller.specs.World.{World}
use Rattle.controller.specs.Arrives.{timed, arrived}
use Rattle.numbers.specs.Number.{panel_numbers}
use Rattle.controller.specs.declared.drives.Drive.{Drive}
use Rattle.controller.specs.declared.drives.Drive.TheVariants as drive
use Rattle.controller.specs.Command.{in_reset}
use Rattle.controller.specs.Refresh.{mapping_now}
use Rattle.controller.specs.Planes.{old_arrived}
use Rattle.controller.specs.Glass.{driven_at, numbers_now, states_by}
use Rattle.controller.specs.TurnedBack.{cuts, ends_refresh}
use Rattle.controller.specs.Counting.{own}
use Rattle.controller.specs.Sound.{SoundChip}
use Rattle.controller.specs.Ask.{Ask, command, datum, reading, advance, reset, vcom_rule, taking, ask_busy, ask_deadline, ask_bit, ask_row, ask_picture}
use Rattle.controller.specs.Ask.{record_after, old_after, new_after, driven_by, lent_after}
use Rattle.controller.proofs.Keeps.{kept_arrived}
use Rattle.controller.proofs.Quiet.{GuardedIn, guarded_arrived}
use Rattle.controller.proofs.Sound.{sound_arrived, sound_begun}
use Rattle.controller.proofs.TurnedAway.{done_to}
use Rattle.walk.specs.Machine.{Ended, nothing, whole, cut, Out, quiet, settled, commanded, given, lowered, raised, stepped}
use Rattle.walk.specs.Kept.{Noted, Machine}
use Rattle.walk.specs.Parts.{with_rule}
use Rattle.walk.proofs.Seen.{seen, machine_of, states_after, Calm}
use Rattle.walk.proofs.Arrival.{seen_arrived, waits_arrived}
use Rattle.walk.proofs.Commands.{seen_command}
use Rattle.walk.proofs.DataBytes.{seen_data, seen_reading}
use Rattle.walk.proofs.Aptness.{Apt, apt_arrived}
use Rattle.walk.proofs.Edges.{seen_low, seen_high}

-- ---- the machine
-- an assertion looks at the machine that has settled, whatever ended there
low_machine : (g : Uc8253Config) (o : Out) → (lowered g (quiet o.machine)).machine ≡ (lowered g o).machine
unfolding lowered
low_machine g o = by_cases o.machine.low (λ e. rw e) (λ e. rw e)

module _ (w : World) (calm : Calm (machine_of w)) (apt : Apt w.chip) (sound : SoundChip w.chip) (guarded : GuardedIn w.chip) where
  abbrev p : Uc8253
  p = w.chip

  abbrev old : List ℕ
  old = w.lent.old

  abbrev new : List ℕ
  new = w.lent.new

  same_config : (t : ℕ) → (arrived t p).config ≡ p.config
  same_config t = (kept_arrived t p).config

  -- the machine once the call has come, and what f makes of it
  settled_then : (t : ℕ) (f : Uc8253Config → Machine → Machine) → f (arrived t p).config (seen (arrived t p) (old_arrived t p old new) new)
      ≡ f p.config (settled p.config t (machine_of w)).machine
  settled_then t f = λ i. f (same_config t i) (seen_arrived t p old new calm i)

  pub machine_done : (a : Ask) → machine_of (done_to own a w) ≡ (stepped p.config (machine_of w) a).machine
  unfolding stepped record_after lent_after old_after new_after
  machine_done (command t c) =
      seen_command c (arrived t p) (old_arrived t p old new) new (λ k. sound_begun c k (arrived t p) (sound_arrived t p sound)) (waits_arrived t p)
      ∙ settled_then t (λ g. commanded g c)
  machine_done (datum t b) =
      seen_data b (arrived t p) (old_arrived t p old new) new (guarded_arrived t p guarded) (apt_arrived t p apt)
      ∙ settled_then t (λ g. given g b)
  machine_done (reading t) = seen_reading (arrived t p) (old_arrived t p old new) new ∙ seen_arrived t p old new calm
  machine_done (advance t) = seen_arrived t p old new calm
  machine_done (reset t true) =
      seen_low (arrived t p) (old_arrived t p old new) new
      ∙ settled_then t (λ g m. (lowered g (quiet m)).machine)
      ∙ low_machine p.config (settled p.config t (machine_of w))
  machine_done (reset t false) = seen_high (arrived t p) (old_arrived t p old new) new ∙ settled_then t raised
  machine_done (vcom_rule t x) = ap (with_rule x) (seen_arrived t p old new calm)
  machine_done taking = refl
  machine_done (ask_busy t) = refl
  machine_done ask_deadline = refl
  machine_done (ask_bit older x y) = refl
  machine_done (ask_row y) = refl
  machine_done (ask_picture top wide) = refl

-- ---- the glass
cuts_none : (y : Power) → cuts y false ≡ false
cuts_none power.Running = refl
cuts_none power.Asleep = refl
cuts_none power.InReset = refl

-- how the machine's refresh ends at a call is what the call drives: said of anything, F, that is seen of the first and G of the second
module _ {X : Type 0} (p : Uc8253) (old new : List ℕ) (F : Ended → X) (G : Drive → X) where
  -- the refresh under way, as the machine noted it at its start
  abbrev noting : Refresh → Noted
  noting r = record { since = p.operation.started; wave = p.waveform; area = r.area; numbers = panel_numbers (mapping_now p) old new }

  module _ (none : F nothing ≡ G drive.Nothing) (all : (r : Refresh) → F (whole (noting r)) ≡ G drive.Whole)
      (some : (r : Refresh) (n : ℕ) → F (cut n (noting r)) ≡ G (drive.First n)) where
    abbrev Settles : ℕ → Type 0
    Settles t = F (settled p.config t (seen p old new)).ended ≡ G (driven_at own false t p)

    settles_by : (t : ℕ) (x : Work) → p.operation.work ≡ x → Settles t
    unfolding driven_at ends_refresh settled
    settles_by t work.Nothing e = rw e none
    settles_by t work.PowerOn e = by_cases (leb p.operation.until (max p.now t)) (λ l. rw (e, l) none) (λ l. rw (e, l) none)
    settles_by t work.PowerOff e = by_cases (leb p.operation.until (max p.now t)) (λ l. rw (e, l) none) (λ l. rw (e, l) none)
    settles_by t work.DeepSleep e = by_cases (leb p.operation.until (max p.now t)) (λ l. rw (e, l) none) (λ l. rw (e, l) none)
    settles_by t work.SoftReset e = by_cases (leb p.operation.until (max p.now t)) (λ l. rw (e, l) none) (λ l. rw (e, l) none)
    settles_by t work.HardwareReset e = by_cases (leb p.operation.until (max p.now t)) (λ l. rw (e, l) none) (λ l. rw (e, l) none)
    settles_by t (work.Refresh r) e =
        by_cases (leb p.operation.until (max p.now t)) (λ l. rw (e, l) (all r)) (λ l. rw (e, l, cuts_none p.mode.power) none)

    settles : (t : ℕ) → Settles t
    settles t = settles_by t p.operation.work refl

    -- an assertion that finds a refresh at its end lets it end by itself, else it cuts what runs
    module _ (t : ℕ) where
      abbrev Lowers : Type 0
      Lowers = F (lowered p.config (settled p.config t (seen p old new))).ended ≡ G (driven_at own true t p)

      cuts_refresh : (r : Refresh) (y : Power) → p.operation.work ≡ work.Refresh r → p.mode.power ≡ y
          → leb p.operation.until (max p.now t) ≡ false → Lowers
      unfolding driven_at ends_refresh settled lowered
      cuts_refresh r power.Running e k l = rw (e, k, l) (some r _)
      cuts_refresh r power.Asleep e k l = rw (e, k, l) (some r _)
      cuts_refresh r power.InReset e k l = rw (e, k, l) none

      ends_refresh_lem : (r : Refresh) → p.operation.work ≡ work.Refresh r → leb p.operation.until (max p.now t) ≡ true → Lowers
      unfolding driven_at ends_refresh settled lowered
      ends_refresh_lem r e l =
          by_cases (copies_new_to_old p.config.variant p.regs)
          (λ k. by_cases (in_reset p.mode.power) (λ y. rw (e, l, k, y) (all r)) (λ y. rw (e, l, k, y) (all r)))
          (λ k. by_cases (in_reset p.mode.power) (λ y. rw (e, l, k, y) (all r)) (λ y. rw (e, l, k, y) (all r)))

      lowers_at : (x : Work) → p.operation.work ≡ x → (y b : Bool) → in_reset p.mode.power ≡ y → leb p.operation.until (max p.now t) ≡ b
          → Lowers
      unfolding driven_at ends_refresh settled lowered
      lowers_at work.Nothing e true b k l = rw (e, k) none
      lowers_at work.Nothing e false b k l = rw (e, k) none
      lowers_at work.PowerOn e true true k l = rw (e, k, l) none
      lowers_at work.PowerOn e true false k l = rw (e, k, l) none
      lowers_at work.PowerOn e false true k l = rw (e, k, l) none
      lowers_at work.PowerOn e false false k l = rw (e, k, l) none
      lowers_at work.PowerOff e true true k l = rw (e, k, l) none
      lowers_at work.PowerOff e true false k l = rw (e, k, l) none
      lowers_at work.PowerOff e false true k l = rw (e, k, l) none
      lowers_at work.PowerOff e false false k l = rw (e, k, l) none
      lowers_at work.DeepSleep e true true k l = rw (e, k, l) none
      lowers_at work.DeepSleep e true false k l = rw (e, k, l) none
      lowers_at work.DeepSleep e false true k l = rw (e, k, l) none
      lowers_at work.DeepSleep e false false k l = rw (e, k, l) none
      lowers_at work.SoftReset e true true k l = rw (e, k, l) none
      lowers_at work.SoftReset e true false k l = rw (e, k, l) none
      lowers_at work.SoftReset e false true k l = rw (e, k, l) none
      lowers_at work.SoftReset e false false k l = rw (e, k, l) none
      lowers_at work.HardwareReset e true true k l = rw (e, k, l) none
      lowers_at work.HardwareReset e true false k l = rw (e, k, l) none
      lowers_at work.HardwareReset e false true k l = rw (e, k, l) none
      lowers_at work.HardwareReset e false false k l = rw (e, k, l) none
      lowers_at (work.Refresh r) e y true k l = ends_refresh_lem r e l
      lowers_at (work.Refresh r) e y false k l = cuts_refresh r p.mode.power e refl l

      lowers : Lowers
      lowers = lowers_at p.operation.work refl (in_reset p.mode.power) (leb p.operation.until (max p.now t)) refl refl

    pub ended_as : (a : Ask) → F (stepped p.config (seen p old new) a).ended ≡ G (driven_by own a p)
    unfolding stepped
    ended_as (command t c) = settles t
    ended_as (datum t b) = settles t
    ended_as (reading t) = settles t
    ended_as (advance t) = settles t
    ended_as (reset t true) = lowers t
    ended_as (reset t false) = settles t
    ended_as (vcom_rule t x) = settles t
    ended_as taking = none
    ended_as (ask_busy t) = none
    ended_as ask_deadline = none
    ended_as (ask_bit older x y) = none
    ended_as (ask_row y) = none
    ended_as (ask_picture top wide) = none

-- what an accepted call does to the states is what the machine says
pub glass_done : (a : Ask) (w : World)
    → (done_to own a w).lent.states
    ≡ states_after w.chip.config.optics.full_swing w.chip.config.optics.positive_drives_black
    (stepped w.chip.config (machine_of w) a).ended w.lent.states
unfolding lent_after numbers_now
glass_done a w =
    let p = w.chip in
    sym (ended_as p w.lent.old w.lent.new
    (λ e. states_after p.config.optics.full_swing p.config.optics.positive_drives_black e w.lent.states)
    (λ d. states_by d p w.lent.old w.lent.new w.lent.states)
    refl (λ r. refl) (λ r n. refl) a)
