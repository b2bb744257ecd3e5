-- One pixel's state: after a refresh's end it is the walk over the frames that the machine gives the pixel.
use mathlib.Core.Path.{◌≡◌, refl, sym, ap, subst, ◌∙◌}
use mathlib.Core.Bool.{Bool, true, false}
use mathlib.Core.List.{List, []}
use Prim.Native.Nat.{ℕ, zero, suc, ◌<◌, max}
use lib.Dec.{eqb}
use lib.IntN.{ℤ, pos}
use lib.ListN.{length, get_or, take}
use borrow.Author.Tests.{eqb-true}
use Rattle.base.specs.Pick.{pick}
use Rattle.base.specs.Integer.{up}
use Rattle.base.proofs.Cases.{by_cases, both}
use Rattle.config.specs.declared.Uc8253Config.{Uc8253Config}
use Rattle.glass.specs.Walk.{walk}
use Rattle.registers.specs.Flags.{copies_new_to_old}
use Rattle.waveform.specs.Frames.{frames_of}
use Rattle.pixels.specs.States.{is_number, every_number, every_state}
use Rattle.pixels.specs.Drive.{by_number, frames_for}
use Rattle.pixels.proofs.ListLaws.{beside_at}
use Rattle.pixels.proofs.StateLaws.{numbers_known, states_in_range}
use Rattle.controller.specs.Glass.{walked}
use Rattle.controller.specs.Ask.{Ask, command, datum, reading, advance, reset, vcom_rule, taking, ask_busy, ask_deadline, ask_bit, ask_row, ask_picture}
use Rattle.walk.specs.Machine.{Ended, nothing, whole, cut, frames_on, frames_by, Out, done}
use Rattle.walk.specs.Machine.{reached, due, settled, cut_task, cut_job, lowered, stepped}
use Rattle.walk.specs.Kept.{Noted, Task, powers_up, powers_down, falls_asleep, resets_softly}
use Rattle.walk.specs.Kept.{resets_hardly, drives, Job, idle, until, Machine}
use Rattle.walk.specs.Parts.{with_clock, with_job}
use Rattle.walk.proofs.Seen.{states_after}

-- the frames of a number that is one of 1, 2, 3, 4, 255
frames_known : (f : ℕ → List ℤ) (n : ℕ) → is_number n ≡ true → frames_for f n ≡ pick (eqb n 255) [] (f n)
unfolding by_number is_number
frames_known f n e =
    by_cases (eqb n 1) (λ q. rw (eqb-true n 1 q))
    (λ e1. by_cases (eqb n 2) (λ q. rw (eqb-true n 2 q))
    (λ e2. by_cases (eqb n 3) (λ q. rw (eqb-true n 3 q))
    (λ e3. by_cases (eqb n 4) (λ q. rw (eqb-true n 4 q))
    (λ e4. let l : eqb n 255 ≡ true = rw (e1, e2, e3, e4) at e in rw (eqb-true n 255 l)))))

take_none : (k : ℕ) → take {A = ℤ} k [] ≡ []
take_none zero = refl
take_none (suc k) = refl

take_picked : (k : ℕ) (t : Bool) (ds : List ℤ) → pick t [] (take k ds) ≡ take k (pick t [] ds)
take_picked k true ds = sym (take_none k)
take_picked k false ds = refl

-- what a refresh noted serves n states
pub record Serves (n : ℕ) (r : Noted) : Type 0 where
  pub known : every_number r.numbers ≡ true
  pub long : length r.numbers ≡ n

abbrev pub ServesTask : ℕ → Task → Type 0
ServesTask n powers_up = Unit {0}
ServesTask n powers_down = Unit {0}
ServesTask n falls_asleep = Unit {0}
ServesTask n resets_softly = Unit {0}
ServesTask n resets_hardly = Unit {0}
ServesTask n (drives r) = Serves n r

abbrev pub ServesJob : ℕ → Job → Type 0
ServesJob n idle = Unit {0}
ServesJob n (until e k) = ServesTask n k

abbrev pub ServesEnd : ℕ → Ended → Type 0
ServesEnd n nothing = Unit {0}
ServesEnd n (whole r) = Serves n r
ServesEnd n (cut k r) = Serves n r

-- a refresh that ends at a call is the one that ran
module _ (n : ℕ) (g : Uc8253Config) where
  done_serves : (k : Task) (m : Machine) → ServesTask n k → ServesEnd n (done g k m).ended
  done_serves powers_up m s = tt
  done_serves powers_down m s = tt
  done_serves falls_asleep m s = tt
  done_serves resets_softly m s = tt
  done_serves resets_hardly m s = tt
  done_serves (drives r) m s = s

  due_serves : (j : Job) (m : Machine) → ServesJob n j → ServesEnd n (due g j m).ended
  due_serves idle m s = tt
  due_serves (until e k) m s = both (λ (o : Out). ServesEnd n o.ended) (reached e m) (done_serves k (with_job idle m) s) tt

  done_idle : (k : Task) (m : Machine) → m.job ≡ idle → (done g k m).machine.job ≡ idle
  done_idle powers_up m e = e
  done_idle powers_down m e = e
  done_idle falls_asleep m e = e
  done_idle resets_softly m e = e
  done_idle resets_hardly m e = e
  done_idle (drives r) m e = both (λ (x : Machine). x.job ≡ idle) (copies_new_to_old g.variant m.regs) e e

  due_job : (j : Job) (m : Machine) → ServesJob n m.job → ServesJob n (due g j m).machine.job
  due_job idle m s = s
  due_job (until e k) m s =
      both (λ (o : Out). ServesJob n o.machine.job) (reached e m)
      (subst (λ (x : Job). ServesJob n x) (sym (done_idle k (with_job idle m) refl)) tt) s

  settled_serves : (t : ℕ) (m : Machine) → ServesJob n m.job → ServesEnd n (settled g t m).ended
  unfolding settled
  settled_serves t m s = due_serves m.job (with_clock (max m.clock t) m) s

  settled_job : (t : ℕ) (m : Machine) → ServesJob n m.job → ServesJob n (settled g t m).machine.job
  unfolding settled
  settled_job t m s = due_job m.job (with_clock (max m.clock t) m) s

  cut_task_lem : (k : Task) (t : ℕ) (e : Ended) → ServesTask n k → ServesEnd n e → ServesEnd n (cut_task g k t e)
  cut_task_lem powers_up t e s q = q
  cut_task_lem powers_down t e s q = q
  cut_task_lem falls_asleep t e s q = q
  cut_task_lem resets_softly t e s q = q
  cut_task_lem resets_hardly t e s q = q
  cut_task_lem (drives r) t e s q = s

  cut_job_lem : (j : Job) (t : ℕ) (e : Ended) → ServesJob n j → ServesEnd n e → ServesEnd n (cut_job g j t e)
  cut_job_lem idle t e s q = q
  cut_job_lem (until x k) t e s q = cut_task_lem k t e s q

  lowered_serves : (o : Out) → ServesJob n o.machine.job → ServesEnd n o.ended → ServesEnd n (lowered g o).ended
  unfolding lowered
  lowered_serves o s q =
      both (λ (x : Out). ServesEnd n x.ended) o.machine.low q (cut_job_lem o.machine.job o.machine.clock o.ended s q)

  pub stepped_serves : (m : Machine) (a : Ask) → ServesJob n m.job → ServesEnd n (stepped g m a).ended
  unfolding stepped
  stepped_serves m (command t b) s = settled_serves t m s
  stepped_serves m (datum t b) s = settled_serves t m s
  stepped_serves m (reading t) s = settled_serves t m s
  stepped_serves m (advance t) s = settled_serves t m s
  stepped_serves m (reset t true) s = lowered_serves (settled g t m) (settled_job t m s) (settled_serves t m s)
  stepped_serves m (reset t false) s = settled_serves t m s
  stepped_serves m (vcom_rule t x) s = settled_serves t m s
  stepped_serves m taking s = tt
  stepped_serves m (ask_busy t) s = tt
  stepped_serves m ask_deadline s = tt
  stepped_serves m (ask_bit older x y) s = tt
  stepped_serves m (ask_row y) s = tt
  stepped_serves m (ask_picture top wide) s = tt

-- ---- the state at pixel p
module _ (swing : ℕ) (black : Bool) (ss : List ℤ) (p : ℕ) (h : p < length ss) where
  walked_at : (f : ℕ → List ℤ) (r : Noted) → Serves (length ss) r
      → get_or (walked swing f r.numbers ss) p (pos 0)
      ≡ pos (walk swing (up (get_or ss p (pos 0))) (pick (eqb (get_or r.numbers p 255) 255) [] (f (get_or r.numbers p 255))))
  unfolding walked
  walked_at f r s =
      let k : p < length r.numbers = subst (λ (n : ℕ). p < n) (sym s.long) h in
      beside_at (λ n z. pos (walk swing (up z) (frames_for f n))) p r.numbers ss 255 (pos 0) k h
      ∙ ap (λ (ds : List ℤ). pos (walk swing (up (get_or ss p (pos 0))) ds))
      (frames_known f (get_or r.numbers p 255) (numbers_known r.numbers s.known p k))

  pub states_at : (e : Ended) → every_state swing ss ≡ true → ServesEnd (length ss) e
      → get_or (states_after swing black e ss) p (pos 0) ≡ pos (walk swing (up (get_or ss p (pos 0))) (frames_by black e p))
  unfolding frames_on
  states_at nothing q s = (states_in_range swing ss q p h).is
  states_at (whole r) q s = walked_at (λ n. frames_of r.wave black n) r s
  states_at (cut k r) q s =
      walked_at (λ n. take k (frames_of r.wave black n)) r s
      ∙ ap (λ (ds : List ℤ). pos (walk swing (up (get_or ss p (pos 0))) ds))
      (take_picked k (eqb (get_or r.numbers p 255) 255) (frames_of r.wave black (get_or r.numbers p 255)))
