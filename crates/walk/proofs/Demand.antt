-- Demand 3, over every list of calls after an accepted making; and that no call lent the making's buffers is turned back.
use mathlib.Core.Path.{◌≡◌, refl, sym, ap, subst, ◌∙◌}
use mathlib.Core.Bool.{true, false, not}
use mathlib.Core.List.{List, [], ◌∷◌, ◌++◌}
use Prim.Native.Nat.{ℕ, zero, suc, ◌+◌, ◌*◌, ◌-◌, ◌<◌}
use native.Mathlib.Omega.{arith}
use lib.Dec.{eqb}
use lib.IntN.{ℤ, pos}
use lib.ListN.{length, get_or, take, drop}
use lib.Seq.{take-add}
use Rattle.base.specs.Integer.{up}
use Rattle.config.specs.declared.Uc8253Config.{Uc8253Config}
use Rattle.glass.specs.Walk.{walk}
use Rattle.glass.proofs.WalkLaws.{walk_append}
use Rattle.glass.proofs.Coalescence.{coalescence}
use Rattle.pixels.proofs.StateLaws.{states_in_range}
use Rattle.controller.specs.World.{World, Buffers, world}
use Rattle.controller.specs.TurnedBack.{making_refused}
use Rattle.controller.specs.Calls.{made, first_chip, first_buffers}
use Rattle.controller.specs.Sound.{Sound}
use Rattle.controller.specs.Counting.{own}
use Rattle.controller.proofs.Keeps.{config_after}
use Rattle.controller.proofs.Quiet.{GuardedIn, guarded_after, guarded_made}
use Rattle.controller.proofs.Sound.{sound_made, sound_done}
use Rattle.controller.proofs.TurnedAway.{done_to}
use Rattle.walk.specs.Machine.{Fed, fresh, fed1, frames_fed1, frames_at, ran, frames_fed, stepped}
use Rattle.walk.specs.Kept.{Machine}
use Rattle.walk.specs.Calls.{Call, turned, next, after, OwnFor, OwnBuffers, Bytes}
use Rattle.walk.specs.Calls.{fed_at, fed_by, start, place, state_at, frames_between, Demand3}
use Rattle.controller.specs.Ask.{Ask, IsByte, refused_by, writes}
use Rattle.walk.proofs.Seen.{machine_of, Calm}
use Rattle.walk.proofs.Calmness.{calm_stepped, calm_fresh}
use Rattle.walk.proofs.Aptness.{Apt, apt_after}
use Rattle.walk.proofs.Follow.{machine_done, glass_done}
use Rattle.walk.proofs.Pixel.{stepped_serves, states_at}
use Rattle.walk.proofs.Lending.{Gone, back, on, gone, states_long, serves, sound_accepted, pixels, roomy}
use Rattle.walk.proofs.Lending.{lending_of, lending, plain, plain_byte, plain_rest, lent_turned, lent_own, Lendable}

-- ---- the calls before a place, and those from it on
fed_take : (at : World) (cs : List Call) (i : ℕ) → take i (fed_by at cs) ≡ fed_by at (take i cs)
unfolding fed_by
fed_take at [] zero = refl
fed_take at [] (suc i) = refl
fed_take at (c ∷ cs) zero = refl
fed_take at (c ∷ cs) (suc i) = ap (λ (l : List Fed). fed_at at c ∷ l) (fed_take (next at c) cs i)

fed_drop : (at : World) (cs : List Call) (i : ℕ) → drop i (fed_by at cs) ≡ fed_by (after at (take i cs)) (drop i cs)
unfolding fed_by after
fed_drop at [] zero = refl
fed_drop at [] (suc i) = refl
fed_drop at (c ∷ cs) zero = refl
fed_drop at (c ∷ cs) (suc i) = fed_drop (next at c) cs i

own_take : (at : World) (cs : List Call) (i : ℕ) → OwnBuffers at cs → OwnBuffers at (take i cs)
own_take at [] zero own = tt
own_take at [] (suc i) own = tt
own_take at (c ∷ cs) zero own = tt
own_take at (c ∷ cs) (suc i) own = (own.0, own_take (next at c) cs i own.1)

own_drop : (at : World) (cs : List Call) (i : ℕ) → OwnBuffers at cs → OwnBuffers (after at (take i cs)) (drop i cs)
unfolding after
own_drop at [] zero own = tt
own_drop at [] (suc i) own = tt
own_drop at (c ∷ cs) zero own = own
own_drop at (c ∷ cs) (suc i) own = own_drop (next at c) cs i own.1

bytes_take : (cs : List Call) (i : ℕ) → Bytes cs → Bytes (take i cs)
bytes_take [] zero b = tt
bytes_take [] (suc i) b = tt
bytes_take (c ∷ cs) zero b = tt
bytes_take (c ∷ cs) (suc i) b = (b.0, bytes_take cs i b.1)

bytes_drop : (cs : List Call) (i : ℕ) → Bytes cs → Bytes (drop i cs)
bytes_drop [] zero b = tt
bytes_drop [] (suc i) b = tt
bytes_drop (c ∷ cs) zero b = b
bytes_drop (c ∷ cs) (suc i) b = bytes_drop cs i b.1

after_append : (at : World) (xs ys : List Call) → after at (xs ++ ys) ≡ after (after at xs) ys
unfolding after
after_append at [] ys = refl
after_append at (x ∷ xs) ys = after_append (next at x) xs ys

after_add : (at : World) (cs : List Call) (i k : ℕ) → after at (take (i + k) cs) ≡ after (after at (take i cs)) (take k (drop i cs))
after_add at cs i k = rw take-add (after_append at (take i cs) (take k (drop i cs)))

-- ---- making
pub made_is : (g : Uc8253Config) (b : Buffers) → making_refused g b ≡ 0 → made g b ≡ world (first_chip g) (first_buffers g)
unfolding made
made_is g b e = rw e

start_config : (g : Uc8253Config) (b : Buffers) → making_refused g b ≡ 0 → (start g b).chip.config ≡ g
unfolding first_chip
start_config g b e = rw (made_is g b e)

pub start_machine : (g : Uc8253Config) (b : Buffers) → making_refused g b ≡ 0 → machine_of (start g b) ≡ fresh g
unfolding first_chip first_buffers fresh
start_machine g b e = rw (made_is g b e)

start_apt : (g : Uc8253Config) (b : Buffers) → making_refused g b ≡ 0 → Apt (start g b).chip
unfolding first_chip
start_apt g b e = rw (made_is g b e)

-- ---- what holds at each place
pub record Good (g : Uc8253Config) (at : World) : Type 0 where
  pub config : at.chip.config ≡ g
  pub sound : Sound at
  pub calm : Calm (machine_of at)
  pub fit : Apt at.chip
  pub guarded : GuardedIn at.chip

-- an accepted call: the state of a pixel walks
done_state : (a : Ask) (at : World) (p : ℕ) → Sound at
    → p < at.chip.config.panel.sources * at.chip.config.panel.gates
    → state_at p (done_to own a at)
    ≡ pos (walk at.chip.config.optics.full_swing (up (state_at p at)) (frames_at at.chip.config (machine_of at) a p))
unfolding state_at frames_at
done_state a at p s h =
    ap (λ (ss : List ℤ). get_or ss p (pos 0)) (glass_done a at)
    ∙ states_at at.chip.config.optics.full_swing at.chip.config.optics.positive_drives_black at.lent.states p
    (subst (λ (n : ℕ). p < n) (sym (states_long at s)) h)
    (stepped at.chip.config (machine_of at) a).ended s.states
    (stepped_serves (length at.lent.states) at.chip.config (machine_of at) a (serves at s))

-- one call of the list
pub record Along (g : Uc8253Config) (at : World) (c : Call) : Type 0 where
  pub good : Good g (next at c)
  pub machine : machine_of (next at c) ≡ fed1 g (machine_of at) (fed_at at c)
  pub state : (p : ℕ) → p < g.panel.sources * g.panel.gates
      → state_at p (next at c) ≡ pos (walk g.optics.full_swing (up (state_at p at)) (frames_fed1 g (machine_of at) (fed_at at c) p))

-- a state in range is the walk over no frame
state_still : (at : World) (p : ℕ) → Sound at → p < at.chip.config.panel.sources * at.chip.config.panel.gates
    → state_at p at ≡ pos (up (state_at p at))
unfolding state_at
state_still at p s h =
    (states_in_range at.chip.config.optics.full_swing at.lent.states s.states p
    (subst (λ (n : ℕ). p < n) (sym (states_long at s)) h)).is

along_here : (at : World) (c : Call) → Good at.chip.config at → IsByte c.ask → Gone at c → Along at.chip.config at c
unfolding fed1 frames_fed1
along_here at c good byte (back b n) = record {
  good = subst (λ (w : World). Good at.chip.config w) (sym n) good;
  machine = ap machine_of n ∙ rw b;
  state = λ p h. ap (state_at p) n ∙ rw b (state_still at p good.sound h);
}
along_here at c good byte (on b n) =
    let s = good.sound in
    let m = machine_done at good.calm good.fit s.chip good.guarded c.ask in
    record {
      good = subst (λ (w : World). Good at.chip.config w) (sym n) (record {
        config = config_after c.ask at.chip;
        sound = sound_done c.ask at byte s;
        calm = subst (λ (x : Machine). Calm x) (sym m) (calm_stepped at.chip.config (machine_of at) c.ask good.calm);
        fit = apt_after c.ask at.chip good.fit;
        guarded = guarded_after c.ask at.chip good.guarded;
      });
      machine = ap machine_of n ∙ rw b m;
      state = λ p h. ap (state_at p) n ∙ rw b (done_state c.ask at p s h);
    }

pub along : (g : Uc8253Config) (at : World) (c : Call) → Good g at → IsByte c.ask → OwnFor (writes c.ask) at c → Along g at c
along g at c good byte own =
    subst (λ (x : Uc8253Config). Along x at c) good.config
    (along_here at c (subst (λ (x : Uc8253Config). Good x at) (sym good.config) good) byte (gone at c own))

-- ---- the list: the machine follows, and the state walks
pub after_good : (g : Uc8253Config) (at : World) (cs : List Call) → Good g at → Bytes cs → OwnBuffers at cs → Good g (after at cs)
unfolding after
after_good g at [] good bytes own = good
after_good g at (c ∷ cs) good bytes own = after_good g (next at c) cs (along g at c good bytes.0 own.0).good bytes.1 own.1

pub after_machine : (g : Uc8253Config) (at : World) (cs : List Call) → Good g at → Bytes cs → OwnBuffers at cs
    → machine_of (after at cs) ≡ ran g (machine_of at) (fed_by at cs)
unfolding after ran fed_by
after_machine g at [] good bytes own = refl
after_machine g at (c ∷ cs) good bytes own =
    let a : Along g at c = along g at c good bytes.0 own.0 in
    after_machine g (next at c) cs a.good bytes.1 own.1 ∙ ap (λ (m : Machine). ran g m (fed_by (next at c) cs)) a.machine

pub after_state : (g : Uc8253Config) (at : World) (cs : List Call) (p : ℕ) → Good g at → Bytes cs → OwnBuffers at cs
    → p < g.panel.sources * g.panel.gates
    → state_at p (after at cs) ≡ pos (walk g.optics.full_swing (up (state_at p at)) (frames_fed g (machine_of at) (fed_by at cs) p))
unfolding after frames_fed fed_by
after_state g at [] p good bytes own h =
    state_still at p good.sound (subst (λ (x : Uc8253Config). p < x.panel.sources * x.panel.gates) (sym good.config) h)
after_state g at (c ∷ cs) p good bytes own h =
    let a : Along g at c = along g at c good bytes.0 own.0 in
    let swing : ℕ = g.optics.full_swing in
    let first : List ℤ = frames_fed1 g (machine_of at) (fed_at at c) p in
    let rest : List ℤ = frames_fed g (fed1 g (machine_of at) (fed_at at c)) (fed_by (next at c) cs) p in
    after_state g (next at c) cs p a.good bytes.1 own.1 h
    ∙ ap (λ (m : Machine). pos (walk swing (up (state_at p (next at c))) (frames_fed g m (fed_by (next at c) cs) p))) a.machine
    ∙ ap (λ (z : ℤ). pos (walk swing (up z) rest)) (a.state p h)
    ∙ ap pos (sym (walk_append swing (up (state_at p at)) first rest))

pub start_good : (g : Uc8253Config) (b : Buffers) → g.optics.initial_gray < 256 → making_refused g b ≡ 0 → Good g (start g b)
start_good g b gray e = record {
  config = start_config g b e;
  sound = sound_made g b gray e;
  calm = subst (λ (m : Machine). Calm m) (sym (start_machine g b e)) (calm_fresh g);
  fit = start_apt g b e;
  guarded = subst (λ (w : World). GuardedIn w.chip) (sym (made_is g b e)) (guarded_made g);
}

pub demand3 : Demand3
unfolding place frames_between
demand3 g b cs gray e bytes own i j le lj p h = record {
  moves =
      let at : World = after (start g b) (take i cs) in
      let mid : List Call = take (j - i) (drop i cs) in
      let good = start_good g b gray e in
      let b1 = bytes_take cs i bytes in
      let o1 = own_take (start g b) cs i own in
      let b2 = bytes_take (drop i cs) (j - i) (bytes_drop cs i bytes) in
      let o2 = own_take at (drop i cs) (j - i) (own_drop (start g b) cs i own) in
      let here = after_good g (start g b) (take i cs) good b1 o1 in
      let m : machine_of at ≡ ran g (fresh g) (take i (fed_by (start g b) cs)) =
      after_machine g (start g b) (take i cs) good b1 o1
      ∙ ap (λ (x : Machine). ran g x (fed_by (start g b) (take i cs))) (start_machine g b e)
      ∙ ap (ran g (fresh g)) (sym (fed_take (start g b) cs i)) in
      let f : fed_by at mid ≡ take (j - i) (drop i (fed_by (start g b) cs)) =
      sym (fed_take at (drop i cs) (j - i)) ∙ ap (take (j - i)) (sym (fed_drop (start g b) cs i)) in
      let s : i + (j - i) ≡ j = omega arith in
      let q : after (start g b) (take j cs) ≡ after at mid =
      subst (λ (n : ℕ). after (start g b) (take n cs) ≡ after at mid) s (after_add (start g b) cs i (j - i)) in
      ap (state_at p) q ∙ after_state g at mid p here b2 o2 h
      ∙ (λ k. pos (walk g.optics.full_swing (up (state_at p at)) (frames_fed g (m k) (f k) p)));
  same = coalescence g.optics.full_swing (frames_between g b cs i j p);
}

-- a call that is lent the place's buffers is never turned back
pub accepts : (g : Uc8253Config) (at : World) (c : Call) → Good g at → c.lent ≡ at.lent → roomy (pixels g) c.ask ≡ true
    → turned at c ≡ false
unfolding turned
accepts g at c good l r =
    ap (λ (x : Buffers). not (eqb (refused_by c.ask (world at.chip x)) 0)) l
    ∙ ap (λ (n : ℕ). not (eqb n 0)) (sound_accepted c.ask at good.sound
    (ap (λ (x : Uc8253Config). roomy (pixels x) c.ask) good.config ∙ r))

pub never_refused : (g : Uc8253Config) (b : Buffers) (cs : List Call) → g.optics.initial_gray < 256 → making_refused g b ≡ 0 → Bytes cs
    → OwnBuffers (start g b) cs
    → (i : ℕ) (c : Call) → c.lent ≡ (place g b cs i).lent → roomy (pixels g) c.ask ≡ true → turned (place g b cs i) c ≡ false
unfolding place
never_refused g b cs gray e bytes own i c l r =
    accepts g (after (start g b) (take i cs)) c
    (after_good g (start g b) (take i cs) (start_good g b gray e) (bytes_take cs i bytes) (own_take (start g b) cs i own)) l r

-- the hypotheses can be met, whatever is asked and whichever calls that may change a lent entry are turned back
module _ (g : Uc8253Config) where
  lend_own : (at : World) (fs : List Fed) → Good g at → plain (pixels g) fs ≡ true → OwnBuffers at (lending at fs)
  unfolding lending
  lend_own at [] good e = tt
  lend_own at (f ∷ fs) good e =
      let here = lent_own at (pixels g) (λ a r. accepts g at (record { ask = a; lent = at.lent }) good refl r) f fs e in
      (here, lend_own (next at (lending_of at f)) fs (along g at (lending_of at f) good (plain_byte (pixels g) f fs e) here).good (plain_rest (pixels g) f fs e))

  lend_fed : (at : World) (fs : List Fed) → Good g at → plain (pixels g) fs ≡ true → fed_by at (lending at fs) ≡ fs
  unfolding lending fed_by
  lend_fed at [] good e = refl
  lend_fed at (f ∷ fs) good e =
      let acc : (a : Ask) → roomy (pixels g) a ≡ true → turned at (record { ask = a; lent = at.lent }) ≡ false =
      λ a r. accepts g at (record { ask = a; lent = at.lent }) good refl r in
      let here = lent_own at (pixels g) acc f fs e in
      (λ i. lent_turned at (pixels g) acc f fs e i ∷ lend_fed (next at (lending_of at f)) fs
      (along g at (lending_of at f) good (plain_byte (pixels g) f fs e) here).good (plain_rest (pixels g) f fs e) i)

pub lendable : Lendable
lendable g b fs gray e q = record {
  own = lend_own g (start g b) fs (start_good g b gray e) q;
  fed = lend_fed g (start g b) fs (start_good g b gray e) q;
}
