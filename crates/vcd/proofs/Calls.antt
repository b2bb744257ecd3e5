-- Events as a capture has them: the run of their bytes is their calls, one by one.
use mathlib.Core.Path.{◌≡◌, refl, ap, ◌∙◌}
use mathlib.Core.Bool.{true}
use mathlib.Core.List.{List, [], ◌∷◌, ◌++◌}
use Prim.Native.Nat.{ℕ, zero, suc, ◌+◌, ◌*◌, ◌/◌, ◌%◌, ◌^◌, ◌≤◌, ◌<◌}
use native.Mathlib.Nat.{pow-succ'}
use native.Mathlib.Omega.{arith}
use lib.ListN.{length, get_or, drop}
use Rattle.capture.specs.Little.{little}
use Rattle.capture.specs.Refused.{listed}
use Rattle.controller.specs.World.{World}
use Rattle.event.specs.declared.Event.{Event}
use Rattle.event.specs.Events.{event_at, event_done, ran}
use Rattle.event.proofs.RunLaws.{ran_first, ran_none}
use Rattle.vcd_simulation.specs.Written.{lowest, event_bytes, written}
use Rattle.vcd.specs.Played.{calls}

-- what a capture can hold: numbers that ten bytes have room for, and a kind and a value that are listed
pub record Fits (e : Event) : Type 0 where
  pub time_fits : e.time < 0x1_0000_0000_0000_0000
  pub kind_fits : e.kind < 256
  pub value_fits : e.value < 256
  pub listed_fits : listed e.kind e.value ≡ true

pub data AllFit : List Event → Type 0 where
  no_event : AllFit []
  one_more : {e : Event} {es : List Event} → Fits e → AllFit es → AllFit (e ∷ es)

-- ---- a number's bytes, the lowest first, are the number
little_rest : (b : ℕ) (l : List ℕ) (at n : ℕ) → little (b ∷ l) (suc at) n ≡ little l at n
little_rest b l at zero = refl
little_rest b l at (suc n) = ap (λ (x : ℕ). get_or l at 0 + 256 * x) (little_rest b l (suc at) n)

pub lowest_number : (n x : ℕ) (r : List ℕ) → x < 256 ^ n → little (lowest n x ++ r) 0 n ≡ x
lowest_number zero x r h = omega (arith, h)
lowest_number (suc n) x r h =
    let rest : little (x % 256 ∷ (lowest n (x / 256) ++ r)) 1 n ≡ x / 256 =
    little_rest (x % 256) (lowest n (x / 256) ++ r) 0 n ∙ lowest_number n (x / 256) r (omega (arith, h, pow-succ' 256 n)) in
    omega (arith, rest)

-- ---- the first event of some bytes is the one written there, and what follows it is the rest
first_event : (e : Event) (r : List ℕ) → Fits e → event_at (event_bytes e ++ r) 0 ≡ e
unfolding event_at event_bytes
first_event e r f = ap (λ (t : ℕ). record { time = t; kind = e.kind; value = e.value })
    (lowest_number 8 e.time (e.kind ∷ e.value ∷ r) f.time_fits)

rest_events : (e : Event) (r : List ℕ) → drop 10 (event_bytes e ++ r) ≡ r
unfolding event_bytes
rest_events e r = refl

ten_bytes : (e : Event) (r : List ℕ) → 10 ≤ length (event_bytes e ++ r)
unfolding event_bytes
ten_bytes e r = omega arith

pub calls_run : (es : List Event) → AllFit es → (w : World) → ran (written es) w ≡ calls es w
calls_run [] no_event w = ran_none [] w (omega arith)
calls_run (e ∷ es) (one_more f fs) w =
    ran_first (event_bytes e ++ written es) w (ten_bytes e (written es))
    ∙ ap (λ (r : List ℕ). ran r (event_done (event_at (event_bytes e ++ written es) 0) w)) (rest_events e (written es))
    ∙ ap (λ (d : Event). ran (written es) (event_done d w)) (first_event e (written es) f)
    ∙ calls_run es fs (event_done e w)

pub fit_join : (es fs : List Event) → AllFit es → AllFit fs → AllFit (es ++ fs)
fit_join [] fs no_event k = k
fit_join (e ∷ es) fs (one_more f h) k = one_more f (fit_join es fs h k)

pub calls_join : (es fs : List Event) (w : World) → calls (es ++ fs) w ≡ calls fs (calls es w)
calls_join [] fs w = refl
calls_join (e ∷ es) fs w = calls_join es fs (event_done e w)
