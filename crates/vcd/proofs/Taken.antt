-- Every event of an accepted dump is taken: no call is turned back.
use mathlib.Core.Path.{◌≡◌, refl}
use mathlib.Core.Bool.{Bool, true, false}
use mathlib.Core.List.{List, [], ◌∷◌}
use Prim.Native.Nat.{ℕ}
use native.Mathlib.Omega.{arith}
use lib.Dec.{eqb}
use lib.ListN.{length}
use borrow.Author.Tests.{eqb-true}
use Rattle.base.specs.Pick.{pick}
use Rattle.controller.specs.World.{World, Buffers}
use Rattle.controller.specs.TurnedBack.{making_refused}
use Rattle.controller.specs.Calls.{made}
use Rattle.controller.specs.Sound.{Sound}
use Rattle.controller.proofs.Sound.{sound_made}
use Rattle.event.specs.declared.Event.{Event}
use Rattle.event.specs.Events.{event_done, event_refused}
use Rattle.event.proofs.RunLaws.{Bytes, byte_anywhere, sound_event, event_taken}
use Rattle.vcd_words.specs.Words.{words}
use Rattle.vcd_declarations.specs.Declarations.{cut}
use Rattle.vcd_simulation.specs.Simulation.{begun}
use Rattle.capture.specs.Refused.{bad_config, listed}
use Rattle.vcd.specs.Dump.{codes_in, simulated, malformed, unsignalled, dump_events, config_in, dump_refused}
use Rattle.vcd.proofs.Calls.{AllFit, fit_join}
use Rattle.vcd.proofs.Fitting.{words_fit}

-- each call in turn is taken
pub data AllTaken : List Event → World → Type 0 where
  no_call : {w : World} → AllTaken [] w
  one_taken : {e : Event} {es : List Event} {w : World} → event_refused e w ≡ 0 → AllTaken es (event_done e w) → AllTaken (e ∷ es) w

sound_taken : (es : List Event) → AllFit es → (w : World) → Sound w → AllTaken es w
sound_taken [] AllFit.no_event w s = no_call
sound_taken (e ∷ es) (AllFit.one_more f fs) w s =
    one_taken (event_taken e w s) (sound_taken es fs (event_done e w) (sound_event e w f.value_fits s))

-- the events of a dump fit, the last advance with them
pub dump_fits : (dump : List ℕ) → AllFit (dump_events dump)
unfolding dump_events simulated listed
dump_fits dump =
    let all = words_fit (codes_in dump) (cut (words dump)).rest begun (omega arith) in
    fit_join (simulated dump).events _ all.1
    (AllFit.one_more (record { time_fits = all.0; kind_fits = omega arith; value_fits = omega arith; listed_fits = refl }) AllFit.no_event)

-- ---- what a dump has that is not refused
pub record Passed (config : List ℕ) (b : Buffers) : Type 0 where
  pub length_is : length config ≡ 312
  pub config_good : bad_config config 0 ≡ false
  pub making_taken : making_refused (config_in config) b ≡ 0

-- 0 comes out of a test that could give another number: so it went the other way
second : (t : Bool) {n x : ℕ} → (n ≡ 0 → ⊥) → pick t n x ≡ 0 → (t ≡ false) × (x ≡ 0)
second true h e = absurd (h e)
second false h e = (refl, e)

first : (t : Bool) {n x : ℕ} → (n ≡ 0 → ⊥) → pick t x n ≡ 0 → (t ≡ true) × (x ≡ 0)
first true h e = (refl, e)
first false h e = absurd (h e)

pub passed : (config dump : List ℕ) (b : Buffers) → dump_refused config dump b ≡ 0 → Passed config b
unfolding dump_refused
passed config dump b e =
    let long = first (eqb (length config) 312) (λ z. omega (arith, z)) e in
    let formed = second (malformed dump) (λ z. omega (arith, z)) long.1 in
    let signalled = second (unsignalled dump) (λ z. omega (arith, z)) formed.1 in
    let good = second (bad_config config 0) (λ z. omega (arith, z)) signalled.1 in
    record { length_is = eqb-true _ _ long.0; config_good = good.0; making_taken = good.1 }

-- the configuration's bytes are bytes, as every lent byte is
pub every_taken : (config dump : List ℕ) (b : Buffers) → Bytes config → dump_refused config dump b ≡ 0
    → AllTaken (dump_events dump) (made (config_in config) b)
unfolding config_in
every_taken config dump b bytes e =
    sound_taken (dump_events dump) (dump_fits dump) (made (config_in config) b)
    (sound_made (config_in config) b (byte_anywhere config bytes 6) (passed config dump b e).making_taken)
