-- What a step hands back, by its three parts.
use mathlib.Core.Path.{◌≡◌, ap, ◌∙◌}
use Prim.Native.Nat.{ℕ}
use Rattle.std.proofs.Common.{Option}
use Rattle.base.specs.declared.refusals.Refusal.{Refusal}
use Rattle.base.specs.RefusalNumbers.{number_of}
use Rattle.controller.specs.declared.Uc8253.{Uc8253}
use Rattle.controller.specs.World.{World, Buffers, world}
use Rattle.event.specs.declared.Event.{Event}
use Rattle.event.specs.Events.{event_done, event_refused, event_answer}
use Rattle.event.proofs.EventLaws.{Does}
use Rattle.events.specs.declared.steps.Stepped.{Stepped}

pub stepped : (e : Event) (w : World) {s : Stepped} {l : Buffers} (p : Uc8253) (r : Option Refusal) (x : ℕ)
    → s ≡ record { chip = p; refused = r; answer = x } → Does e w (world p l) (number_of r) x
    → ((world s.chip l ≡ event_done e w) × (number_of s.refused ≡ event_refused e w)) × (s.answer ≡ event_answer e w)
stepped e w {s} {l} p r x q d = (
  (ap (λ (z : Stepped). world z.chip l) q ∙ d.done, ap (λ (z : Stepped). number_of z.refused) q ∙ d.turned),
  ap (λ (z : Stepped). z.answer) q ∙ d.gives,
)
