-- `waveform::Place::settled` meets its contract. The loop's invariant: the codes to come are still those; the measure: the phases to come.
use mathlib.Core.Path.{◌≡◌}
use Rattle.waveform.specs.InnerPlaces.{codes_from, Placed}
use Rattle.waveform.proofs.PlaceLaws.{phases_left}
use Rattle.waveform.proofs.Place.settled.Given as goal

abbrev pub invariant-loop-p : goal.invariant-loop-p
invariant-loop-p l = (codes_from l.table l.p ≡ codes_from l.table l.initial.p) × Placed l.table l.p

abbrev pub decreases-loop-p : goal.decreases-loop-p
decreases-loop-p l = phases_left l.table l.p
