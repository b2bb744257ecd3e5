-- `vcd_reading::closing::close_by` meets its contract, by the stage.
use mathlib.Core.Path.{ap}
use mathlib.Core.List.{List}
use Prim.Native.Nat.{ℕ}
use lib.ListN.{take}
use Rattle.vcd_simulation.specs.Feed.{codes_by}
use Rattle.vcd_reading.specs.declared.reader.Stage.TheVariants as stage
use Rattle.vcd_reading.proofs.CarryLaws.{front_as}
use Rattle.vcd_reading.proofs.ReadLaws.{at_stage}
use Rattle.vcd_reading.proofs.HeadLaws.{begins_as}
use Rattle.vcd_reading.proofs.CloseLaws.{closes_at, closes_as, kept_closes, played_closes}
use Rattle.vcd_reading.proofs.closing.close_by.Goals as goal

pub returns-in-Heading-clause-closes : goal.returns-in-Heading-clause-closes
returns-in-Heading-clause-closes c =
    λ d w s.
    let a = c.args in
    let h = at_stage d a.r a.kept.now a.word.now w _ stage.Heading c.in-Heading.is s in
    let head = front_as a.r.held a.kept.now c.min.ensures in
    closes_at stage.Heading a.r d _ w _ _ c.in-Heading.is
    (kept_closes d c.declarations-b.result c.begun.result _ w _ _ (take a.r.held a.kept.now) h.0.all_kept (begins_as head c.declarations-b.ensures) c.begun.ensures h.1
    (closes_as (ap (λ (l : List ℕ). codes_by l c.declarations-b.result.head) head) head c.close_words.ensures.closes))

pub returns-in-Playing-clause-closes : goal.returns-in-Playing-clause-closes
returns-in-Playing-clause-closes c =
    λ d w s.
    let a = c.args in
    let h = at_stage d a.r a.kept.now a.word.now w _ stage.Playing c.in-Playing.is s in
    let head = front_as a.r.held a.kept.now c.min.ensures in
    closes_at stage.Playing a.r d _ w _ _ c.in-Playing.is
    (played_closes d a.r a.kept.now a.word.now w _ h _ _
    (closes_as (ap (λ (l : List ℕ). codes_by l a.r.begun.head) head) (front_as a.r.carried a.word.now c.min-in-Playing.ensures) c.close_words-in-Playing.ensures.closes))
