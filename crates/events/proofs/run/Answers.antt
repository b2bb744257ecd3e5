-- `events::run` meets its contract: what the loop keeps, once no event is left.
use mathlib.Core.Path.{◌≡◌, ap, ◌∙◌}
use mathlib.Core.List.{List}
use Prim.Native.Nat.{ℕ}
use native.Mathlib.Omega.{arith}
use borrow.Author.Rules.{rules}
use lib.ListN.{length}
use Rattle.base.specs.RefusalNumbers.{number_of}
use Rattle.controller.specs.World.{world}
use Rattle.controller.specs.Lent.{held}
use Rattle.event.specs.Events.{events_in, ran_to, answers_to, refused_in}
use Rattle.event.proofs.RunLaws.{answers_length}
use Rattle.events.proofs.Going.{going_first, same_more}
use Rattle.events.proofs.SomeLaws.{going_on, first_of}
use Rattle.events.proofs.run.Goals as goal

pub loop-i-init : goal.loop-i-init
loop-i-init c = record { going = going_first _ _ _; kept = search rules; inside = omega arith }

pub next_events-s-requires : goal.next_events-s-requires
next_events-s-requires c = c.loop-i-test.true

pub overflow_add-i : goal.overflow_add-i
overflow_add-i c = omega (arith, c.next_events-s.ensures.goes.within, c.well_formed.1.0.0)

pub loop-i-smaller : goal.loop-i-smaller
loop-i-smaller c = omega (arith, c.next_events-s.ensures.goes.some, c.next_events-s.ensures.goes.within)

pub loop-i-preserved : goal.loop-i-preserved
loop-i-preserved c =
    let g = c.loop-i.invariant in
    let s = c.next_events-s.ensures in
    record {
      going = going_on g.going s.goes (ap number_of c.or-refused.ensures ∙ first_of c.loop-i.refused c.next_events-s.result.refused);
      kept = same_more g.kept s.kept;
      inside = omega (arith, s.goes.within);
    }

pub shape_of-answers : goal.shape_of-answers
shape_of-answers c = ap (λ (l : List ℕ). length l) c.loop-i.invariant.going.gave ∙ answers_length _ _ _ _

pub returns : goal.returns
returns c =
    let l = c.loop-i in
    let a = c.args in
    let w = world a.p (held a.lent.now) in
    let e : l.i ≡ events_in a.events.now = omega (arith, l.invariant.inside, c.loop-i-test.false) in
    record {
      done = (
        l.invariant.going.is ∙ ap (λ (n : ℕ). ran_to a.events.now n w) e,
        l.invariant.going.turned ∙ ap (λ (n : ℕ). refused_in a.events.now n w) e,
      );
      gives = l.invariant.going.gave ∙ ap (λ (n : ℕ). answers_to a.events.now n w a.answers.now) e;
      kept = l.invariant.kept;
    }
