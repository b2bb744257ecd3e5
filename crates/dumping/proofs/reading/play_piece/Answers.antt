-- `dumping::reading::play_piece` meets its contract: a part of the dump, and whether what follows counts.
use mathlib.Core.Path.{sym, ap, ◌∙◌}
use mathlib.Core.Bool.{Bool}
use Rattle.base.specs.Pick.{pick}
use Rattle.dumping.specs.declared.reading.Course.TheVariants as course
use Rattle.dumping.proofs.reading.play_piece.Goals as goal

pub returns-then-is_settled-clause-steps : goal.returns-then-is_settled-clause-steps
returns-then-is_settled-clause-steps c =
    record {
      stands = λ d w s. c.part-s.ensures.stands d w s;
      course_is = sym
          (ap (λ (t : Bool). pick t course.Settled course.On) (sym c.is_settled.ensures ∙ c.if-is_settled.true));
    }

pub returns-clause-steps : goal.returns-clause-steps
returns-clause-steps c =
    record {
      stands = λ d w s. c.part-s.ensures.stands d w s;
      course_is = sym
          (ap (λ (t : Bool). pick t course.Settled course.On) (sym c.is_settled.ensures ∙ c.if-is_settled.false));
    }
