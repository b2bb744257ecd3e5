-- `dumping::reading::next_chunk` meets its contract: there is a chunk, the input is at its end, or a read failed.
use mathlib.Core.Path.{refl}
use Rattle.dumping.specs.declared.reading.Course.TheVariants as course
use Rattle.dumping.proofs.ReadLaws.{stood_more, stood_ended, stood_last}
use Rattle.dumping.proofs.reading.next_chunk.Goals as goal

pub returns-in-Ok-eq0-clause-stood : goal.returns-in-Ok-eq0-clause-stood
returns-in-Ok-eq0-clause-stood g c =
    let a = c.args in
    λ w s. stood_ended course.Whole a.g _ a.kept.now a.word.now _ w refl c.ended.ensures s

pub returns-in-Ok-clause-stood : goal.returns-in-Ok-clause-stood
returns-in-Ok-clause-stood g c =
    let a = c.args in
    λ w s. stood_last _ c.play_chunk-q.result _ _ _ _ w c.last_of.ensures
    (stood_more a.g _ _ a.kept.now a.word.now _ _ w _ _ c.play_chunk-q.ensures.plays s)

pub returns-in-Err-clause-stood : goal.returns-in-Err-clause-stood
returns-in-Err-clause-stood g c =
    let a = c.args in
    λ w s. stood_ended course.Unread a.g _ a.kept.now a.word.now _ w refl c.ended-in-Err.ensures s
