-- `vcd_playing::words::play_words` meets its contract: part by part, the words and then the run of their events.
use mathlib.Core.Path.{refl, ◌∙◌}
use native.Mathlib.Omega.{arith}
use Rattle.events.proofs.Going.{same_more}
use Rattle.vcd_playing.proofs.PlayingLaws.{playing_more, playing_over, playing_end}
use Rattle.vcd_playing.proofs.words.play_words.Goals as goal

pub returns-then-f-clause-plays : goal.returns-then-f-clause-plays
returns-then-f-clause-plays c =
    let l = c.loop-t.invariant in
    let f = c.feed-f.ensures in
    let p = playing_more l.playing f (omega (arith, c.feed-f.type_inv)) c.run-ran.ensures.done.0 in
    playing_over p _ refl refl (f.stops (omega (arith, c.if-f.true, l.room)))

pub loop-t-preserved : goal.loop-t-preserved
loop-t-preserved c =
    let l = c.loop-t.invariant in
    let f = c.feed-f.ensures in
    record {
      playing = playing_more l.playing f (omega (arith, c.feed-f.type_inv)) c.run-ran.ensures.done.0;
      kept = same_more l.kept c.run-ran.ensures.kept;
      room = f.size ∙ l.room;
    }

pub returns-clause-plays : goal.returns-clause-plays
returns-clause-plays c = playing_end c.loop-t.invariant.playing _ refl refl c.loop-t-test.false
