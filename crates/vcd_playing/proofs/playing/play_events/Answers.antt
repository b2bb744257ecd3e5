-- `vcd_playing::playing::play_events` meets its contract: the words, and then the advance.
use Rattle.vcd_playing.proofs.MakingLaws.{events_played}
use Rattle.vcd_playing.proofs.playing.play_events.Goals as goal

pub returns-clause-turns : goal.returns-clause-turns
returns-clause-turns c =
    events_played c.args.dump.now c.declarations-b.result c.declarations-b.ensures c.play_words-t.result _ _ _ (rw (← c.begun.ensures) c.play_words-t.ensures.plays) c.finish.ensures.turns
