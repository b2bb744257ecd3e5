-- `vcd::judging::judge` meets its contract: the declarations, the simulation, and what they come to.
use mathlib.Core.Path.{◌∙◌}
use Rattle.vcd.proofs.JudgeLaws.{judged_is}
use Rattle.vcd.proofs.judging.judge.Goals as goal

pub returns : goal.returns
returns c =
    c.verdict.ensures ∙ judged_is c.args.dump.now c.declarations-b.result c.declarations-b.ensures c.simulate-body.result c.simulate-body.ensures
