-- `vcd_playing::playing::play` meets its contract: the tests in turn, and then the dump.
use mathlib.Core.Path.{sym, ◌∙◌}
use Rattle.base.proofs.RefusalWords.{handed_on}
use Rattle.controller.specs.Lent.{held}
use Rattle.vcd_playing.proofs.MakingLaws.{eight, faulty, fine, word_of, no_word}
use Rattle.vcd_playing.proofs.playing.play.Goals as goal

pub returns-then-config-ne-CONFIG_BYTES-clause-makes : goal.returns-then-config-ne-CONFIG_BYTES-clause-makes
returns-then-config-ne-CONFIG_BYTES-clause-makes c =
    eight c.args.config.now c.args.dump.now (held c.args.lent.now) c.if-config-ne-CONFIG_BYTES.true

pub returns-in_err-map_err-clause-makes : goal.returns-in_err-map_err-clause-makes
returns-in_err-map_err-clause-makes c =
    let a = c.args in
    let p = word_of c.judge.result c.in_err-map_err.ensures.variant c.in_err-map_err.ensures.cases in
    rw (handed_on _ _ c.from_residual.ensures.1, p.2)
    (faulty a.config.now a.dump.now (held a.lent.now) c.if-config-ne-CONFIG_BYTES.false p.0 (sym c.judge.ensures ∙ p.1))

pub returns-clause-makes : goal.returns-clause-makes
returns-clause-makes c =
    let a = c.args in
    fine a.config.now a.dump.now (held a.lent.now) c.if-config-ne-CONFIG_BYTES.false (sym c.judge.ensures ∙ no_word c.judge.result c.in_ok-map_err.ensures.variant) c.play_fine.ensures.makes
