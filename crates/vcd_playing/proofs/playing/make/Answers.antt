-- `vcd_playing::playing::make` meets its contract: 9, else the making.
use mathlib.Core.Path.{sym, ◌∙◌}
use Rattle.controller.specs.Lent.{held}
use Rattle.vcd_playing.proofs.MakingLaws.{bad_made, good_made}
use Rattle.vcd_playing.proofs.playing.make.Goals as goal

pub returns-then-bad_config-clause-makes : goal.returns-then-bad_config-clause-makes
returns-then-bad_config-clause-makes c =
    bad_made c.args.config.now (held c.args.lent.now) (sym c.bad_config.ensures ∙ c.if-bad_config.true)

pub returns-clause-makes : goal.returns-clause-makes
returns-clause-makes c =
    good_made c.args.config.now (held c.args.lent.now) c.config_of.result c.config_of.ensures (sym c.bad_config.ensures ∙ c.if-bad_config.false) c.power_on.ensures.makes
