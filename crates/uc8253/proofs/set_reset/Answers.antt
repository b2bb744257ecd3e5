-- `uc8253::set_reset` meets its contract: the call comes, and then the edge (`call_accepted`); or it is turned back (`call_refused`).
use Rattle.controller.specs.Ask.{new_after}
use Rattle.controller.specs.Ask as ask
use Rattle.controller.specs.Lent.{held}
use Rattle.base.proofs.RefusalWords.{handed_on}
use Rattle.uc8253.proofs.Calls.{call_accepted, call_refused}
use mathlib.Core.Path.{refl}
use Rattle.uc8253.proofs.set_reset.Goals as goal

pub returns-in_err-come_lent-clause-called : goal.returns-in_err-come_lent-clause-called
returns-in_err-come_lent-clause-called c =
    rw (handed_on _ _ c.from_residual.ensures.1)
    (call_refused (ask.reset c.args.at c.args.asserted) refl c.args.p (held c.args.lent.now) c.come_lent.ensures.comes _ c.in_err-come_lent.ensures.gives)

pub returns-clause-called : goal.returns-clause-called
unfolding new_after
returns-clause-called c =
    call_accepted (ask.reset c.args.at c.args.asserted) refl c.args.p (held c.args.lent.now) c.come_lent.ensures.comes c.in_ok-come_lent.ensures.gives c.after_reset.ensures
    refl refl refl refl c.lend_reset.ensures
