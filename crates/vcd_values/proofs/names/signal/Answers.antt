-- `vcd_values::names::signal` meets its contract: no word follows, a select does, or something else.
use mathlib.Core.Path.{refl, sym, ap, ◌∙◌}
use Rattle.vcd_values.specs.declared.selects.State.TheVariants.{Before, Closed}
use Rattle.vcd_values.specs.Names.{signal_of}
use Rattle.vcd_values.proofs.SelectLaws.{before_not, closed_not}
use Rattle.vcd_values.proofs.NameLaws.{name_alone, name_selected, name_none, signal_none}
use Rattle.vcd_values.proofs.names.signal.Goals as goal

pub returns-in-Before : goal.returns-in-Before
returns-in-Before c =
    let a = c.args in
    c.alone.ensures ∙ ap signal_of (sym (name_alone a.word.now a.after.now Before (sym c.in-Before.is ∙ c.read.ensures) refl))

pub returns-in-Closed : goal.returns-in-Closed
returns-in-Closed c =
    let a = c.args in
    c.selected.ensures ∙ ap signal_of (sym (name_selected a.word.now a.after.now Closed (sym c.in-Closed.is ∙ c.read.ensures) refl refl))

pub returns-in_default : goal.returns-in_default
returns-in_default c =
    let a = c.args in
    let s = c.read.result in
    let begun = before_not s c.in_default.not-Before in
    let unclosed = closed_not s c.in_default.not-Closed in
    sym (ap signal_of (name_none a.word.now a.after.now s c.read.ensures begun unclosed) ∙ signal_none)
