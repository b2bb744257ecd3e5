-- `vcd_values::reals::is_nameless` meets its contract.
use mathlib.Core.Path.{◌≡◌}
use Rattle.std.proofs.Common.{rules}
use Rattle.std.specs.Str.{str_eq_ignore_ascii_case}
use Rattle.text.specs.Text.{ascii}
use Rattle.vcd_values.proofs.RealLaws.{nameless_is}
use Rattle.vcd_values.proofs.reals.is_nameless.Goals as goal

pub returns-then-eq_ignore_ascii_case : goal.returns-then-eq_ignore_ascii_case
returns-then-eq_ignore_ascii_case c =
    let w = c.args.word.now in
    let nan : c.eq_ignore_ascii_case.result ≡ str_eq_ignore_ascii_case w (ascii "nan") = search rules in
    rw (nameless_is w, ← nan, c.if-eq_ignore_ascii_case.true)

pub returns-else-eq_ignore_ascii_case : goal.returns-else-eq_ignore_ascii_case
returns-else-eq_ignore_ascii_case c =
    let w = c.args.word.now in
    let nan : c.eq_ignore_ascii_case.result ≡ str_eq_ignore_ascii_case w (ascii "nan") = search rules in
    let inf : c.eq_ignore_ascii_case-else-eq_ignore_ascii_case.result ≡ str_eq_ignore_ascii_case w (ascii "inf") = search rules in
    rw (nameless_is w, ← nan, ← inf, c.if-eq_ignore_ascii_case.false)
