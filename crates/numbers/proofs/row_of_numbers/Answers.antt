-- `numbers::row_of_numbers` meets its contract, by the row of the RAM that it shows: in order, a column of the panel shows that of the RAM.
use mathlib.Core.Path.{sym, ap, ◌∙◌}
use Rattle.numbers.specs.declared.Row.{Row}
use Rattle.numbers.specs.InnerRow.{row_at, number_in, number_at}
use Rattle.numbers.proofs.FilledLaws.{filled_same}
use Rattle.numbers.proofs.NumberLaws.{number_by_row, shown_in_order}
use Rattle.numbers.proofs.row_of_numbers.Goals as goal

pub returns-then-in_order : goal.returns-then-in_order
returns-then-in_order c =
    let s = c.args in
    let p = s.p in
    let row = c.row_at.ensures ∙ ap (row_at p.active p.area) c.shown-r.ensures in
    let order = sym c.in_order.ensures ∙ c.if-in_order.true in
    c.row_in_order.ensures
    ∙ filled_same _ _ 0 p.columns.count s.row.now
    (λ x. (λ i. number_in (row i) p.white s.old.now s.new.now (shown_in_order p.columns p.active.x0 p.active.x1 x order i))
    ∙ number_by_row p s.old.now s.new.now s.y x)

pub returns-else-in_order : goal.returns-else-in_order
returns-else-in_order c =
    let s = c.args in
    let p = s.p in
    let row = c.row_at.ensures ∙ ap (row_at p.active p.area) c.shown-r.ensures in
    c.row_singly.ensures
    ∙ filled_same _ _ 0 p.columns.count s.row.now
    (λ x. ap (λ (q : Row). number_at q p.white s.old.now s.new.now p.columns p.active x) row
    ∙ number_by_row p s.old.now s.new.now s.y x)
