-- `ram::write` meets its contract: a whole byte inside the area is stored, and else the bits are put one by one.
use mathlib.Core.Path.{sym, ◌∙◌}
use native.Mathlib.Omega.{arith}
use Rattle.ram.proofs.BytewiseLaws.{whole_written}
use Rattle.ram.proofs.write.Goals as goal

pub returns-then-whole_byte : goal.returns-then-whole_byte
returns-then-whole_byte c =
    let s = c.before.before in
    let i = s.before.before.before in
    let e = i.before.before in
    let a = e.args in
    s.store.ensures
    ∙ rw s.place.ensures
    (sym (whole_written a.plane.now a.area a.x a.y a.byte (λ k. omega (arith, e.slice_known-1.given k)) (omega arith) (sym i.whole_byte.ensures ∙ i.if-whole_byte.true)))
