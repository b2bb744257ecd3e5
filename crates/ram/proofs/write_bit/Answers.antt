-- `ram::write_bit` meets its contract: past the last 16-bit column nothing lies inside, and else the area is asked.
use mathlib.Core.Path.{sym, ◌∙◌}
use native.Mathlib.Omega.{arith}
use Rattle.ram.specs.Plane.{put_bit}
use Rattle.ram.specs.Write.{put_inside}
use Rattle.ram.proofs.AreaLaws.{inside_past}
use Rattle.ram.proofs.write_bit.Goals as goal

pub returns-then-x : goal.returns-then-x
unfolding put_inside
returns-then-x c =
    let a = c.args in
    rw (inside_past a.area a.x a.y (omega arith))

pub returns-then-not-contains : goal.returns-then-not-contains
unfolding put_inside
returns-then-not-contains c = rw (sym c.contains.ensures ∙ c.if-not-contains.true)

pub returns : goal.returns
unfolding put_inside put_bit
returns c =
    let s = c.before.before in
    let w = s.before.before in
    let b = w.before in
    let p = b.before.before in
    let i = p.before in
    s.store.ensures
    ∙ simp (sym i.contains.ensures ∙ i.if-not-contains.false, w.with_bit-b.ensures, b.byte_at.ensures, p.place-at.ensures)
