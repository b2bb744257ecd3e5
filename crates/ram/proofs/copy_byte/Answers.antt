-- `ram::copy_byte` meets its contract: bits copied within one byte are that byte stored once.
use mathlib.Core.Path.{sym, ◌∙◌}
use native.Mathlib.Omega.{arith}
use Rattle.ram.proofs.BytewiseLaws.{bits_copied}
use Rattle.ram.proofs.copy_byte.Goals as goal

pub returns : goal.returns
returns c =
    let s = c.before.before in
    let m = s.before.before in
    let b = m.before.before in
    let p = b.before.before in
    let a = p.args in
    s.store.ensures
    ∙ rw (m.merged-b.ensures, m.byte_at-2.ensures, b.byte_at.ensures, p.place-at.ensures)
    (sym (bits_copied a.old.now a.new.now a.x a.y a.n (omega arith)))
