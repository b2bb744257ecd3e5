-- `ram::copy_some` meets its contract: whole bytes are copied bit by bit or byte by byte alike.
use mathlib.Core.Path.{sym, ◌∙◌}
use Prim.Native.Nat.{◌/◌}
use native.Mathlib.Omega.{arith}
use Rattle.ram.proofs.BytewiseLaws.{whole_copied}
use Rattle.ram.proofs.copy_some.Goals as goal

pub returns-then-at-bytes : goal.returns-then-at-bytes
returns-then-at-bytes c =
    let p = c.before.before.before.before.before.before in
    let k = p.before.before.before.before in
    let a = k.args in
    let whole = whole_copied a.old.now a.new.now a.x a.y (a.n / 8) p.if-x-eq0.true (λ i. omega (arith, k.slice_known-1.given i)) (λ i. omega (arith, p.shared_slice_known-1.given i)) in
    (omega arith, omega arith, c.copy_bytes.ensures ∙ rw p.place-at.ensures (sym whole))
