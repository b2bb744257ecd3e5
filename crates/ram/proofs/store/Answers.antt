-- `ram::store` meets its contract: past the end, nothing.
use mathlib.Core.Path.{sym}
use lib.Seq.{set_out}
use Rattle.ram.proofs.store.Goals as goal

pub returns-else-at-plane : goal.returns-else-at-plane
returns-else-at-plane c = sym (set_out c.args.plane.now c.args.at c.args.byte c.if-at-plane.false)
