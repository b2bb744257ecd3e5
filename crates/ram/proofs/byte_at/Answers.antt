-- `ram::byte_at` meets its contract: past the end, 0.
use mathlib.Core.Path.{sym}
use Rattle.base.proofs.Lists.{get_d_past}
use Rattle.ram.proofs.byte_at.Goals as goal

pub returns-else-at-plane : goal.returns-else-at-plane
returns-else-at-plane c = sym (get_d_past c.args.plane.now c.args.at 0 c.if-at-plane.false)
