-- `ram::bit` meets its contract: the bit of the byte at its place.
use Rattle.ram.specs.Plane.{bit_at}
use Rattle.ram.proofs.bit.Goals as goal

pub returns : goal.returns
unfolding bit_at
returns c = simp (c.bit_of.ensures, c.byte_at.ensures, c.place-at.ensures)
