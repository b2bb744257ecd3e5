-- `ram::byte::with_bit` meets its contract: neither shift loses a bit, the old bit's weight lies within the byte, and the result is a byte.
use mathlib.Core.Path.{◌≡◌, ap, ◌∙◌}
use Prim.Native.Nat.{ℕ, ◌-◌, ◌*◌, ◌%◌, ◌^◌}
use native.Mathlib.Omega.{arith}
use Rattle.ram.specs.Plane.{bit_of, with_bit}
use Rattle.ram.proofs.ByteLaws.{with_bit_byte, bit_small, bit_within, shifted}
use Rattle.ram.proofs.byte.with_bit.Goals.{After-bit_of}
use Rattle.ram.proofs.byte.with_bit.Goals as goal

old-weight : (c : After-bit_of) → c.bit_of.result * 2 ^ (7 - c.args.k) % 256 ≡ bit_of c.args.b c.args.k * 2 ^ (7 - c.args.k)
old-weight c =
    let a = c.args in
    ap (λ (v : ℕ). v * 2 ^ (7 - a.k) % 256) c.bit_of.ensures ∙ shifted a.k (bit_of a.b a.k) c.requires.0 (bit_small a.b a.k)

new-weight : (c : After-bit_of) → c.args.v * 2 ^ (7 - c.args.k) % 256 ≡ c.args.v * 2 ^ (7 - c.args.k)
new-weight c = shifted c.args.k c.args.v c.requires.0 c.requires.1

pub overflow_sub-result : goal.overflow_sub-result
overflow_sub-result c = rw (old-weight c) (bit_within c.args.b c.args.k)

pub overflow_add-result : goal.overflow_add-result
unfolding with_bit
overflow_add-result c =
    let a = c.args in
    rw (old-weight c, new-weight c) (record { fits = with_bit_byte a.b a.k a.v (omega arith) c.requires.0 c.requires.1 })

pub returns : goal.returns
unfolding with_bit
returns c = rw (old-weight c, new-weight c)
