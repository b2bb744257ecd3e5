-- `numbers::eights::put_eight` meets its contract: the eight bytes are written at once.
use mathlib.Core.Path.{◌≡◌, ◌∙◌}
use Prim.Native.Nat.{◌+◌, ◌-◌}
use native.Mathlib.Nat.{div-one}
use native.Mathlib.Omega.{arith}
use borrow.Author.Rules.{rules}
use Rattle.numbers.specs.InnerRow.{byte_of}
use Rattle.numbers.proofs.FilledLaws.{filled_part}
use Rattle.numbers.proofs.eights.put_eight.Goals as goal

pub returns : goal.returns
returns c =
    let a = c.args in
    let same : c.copy_from_slice.new.self ≡ c.to_le_bytes.result = search rules in
    filled_part (byte_of a.w) a.at 8 (a.at + 8 - a.at) a.numbers.now c.copy_from_slice.new.self (omega arith) (omega arith)
    (same ∙ c.to_le_bytes.ensures ∙ cc (div-one a.w))
