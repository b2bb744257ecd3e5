-- `waveform::decode` meets its contract. The loop's invariant: the tables so far are those of the first LUTs.
use mathlib.Core.Path.{◌≡◌, refl, sym, ap, ◌∙◌}
use mathlib.Core.List.{[]}
use Prim.Native.Nat.{ℕ}
use native.Mathlib.Omega.{arith}
use lib.ListN.{length, length-set}
use Rattle.base.specs.Listed.{listed}
use Rattle.base.proofs.Listed.{filled_more, filled, map_listed}
use Rattle.waveform.specs.Tables.{table_of}
use borrow.Author.Rules.{rules}
use Rattle.waveform.proofs.decode.Invariants.{decoded}
use Rattle.waveform.proofs.decode.Goals as goal

pub loop-k-init : goal.loop-k-init
loop-k-init c = (refl, omega arith, refl)

pub loop-k-preserved : goal.loop-k-preserved
loop-k-preserved c =
    let l = c.loop-k in
    let luts = c.args.luts in (
      filled_more l.tables l.k (decoded luts) l.invariant.0 _ c.decode_table.ensures (omega arith),
      omega arith,
      simp length-set l.invariant.2,
    )

pub returns : goal.returns
returns c =
    let l = c.loop-k in
    let luts = c.args.luts in
    let five : length luts ≡ 5 = search rules in
    filled l.tables l.k (decoded luts) l.invariant.0 5 l.invariant.2 (omega arith)
    ∙ ap (λ (n : ℕ). listed n (decoded luts)) (sym five)
    ∙ sym (map_listed table_of luts [])
