-- `vcd_simulation::emit::push` meets its contract.
use mathlib.Core.Path.{refl, ap, ◌∙◌}
use mathlib.Core.List.{List, ◌++◌}
use Prim.Native.Nat.{ℕ, ◌+◌}
use native.Mathlib.Omega.{arith}
use Rattle.std.proofs.Common.{rules}
use lib.ListN.{length, take}
use Rattle.std.proofs.lemmas.Slice.{take-put_mid, drop-put_mid}
use Rattle.vcd_simulation.proofs.emit.push.Goals as goal

pub returns : goal.returns
returns c =
    let out = c.args.out.now in
    let held = c.args.held in
    let new = c.copy_from_slice.new.self in
    let same = c.copy_from_slice.ensures.after in
    let size = ap length same in
    record {
      bytes = take-put_mid held _ out new (held + length c.args.bytes.now) (omega (arith, size)) (omega (arith, c.requires))
          ∙ ap (λ (l : List ℕ). take held out ++ l) same;
      count = refl;
      size = search (rules, size);
      rest = drop-put_mid held _ out new (held + length c.args.bytes.now) (omega arith) (omega (arith, c.requires)) (omega (arith, size));
    }
