-- `vcd_reading::reading::settle` meets its contract: the words behind the declarations, and then the rest of the part.
use mathlib.Core.Path.{sym, ap, ◌∙◌}
use mathlib.Core.List.{List, ◌++◌}
use Prim.Native.Nat.{ℕ, ◌-◌}
use native.Mathlib.Omega.{arith}
use lib.ListN.{length, take, drop, length-drop}
use lib.Seq.{take_all}
use Rattle.vcd_reading.proofs.ReadLaws.{dump_as}
use Rattle.vcd_reading.proofs.HeadLaws.{plays_there}
use Rattle.vcd_reading.proofs.reading.settle.Goals as goal

pub returns-then-is_playing-clause-stands : goal.returns-then-is_playing-clause-stands
returns-then-is_playing-clause-stands c =
    let rest = take_all (length c.args.bytes.now - c.args.taken) (drop c.args.taken c.args.bytes.now) (omega (arith, length-drop c.args.taken c.args.bytes.now)) in
    dump_as c.go_on.result.reader _ _ _ _ (ap (λ (l : List ℕ). take c.args.held c.args.kept.now ++ l) rest) (c.go_on.ensures.goes (take c.args.held c.args.kept.now) _ (plays_there c.args.held c.args.kept.now c.args.b c.begun.result c.begun.ensures c.requires.held_in_bounds c.requires.begins c.requires.nonzero c.play_part-s.result c.args.word.now _ _ _ c.play_part-s.ensures.plays (sym c.is_playing.ensures ∙ c.if-is_playing.true)))
