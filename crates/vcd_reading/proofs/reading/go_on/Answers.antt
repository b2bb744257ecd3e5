-- `vcd_reading::reading::go_on` meets its contract: what closes the word that is open, and then what is behind it.
use mathlib.Core.Path.{refl, ap}
use mathlib.Core.List.{List, ◌++◌}
use Prim.Native.Nat.{ℕ, ◌<◌}
use native.Mathlib.Omega.{arith}
use lib.ListN.{length}
use Rattle.std.proofs.Common.{Some}
use Rattle.vcd_simulation.specs.Feed.{codes_by}
use Rattle.vcd_reading.proofs.CarryLaws.{front_as}
use Rattle.vcd_reading.proofs.ReadLaws.{plays_as, stands_as, word_long, no_blank, blank_there}
use Rattle.vcd_reading.proofs.reading.go_on.Goals as goal

pub returns-in_default-clause-goes : goal.returns-in_default-clause-goes
returns-in_default-clause-goes c =
    λ d w g. word_long d c.args.r c.args.kept.now c.args.word.now w _ g c.args.bytes.now c.solid-n.result c.solid-n.ensures.0 _ c.in_default.ensures

pub returns-then-n-bytes-clause-goes : goal.returns-then-n-bytes-clause-goes
returns-then-n-bytes-clause-goes c =
    λ d w g. stands_as (d ++ c.args.bytes.now) c.args.kept.now _ w _ c.gone_on-reader.ensures (no_blank d c.args.r c.args.kept.now c.args.word.now w _ g c.args.bytes.now c.solid-n.result c.solid-n.ensures.0 (Some c.in-Some.carried) _ c.in-Some.ensures c.if-n-bytes.true)

pub returns-clause-goes : goal.returns-clause-goes
returns-clause-goes c =
    λ d w g.
    let more : c.solid-n.result < length c.args.bytes.now = omega (arith, c.if-n-bytes.false, c.solid-n.ensures.1) in
    let head = front_as c.args.r.held c.args.kept.now c.min.ensures in
    let played = plays_as (ap (λ (h : List ℕ). codes_by h c.args.r.begun.head) head) refl c.play_words-t.ensures.plays in
    blank_there d c.args.r c.args.kept.now c.args.word.now w _ g c.args.bytes.now c.solid-n.result c.solid-n.ensures.0 c.in-Some.carried _ c.in-Some.ensures more c.play_words-t.result _ played c.play_part.result _ _
    (rw (← c.gone_on-q.ensures) c.play_part.ensures.plays)
