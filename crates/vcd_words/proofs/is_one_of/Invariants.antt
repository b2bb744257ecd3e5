-- `vcd_words::is_one_of` meets its contract. The invariant: it is one of the words left where it is one of all; the measure is what is left.
use mathlib.Core.Path.{◌≡◌}
use lib.ListN.{length}
use Rattle.vcd_words.specs.Words.{words, among}
use Rattle.vcd_words.proofs.is_one_of.Given as goal

abbrev pub invariant-loop-w : goal.invariant-loop-w
invariant-loop-w l = among (words l.rest) l.word ≡ among (words l.list) l.word

abbrev pub decreases-loop-w : goal.decreases-loop-w
decreases-loop-w l = length l.rest
