-- `reasons::groups::grouped` meets its contract: below 1,000 the digits, else the thousands and a group. The measure is the number.
use Rattle.reasons.proofs.groups.+grouped.Given as goal

abbrev pub decreases-grouped : goal.decreases-grouped
decreases-grouped l = l.x
