-- `Text::decimal` meets its contract: the digits of a tenth, and the last. The measure is the number.
use Rattle.text.proofs.Text.+decimal.Given as goal

abbrev pub decreases-decimal : goal.decreases-decimal
decreases-decimal l = l.x
