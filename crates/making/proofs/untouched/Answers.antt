-- `making::untouched` meets its contract: part by part.
use borrow.Author.Rules.{rules}
use Rattle.making.proofs.untouched.Goals as goal

pub returns : goal.returns
returns c = simp (c.no_waveform-waveform.ensures, c.reset-luts.ensures)
