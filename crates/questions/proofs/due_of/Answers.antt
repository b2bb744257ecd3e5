-- `questions::due_of` meets its contract, by what runs.
use borrow.Author.Rules.{rules}
use Rattle.questions.proofs.due_of.Goals as goal

pub returns-in-PowerOn : goal.returns-in-PowerOn
returns-in-PowerOn c = simp c.in-PowerOn.is

pub returns-in-PowerOff : goal.returns-in-PowerOff
returns-in-PowerOff c = simp c.in-PowerOff.is

pub returns-in-DeepSleep : goal.returns-in-DeepSleep
returns-in-DeepSleep c = simp c.in-DeepSleep.is

pub returns-in-SoftReset : goal.returns-in-SoftReset
returns-in-SoftReset c = simp c.in-SoftReset.is

pub returns-in-HardwareReset : goal.returns-in-HardwareReset
returns-in-HardwareReset c = simp c.in-HardwareReset.is

pub returns-in-Refresh : goal.returns-in-Refresh
returns-in-Refresh c = simp c.in-Refresh.is
