-- `exports::handed::work_numbers` meets its contract: by the cases.
use borrow.Author.Rules.{rules}
use Rattle.exports.proofs.handed.work_numbers.Goals as goal

pub returns-in-Nothing : goal.returns-in-Nothing
returns-in-Nothing c = simp (c.plain_work.ensures, c.in-Nothing.is)

pub returns-in-PowerOn : goal.returns-in-PowerOn
returns-in-PowerOn c = simp (c.plain_work-in-PowerOn.ensures, c.in-PowerOn.is)

pub returns-in-PowerOff : goal.returns-in-PowerOff
returns-in-PowerOff c = simp (c.plain_work-in-PowerOff.ensures, c.in-PowerOff.is)

pub returns-in-DeepSleep : goal.returns-in-DeepSleep
returns-in-DeepSleep c = simp (c.plain_work-in-DeepSleep.ensures, c.in-DeepSleep.is)

pub returns-in-SoftReset : goal.returns-in-SoftReset
returns-in-SoftReset c = simp (c.plain_work-in-SoftReset.ensures, c.in-SoftReset.is)

pub returns-in-HardwareReset : goal.returns-in-HardwareReset
returns-in-HardwareReset c = simp (c.plain_work-in-HardwareReset.ensures, c.in-HardwareReset.is)

pub returns-in-Refresh : goal.returns-in-Refresh
returns-in-Refresh c = simp (c.refresh_numbers.ensures, c.in-Refresh.is)
