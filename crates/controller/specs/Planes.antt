-- What a call does to the planes: the copy of new to old where a refresh ends by itself, then the pixels of a data byte.
use Rattle.std.specs.Prelude.{List, ℕ, max, leb}
use Rattle.base.specs.Pick.{pick}
use Rattle.registers.specs.Flags.{copies_new_to_old}
use Rattle.ram.specs.Copy.{copied}
use Rattle.controller.specs.declared.Work.{Work}
use Rattle.controller.specs.declared.Work.TheVariants as work
use Rattle.controller.specs.declared.Uc8253.{Uc8253}

-- on UC8253 with bit 3 of the first 50 byte a refresh that ends by itself copies new to old in its area
abbrev pub copied_by : Work → Uc8253 → List ℕ → List ℕ → List ℕ
copied_by work.Nothing p old new = old
copied_by work.PowerOn p old new = old
copied_by work.PowerOff p old new = old
copied_by work.DeepSleep p old new = old
copied_by work.SoftReset p old new = old
copied_by work.HardwareReset p old new = old
copied_by (work.Refresh r) p old new = pick (copies_new_to_old p.config.variant p.regs) (copied old new r.area) old

-- the old plane once a call has arrived
unfoldable pub old_arrived : ℕ → Uc8253 → List ℕ → List ℕ → List ℕ
old_arrived t p old new = pick (leb p.operation.until (max p.now t)) (copied_by p.operation.work p old new) old
