-- The walk's machine with one part anew.
use Rattle.std.specs.Prelude.{Bool, List, ℕ}
use Rattle.registers.specs.declared.Registers.{Registers}
use Rattle.registers.specs.declared.luts.Luts.{Luts}
use Rattle.walk.specs.Kept.{Hearing, Job, Machine}

-- the machine by its parts
abbrev pub machine_of : ℕ → Bool → Bool → Bool → Registers → Luts → Hearing → List ℕ → List ℕ → Job → Bool → Machine
machine_of clock low sleep power regs luts hears old new job by_frame = record {
  clock = clock;
  low = low;
  sleep = sleep;
  power = power;
  regs = regs;
  luts = luts;
  hears = hears;
  old = old;
  new = new;
  job = job;
  by_frame = by_frame;
}

-- one part anew
abbrev pub with_clock : ℕ → Machine → Machine
with_clock x m = machine_of x m.low m.sleep m.power m.regs m.luts m.hears m.old m.new m.job m.by_frame

abbrev pub with_low : Bool → Machine → Machine
with_low x m = machine_of m.clock x m.sleep m.power m.regs m.luts m.hears m.old m.new m.job m.by_frame

abbrev pub with_sleep : Bool → Machine → Machine
with_sleep x m = machine_of m.clock m.low x m.power m.regs m.luts m.hears m.old m.new m.job m.by_frame

abbrev pub with_power : Bool → Machine → Machine
with_power x m = machine_of m.clock m.low m.sleep x m.regs m.luts m.hears m.old m.new m.job m.by_frame

abbrev pub with_regs : Registers → Machine → Machine
with_regs x m = machine_of m.clock m.low m.sleep m.power x m.luts m.hears m.old m.new m.job m.by_frame

abbrev pub with_luts : Luts → Machine → Machine
with_luts x m = machine_of m.clock m.low m.sleep m.power m.regs x m.hears m.old m.new m.job m.by_frame

abbrev pub with_hears : Hearing → Machine → Machine
with_hears x m = machine_of m.clock m.low m.sleep m.power m.regs m.luts x m.old m.new m.job m.by_frame

abbrev pub with_old : List ℕ → Machine → Machine
with_old x m = machine_of m.clock m.low m.sleep m.power m.regs m.luts m.hears x m.new m.job m.by_frame

abbrev pub with_new : List ℕ → Machine → Machine
with_new x m = machine_of m.clock m.low m.sleep m.power m.regs m.luts m.hears m.old x m.job m.by_frame

abbrev pub with_job : Job → Machine → Machine
with_job x m = machine_of m.clock m.low m.sleep m.power m.regs m.luts m.hears m.old m.new x m.by_frame

abbrev pub with_rule : Bool → Machine → Machine
with_rule x m = machine_of m.clock m.low m.sleep m.power m.regs m.luts m.hears m.old m.new m.job x
