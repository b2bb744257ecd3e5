-- The record, or what is lent, with one part changed.
use Rattle.std.specs.Prelude.{Bool, List, ℕ, ℤ}
use Rattle.config.specs.declared.Uc8253Config.{Uc8253Config}
use Rattle.glass.specs.declared.PanelImage.{PanelImage}
use Rattle.registers.specs.declared.Registers.{Registers}
use Rattle.registers.specs.declared.luts.Luts.{Luts}
use Rattle.waveform.specs.declared.Waveform.{Waveform}
use Rattle.diagnostic_log.specs.declared.Log.{Log}
use Rattle.controller.specs.declared.Power.{Power}
use Rattle.controller.specs.declared.Mode.{Mode}
use Rattle.controller.specs.declared.Current.{Current}
use Rattle.controller.specs.declared.Stage.{Stage}
use Rattle.controller.specs.declared.Operation.{Operation}
use Rattle.controller.specs.declared.Uc8253.{Uc8253}
use Rattle.controller.specs.World.{Buffers, buffers}

-- the record by its parts
abbrev pub record_of : Uc8253Config → Registers → Luts → Mode → Stage → Operation → Waveform → PanelImage → Log → ℕ → Uc8253
record_of config regs luts mode stage operation waveform image log now = record {
  config = config;
  regs = regs;
  luts = luts;
  mode = mode;
  stage = stage;
  operation = operation;
  waveform = waveform;
  image = image;
  log = log;
  now = now;
}

-- the record with one part changed
abbrev pub with_regs : Registers → Uc8253 → Uc8253
with_regs x p = record_of p.config x p.luts p.mode p.stage p.operation p.waveform p.image p.log p.now

abbrev pub with_luts : Luts → Uc8253 → Uc8253
with_luts x p = record_of p.config p.regs x p.mode p.stage p.operation p.waveform p.image p.log p.now

abbrev pub with_mode : Mode → Uc8253 → Uc8253
with_mode x p = record_of p.config p.regs p.luts x p.stage p.operation p.waveform p.image p.log p.now

abbrev pub with_stage : Stage → Uc8253 → Uc8253
with_stage x p = record_of p.config p.regs p.luts p.mode x p.operation p.waveform p.image p.log p.now

abbrev pub with_operation : Operation → Uc8253 → Uc8253
with_operation x p = record_of p.config p.regs p.luts p.mode p.stage x p.waveform p.image p.log p.now

abbrev pub with_waveform : Waveform → Uc8253 → Uc8253
with_waveform x p = record_of p.config p.regs p.luts p.mode p.stage p.operation x p.image p.log p.now

abbrev pub with_image : PanelImage → Uc8253 → Uc8253
with_image x p = record_of p.config p.regs p.luts p.mode p.stage p.operation p.waveform x p.log p.now

abbrev pub with_log : Log → Uc8253 → Uc8253
with_log x p = record_of p.config p.regs p.luts p.mode p.stage p.operation p.waveform p.image x p.now

abbrev pub with_now : ℕ → Uc8253 → Uc8253
with_now x p = record_of p.config p.regs p.luts p.mode p.stage p.operation p.waveform p.image p.log x

-- the mode by its parts
abbrev pub mode_of : Power → Bool → Bool → Bool → Mode
mode_of power powered flag by_frame = record { power = power; powered = powered; data_flag = flag; vcom_by_frame = by_frame }

-- the power, the supplies, the data flag or VCOM's rule alone; the command under way
abbrev pub with_power : Power → Uc8253 → Uc8253
with_power x p = with_mode (mode_of x p.mode.powered p.mode.data_flag p.mode.vcom_by_frame) p

abbrev pub with_powered : Bool → Uc8253 → Uc8253
with_powered x p = with_mode (mode_of p.mode.power x p.mode.data_flag p.mode.vcom_by_frame) p

abbrev pub with_data_flag : Bool → Uc8253 → Uc8253
with_data_flag x p = with_mode (mode_of p.mode.power p.mode.powered x p.mode.vcom_by_frame) p

abbrev pub with_vcom_rule : Bool → Uc8253 → Uc8253
with_vcom_rule x p = with_mode (mode_of p.mode.power p.mode.powered p.mode.data_flag x) p

abbrev pub with_current : Current → Uc8253 → Uc8253
with_current x p = with_stage (record { current = x }) p

-- the lent buffers with one changed
abbrev pub with_old : List ℕ → Buffers → Buffers
with_old l b = buffers l b.new b.states b.picture b.rows

abbrev pub with_new : List ℕ → Buffers → Buffers
with_new l b = buffers b.old l b.states b.picture b.rows

abbrev pub with_states : List ℤ → Buffers → Buffers
with_states l b = buffers b.old b.new l b.picture b.rows

abbrev pub with_picture : List ℕ → Buffers → Buffers
with_picture l b = buffers b.old b.new b.states l b.rows

abbrev pub with_rows : List ℕ → Buffers → Buffers
with_rows l b = buffers b.old b.new b.states b.picture l
