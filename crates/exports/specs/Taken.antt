-- The controller's record of the numbers that cross from another language: one definition an enum,
-- and a number past the last case stands for the last.
use Rattle.std.specs.Prelude.{ℕ, eqb}
use Rattle.base.specs.Pick.{pick}
use Rattle.command.specs.declared.kinds.Kind.{Kind}
use Rattle.command.specs.declared.kinds.Kind.TheVariants as kinds
use Rattle.command.specs.declared.kinds.Params.{Params}
use Rattle.command.specs.declared.kinds.Params.TheVariants as bytes
use Rattle.config.specs.declared.Uc8253Config.{Uc8253Config}
use Rattle.config.specs.declared.Variant.{Variant}
use Rattle.config.specs.declared.Variant.TheVariants as variants
use Rattle.glass.specs.declared.PanelImage.{PanelImage}
use Rattle.glass.specs.declared.RefreshKind.{RefreshKind}
use Rattle.glass.specs.declared.RefreshKind.TheVariants as shown
use Rattle.controller.specs.declared.Active.{Active}
use Rattle.controller.specs.declared.Current.{Current}
use Rattle.controller.specs.declared.Current.TheVariants as currents
use Rattle.controller.specs.declared.Mode.{Mode}
use Rattle.controller.specs.declared.Operation.{Operation}
use Rattle.controller.specs.declared.Power.{Power}
use Rattle.controller.specs.declared.Power.TheVariants as powers
use Rattle.controller.specs.declared.Refresh.{Refresh}
use Rattle.controller.specs.declared.Stage.{Stage}
use Rattle.controller.specs.Setters.{mode_of}
use Rattle.controller.specs.declared.Uc8253.{Uc8253}
use Rattle.controller.specs.declared.Work.{Work}
use Rattle.controller.specs.declared.Work.TheVariants as works
use Rattle.exports.specs.declared.handed.HandedActive.{HandedActive}
use Rattle.exports.specs.declared.handed.HandedOperation.{HandedOperation}
use Rattle.exports.specs.declared.handed.HandedImage.{HandedImage}
use Rattle.exports.specs.declared.handed.Handed.{Handed}

unfoldable pub variant_taken : ℕ → Variant
variant_taken n = pick (eqb n 0) variants.Uc8253 variants.Uc8279d

unfoldable pub power_taken : ℕ → Power
power_taken n = pick (eqb n 0) powers.Running (pick (eqb n 1) powers.Asleep powers.InReset)

unfoldable pub params_taken : ℕ → ℕ → ℕ → Params
params_taken n least most = pick (eqb n 0) (bytes.Exactly least) (pick (eqb n 1) (bytes.Between least most) bytes.Stream)

unfoldable pub kind_taken : ℕ → Params → Kind
kind_taken n p = pick (eqb n 0) (kinds.Write p) (pick (eqb n 1) kinds.Read (pick (eqb n 2) (kinds.Unsupported p) kinds.Unknown))

unfoldable pub current_taken : ℕ → Active → Current
current_taken n a = pick (eqb n 0) currents.Idle (pick (eqb n 1) currents.Ignoring (currents.Active a))

-- of a refresh and of a picture
unfoldable pub refresh_kind_taken : ℕ → RefreshKind
refresh_kind_taken n = pick (eqb n 0) shown.PowerOn (pick (eqb n 1) shown.Full shown.Partial)

unfoldable pub work_taken : ℕ → Refresh → Work
work_taken n r =
    pick (eqb n 0) works.Nothing
    (pick (eqb n 1) works.PowerOn
    (pick (eqb n 2) works.PowerOff
    (pick (eqb n 3) works.DeepSleep
    (pick (eqb n 4) works.SoftReset
    (pick (eqb n 5) works.HardwareReset
    (works.Refresh r))))))

abbrev pub active_taken : HandedActive → Active
active_taken h = record {
  command = h.command;
  kind = kind_taken h.kind (params_taken h.params h.least h.most);
  received = h.received;
  read = h.read;
  cursor = h.cursor;
  extra_reported = h.extra_reported;
  past_reported = h.past_reported;
}

abbrev pub operation_taken : HandedOperation → Operation
operation_taken h = record {
  work = work_taken h.work (record { area = h.area; kind = refresh_kind_taken h.kind });
  started = h.started;
  until = h.until;
}

abbrev pub image_taken : HandedImage → PanelImage
image_taken h = record {
  width = h.width;
  height = h.height;
  generation = h.generation;
  kind = refresh_kind_taken h.kind;
  interrupted = h.interrupted;
  started = h.started;
  at = h.at;
}

abbrev pub config_taken : Handed → Uc8253Config
config_taken h = record {
  variant = variant_taken h.variant;
  panel = h.panel;
  optics = h.optics;
  timing = h.timing;
  ambient_celsius = h.ambient;
  vcom_by_frame = h.made_by_frame;
}

abbrev pub mode_taken : Handed → Mode
mode_taken h = mode_of (power_taken h.power) h.powered h.data_flag h.vcom_by_frame

abbrev pub stage_taken : Handed → Stage
stage_taken h = record { current = current_taken h.current (active_taken h.active) }

-- the controller's record
unfoldable pub record_taken : Handed → Uc8253
record_taken h = record {
  config = config_taken h;
  regs = h.regs;
  luts = h.luts;
  mode = mode_taken h;
  stage = stage_taken h;
  operation = operation_taken h.operation;
  waveform = h.waveform;
  image = image_taken h.image;
  log = h.log;
  now = h.now;
}
