-- The numbers of the controller's record: a case's number, from 0 in the order of declaration, and 0 for what a case does not hold.
use Rattle.std.specs.Prelude.{false, ℕ}
use Rattle.command.specs.declared.kinds.Kind.{Kind}
use Rattle.command.specs.declared.kinds.Kind.TheVariants as kinds
use Rattle.command.specs.declared.kinds.Params.{Params}
use Rattle.command.specs.declared.kinds.Params.TheVariants as bytes
use Rattle.config.specs.declared.Variant.{Variant}
use Rattle.config.specs.declared.Variant.TheVariants as variants
use Rattle.glass.specs.declared.PanelImage.{PanelImage}
use Rattle.glass.specs.declared.RefreshKind.{RefreshKind}
use Rattle.glass.specs.declared.RefreshKind.TheVariants as shown
use Rattle.controller.specs.declared.Active.{Active}
use Rattle.controller.specs.declared.Current.{Current}
use Rattle.controller.specs.declared.Current.TheVariants as currents
use Rattle.controller.specs.declared.Operation.{Operation}
use Rattle.controller.specs.declared.Power.{Power}
use Rattle.controller.specs.declared.Power.TheVariants as powers
use Rattle.controller.specs.declared.Refresh.{Refresh}
use Rattle.controller.specs.declared.Uc8253.{Uc8253}
use Rattle.controller.specs.declared.Work.{Work}
use Rattle.controller.specs.declared.Work.TheVariants as works
use Rattle.exports.specs.declared.handed.HandedParams.{HandedParams}
use Rattle.exports.specs.declared.handed.HandedKind.{HandedKind}
use Rattle.exports.specs.declared.handed.HandedActive.{HandedActive}
use Rattle.exports.specs.declared.handed.HandedCurrent.{HandedCurrent}
use Rattle.exports.specs.declared.handed.HandedWork.{HandedWork}
use Rattle.exports.specs.declared.handed.HandedOperation.{HandedOperation}
use Rattle.exports.specs.declared.handed.HandedImage.{HandedImage}
use Rattle.exports.specs.declared.handed.Handed.{Handed}

abbrev pub variant_number : Variant → ℕ
variant_number variants.Uc8253 = 0
variant_number variants.Uc8279d = 1

abbrev pub power_number : Power → ℕ
power_number powers.Running = 0
power_number powers.Asleep = 1
power_number powers.InReset = 2

-- of a refresh and of a picture
abbrev pub refresh_number : RefreshKind → ℕ
refresh_number shown.PowerOn = 0
refresh_number shown.Full = 1
refresh_number shown.Partial = 2

abbrev pub params_numbers : Params → HandedParams
params_numbers (bytes.Exactly n) = record { params = 0; least = n; most = 0 }
params_numbers (bytes.Between least most) = record { params = 1; least = least; most = most }
params_numbers bytes.Stream = record { params = 2; least = 0; most = 0 }

abbrev pub no_params : HandedParams
no_params = record { params = 0; least = 0; most = 0 }

abbrev pub kind_numbers : Kind → HandedKind
kind_numbers (kinds.Write p) = record { kind = 0; params = params_numbers p }
kind_numbers kinds.Read = record { kind = 1; params = no_params }
kind_numbers (kinds.Unsupported p) = record { kind = 2; params = params_numbers p }
kind_numbers kinds.Unknown = record { kind = 3; params = no_params }

abbrev pub active_numbers : Active → HandedActive
active_numbers a = record {
  received = a.received;
  read = a.read;
  least = (kind_numbers a.kind).params.least;
  most = (kind_numbers a.kind).params.most;
  cursor = a.cursor;
  command = a.command;
  kind = (kind_numbers a.kind).kind;
  params = (kind_numbers a.kind).params.params;
  extra_reported = a.extra_reported;
  past_reported = a.past_reported;
}

abbrev pub no_active : HandedActive
no_active = record {
  received = 0;
  read = 0;
  least = 0;
  most = 0;
  cursor = record { x = 0; y = 0 };
  command = 0;
  kind = 0;
  params = 0;
  extra_reported = false;
  past_reported = false;
}

abbrev pub current_numbers : Current → HandedCurrent
current_numbers currents.Idle = record { current = 0; active = no_active }
current_numbers currents.Ignoring = record { current = 1; active = no_active }
current_numbers (currents.Active a) = record { current = 2; active = active_numbers a }

-- work that holds nothing
abbrev pub plain_work : ℕ → HandedWork
plain_work n = record { work = n; area = record { x0 = 0; y0 = 0; x1 = 0; y1 = 0 }; kind = 0 }

abbrev pub refresh_numbers : Refresh → HandedWork
refresh_numbers r = record { work = 6; area = r.area; kind = refresh_number r.kind }

abbrev pub work_numbers : Work → HandedWork
work_numbers works.Nothing = plain_work 0
work_numbers works.PowerOn = plain_work 1
work_numbers works.PowerOff = plain_work 2
work_numbers works.DeepSleep = plain_work 3
work_numbers works.SoftReset = plain_work 4
work_numbers works.HardwareReset = plain_work 5
work_numbers (works.Refresh r) = refresh_numbers r

abbrev pub operation_numbers : Operation → HandedOperation
operation_numbers o = record {
  started = o.started;
  until = o.until;
  area = (work_numbers o.work).area;
  work = (work_numbers o.work).work;
  kind = (work_numbers o.work).kind;
}

abbrev pub image_numbers : PanelImage → HandedImage
image_numbers i = record {
  generation = i.generation;
  started = i.started;
  at = i.at;
  width = i.width;
  height = i.height;
  kind = refresh_number i.kind;
  interrupted = i.interrupted;
}

-- the whole record
unfoldable pub handed_of : Uc8253 → Handed
handed_of p = record {
  panel = p.config.panel;
  optics = p.config.optics;
  timing = p.config.timing;
  regs = p.regs;
  luts = p.luts;
  waveform = p.waveform;
  active = (current_numbers p.stage.current).active;
  operation = operation_numbers p.operation;
  image = image_numbers p.image;
  log = p.log;
  now = p.now;
  variant = variant_number p.config.variant;
  ambient = p.config.ambient_celsius;
  power = power_number p.mode.power;
  powered = p.mode.powered;
  data_flag = p.mode.data_flag;
  current = (current_numbers p.stage.current).current;
  made_by_frame = p.config.vcom_by_frame;
  vcom_by_frame = p.mode.vcom_by_frame;
}
