-- The numbers of a record are taken as that record, by the cases of each enum: what the contract of every call rests on.
use mathlib.Core.Path.{◌≡◌, refl, ap}
use Rattle.command.specs.declared.kinds.Kind.{Kind}
use Rattle.command.specs.declared.kinds.Kind.TheVariants as kinds
use Rattle.command.specs.declared.kinds.Params.{Params}
use Rattle.command.specs.declared.kinds.Params.TheVariants as bytes
use Rattle.config.specs.declared.Variant.{Variant}
use Rattle.config.specs.declared.Variant.TheVariants as variants
use Rattle.glass.specs.declared.RefreshKind.{RefreshKind}
use Rattle.glass.specs.declared.RefreshKind.TheVariants as shown
use Rattle.controller.specs.declared.Active.{Active}
use Rattle.controller.specs.declared.Current.{Current}
use Rattle.controller.specs.declared.Current.TheVariants as currents
use Rattle.controller.specs.declared.Power.{Power}
use Rattle.controller.specs.declared.Power.TheVariants as powers
use Rattle.controller.specs.declared.Refresh.{Refresh}
use Rattle.controller.specs.Setters.{mode_of}
use Rattle.controller.specs.declared.Uc8253.{Uc8253}
use Rattle.controller.specs.declared.Work.{Work}
use Rattle.controller.specs.declared.Work.TheVariants as works
use Rattle.exports.specs.Taken.{variant_taken, power_taken, params_taken, kind_taken, current_taken, refresh_kind_taken, work_taken, active_taken, record_taken}
use Rattle.exports.specs.Handed.{variant_number, power_number, refresh_number, params_numbers}
use Rattle.exports.specs.Handed.{kind_numbers, active_numbers, current_numbers, work_numbers, handed_of}

variant_back : (v : Variant) → variant_taken (variant_number v) ≡ v
unfolding variant_taken
variant_back variants.Uc8253 = refl
variant_back variants.Uc8279d = refl

power_back : (p : Power) → power_taken (power_number p) ≡ p
unfolding power_taken
power_back powers.Running = refl
power_back powers.Asleep = refl
power_back powers.InReset = refl

refresh_kind_back : (k : RefreshKind) → refresh_kind_taken (refresh_number k) ≡ k
unfolding refresh_kind_taken
refresh_kind_back shown.PowerOn = refl
refresh_kind_back shown.Full = refl
refresh_kind_back shown.Partial = refl

params_back : (p : Params) → params_taken (params_numbers p).params (params_numbers p).least (params_numbers p).most ≡ p
unfolding params_taken
params_back (bytes.Exactly n) = refl
params_back (bytes.Between least most) = refl
params_back bytes.Stream = refl

kind_back : (k : Kind)
    → kind_taken (kind_numbers k).kind (params_taken (kind_numbers k).params.params (kind_numbers k).params.least (kind_numbers k).params.most)
    ≡ k
unfolding kind_taken
kind_back (kinds.Write p) = ap (λ (q : Params). kinds.Write q) (params_back p)
kind_back kinds.Read = refl
kind_back (kinds.Unsupported p) = ap (λ (q : Params). kinds.Unsupported q) (params_back p)
kind_back kinds.Unknown = refl

active_back : (a : Active) → active_taken (active_numbers a) ≡ a
active_back a =
    ap (λ (k : Kind). record {
      command = a.command;
      kind = k;
      received = a.received;
      read = a.read;
      cursor = a.cursor;
      extra_reported = a.extra_reported;
      past_reported = a.past_reported;
    }) (kind_back a.kind)

current_back : (c : Current) → current_taken (current_numbers c).current (active_taken (current_numbers c).active) ≡ c
unfolding current_taken
current_back currents.Idle = refl
current_back currents.Ignoring = refl
current_back (currents.Active a) = ap (λ (b : Active). currents.Active b) (active_back a)

work_back : (w : Work)
    → work_taken (work_numbers w).work (record { area = (work_numbers w).area; kind = refresh_kind_taken (work_numbers w).kind }) ≡ w
unfolding work_taken
work_back works.Nothing = refl
work_back works.PowerOn = refl
work_back works.PowerOff = refl
work_back works.DeepSleep = refl
work_back works.SoftReset = refl
work_back works.HardwareReset = refl
work_back (works.Refresh r) = ap (λ (k : RefreshKind). works.Refresh (record { area = r.area; kind = k })) (refresh_kind_back r.kind)

pub back : (p : Uc8253) → record_taken (handed_of p) ≡ p
unfolding record_taken handed_of
back p = λ i. record {
  config = record {
    variant = variant_back p.config.variant i;
    panel = p.config.panel;
    optics = p.config.optics;
    timing = p.config.timing;
    ambient_celsius = p.config.ambient_celsius;
    vcom_by_frame = p.config.vcom_by_frame;
  };
  regs = p.regs;
  luts = p.luts;
  mode = mode_of (power_back p.mode.power i) p.mode.powered p.mode.data_flag p.mode.vcom_by_frame;
  stage = record { current = current_back p.stage.current i };
  operation = record { work = work_back p.operation.work i; started = p.operation.started; until = p.operation.until };
  waveform = p.waveform;
  image = record {
    width = p.image.width;
    height = p.image.height;
    generation = p.image.generation;
    kind = refresh_kind_back p.image.kind i;
    interrupted = p.image.interrupted;
    started = p.image.started;
    at = p.image.at;
  };
  log = p.log;
  now = p.now;
}
