-- A configuration and a dump, read piece by piece and played as it is read: what they come to.
use Rattle.std.specs.Prelude.{◌≡◌, List, ℕ, length, take, Option, Some, None, Result, Ok, Err}
use Rattle.base.specs.declared.refusals.Refusal.{Refusal}
use Rattle.base.specs.declared.refusals.Refusal.TheVariants as refusal
use Rattle.base.specs.RefusalNumbers.{number_of}
use Rattle.capture.specs.Layout.{config_of, pixel_count}
use Rattle.controller.specs.declared.Uc8253.{Uc8253}
use Rattle.controller.specs.World.{World, Buffers, buffers, world}
use Rattle.vcd.specs.declared.judging.Fault.{Fault}
use Rattle.vcd.specs.declared.judging.Fault.TheVariants.{Malformed, Unsignalled}
use Rattle.vcd.specs.Dump.{dump_refused}
use Rattle.vcd.specs.Played.{dump_played}
use Rattle.vcd_reading.specs.declared.closing.Limit.TheVariants as limit
use Rattle.vcd_reading.specs.Reading.{LongHead, LongWord}
pub use Rattle.vcd_reading.specs.Reading.{SameLengths}
use Rattle.dumping.specs.declared.playing.Came.{Came}
use Rattle.dumping.specs.declared.playing.Came.TheVariants as came
use Rattle.dumping.specs.declared.playing.Dumped.{Dumped}
use Rattle.dumping.specs.Reading.{Ending}

-- 11 and 12 come before what turns the configuration back
abbrev pub refusal_by : Result (Unit {0}) Fault → Option Refusal → Option Refusal
refusal_by (Ok fine) made = made
refusal_by (Err Malformed) made = Some refusal.MalformedDump
refusal_by (Err Unsignalled) made = Some refusal.WrongSignals

abbrev pub came_by : Option Ending → Option Refusal → Came
came_by (Some (Ok judged)) made = came.Judged (refusal_by judged made)
came_by (Some (Err limit.HeadTooLong)) made = came.HeadTooLong
came_by (Some (Err limit.WordTooLong)) made = came.WordTooLong
came_by None made = came.Unread

-- of the bytes d that were read: the refusal that they and the configuration meet, and without one what the calls leave; or the limit that
-- was met
abbrev pub CameTo : Came → List ℕ → List ℕ → ℕ → ℕ → Buffers → World → Type 0
CameTo (came.Judged refused) config d most longest b u =
    (number_of refused ≡ dump_refused config d b) × (number_of refused ≡ 0 → u ≡ dump_played config d b)
CameTo came.HeadTooLong config d most longest b u = LongHead d most
CameTo came.WordTooLong config d most longest b u = LongWord d longest
CameTo came.Unread config d most longest b u = Unit

pub record Dumps (r : Dumped) (config : List ℕ) (most longest : ℕ) (b : Buffers) (u : World) : Type 0 where
  pub dump : List ℕ
  pub came_to : CameTo r.came config dump most longest b u

-- the front of what is lent, a pixel of the panel each
unfoldable pub panel_size : List ℕ → ℕ
panel_size config = pixel_count (config_of config 0)

abbrev pub fitted : List ℕ → Buffers → Buffers
fitted config b =
    let n = panel_size config in
    buffers b.old b.new (take n b.states) (take n b.picture) b.rows

-- a job leaves of what is lent what some configuration and some dump come to; a configuration of a wrong length leaves all as it was
pub record Ran (r : Came) (most longest : ℕ) (b u : Buffers) : Type 0 where
  pub config : List ℕ
  pub dump : List ℕ
  pub chip : Uc8253
  pub came_to : CameTo r config dump most longest (fitted config b) (world chip (fitted config u))
  pub kept : (length config ≡ 312 → ⊥) → u ≡ b
