-- Document 01, "A refresh": what refuses it, its start, and its end in the record. What its end does to the glass is in Glass.
use Rattle.std.specs.Prelude.{None, Some, Bool, true, false, List, ℕ, ◌+◌, ◌-◌, ◌/◌, ◌%◌, min, get_or, ℤ}
use Rattle.base.specs.Word.{top}
use Rattle.base.specs.Pick.{pick}
use Rattle.glass.specs.declared.PanelImage.{PanelImage}
use Rattle.glass.specs.declared.RefreshKind.{RefreshKind}
use Rattle.glass.specs.declared.RefreshKind.TheVariants.{Full, Partial}
use Rattle.diagnostic.specs.declared.DiagnosticKind.TheVariants.{RefreshNotModelled, RefreshWithoutPower}
use Rattle.registers.specs.Flags.{bit_set}
use Rattle.registers.specs.Written.{written_of}
use Rattle.waveform.specs.declared.Waveform.{Waveform}
use Rattle.waveform.specs.Levels.{levels_of}
use Rattle.waveform.specs.Tables.{waveform_of, duration_of}
use Rattle.waveform.specs.Frames.{frames_of}
use Rattle.numbers.specs.declared.Mapping.{Mapping}
use Rattle.numbers.specs.Number.{mapping_of, outside_some}
use Rattle.controller.specs.declared.Operation.{Operation}
use Rattle.controller.specs.declared.Refresh.{Refresh}
use Rattle.controller.specs.declared.Uc8253.{Uc8253}
use Rattle.controller.specs.declared.Work.TheVariants as work
use Rattle.controller.specs.Maybe.{Note}
use Rattle.controller.specs.Setters.{with_operation, with_waveform, with_image}
use Rattle.controller.specs.Counting.{Counting}

-- refused in order: bit 5 of the first 00 byte clear (text 1), bit 4 clear (2), bit 1 clear (3), power off
unfoldable pub refresh_note : ℕ → Bool → Note
refresh_note psr powered =
    pick (bit_set psr 5)
    (pick (bit_set psr 4)
    (pick (bit_set psr 1)
    (pick powered None (Some RefreshWithoutPower))
    (Some (RefreshNotModelled 3)))
    (Some (RefreshNotModelled 2)))
    (Some (RefreshNotModelled 1))

-- the waveform that the registers give: the tables, the levels of 01, and the period of the low five bits of 30; with VCOM's rule
-- in force (2026-08)
unfoldable pub waveform_now : Uc8253 → Waveform
waveform_now p =
    waveform_of p.luts.bytes (levels_of p.regs.power) (get_or p.config.timing.frame_period (p.regs.pll % 32) 0)
    p.mode.vcom_by_frame

-- what each pixel's number goes by: the panel, the registers and the variant
abbrev pub mapping_now : Uc8253 → Mapping
mapping_now p = mapping_of p.config.panel p.regs p.config.variant

-- the picture is partial if any number is 255, else full: if some column or row of the panel shows one outside of an area, whatever the
-- planes hold (`outside_some_lem`)
unfoldable pub kind_now : Uc8253 → RefreshKind
kind_now p = pick (outside_some (mapping_now p)) Partial Full

-- the operation, its end after the duration, which is converted whole
unfoldable pub refreshing : (Uc8253 → Counting) → Uc8253 → Operation
refreshing clock p = record {
  work = work.Refresh (record { area = written_of p.regs; kind = kind_now p });
  started = p.now;
  until = min (p.now + (clock p).cycles (duration_of (waveform_now p))) top;
}

-- its start notes tables, levels, period and rule
unfoldable pub refresh_started : (Uc8253 → Counting) → Uc8253 → Uc8253
refresh_started clock p = with_operation (refreshing clock p) (with_waveform (waveform_now p) p)

abbrev pub refreshed_by : (Uc8253 → Counting) → Note → Uc8253 → Uc8253
refreshed_by clock (Some k) p = p
refreshed_by clock None p = refresh_started clock p

-- 12
unfoldable pub refreshed : (Uc8253 → Counting) → Uc8253 → Uc8253
refreshed clock p = refreshed_by clock (refresh_note (get_or p.regs.psr 0 0) p.mode.powered) p

-- the head of the picture published; its generation holds at 2^64 - 1
unfoldable pub published : RefreshKind → Bool → ℕ → Uc8253 → PanelImage
published kind interrupted at p = record {
  width = p.config.panel.sources;
  height = p.config.panel.gates;
  generation = min (p.image.generation + 1) top;
  kind = kind;
  interrupted = interrupted;
  started = p.operation.started;
  at = at;
}

-- one that ends by itself is dated by its own end
unfoldable pub ended_refresh : Refresh → Uc8253 → Uc8253
ended_refresh r p = with_image (published r.kind false p.operation.until p) p

-- one that reset cuts is dated by the clock
unfoldable pub cut_refresh : Refresh → Uc8253 → Uc8253
cut_refresh r p = with_image (published r.kind true p.now p) p

-- the frames of a table in the refresh under way
abbrev pub all_frames : Uc8253 → ℕ → List ℤ
all_frames p k = frames_of p.waveform p.config.optics.positive_drives_black k

-- the whole frames elapsed: those of clock less start, converted
abbrev pub elapsed : (Uc8253 → Counting) → Uc8253 → ℕ
elapsed clock p = (clock p).nanos (p.now - p.operation.started) / p.waveform.frame_ns
