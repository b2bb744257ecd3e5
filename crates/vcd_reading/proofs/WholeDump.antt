-- However a dump is cut into parts, it comes to what it comes to whole: its refusal, and what its calls leave.
use mathlib.Core.Path.{◌≡◌, ◌∙◌}
use mathlib.Core.Bool.{Bool, true, false, false≢true}
use mathlib.Core.List.{List}
use Prim.Native.Nat.{ℕ}
use lib.ListN.{length}
use Rattle.std.proofs.Common.{Ok}
use Rattle.controller.specs.World.{World, Buffers}
use Rattle.vcd.specs.Dump.{dump_refused, judged}
use Rattle.vcd.specs.Played.{dump_played}
use Rattle.vcd_playing.specs.Making.{config_refused, config_made, number_by}
use Rattle.vcd_playing.proofs.MakingLaws.{number_is, whole_played}
use Rattle.vcd_reading.specs.declared.reader.Stage.{Stage}
use Rattle.vcd_reading.specs.declared.reader.Stage.TheVariants as stage
use Rattle.vcd_reading.specs.declared.reader.Reader.{Reader}
use Rattle.vcd_reading.specs.declared.closing.Closed.{Closed}
use Rattle.vcd_reading.specs.Reading.{Closes}

-- no limit was met
abbrev pub is_whole : Stage → Bool
is_whole stage.Heading = true
is_whole stage.Playing = true
is_whole stage.HeadTooLong = false
is_whole stage.WordTooLong = false

ends : (x : Stage) (d : List ℕ) (c : Closed) (w v u : World) → is_whole x ≡ true → Closes x d c w v u → Closes stage.Playing d c w v u
ends stage.Heading d c w v u h k = k
ends stage.Playing d c w v u h k = k
ends stage.HeadTooLong d c w v u h k = absurd (false≢true h)
ends stage.WordTooLong d c w v u h k = absurd (false≢true h)

-- a reader that stands behind the whole dump, from the configuration's making on, and its end
module _ (config d : List ℕ) (b : Buffers) (r : Reader) (c : Closed) (v u : World) (size : length config ≡ 312) (whole : is_whole r.stage ≡ true)
    (k : Closes r.stage d c (config_made config b) v u) where
  pub ending_is : c.ending ≡ Ok (judged d)
  ending_is = (ends r.stage d c (config_made config b) v u whole k).0

  pub refused_is : dump_refused config d b ≡ number_by (judged d) (config_refused config b)
  refused_is = number_is config d b size

  pub left_is : dump_refused config d b ≡ 0 → u ≡ dump_played config d b
  left_is e = (ends r.stage d c (config_made config b) v u whole k).1 ∙ whole_played config d b size e
