-- `showing::write::write` meets what it calls asks: the events lie within the file, and are those that were played.
use mathlib.Core.Path.{sym, ap, subst, ◌∙◌}
use Prim.Native.Nat.{ℕ, ◌≤◌}
use lib.ListN.{length, take}
use lib.Seq.{length-take-le}
use Rattle.capture.proofs.CaptureLaws.{events_within}
use Rattle.controller.specs.Lent.{held}
use Rattle.output.specs.Units.{units_of}
use Rattle.showing.proofs.write.write.Goals as goal

pub slice_bounds-events-end : goal.slice_bounds-events-end
slice_bounds-events-end g c =
    let file = c.args.file.now in
    sym (length-take-le _ file (subst (λ (n : ℕ). n ≤ length file) (sym c.requires.end_value) (events_within file)))

pub write_parts-requires : goal.write_parts-requires
write_parts-requires g c =
    let a = c.args in
    ap (λ (n : ℕ). units_of a.form a.o (take n a.file.now) a.answers.now (held a.lent.now).picture (held a.lent.now).rows) c.requires.end_value
    ∙ c.requires.output
