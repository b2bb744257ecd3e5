-- `capture::layout::rate_in` meets its contract: the last eight of 320 bytes, or 1 GHz.
use mathlib.Core.Path.{sym, ap, ◌∙◌}
use Prim.Native.Nat.{ℕ, ◌+◌}
use Rattle.capture.specs.Little.{little}
use Rattle.capture.specs.Layout.{rate_in}
use Rattle.capture.proofs.layout.rate_in.Goals as goal

pub returns-then-rated : goal.returns-then-rated
unfolding rate_in
returns-then-rated c =
    simp (sym c.rated.ensures ∙ c.if-rated.true) (
    c.number.ensures.0 ∙ ap (λ (p : ℕ). little c.args.file.now (p + 312) 8) c.requires.offset_is
    )

pub returns : goal.returns
unfolding rate_in
returns c = simp (sym c.rated.ensures ∙ c.if-rated.false)
