-- `capture::layout::config_in` meets its contract: the bytes at the trailer's offset, with the rate read.
use mathlib.Core.Path.{ap, ◌∙◌}
use Prim.Native.Nat.{ℕ}
use Rattle.capture.specs.Layout.{config_by, rate_in, config_in}
use Rattle.capture.proofs.layout.config_in.Goals as goal

pub returns : goal.returns
unfolding config_in
returns c =
    let f = c.args.file.now in
    c.config_at.ensures
    ∙ ap (λ (r : ℕ). config_by r f c.args.t.offset) c.rate_in-rate.ensures
    ∙ ap (config_by (rate_in f) f) c.requires.offset_is
