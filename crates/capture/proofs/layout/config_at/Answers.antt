-- `capture::layout::config_at` meets its contract: each part of the 312 bytes at its place.
use mathlib.Core.Path.{ap, ◌∙◌}
use Prim.Native.Nat.{ℕ}
use native.Mathlib.Nat.{add-zero}
use lib.ListN.{get_or}
use Rattle.capture.proofs.layout.config_at.Goals as goal

pub returns : goal.returns
returns c =
    let a = c.args in
    let v = c.byte.ensures ∙ ap (λ (p : ℕ). get_or a.file.now p 0) (add-zero a.at) in
    simp (
      c.byte-flags.ensures,
      c.byte-ambient_celsius.ensures,
      c.timing-timing.ensures,
      c.optics-optics.ensures,
      c.panel-panel.ensures,
      c.variant-variant.ensures,
      v,
    )
