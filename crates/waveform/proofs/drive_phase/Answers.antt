-- `waveform::drive_phase` meets its contract: it makes `phase_of`, the held product of a held drive being the held product.
use mathlib.Core.List.{◌++◌}
use lib.ListN.{replicate}
use Rattle.base.specs.Integer.{up, dn}
use Rattle.waveform.specs.declared.Progress.{Progress}
use Rattle.waveform.specs.InnerProgress.{Driven}
use mathlib.Core.Path.{◌≡◌, ap, subst⁻¹, ◌∙◌}
use Prim.Native.Nat.{◌-◌, ◌*◌, min}
use native.Mathlib.Omega.{arith}
use Rattle.base.specs.Word.{top}
use Rattle.glass.specs.Transfer.{then_of, shift_of}
use Rattle.waveform.proofs.ProgressLaws.{phase_of, phase_extends, product_twice}
use Rattle.waveform.proofs.drive_phase.Goals as goal

pub returns : goal.returns
returns c =
    λ z e b xs g.
    let s = c.args in
    let k = c.min-k.ensures in
    let u : c.saturating_mul-up.result ≡ min (min s.n s.p.left * up z) top =
    c.saturating_mul-up.ensures ∙ (λ i. min (k i * (e i).up) top)
    ∙ product_twice top (min s.n s.p.left) (up z) in
    let d : c.saturating_mul-down.result ≡ min (min s.n s.p.left * dn z) top =
    c.saturating_mul-down.ensures ∙ (λ i. min (k i * (e i).down) top) ∙ product_twice top (min s.n s.p.left) (dn z) in
    let run : c.then.result ≡ (phase_of s.swing s.p s.n z).run =
    c.then.ensures ∙ ap (then_of s.p.run) (c.shift.ensures ∙ (λ i. shift_of (u i) (d i) s.swing)) in
    subst⁻¹ (λ (q : Progress). Driven s.swing b q (xs ++ replicate s.n z)) (λ i. record { run = run i; left = s.p.left - k i })
    (phase_extends s.swing s.p s.n z (omega arith) b xs g)
