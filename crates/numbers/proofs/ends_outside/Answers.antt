-- `numbers::ends_outside` meets its contract: the first and the last tell.
use mathlib.Core.Path.{sym, ap, ◌∙◌}
use mathlib.Core.Bool.{Bool, ◌||◌, not}
use Prim.Native.Nat.{ℕ, ◌-◌}
use native.Mathlib.Omega.{arith}
use Rattle.numbers.specs.Number.{between_both, outside_at}
use Rattle.numbers.proofs.OutsideLaws.{ends_tell}
use Rattle.numbers.proofs.ends_outside.Goals as goal

pub returns-then-outside : goal.returns-then-outside
returns-then-outside c =
    let s = c.args in
    let last = outside_at s.scan s.first s.last s.from s.to (s.scan.count - 1) in
    let first = sym c.if-outside.true ∙ c.outside.ensures ∙ ap (λ (v : ℕ). not (between_both s.first s.last s.from s.to v)) c.shown-a.ensures in
    c.if-outside.true
    ∙ ap (λ (t : Bool). t || last) first
    ∙ ends_tell s.first s.last s.from s.to s.scan (omega arith) (omega arith)

pub returns-else-outside : goal.returns-else-outside
returns-else-outside c =
    let s = c.args in
    let last = outside_at s.scan s.first s.last s.from s.to (s.scan.count - 1) in
    let first = sym c.if-outside.false ∙ c.outside.ensures ∙ ap (λ (v : ℕ). not (between_both s.first s.last s.from s.to v)) c.shown-a.ensures in
    c.outside-else-outside.ensures
    ∙ ap (λ (v : ℕ). not (between_both s.first s.last s.from s.to v)) c.shown-b.ensures
    ∙ ap (λ (t : Bool). t || last) first
    ∙ ends_tell s.first s.last s.from s.to s.scan (omega arith) (omega arith)
