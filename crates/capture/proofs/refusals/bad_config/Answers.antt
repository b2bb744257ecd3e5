-- `capture::refusals::bad_config` meets its contract: the tests in turn.
use mathlib.Core.Path.{ap, ◌∙◌}
use Prim.Native.Nat.{ℕ}
use lib.ListN.{get_or}
use native.Mathlib.Nat.{add-zero}
use borrow.Author.Tests.{lt-ltb, le-ltb}
use Rattle.capture.specs.Refused.{bad_config}
use Rattle.capture.proofs.refusals.bad_config.Goals as goal

pub returns-then-byte-gt-LAST_VARIANT : goal.returns-then-byte-gt-LAST_VARIANT
unfolding bad_config
returns-then-byte-gt-LAST_VARIANT c =
    let a = c.args in
    let v = c.byte.ensures ∙ ap (λ (p : ℕ). get_or a.file.now p 0) (add-zero a.at) in
    rw (← v) (simp (lt-ltb _ _ c.if-byte-gt-LAST_VARIANT.true))

pub returns : goal.returns
unfolding bad_config
returns c =
    let a = c.args in
    let v = c.byte.ensures ∙ ap (λ (p : ℕ). get_or a.file.now p 0) (add-zero a.at) in
    rw (← v, ← c.byte-2.ensures) (simp (le-ltb _ _ c.if-byte-gt-LAST_VARIANT.false))
