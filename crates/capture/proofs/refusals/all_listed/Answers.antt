-- `capture::refusals::all_listed` meets its contract. The invariant: the events passed are listed. The measure is what is left of the count.
use mathlib.Core.Path.{◌≡◌, refl, sym, ap, ◌∙◌}
use mathlib.Core.Bool.{true, false}
use native.Mathlib.Omega.{arith}
use Rattle.capture.specs.Layout.{kind_at, value_at}
use Rattle.capture.specs.Refused.{listed, all_listed}
use Rattle.capture.proofs.ListedLaws.{unlisted_seen, listed_more}
use Rattle.capture.proofs.refusals.all_listed.Goals as goal

pub loop-i-init : goal.loop-i-init
loop-i-init c = refl

pub returns-then-not-listed : goal.returns-then-not-listed
returns-then-not-listed c =
    let l = c.loop-i in
    let a = c.args in
    let told : listed (kind_at a.file.now l.i) (value_at a.file.now l.i) ≡ false = rw (← c.byte.ensures, ← c.byte-in-loop-i.ensures) (sym c.listed.ensures ∙ c.if-not-listed.true) in
    sym (unlisted_seen a.file.now a.count l.i (omega arith) told)

pub loop-i-preserved : goal.loop-i-preserved
loop-i-preserved c =
    let l = c.loop-i in
    let a = c.args in
    let told : listed (kind_at a.file.now l.i) (value_at a.file.now l.i) ≡ true = rw (← c.byte.ensures, ← c.byte-in-loop-i.ensures) (sym c.listed.ensures ∙ c.if-not-listed.false) in
    listed_more a.file.now l.i l.invariant told

pub returns : goal.returns
returns c =
    let l = c.loop-i in
    let a = c.args in
    let e : l.i ≡ a.count = omega arith in
    sym l.invariant ∙ ap (all_listed a.file.now) e
