-- `reasons::events::first_fault` meets its contract: what is looked for is the first from event i on.
use Rattle.std.proofs.Common.{◌≡◌, ◌-◌, Some, sym, ap, ◌∙◌, arith}
use Rattle.reasons.specs.Reasons.{first_fault}
use Rattle.reasons.proofs.EventLaws.{fault_here, fault_later}
use Rattle.reasons.proofs.events.first_fault.Goals as goal

pub returns-then-not-listed : goal.returns-then-not-listed
returns-then-not-listed c =
    let l = c.loop-i in
    let a = c.args in
    let unlisted = sym c.listed.ensures ∙ c.if-not-listed.true in
    ap Some c.fault.ensures
    ∙ fault_here a.file.now l.i a.count c.loop-i-test.true c.byte-kind.ensures c.byte-value.ensures unlisted
    ∙ sym l.invariant

pub loop-i-preserved : goal.loop-i-preserved
loop-i-preserved c =
    let l = c.loop-i in
    let a = c.args in
    let is-listed = sym c.listed.ensures ∙ c.if-not-listed.false in
    l.invariant ∙ fault_later a.file.now l.i a.count c.loop-i-test.true c.byte-kind.ensures c.byte-value.ensures is-listed

pub returns : goal.returns
returns c =
    let l = c.loop-i in
    let a = c.args in
    let none : a.count - l.i ≡ 0 = omega arith in
    sym (l.invariant ∙ ap (first_fault a.file.now l.i) none)
