-- `vcd_declarations::head::declares_var` meets its contract: the code counts where the variable is one of the five.
use mathlib.Core.Path.{◌≡◌}
use mathlib.Core.Bool.{Bool, false}
use mathlib.Core.List.{List}
use Prim.Native.Nat.{ℕ}
use borrow.Author.Tests.{lt-ltb}
use Rattle.vcd_words.specs.Words.{among}
use Rattle.vcd_words.specs.declared.Span.{Span}
use Rattle.vcd_declarations.specs.declared.codes.Codes.{Codes}
use Rattle.vcd_declarations.specs.declared.codes.Further.{Further}
use Rattle.vcd_declarations.specs.Codes.{code_in, placed_in}
use Rattle.vcd_declarations.specs.Declarations.{variable}
use Rattle.vcd_declarations.proofs.VariableLaws.{pin_below}
use Rattle.vcd_declarations.proofs.HeadLaws.{declare_tells, holding_tells, passed_tells, code_moved, moved_in}
use Rattle.vcd_declarations.proofs.head.declares_var.Goals as goal

placed-as : (bytes : List ℕ) (c : Codes) (f : Further) {p q : Span} {t : Bool} → p ≡ q → t ≡ among (placed_in bytes c f) (code_in bytes p)
    → t ≡ among (placed_in bytes c f) (code_in bytes q)
placed-as bytes c f e k = rw (← e) k

pub returns-in-Some-Of : goal.returns-in-Some-Of
unfolding variable
returns-in-Some-Of c =
    let a = c.args in
    let w = c.requires in
    let arm = c.in-Some-Of in
    let l = pin_below arm.pin in
    let v = rw arm.field-0-is at arm.ensures in
    let place = c.moved-code.ensures in
    λ s t. rw (
      c.declare.ensures,
      place,
      ← v.number_is,
      lt-ltb _ _ l,
      ← v.five.wide_is,
      ← v.five.code_is,
      code_moved a.bytes.now a.place.from a.place.to arm.code w.ordered w.inside v.five.code_in_lem,
    )
    (declare_tells a.bytes.now a.h s t _ (moved_in a.bytes.now a.place.from a.place.to arm.code w.ordered w.inside v.five.code_in_lem) _ l _ _ (placed-as a.bytes.now a.h.codes a.h.further place c.is_placed-placed.ensures))

pub returns-in-Some-Other : goal.returns-in-Some-Other
unfolding variable
returns-in-Some-Other c =
    let arm = c.in-Some-Other in
    let v = rw arm.field-0-is at arm.ensures in
    λ s t. rw (← v.number_is) (passed_tells c.args.bytes.now c.args.h s t)

pub returns-in-None : goal.returns-in-None
unfolding variable
returns-in-None c = λ s t. rw (c.holding.ensures, ← c.in-None.ensures.number_is) (holding_tells c.args.bytes.now c.args.h s t false)
