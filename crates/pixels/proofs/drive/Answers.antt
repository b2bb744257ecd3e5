-- `pixels::drive` meets its contract. The invariant: the states whose turn has come are moved (`Changed`).
use mathlib.Core.Path.{◌≡◌, ap, ◌∙◌}
use mathlib.Core.List.{List, [], ◌∷◌}
use Prim.Native.Nat.{ℕ}
use native.Mathlib.Omega.{arith}
use borrow.Author.Rules.{rules}
use lib.Dec.{ltb}
use lib.IntN.{ℤ, pos}
use lib.ListN.{get_or}
use mir.Syntax.{w64}
use mir.Val.{SFits, to_z, of_z}
use mir.Facts.{to_z-of_z}
use Rattle.base.specs.Pick.{pick}
use Rattle.glass.specs.declared.Transfer.{Transfer}
use Rattle.pixels.specs.declared.Ready.{Ready}
use Rattle.pixels.specs.Drive.{moved_by}
use Rattle.pixels.specs.InnerReady.{moved_ready, slot_of}
use Rattle.pixels.proofs.Machine.{up_fits}
use Rattle.pixels.proofs.ListLaws.{changed_more, changed_done}
use Rattle.pixels.proofs.ReadyLaws.{unread, readied, slot_bounded, slot_moves}
use Rattle.pixels.proofs.drive.Goals.{After-loop-i}
use Rattle.pixels.proofs.drive.Goals as goal

-- what is stored is the state, moved by the transfer of its number
stored : (ww kw wk kk : Transfer) (ts : List Ready) (n k : ℕ) (z y r : ℤ) → ts ≡ readied ww kw wk kk → SFits w64 z → SFits w64 y → SFits w64 r →
    k ≡ slot_of n → y ≡ moved_ready (get_or ts k unread) (to_z w64 (of_z w64 z)) → r ≡ pick (ltb k 4) (to_z w64 (of_z w64 y)) (to_z w64 (of_z w64 z)) →
    to_z w64 (of_z w64 r) ≡ moved_by ww kw wk kk n z
stored ww kw wk kk ts n k z y r five fz fy fr slot moved chosen =
    to_z-of_z fr
    ∙ chosen
    ∙ ap (λ (v : ℤ). pick (ltb k 4) v (to_z w64 (of_z w64 z))) (to_z-of_z fy ∙ moved)
    ∙ ap (λ (v : ℤ). pick (ltb k 4) (moved_ready (get_or ts k unread) v) v) (to_z-of_z fz)
    ∙ slot_moves ww kw wk kk ts n k five slot z (omega (arith, up_fits fz))

pub apply-requires : goal.apply-requires
apply-requires c =
    let t = c.args.t in
    slot_bounded t.ww t.kw t.wk t.kk (c.new.result ∷ c.new-2.result ∷ c.new-3.result ∷ c.new-4.result ∷ c.new-5.result ∷ []) (get_or c.args.numbers.now c.loop-i.i 0) c.slot-k.result
    (simp (c.new.ensures, c.new-2.ensures, c.new-3.ensures, c.new-4.ensures, c.new-5.ensures)) c.slot-k.ensures.0

pub loop-i-preserved : goal.loop-i-preserved
loop-i-preserved c =
    let a = c.args in
    let t = a.t in
    let i = c.loop-i.i in
    let z = get_or c.loop-i.states i (pos 0) in
    let fits : SFits w64 z = search rules in
    changed_more (moved_by t.ww t.kw t.wk t.kk) a.numbers.now a.states.now c.loop-i.states i 0 (pos 0) (to_z w64 (of_z w64 c.if_driven.result))
    c.loop-i.invariant (omega arith) (omega arith)
    (stored t.ww t.kw t.wk t.kk (c.new.result ∷ c.new-2.result ∷ c.new-3.result ∷ c.new-4.result ∷ c.new-5.result ∷ []) (get_or a.numbers.now i 0) c.slot-k.result z c.apply.result c.if_driven.result
    (simp (c.new.ensures, c.new-2.ensures, c.new-3.ensures, c.new-4.ensures, c.new-5.ensures))
    fits (record { sfits = c.apply.type_inv }) (record { sfits = c.if_driven.type_inv })
    c.slot-k.ensures.0 c.apply.ensures c.if_driven.ensures)

pub returns : goal.returns
returns c =
    let t = c.args.t in
    changed_done (moved_by t.ww t.kw t.wk t.kk) c.args.numbers.now c.args.states.now c.loop-i.states c.loop-i.i c.loop-i.invariant (omega arith)
