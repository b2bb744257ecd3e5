-- `numbers::leave_some` meets its contract, by its callees.
use mathlib.Core.Path.{◌≡◌, ap, ◌∙◌}
use Prim.Native.Nat.{ℕ, ◌+◌, ◌-◌}
use native.Mathlib.Omega.{arith}
use borrow.Author.Rules.{rules}
use lib.ListN.{length, take, drop, replicate, length-take, length-drop}
use Rattle.numbers.proofs.FilledLaws.{filled_part, listed_once}
use Rattle.numbers.proofs.leave_some.Goals as goal

pub returns-then-end-numbers : goal.returns-then-end-numbers
returns-then-end-numbers c =
    let a = c.args in
    let l = a.numbers.now in
    let n = c.outside_from-n.result in
    let m = a.x + n - a.x in
    let all : c.fill.new.self ≡ replicate (length (take m (drop a.x l))) 255 = search rules in
    let long : length (take m (drop a.x l)) ≡ n = omega (arith, length-take m (drop a.x l), length-drop a.x l) in
    let part : c.fill.new.self ≡ replicate n 255 = all ∙ ap (λ (j : ℕ). replicate j 255) long in
    (c.outside_from-n.ensures, filled_part (λ k. 255) a.x n m l c.fill.new.self (omega arith) (omega arith) (part ∙ listed_once n 255))
