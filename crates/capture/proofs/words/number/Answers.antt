-- `capture::words::number` meets its contract. The invariant: the value is the number of the bytes from place at + k on, and it is below 256 to their count. The measure is k.
use mathlib.Core.Path.{◌≡◌, ap, subst, ◌∙◌}
use Prim.Native.Nat.{ℕ, ◌+◌, ◌-◌, ◌*◌, ◌^◌, ◌<◌}
use borrow.Author.Rules.{rules}
use native.Mathlib.Omega.{arith}
use lib.ListN.{get_or}
use Rattle.capture.specs.Little.{little}
use Rattle.capture.proofs.LittleLaws.{none_yet, little_more, more_below, word_fits}
use Rattle.capture.proofs.words.number.Goals as goal

pub loop-k-init : goal.loop-k-init
loop-k-init c =
    let a = c.args in
    let none = none_yet a.bytes.now (a.at + a.n) a.n in
    (none.0, none.1, omega arith)

pub overflow_mul-value : goal.overflow_mul-value
overflow_mul-value c =
    let l = c.loop-k in
    let a = c.args in
    let sum = more_below a.n l.k l.value c.byte.result (omega arith) l.invariant.2 l.invariant.1 (search rules) in
    let most = word_fits {j = a.n - (l.k - 1)} (omega arith) sum in
    record { fits = omega (arith, most) }

pub overflow_add-value : goal.overflow_add-value
overflow_add-value c =
    let l = c.loop-k in
    let a = c.args in
    let sum = more_below a.n l.k l.value c.byte.result (omega arith) l.invariant.2 l.invariant.1 (search rules) in
    let most = word_fits {j = a.n - (l.k - 1)} (omega arith) sum in
    record { fits = most }

pub loop-k-preserved : goal.loop-k-preserved
loop-k-preserved c =
    let l = c.loop-k in
    let a = c.args in
    let s = a.bytes.now in (
      ap (λ (b : ℕ). b + 256 * l.value) c.byte.ensures
          ∙ ap (λ (v : ℕ). get_or s (a.at + (l.k - 1)) 0 + 256 * v) l.invariant.0
          ∙ little_more s a.at a.n l.k (omega arith) l.invariant.2,
      more_below a.n l.k l.value c.byte.result (omega arith) l.invariant.2 l.invariant.1 (search rules),
      omega arith,
    )

pub returns : goal.returns
returns c =
    let l = c.loop-k in
    let a = c.args in
    let first : a.at + l.k ≡ a.at = omega arith in
    let all : a.n - l.k ≡ a.n = omega arith in
    (l.invariant.0 ∙ ap (λ (p : ℕ). little a.bytes.now p (a.n - l.k)) first ∙ ap (little a.bytes.now a.at) all, subst (λ (m : ℕ). l.value < 256 ^ m) all l.invariant.1)
