-- Making: what a configuration that is not refused gives, and the record and what is lent after it, from what each of the fills left.
use mathlib.Core.Path.{◌≡◌, refl, ap, ◌∙◌}
use mathlib.Core.Bool.{Bool, true, false}
use mathlib.Core.List.{List}
use Prim.Native.Nat.{ℕ, ◌≤◌}
use native.Mathlib.Omega.{arith}
use lib.Dec.{eqb}
use lib.IntN.{ℤ, pos}
use lib.ListN.{length, replicate}
use borrow.Author.Tests.{eqb-true, eqb-false}
use Rattle.base.specs.Pick.{pick}
use Rattle.glass.specs.Gray.{level_of}
use Rattle.config.specs.declared.Uc8253Config.{Uc8253Config}
use Rattle.config.specs.Refusal.{refusal}
use Rattle.config.proofs.RefusalLaws.{accepted}
use Rattle.pixels.specs.States.{state_held}
use Rattle.pixels.proofs.StateLaws.{level_within, held_exact}
use Rattle.controller.specs.declared.Uc8253.{Uc8253}
use Rattle.controller.specs.World.{Buffers, buffers, world}
use Rattle.controller.specs.TurnedBack.{lent_fits, making_refused}
use Rattle.controller.specs.Calls.{first_chip, first_buffers, zeros, made}
use Rattle.base.proofs.Chain.{yes, no}
use Rattle.controller.proofs.Parts.{lengths}

-- ---- a making that is not refused
taken : (n : ℕ) (fits t : Bool) → eqb n 0 ≡ t → pick t (pick fits 0 5) n ≡ 0 → (n ≡ 0) × (fits ≡ true)
taken n true true q e = (eqb-true n 0 q, refl)
taken n false true q e = absurd (omega arith)
taken n fits false q e = absurd (eqb-false n 0 q e)

unrefused : (c : Uc8253Config) (b : Buffers) → making_refused c b ≡ 0 → (refusal c ≡ 0) × (lent_fits c b ≡ true)
unfolding making_refused
unrefused c b e = taken (refusal c) (lent_fits c b) (eqb (refusal c) 0) refl e

-- ---- what each part is after it
pub record Filled (c : Uc8253Config) (b : Buffers) (chip : Uc8253) (a : Buffers) : Type 0 where
  pub chip_is : chip ≡ first_chip c
  pub old_is : a.old ≡ replicate (length b.old) 0
  pub new_is : a.new ≡ replicate (length b.new) 0
  pub states_is : a.states ≡ replicate (length b.states) (state_held (level_of c.optics.initial_gray c.optics.full_swing))
  pub picture_is : a.picture ≡ replicate (length b.picture) c.optics.initial_gray
  pub rows_is : a.rows ≡ replicate (length b.rows) 0

pub at_level : {l : List ℤ} {x y : ℕ} (n : ℕ) → l ≡ replicate n (state_held x) → x ≡ y → l ≡ replicate n (state_held y)
at_level n e f = rw (← f) e

long : {A : Type 0} {l : List A} {n k : ℕ} (x : A) → l ≡ replicate n x → n ≡ k → l ≡ replicate k x
long x e f = rw (← f) e

same_buffers : {o o₂ n n₂ p p₂ r r₂ : List ℕ} {s s₂ : List ℤ} → o ≡ o₂ → n ≡ n₂ → s ≡ s₂ → p ≡ p₂ → r ≡ r₂
    → buffers o n s p r ≡ buffers o₂ n₂ s₂ p₂ r₂
same_buffers o n s p r = rw (o, n, s, p, r)

first_buffers_lem : (c : Uc8253Config) (b : Buffers) (chip : Uc8253) (a : Buffers) → c.optics.initial_gray ≤ 255 → making_refused c b ≡ 0
    → Filled c b chip a → a ≡ first_buffers c
unfolding first_buffers
first_buffers_lem c b chip a g e f =
    let u = unrefused c b e in
    let l = lengths c b u.1 in
    let s = c.optics.full_swing in
    let x = level_of c.optics.initial_gray s in
    let h : state_held x ≡ pos x = held_exact x s (level_within c.optics.initial_gray s g) (accepted c u.0).swing_most in
    same_buffers
    (long 0 f.old_is l.old)
    (long 0 f.new_is l.new)
    (long (pos x) (f.states_is ∙ ap (replicate (length b.states)) h) l.states)
    (long c.optics.initial_gray f.picture_is l.picture)
    (long 0 f.rows_is l.rows)

pub made_first : (c : Uc8253Config) (b : Buffers) (chip : Uc8253) (a : Buffers) → c.optics.initial_gray ≤ 255
    → eqb (making_refused c b) 0 ≡ true → Filled c b chip a → world chip a ≡ made c b
unfolding made
made_first c b chip a g q f =
    let e = eqb-true (making_refused c b) 0 q in
    yes (world zeros b) q (ap (λ p. world p a) f.chip_is ∙ ap (world (first_chip c)) (first_buffers_lem c b chip a g e f))

pub made_none : (c : Uc8253Config) (b : Buffers) (chip : Uc8253) → eqb (making_refused c b) 0 ≡ false → chip ≡ zeros
    → world chip b ≡ made c b
unfolding made
made_none c b chip e f = no (world (first_chip c) (first_buffers c)) e (ap (λ p. world p b) f)
