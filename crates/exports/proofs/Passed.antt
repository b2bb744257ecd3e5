-- A call that is passed on: what is shown of the record inside holds of the numbers that are handed over,
-- since the record that was taken is the one that they stand for.
use mathlib.Core.Path.{◌≡◌, refl, sym, ap, ◌∙◌}
use mathlib.Core.List.{List}
use mathlib.Core.Bool.{Bool, true, false}
use Prim.Native.Nat.{ℕ}
use mir.Val.{bool_byte}
use Rattle.base.specs.Pick.{pick}
use Rattle.controller.specs.declared.Uc8253.{Uc8253}
use Rattle.controller.specs.World.{World, Buffers, world}
use Rattle.controller.specs.Ask.{Ask, Answer, did, refused_by, answered}
use Rattle.event.specs.Events.{ran, refused}
use Rattle.exports.specs.declared.handed.Handed.{Handed}
use Rattle.exports.specs.declared.Given.{Given}
use Rattle.exports.specs.declared.Asked.{Asked}
use Rattle.exports.specs.Taken.{record_taken}
use Rattle.exports.specs.Handed.{handed_of}
use Rattle.exports.specs.Given.{given_of, answer_number, given, turns_all_back, ran_given, asked_of, asked}

-- a function of the world that was taken
pub of_taken : {A : Type 0} {x : A} (f : World → A) (p : Uc8253) (h : Handed) (b : Buffers)
    → p ≡ record_taken h → x ≡ f (world p b) → x ≡ f (world (record_taken h) b)
of_taken f p h b e q = q ∙ ap (λ (s : Uc8253). f (world s b)) e

module _ (a : Ask) (h : Handed) (p : Uc8253) (b : Buffers) (e : p ≡ record_taken h) where
  -- a call: what it gives, and what is lent after it
  pub given_is : {g : Given} {v : World} {n m : ℕ} → g ≡ given_of h v.chip n m
      → v ≡ did a (world p b) → n ≡ refused_by a (world p b) → m ≡ answer_number (answered a (world p b)) → g ≡ given a h b
  given_is r w k l =
      let w' = of_taken (did a) p h b e w in
      let k' = of_taken (refused_by a) p h b e k in
      let l' = of_taken (λ (v : World). answer_number (answered a v)) p h b e l in
      r ∙ (λ i. given_of h (w' i).chip (k' i) (l' i))

  pub passed : {g : Given} {q : Uc8253} {b' : Buffers} {n m : ℕ} → g ≡ given_of h q n m
      → world q b' ≡ did a (world p b) → n ≡ refused_by a (world p b) → m ≡ answer_number (answered a (world p b))
      → (g ≡ given a h b) × (b' ≡ (did a (world (record_taken h) b)).lent)
  passed r w k l = (given_is r w k l, ap (λ (v : World). v.lent) (of_taken (did a) p h b e w))

  -- a question
  pub asked_is : {g : Asked} {n : ℕ} {x : Answer}
      → g ≡ asked_of n x → n ≡ refused_by a (world p b) → x ≡ answered a (world p b) → g ≡ asked a h b
  asked_is r k l =
      let k' = of_taken (refused_by a) p h b e k in
      let l' = of_taken (answered a) p h b e l in
      r ∙ (λ i. asked_of (k' i) (l' i))

-- a run of events: every event turned back from the start, or not
module _ (events : List ℕ) (h : Handed) (p : Uc8253) (b : Buffers) (e : p ≡ record_taken h) where
  pub ran_kept : {n : ℕ} → turns_all_back p b ≡ true → n ≡ refused events (world p b)
      → ◌≡◌ {A = Given} (record { chip = h; refused = n; answer = 257 }) (ran_given events h b)
  ran_kept t k =
      let s : turns_all_back (record_taken h) b ≡ true = ap (λ (q : Uc8253). turns_all_back q b) (sym e) ∙ t in
      rw s (λ i. record { chip = h; refused = of_taken (refused events) p h b e k i; answer = 257 })

  pub ran_on : {n : ℕ} {x : Handed} {v : World} → turns_all_back p b ≡ false → n ≡ refused events (world p b)
      → x ≡ handed_of v.chip → v ≡ ran events (world p b)
      → ◌≡◌ {A = Given} (record { chip = x; refused = n; answer = 257 }) (ran_given events h b)
  ran_on t k c w =
      let s : turns_all_back (record_taken h) b ≡ false = ap (λ (q : Uc8253). turns_all_back q b) (sym e) ∙ t in
      let g = c ∙ ap (λ (u : World). handed_of u.chip) (of_taken (ran events) p h b e w) in
      rw s (λ i. record { chip = g i; refused = of_taken (refused events) p h b e k i; answer = 257 })

-- a test as a number
pub as_number : (t : Bool) → bool_byte t ≡ pick t 1 0
as_number true = refl
as_number false = refl
