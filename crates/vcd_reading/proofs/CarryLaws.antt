-- Bytes behind others in a buffer, and the word that is open at the end of some bytes.
use mathlib.Core.Path.{◌≡◌, refl, sym, ap, ◌∙◌}
use mathlib.Core.List.{List, [], ◌∷◌, ◌++◌}
use Prim.Native.Nat.{ℕ, ◌+◌, ◌-◌, ◌≤◌, min}
use native.Mathlib.Omega.{arith}
use borrow.Author.Tests.{ltb-true, ltb-false}
use lib.Dec.{ltb}
use lib.ListN.{length, take, drop, length-append, length-drop}
use lib.Seq.{length-take-le, take-append-add, take-append_seam}
use Rattle.std.proofs.Common.{Option}
use Rattle.std.proofs.lemmas.List.{take_min}
use Rattle.base.proofs.Cases.{by_cases}
use Rattle.vcd_words.specs.Words.{is_blank, closed, opened}
use Rattle.vcd_words.specs.declared.Span.{Span}
use Rattle.vcd_words.specs.Places.{front, is_solid, span_at, part}
use Rattle.vcd_words.proofs.SpanLaws.{Next, next_is}
use Rattle.vcd_reading.specs.InnerCarried.{Carries}

-- ---- bytes copied behind the first h of a buffer
abbrev copied : ℕ → ℕ → List ℕ → List ℕ → List ℕ
copied h k x b = take h b ++ (x ++ drop k (drop h b))

module _ (x b : List ℕ) (h k : ℕ) (l : h + length x ≤ length b) (e : k ≡ length x) where
  copied_front : take (h + length x) (copied h k x b) ≡ take h b ++ x
  copied_front =
      ap (λ (n : ℕ). take n (copied h k x b)) there
      ∙ take-append-add (take h b) (x ++ drop k (drop h b)) (length x)
      ∙ ap (λ (t : List ℕ). take h b ++ t) (take-append_seam x (drop k (drop h b)))
    where
      there : h + length x ≡ length (take h b) + length x
      there = omega (arith, length-take-le h b (omega (arith, l)))

  copied_length : length (copied h k x b) ≡ length b
  copied_length = omega (arith, e, l, length-append (take h b) (x ++ drop k (drop h b)), length-append x (drop k (drop h b)), length-take-le h b (omega (arith, l)), length-drop k (drop h b), length-drop h b)

-- n bytes of some, as many as there is room for
pub record Kept (bytes : List ℕ) (h n : ℕ) (kept kept' : List ℕ) : Type 0 where
  pub count : n ≡ min (length bytes) (length kept - h)
  pub size : length kept' ≡ length kept
  pub front : take (h + n) kept' ≡ take h kept ++ take n bytes

pub kept_as : (bytes kept : List ℕ) (h n : ℕ) {x : List ℕ} → h ≤ length kept → n ≡ min (length bytes) (length kept - h) → x ≡ take n bytes
    → Kept bytes h n kept (copied h (h + n - h) x kept)
kept_as bytes kept h n {x} l e q =
    let long : length x ≡ n = ap length q ∙ length-take-le n bytes (omega (arith, e)) in
    let room : h + length x ≤ length kept = omega (arith, long, e, l) in
    let all : h + n - h ≡ length x = omega (arith, long) in record {
      count = e;
      size = copied_length x kept h (h + n - h) room all;
      front = ap (λ (m : ℕ). take (h + m) (copied h (h + n - h) x kept)) (sym long) ∙ copied_front x kept h (h + n - h) room all
          ∙ ap (λ (t : List ℕ). take h kept ++ t) q;
    }

-- the first bytes of a buffer, all at most
pub front_as : {n : ℕ} (h : ℕ) (b : List ℕ) → n ≡ min h (length b) → take n b ≡ take h b
front_as h b e = ap (λ (m : ℕ). take m b) e ∙ take_min h b

-- ---- no word is closed, so the next one is the open one
pub open_part : (bytes : List ℕ) (at : ℕ) (s : Span) → s ≡ span_at bytes at → at ≤ length bytes → closed (drop at bytes) ≡ []
    → part bytes s.from s.to ≡ opened (drop at bytes)
open_part bytes at s e l n = sym (next.opens last_word)
  where
    next : Next bytes at s
    next = next_is bytes at s e l

    last_word : length bytes ≤ s.to
    last_word = by_cases (ltb s.to (length bytes)) (λ k. absurd (no (next.closes (ltb-true s.to (length bytes) k)))) (λ k. ltb-false s.to (length bytes) k)
      where
        no : {w : List ℕ} {ws : List (List ℕ)} → closed (drop at bytes) ≡ w ∷ ws → ⊥
        no q = omega (arith, ap length (sym n ∙ q))

pub carries_as : {x y : List ℕ} {carried : ℕ} {r : Option ℕ} {word word' : List ℕ} → x ≡ y → Carries x carried r word word' → Carries y carried r word word'
carries_as e c = rw (← e) c

-- ---- the bytes before the first blank
pub solid_first : (bytes : List ℕ) (s : Span) → s ≡ span_at bytes 0 → s.from ≡ 0 → s.to ≡ front is_solid bytes
unfolding span_at
solid_first bytes s e z =
    let from = sym (ap (λ (x : Span). x.from) e) ∙ z in
    ap (λ (x : Span). x.to) e ∙ by_front (front is_blank bytes) (omega (arith, from))
  where
    by_front : (n : ℕ) → n ≡ 0 → (0 + n) + front is_solid (drop (0 + n) bytes) ≡ front is_solid bytes
    by_front n h = rw h (omega arith)

pub blank_first : (bytes : List ℕ) (s : Span) → s ≡ span_at bytes 0 → (s.from ≡ 0 → ⊥) → front is_solid bytes ≡ 0
unfolding span_at
blank_first [] s e n = refl
blank_first (x ∷ bytes) s e n =
    by_cases (is_blank x) (λ b. rw b) (λ b. absurd (n (ap (λ (y : Span). y.from) e ∙ rw b)))
