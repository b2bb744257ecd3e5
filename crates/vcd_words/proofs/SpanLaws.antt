-- The next word by its places: it, and the words of what lies behind it.
use mathlib.Core.Path.{◌≡◌, refl, sym, ap, ◌∙◌}
use mathlib.Core.List.{List, [], ◌∷◌, ◌++◌}
use Prim.Native.Nat.{ℕ, ◌+◌, ◌-◌, ◌≤◌, ◌<◌}
use native.Mathlib.Omega.{arith}
use borrow.Author.Tests.{lt-ltb, le-ltb, ltb-true, ltb-false}
use lib.Dec.{ltb}
use lib.ListN.{length, get_or, take, drop, length-drop, take-append-drop, drop_of_length-le}
use lib.Seq.{drop-drop}
use Rattle.base.specs.Pick.{pick}
use Rattle.base.proofs.Cases.{by_cases}
use Rattle.vcd_words.specs.Words.{is_blank, shut, closed, opened, words}
use Rattle.vcd_words.specs.declared.Span.{Span}
use Rattle.vcd_words.specs.Places.{front, is_solid, word_from, word_to, span_at, part}
use Rattle.vcd_words.proofs.Scanning.{scan_ends}
use Rattle.vcd_words.proofs.Cutting.{opened_join}
use Rattle.vcd_words.proofs.WordLaws.{past_blanks, closed_blanks, first_word, closed_first, front_none, front_most}

-- ---- a word lies in the bytes
pub from_most : (bytes : List ℕ) (at : ℕ) → at ≤ length bytes → word_from bytes at ≤ length bytes
from_most bytes at h = omega (arith, h, front_most is_blank (drop at bytes), length-drop at bytes)

pub to_most : (bytes : List ℕ) (from : ℕ) → from ≤ length bytes → word_to bytes from ≤ length bytes
to_most bytes from h = omega (arith, h, front_most is_solid (drop from bytes), length-drop from bytes)

-- no blank stands where a word begins
from_solid : (bytes : List ℕ) (at : ℕ) → front is_blank (drop (word_from bytes at) bytes) ≡ 0
from_solid bytes at = ap (front is_blank) (sym (drop-drop (front is_blank (drop at bytes)) at bytes)) ∙ front_none is_blank (drop at bytes)

ltb_add : (a k : ℕ) → ltb 0 k ≡ ltb a (a + k)
ltb_add a k =
    by_cases (ltb 0 k)
    (λ e. e ∙ sym (lt-ltb a (a + k) (omega (arith, ltb-true 0 k e))))
    (λ e. e ∙ sym (le-ltb a (a + k) (omega (arith, ltb-false 0 k e))))

-- the word from one place to another is what `take` gives
part_is : (bytes : List ℕ) (from k : ℕ) → take k (drop from bytes) ≡ part bytes from (from + k)
part_is bytes from k = let e : k ≡ from + k - from = omega arith in ap (λ (n : ℕ). take n (drop from bytes)) e

-- the words from a place on: the next, and those behind it
pub word_at : (bytes : List ℕ) (at : ℕ)
    → words (drop at bytes)
    ≡ pick (ltb (span_at bytes at).from (span_at bytes at).to)
    (part bytes (span_at bytes at).from (span_at bytes at).to ∷ words (drop (span_at bytes at).to bytes)) []
unfolding span_at
word_at bytes at =
    let from = word_from bytes at in
    let k = front is_solid (drop from bytes) in
    past_blanks (drop at bytes)
    ∙ ap words (drop-drop (front is_blank (drop at bytes)) at bytes)
    ∙ first_word (drop from bytes) (from_solid bytes at)
    ∙ rw (ltb_add from k, part_is bytes from k, drop-drop k from bytes)

-- of those that a blank closes
pub closed_at : (bytes : List ℕ) (at : ℕ) → at ≤ length bytes
    → closed (drop at bytes)
    ≡ pick (ltb (span_at bytes at).to (length bytes))
    (part bytes (span_at bytes at).from (span_at bytes at).to ∷ closed (drop (span_at bytes at).to bytes)) []
unfolding span_at
closed_at bytes at h =
    let from = word_from bytes at in
    let k = front is_solid (drop from bytes) in
    closed_blanks (drop at bytes)
    ∙ ap closed (drop-drop (front is_blank (drop at bytes)) at bytes)
    ∙ closed_first (drop from bytes) (from_solid bytes at)
    ∙ rw (shorter from k (length bytes) (length (drop from bytes)) (from_most bytes at h) (length-drop from bytes), part_is bytes from k, drop-drop k from bytes)
  where
    shorter : (a k n m : ℕ) → a ≤ n → m ≡ n - a → ltb k m ≡ ltb (a + k) n
    shorter a k n m h e =
        by_cases (ltb k m)
        (λ t. t ∙ sym (lt-ltb (a + k) n (omega (arith, ltb-true k m t, h, e))))
        (λ t. t ∙ sym (le-ltb (a + k) n (omega (arith, ltb-false k m t, h, e))))

-- at the end there is a word without bytes
pub end_span : (bytes : List ℕ) (at : ℕ) → length bytes ≤ at → span_at bytes at ≡ record { from = at; to = at }
unfolding span_at
end_span bytes at h = rw (scan_ends is_blank bytes at h, scan_ends is_solid bytes at h)

-- a word from a place in the bytes on lies in them
pub span_ordered : (bytes : List ℕ) (at : ℕ) → (span_at bytes at).from ≤ (span_at bytes at).to
unfolding span_at
span_ordered bytes at = omega arith

pub span_behind : (bytes : List ℕ) (at : ℕ) → at ≤ (span_at bytes at).from
unfolding span_at
span_behind bytes at = omega arith

pub span_inside : (bytes : List ℕ) (at : ℕ) → at ≤ length bytes → (span_at bytes at).to ≤ length bytes
unfolding span_at
span_inside bytes at h = to_most bytes (word_from bytes at) (from_most bytes at h)

begins_at : (bytes : List ℕ) (at : ℕ) → words (drop at bytes) ≡ words (drop (span_at bytes at).from bytes)
unfolding span_at
begins_at bytes at = past_blanks (drop at bytes) ∙ ap words (drop-drop (front is_blank (drop at bytes)) at bytes)

shuts_at : (bytes : List ℕ) (at : ℕ) → front is_solid (drop (span_at bytes at).to bytes) ≡ 0
unfolding span_at
shuts_at bytes at =
    let from = word_from bytes at in
    ap (front is_solid) (sym (drop-drop (front is_solid (drop from bytes)) from bytes)) ∙ front_none is_solid (drop from bytes)

no_words : (l : List ℕ) → words (take (front is_blank l) l) ≡ []
unfolding words closed opened
no_words [] = refl
no_words (b ∷ l) = by_cases (is_blank b) (λ e. rw e (rw e (no_words l))) (λ e. rw e)

no_solid : (l : List ℕ) → front is_solid (take (front is_blank l) l) ≡ 0
no_solid [] = refl
no_solid (b ∷ l) = by_cases (is_blank b) (λ e. rw e (rw e)) (λ e. rw e)

blanks_at : (bytes : List ℕ) (at : ℕ) → words (part bytes at (span_at bytes at).from) ≡ []
unfolding span_at
blanks_at bytes at = ap words (sym (part_is bytes at (front is_blank (drop at bytes)))) ∙ no_words (drop at bytes)

blank_at : (bytes : List ℕ) (at : ℕ) → front is_solid (part bytes at (span_at bytes at).from) ≡ 0
unfolding span_at
blank_at bytes at = ap (front is_solid) (sym (part_is bytes at (front is_blank (drop at bytes)))) ∙ no_solid (drop at bytes)

-- ---- the word that is open at the end
keeps_at : (bytes : List ℕ) (at : ℕ) → (span_at bytes at).to < length bytes → opened (drop at bytes) ≡ opened (drop (span_at bytes at).to bytes)
keeps_at bytes at k =
    let to = (span_at bytes at).to in
    let n : ℕ = to - at in
    let there : at + n ≡ to = omega (arith, span_behind bytes at, span_ordered bytes at) in
    ap opened (sym (take-append-drop n (drop at bytes))
    ∙ ap (λ (l : List ℕ). take n (drop at bytes) ++ l) (drop-drop n at bytes ∙ ap (λ (i : ℕ). drop i bytes) there))
    ∙ opened_join (take n (drop at bytes)) (drop to bytes) (shuts_at bytes at) (omega (arith, k, length-drop to bytes))

shut_one : (v w : List ℕ) → shut v [] ≡ w ∷ [] → v ≡ w
shut_one [] w e = absurd (omega (arith, ap length e))
shut_one (x ∷ v) w e = ap (λ (ws : List (List ℕ)). get_or ws 0 []) e

shut_none : (v : List ℕ) → shut v [] ≡ [] → v ≡ []
shut_none [] e = refl
shut_none (x ∷ v) e = absurd (omega (arith, ap length e))

-- no word is closed, so all words are the one that is open
only_open : (l : List ℕ) → closed l ≡ [] → words l ≡ shut (opened l) []
unfolding words
only_open l e = rw e

no_word : words [] ≡ []
unfolding words closed opened
no_word = refl

opens_at : (bytes : List ℕ) (at : ℕ) → at ≤ length bytes → length bytes ≤ (span_at bytes at).to
    → opened (drop at bytes) ≡ part bytes (span_at bytes at).from (span_at bytes at).to
opens_at bytes at h k =
    by_cases (ltb from to)
    (λ e. shut_one (opened (drop at bytes)) (part bytes from to) (sym only ∙ word_at bytes at ∙ rw e (ap (λ (ws : List (List ℕ)). part bytes from to ∷ ws) over)))
    (λ e. shut_none (opened (drop at bytes)) (sym only ∙ word_at bytes at ∙ rw e)
    ∙ sym (ap (λ (n : ℕ). take n (drop from bytes)) (same (ltb-false from to e))))
  where
    from : ℕ
    from = (span_at bytes at).from

    to : ℕ
    to = (span_at bytes at).to

    only : words (drop at bytes) ≡ shut (opened (drop at bytes)) []
    only = only_open (drop at bytes) (closed_at bytes at h ∙ rw (le-ltb to (length bytes) k))

    over : words (drop to bytes) ≡ []
    over = ap words (drop_of_length-le bytes k) ∙ no_word

    same : to ≤ from → to - from ≡ 0
    same l = omega (arith, l)

-- ---- what is known of the next word, from a place in the bytes on
pub record Next (bytes : List ℕ) (at : ℕ) (s : Span) : Type 0 where
  pub behind : at ≤ s.from
  pub ordered : s.from ≤ s.to
  pub inside : s.to ≤ length bytes
  -- blanks before it do not count, and no word goes on behind it
  pub begins : words (drop at bytes) ≡ words (drop s.from bytes)
  pub shuts : front is_solid (drop s.to bytes) ≡ 0
  -- what stands before it has no word
  pub blanks : words (part bytes at s.from) ≡ []
  pub blank : front is_solid (part bytes at s.from) ≡ 0
  -- there is a word, or none
  pub some : s.from < s.to → words (drop at bytes) ≡ part bytes s.from s.to ∷ words (drop s.to bytes)
  pub none : s.from ≡ s.to → words (drop at bytes) ≡ []
  -- a blank closes it, or the bytes end with it
  pub closes : s.to < length bytes → closed (drop at bytes) ≡ part bytes s.from s.to ∷ closed (drop s.to bytes)
  pub ends : length bytes ≤ s.to → closed (drop at bytes) ≡ []
  -- the word that is open at the end lies behind it, or is it
  pub keeps : s.to < length bytes → opened (drop at bytes) ≡ opened (drop s.to bytes)
  pub opens : length bytes ≤ s.to → opened (drop at bytes) ≡ part bytes s.from s.to

pub next_is : (bytes : List ℕ) (at : ℕ) (s : Span) → s ≡ span_at bytes at → at ≤ length bytes → Next bytes at s
next_is bytes at s e h = rw e (record {
  behind = span_behind bytes at;
  ordered = span_ordered bytes at;
  inside = span_inside bytes at h;
  begins = begins_at bytes at;
  shuts = shuts_at bytes at;
  blanks = blanks_at bytes at;
  blank = blank_at bytes at;
  some = λ k. word_at bytes at ∙ rw (lt-ltb (span_at bytes at).from (span_at bytes at).to k);
  none = λ k. word_at bytes at ∙ rw (le-ltb (span_at bytes at).from (span_at bytes at).to (omega (arith, k)));
  closes = λ k. closed_at bytes at h ∙ rw (lt-ltb (span_at bytes at).to (length bytes) k);
  ends = λ k. closed_at bytes at h ∙ rw (le-ltb (span_at bytes at).to (length bytes) k);
  keeps = keeps_at bytes at;
  opens = opens_at bytes at h;
})
