-- The words up to the next `$end`, by places: they are those of the bytes before it.
use mathlib.Core.Path.{◌≡◌, refl, sym, ap, ◌∙◌}
use mathlib.Core.Bool.{Bool, true, false, false≢true}
use mathlib.Core.List.{List, [], ◌∷◌, ◌++◌, append_assoc, append-nil}
use Prim.Native.Nat.{ℕ, ◌+◌, ◌-◌, ◌≤◌, ◌<◌}
use native.Mathlib.Omega.{arith}
use borrow.Author.Tests.{lt-ltb, le-ltb}
use lib.Dec.{ltb}
use lib.ListN.{length, take, drop, take-append-drop, length-append, drop_of_length-le}
use lib.Seq.{take-append_seam, drop-drop, take-add}
use Rattle.base.specs.Pick.{pick}
use Rattle.base.proofs.Cases.{by_cases}
use Rattle.vcd_words.specs.Words.{words, closed, opened}
use Rattle.vcd_words.specs.Places.{front, is_solid, part}
use Rattle.vcd_words.specs.declared.Span.{Span}
use Rattle.vcd_words.proofs.Cutting.{words_join}
use Rattle.vcd_words.proofs.SpanLaws.{Next}
use Rattle.vcd_declarations.specs.Declarations.{keyword_of, is_last, is_end, one_more, cut_from}
use Rattle.vcd_declarations.specs.InnerEnd.{has_end, before, past, EndAt}

-- ---- words without an `$end`, and then others
none_first : (t r : Bool) → pick t true r ≡ false → (t ≡ false) × (r ≡ false)
none_first true r e = absurd (false≢true (sym e))
none_first false r e = (refl, e)

end_behind : (us vs : List (List ℕ)) → has_end us ≡ false → has_end (us ++ vs) ≡ has_end vs
end_behind [] vs e = refl
end_behind (u ∷ us) vs e = let f = none_first (is_end u) (has_end us) e in rw f.0 (end_behind us vs f.1)

before_behind : (us vs : List (List ℕ)) → has_end us ≡ false → before (us ++ vs) ≡ us ++ before vs
before_behind [] vs e = refl
before_behind (u ∷ us) vs e =
    let f = none_first (is_end u) (has_end us) e in rw f.0 (ap (λ (l : List (List ℕ)). u ∷ l) (before_behind us vs f.1))

past_behind : (us vs : List (List ℕ)) → has_end us ≡ false → past (us ++ vs) ≡ past vs
past_behind [] vs e = refl
past_behind (u ∷ us) vs e = let f = none_first (is_end u) (has_end us) e in rw f.0 (past_behind us vs f.1)

-- ---- bytes in parts
pub parts_join : (bytes : List ℕ) (at i j : ℕ) → at ≤ i → i ≤ j → part bytes at j ≡ part bytes at i ++ part bytes i j
parts_join bytes at i j h k =
    let sum : j - at ≡ (i - at) + (j - i) = omega (arith, h, k) in
    let place : at + (i - at) ≡ i = omega (arith, h) in
    ap (λ (n : ℕ). take n (drop at bytes)) sum
    ∙ take-add (i - at) (j - i) (drop at bytes)
    ∙ ap (λ (l : List ℕ). part bytes at i ++ take (j - i) l) (drop-drop (i - at) at bytes ∙ ap (λ (n : ℕ). drop n bytes) place)

whole_parts : (bytes : List ℕ) (at i : ℕ) → at ≤ i → drop at bytes ≡ part bytes at i ++ drop i bytes
whole_parts bytes at i h =
    let place : at + (i - at) ≡ i = omega (arith, h) in
    sym (take-append-drop (i - at) (drop at bytes))
    ∙ ap (λ (l : List ℕ). part bytes at i ++ l) (drop-drop (i - at) at bytes ∙ ap (λ (n : ℕ). drop n bytes) place)

-- the words from one place on: those up to another at which none goes on, and those from there
words_from_lem : (bytes : List ℕ) (at i : ℕ) → at ≤ i → front is_solid (drop i bytes) ≡ 0 → words (drop at bytes) ≡ words (part bytes at i) ++ words (drop i bytes)
words_from_lem bytes at i h s = ap words (whole_parts bytes at i h) ∙ words_join (part bytes at i) (drop i bytes) s

pub cancel : (us vs ws : List (List ℕ)) → us ++ ws ≡ vs ++ ws → us ≡ vs
cancel us vs ws e =
    let same : length us ≡ length vs = omega (arith, length-append us ws, length-append vs ws, ap length e) in
    sym (take-append_seam us ws) ∙ ap (take (length us)) e ∙ ap (λ (n : ℕ). take n (vs ++ ws)) same ∙ take-append_seam vs ws

-- ---- the loop: so far no `$end`, and no word goes on
pub record Before (bytes : List ℕ) (at i : ℕ) : Type 0 where
  pub behind : at ≤ i
  pub inside : i ≤ length bytes
  pub shut : front is_solid (drop i bytes) ≡ 0
  pub none : has_end (words (part bytes at i)) ≡ false

pub before_start : (bytes : List ℕ) (at : ℕ) → at ≤ length bytes → front is_solid (drop at bytes) ≡ 0 → Before bytes at at
unfolding words closed opened
before_start bytes at h s = record { behind = omega arith; inside = h; shut = s; none = ap (λ (n : ℕ). has_end (words (take n (drop at bytes)))) (zero_less at) }
  where
    zero_less : (n : ℕ) → n - n ≡ 0
    zero_less n = omega arith

module _ (bytes : List ℕ) (at i : ℕ) (b : Before bytes at i) (s : Span) (n : Next bytes i s) where
  all_from : words (drop at bytes) ≡ words (part bytes at i) ++ words (drop i bytes)
  all_from = words_from_lem bytes at i b.behind b.shut

  -- a word that is no `$end`
  pub before_more : s.from < s.to → is_end (part bytes s.from s.to) ≡ false → Before bytes at s.to
  before_more l e = record {
    behind = omega (arith, b.behind, n.behind, n.ordered);
    inside = n.inside;
    shut = n.shuts;
    none = ap has_end up_to ∙ end_behind (words (part bytes at i)) (part bytes s.from s.to ∷ []) b.none ∙ rw e;
  }
    where
      up_to : words (part bytes at s.to) ≡ words (part bytes at i) ++ part bytes s.from s.to ∷ []
      up_to = cancel (words (part bytes at s.to)) (words (part bytes at i) ++ part bytes s.from s.to ∷ []) (words (drop s.to bytes))
          (sym (words_from_lem bytes at s.to (omega (arith, b.behind, n.behind, n.ordered)) n.shuts)
          ∙ all_from ∙ ap (λ (l : List (List ℕ)). words (part bytes at i) ++ l) (n.some l)
          ∙ sym (append_assoc (words (part bytes at i)) (part bytes s.from s.to ∷ []) (words (drop s.to bytes))))

  -- it is the `$end`
  pub end_here : s.from < s.to → is_end (part bytes s.from s.to) ≡ true → EndAt bytes at s
  end_here l e = record {
    found = lt-ltb s.from s.to l ∙ sym (ap has_end all ∙ end_behind us vs b.none ∙ rw e);
    before_is = λ t. up_to ∙ sym (ap before all ∙ before_behind us vs b.none ∙ rw e (append-nil us));
    past_is = λ t. sym (ap past all ∙ past_behind us vs b.none ∙ rw e);
    behind = omega (arith, b.behind, n.behind);
    ordered = n.ordered;
    inside = n.inside;
  }
    where
      us : List (List ℕ)
      us = words (part bytes at i)

      vs : List (List ℕ)
      vs = part bytes s.from s.to ∷ words (drop s.to bytes)

      all : words (drop at bytes) ≡ us ++ vs
      all = all_from ∙ ap (λ (l : List (List ℕ)). us ++ l) (n.some l)

      up_to : words (part bytes at s.from) ≡ us
      up_to = ap words (parts_join bytes at i s.from b.behind n.behind)
          ∙ words_join (part bytes at i) (part bytes i s.from) n.blank
          ∙ ap (λ (l : List (List ℕ)). us ++ l) n.blanks ∙ append-nil us

  -- no word is left
  pub no_end : s.from ≡ s.to → EndAt bytes at s
  no_end e = record {
    found = f ∙ sym (ap has_end (all_from ∙ ap (λ (l : List (List ℕ)). words (part bytes at i) ++ l) (n.none e)) ∙ end_behind (words (part bytes at i)) [] b.none);
    before_is = λ t. absurd (false≢true (sym f ∙ t));
    past_is = λ t. absurd (false≢true (sym f ∙ t));
    behind = omega (arith, b.behind, n.behind);
    ordered = n.ordered;
    inside = n.inside;
  }
    where
      f : ltb s.from s.to ≡ false
      f = le-ltb s.from s.to (omega (arith, e))

-- ---- a declaration that is open: up to its `$end`, if there is one
pub cut_end : (k : List ℕ) (d ws : List (List ℕ)) → has_end ws ≡ true
    → cut_from (k ∷ d) ws
    ≡ one_more (k ∷ (d ++ before ws)) (pick (is_last (keyword_of k)) (record { declarations = []; ended = true; rest = past ws }) (cut_from [] (past ws)))
cut_end k d [] h = absurd (false≢true h)
cut_end k d (w ∷ ws) h =
    by_cases (is_end w)
    (λ e. rw (e, append-nil d))
    (λ e. rw e (cut_end k (d ++ w ∷ []) ws (sym (ap (λ (t : Bool). pick t true (has_end ws)) e) ∙ h) ∙ rw (append_assoc d (w ∷ []) (before ws))))

pub cut_open : (k : List ℕ) (d ws : List (List ℕ)) → has_end ws ≡ false → cut_from (k ∷ d) ws ≡ record { declarations = []; ended = false; rest = [] }
cut_open k d [] h = refl
cut_open k d (w ∷ ws) h = let f = none_first (is_end w) (has_end ws) h in rw f.0 (cut_open k (d ++ w ∷ []) ws f.1)

-- at the end of the bytes
pub end_none : (bytes : List ℕ) (at i : ℕ) → Before bytes at i → length bytes ≤ i → EndAt bytes at (record { from = i; to = i })
unfolding words closed opened
end_none bytes at i b h = record {
  found = le-ltb i i (omega arith) ∙ sym (ap has_end none_left ∙ end_behind (words (part bytes at i)) [] b.none);
  before_is = λ t. absurd (false≢true (sym (le-ltb i i (omega arith)) ∙ t));
  past_is = λ t. absurd (false≢true (sym (le-ltb i i (omega arith)) ∙ t));
  behind = b.behind;
  ordered = omega arith;
  inside = b.inside;
}
  where
    none_left : words (drop at bytes) ≡ words (part bytes at i) ++ []
    none_left = words_from_lem bytes at i b.behind b.shut ∙ ap (λ (l : List ℕ). words (part bytes at i) ++ words l) (drop_of_length-le bytes h)
