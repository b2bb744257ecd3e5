-- The words from a place on, cut into declarations: none begins there, or one does, with its end or without.
use mathlib.Core.Path.{◌≡◌, refl, sym, ap, ◌∙◌}
use mathlib.Core.Bool.{true, false, false≢true}
use mathlib.Core.List.{List, [], ◌∷◌}
use Prim.Native.Nat.{ℕ, ◌-◌, ◌≤◌, ◌<◌}
use native.Mathlib.Omega.{arith}
use native.Mathlib.Decide.{dec_le}
use borrow.Author.Tests.{lt-ltb, le-ltb}
use lib.ListN.{take, drop}
use Rattle.base.specs.Pick.{pick}
use Rattle.vcd_words.specs.Words.{words, closed, opened}
use Rattle.vcd_words.specs.Places.{part}
use Rattle.vcd_words.specs.declared.Span.{Span}
use Rattle.vcd_words.proofs.SpanLaws.{Next}
use Rattle.vcd_declarations.specs.Declarations.{Cut, keyword_of, begins, is_last, one_more, cut}
use Rattle.vcd_declarations.specs.InnerEnd.{has_end, before, past, EndAt}
use Rattle.vcd_declarations.proofs.EndLaws.{cut_end, cut_open}

-- ---- the words from a place on begin no declaration, or one
abbrev pub over : List (List ℕ) → Cut
over ws = record { declarations = []; ended = true; rest = ws }

pub cut_none : (ws : List (List ℕ)) → ws ≡ [] → cut ws ≡ over ws
unfolding cut
cut_none ws e = rw e

cut_over : (ws : List (List ℕ)) (w : List ℕ) (vs : List (List ℕ)) → ws ≡ w ∷ vs → begins (keyword_of w) ≡ false → cut ws ≡ over ws
unfolding cut
cut_over ws w vs e f = rw (e, f)

cut_one : (ws : List (List ℕ)) (w : List ℕ) (vs : List (List ℕ)) → ws ≡ w ∷ vs → begins (keyword_of w) ≡ true → has_end vs ≡ true
    → cut ws ≡ one_more (w ∷ before vs) (pick (is_last (keyword_of w)) (over (past vs)) (cut (past vs)))
unfolding cut
cut_one ws w vs e f h = rw (e, f) (cut_end w [] vs h)

cut_half : (ws : List (List ℕ)) (w : List ℕ) (vs : List (List ℕ)) → ws ≡ w ∷ vs → begins (keyword_of w) ≡ true → has_end vs ≡ false
    → cut ws ≡ record { declarations = []; ended = false; rest = [] }
unfolding cut
cut_half ws w vs e f h = rw (e, f) (cut_open w [] vs h)

pub no_keyword : begins (keyword_of []) ≡ false
unfolding keyword_of words closed opened
no_keyword = refl

module _ (bytes : List ℕ) (at : ℕ) (s : Span) (n : Next bytes at s) where
  -- a word that begins none
  pub none_here : begins (keyword_of (part bytes s.from s.to)) ≡ false → cut (words (drop at bytes)) ≡ over (words (drop at bytes))
  none_here f = elim (dec_le s.to s.from) [
    | yes l ↦ cut_none (words (drop at bytes)) (n.none (omega (arith, l, n.ordered)))
    | no l ↦ cut_over (words (drop at bytes)) _ _ (n.some (omega (arith, l))) f
  ]

  module _ (b : begins (keyword_of (part bytes s.from s.to)) ≡ true) where
    -- a keyword has bytes
    is_some : s.from < s.to
    is_some = elim (dec_le s.to s.from) [
      | yes l ↦ absurd (false≢true (sym (ap (λ (w : List ℕ). begins (keyword_of w)) (empty l) ∙ no_keyword) ∙ b))
      | no l ↦ omega (arith, l)
    ]
      where
        empty : s.to ≤ s.from → part bytes s.from s.to ≡ []
        empty l = let e : s.to - s.from ≡ 0 = omega (arith, l) in ap (λ (k : ℕ). take k (drop s.from bytes)) e

    -- without its end
    pub half_here : (e : Span) → EndAt bytes s.to e → e.from ≡ e.to
        → cut (words (drop at bytes)) ≡ record { declarations = []; ended = false; rest = [] }
    half_here e a same =
        cut_half (words (drop at bytes)) _ _ (n.some is_some) b (sym a.found ∙ le-ltb e.from e.to (omega (arith, same)))

    -- with its end, by places
    pub one_here : (e : Span) → EndAt bytes s.to e → e.from < e.to
        → cut (words (drop at bytes))
        ≡ one_more (part bytes s.from s.to ∷ words (part bytes s.to e.from))
        (pick (is_last (keyword_of (part bytes s.from s.to))) (over (words (drop e.to bytes))) (cut (words (drop e.to bytes))))
    one_here e a l =
        let there = lt-ltb e.from e.to l in
        rw (a.before_is there, a.past_is there)
        (cut_one (words (drop at bytes)) (part bytes s.from s.to) (words (drop s.to bytes)) (n.some is_some) b (sym a.found ∙ there))
