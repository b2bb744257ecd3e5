-- The declarations one after the other: what was told so far, and then those from a place on, are all of them.
use mathlib.Core.Path.{◌≡◌, refl, sym, ap, ◌∙◌}
use mathlib.Core.Bool.{Bool, true, false}
use mathlib.Core.List.{List, [], ◌∷◌}
use Prim.Native.Nat.{ℕ, ◌≤◌, ◌<◌}
use native.Mathlib.Omega.{arith}
use lib.ListN.{length, drop, drop_of_length-le}
use Rattle.base.proofs.Cases.{by_cases}
use Rattle.vcd_words.specs.Words.{words, closed, opened, among}
use Rattle.vcd_words.specs.Places.{part}
use Rattle.vcd_words.specs.declared.Span.{Span}
use Rattle.vcd_words.proofs.SpanLaws.{Next}
use Rattle.vcd_declarations.specs.declared.head.Head as place
use Rattle.vcd_declarations.specs.Declarations.{Head, Cut, keyword_of, begins, is_last, one_more, cut, blank, declares_by, declares, declared_from, head_of}
use Rattle.vcd_declarations.specs.Begun.{all_by, Begins}
use Rattle.vcd_declarations.specs.InnerEnd.{EndAt}
use Rattle.vcd_declarations.specs.InnerHead.{Tells, blank_head}
use Rattle.vcd_declarations.proofs.HeadLaws.{blank_tells}
use Rattle.vcd_declarations.proofs.CutLaws.{over, cut_none, none_here, half_here, one_here}

pub record Going (bytes : List ℕ) (h : place.Head) (at : ℕ) : Type 0 where
  pub so_far : Head
  pub tells : Tells bytes h so_far
  pub head_is : declared_from so_far (cut (words (drop at bytes))).declarations ≡ head_of (words bytes)
  pub ended_is : (cut (words (drop at bytes))).ended ≡ (cut (words bytes)).ended
  pub rest_is : (cut (words (drop at bytes))).rest ≡ (cut (words bytes)).rest
  pub inside : at ≤ length bytes

pub going_start : (bytes : List ℕ) → Going bytes blank_head 0
unfolding head_of
going_start bytes = record {
  so_far = blank;
  tells = blank_tells bytes;
  head_is = refl;
  ended_is = refl;
  rest_is = refl;
  inside = omega arith;
}

-- all of them were told
told_all : (bytes : List ℕ) (h : place.Head) (s : Head) → Tells bytes h s → s ≡ head_of (words bytes) → (ended : Bool) (next : ℕ) → ended ≡ (cut (words bytes)).ended
    → words (drop next bytes) ≡ (cut (words bytes)).rest → next ≤ length bytes → Begins bytes (record { head = h; ended = ended; next = next })
unfolding all_by
told_all bytes h s t all ended next over rest inside = record {
  broken_is = t.broken_is ∙ ap (λ (x : Head). x.broken) all;
  scaled_is = t.scaled_is ∙ ap (λ (x : Head). x.scaled) all;
  bad_is = t.bad_is ∙ ap (λ (x : Head). x.bad) all;
  codes_are = t.codes_are ∙ ap (λ (x : Head). x.codes) all;
  codes_in_lem = t.codes_in_lem;
  all_are = λ code n.
      by_cases h.further.full (λ f. rw f) (λ f. rw f (t.all_are f code n ∙ ap (λ (x : Head). among x.all code) all));
  further_in_lem = t.further_in_lem;
  ended_is = over;
  rest_is = rest;
  next_in = inside;
}

module _ (bytes : List ℕ) (h : place.Head) (at : ℕ) (g : Going bytes h at) where
  -- they are over at a place from which the words are those that are left
  ends_with : (c : Cut) (next : ℕ) → cut (words (drop at bytes)) ≡ c → c.declarations ≡ [] → words (drop next bytes) ≡ c.rest → next ≤ length bytes
      → Begins bytes (record { head = h; ended = c.ended; next = next })
  ends_with c next e none rest inside =
      told_all bytes h g.so_far g.tells all c.ended next (sym (ap (λ (d : Cut). d.ended) e) ∙ g.ended_is)
      (rest ∙ sym (ap (λ (d : Cut). d.rest) e) ∙ g.rest_is) inside
    where
      all : g.so_far ≡ head_of (words bytes)
      all = sym (ap (declared_from g.so_far) (ap (λ (d : Cut). d.declarations) e ∙ none)) ∙ g.head_is

  -- at the end of the bytes
  pub at_end : length bytes ≤ at → Begins bytes (record { head = h; ended = true; next = at })
  unfolding words closed opened
  at_end l = ends_with (over (words (drop at bytes))) at (cut_none (words (drop at bytes)) (ap words (drop_of_length-le bytes l))) refl refl g.inside

  module _ (s : Span) (n : Next bytes at s) where
    -- before a word that begins none
    pub begins_none : begins (keyword_of (part bytes s.from s.to)) ≡ false → Begins bytes (record { head = h; ended = true; next = s.from })
    begins_none f = ends_with (over (words (drop at bytes))) s.from (none_here bytes at s n f) refl (sym n.begins) (omega (arith, n.ordered, n.inside))

    module _ (b : begins (keyword_of (part bytes s.from s.to)) ≡ true) where
      -- without its end
      pub half : (e : Span) → EndAt bytes s.to e → e.from ≡ e.to → Begins bytes (record { head = h; ended = false; next = length bytes })
      unfolding words closed opened
      half e a same = ends_with _ (length bytes) (half_here bytes at s n b e a same) refl (ap words (drop_of_length-le bytes {i = length bytes} (omega arith))) (omega arith)

      -- with its end
      module _ (e : Span) (a : EndAt bytes s.to e) (l : e.from < e.to) (h' : place.Head)
          (told : Tells bytes h' (declares_by (keyword_of (part bytes s.from s.to)) (words (part bytes s.to e.from)) g.so_far)) where
        abbrev w : List ℕ
        w = part bytes s.from s.to

        abbrev ws : List (List ℕ)
        ws = words (drop e.to bytes)

        abbrev next_head : Head
        next_head = declares_by (keyword_of w) (words (part bytes s.to e.from)) g.so_far

        -- what is left after it
        left : Cut → Type 0
        left c = cut (words (drop at bytes)) ≡ one_more (w ∷ words (part bytes s.to e.from)) c

        all_by_lem : (c : Cut) → left c → declared_from next_head c.declarations ≡ head_of (words bytes)
        unfolding left declares
        all_by_lem c q = sym (ap (λ (d : Cut). declared_from g.so_far d.declarations) q) ∙ g.head_is

        pub last_one : is_last (keyword_of w) ≡ true → Begins bytes (record { head = h'; ended = true; next = e.to })
        unfolding left
        last_one f =
            told_all bytes h' next_head told all true e.to (sym (ap (λ (d : Cut). d.ended) here) ∙ g.ended_is)
            (sym (ap (λ (d : Cut). d.rest) here) ∙ g.rest_is) a.inside
          where
            here : left (over ws)
            here = one_here bytes at s n b e a l ∙ rw f

            all : next_head ≡ head_of (words bytes)
            all = all_by_lem (over ws) here

        pub one_more_lem : is_last (keyword_of w) ≡ false → Going bytes h' e.to
        unfolding left
        one_more_lem f = record {
          so_far = next_head;
          tells = told;
          head_is = all_by_lem (cut ws) here;
          ended_is = sym (ap (λ (d : Cut). d.ended) here) ∙ g.ended_is;
          rest_is = sym (ap (λ (d : Cut). d.rest) here) ∙ g.rest_is;
          inside = a.inside;
        }
          where
            here : left (cut ws)
            here = one_here bytes at s n b e a l ∙ rw f
