-- The declarations of a dump's first bytes are those of the dump, once a blank there closes a word after them:
-- words that are closed stay as they are, and the declarations are over among these.
use mathlib.Core.Path.{◌≡◌, refl, sym, ap, ◌∙◌}
use mathlib.Core.Bool.{Bool, true, false}
use mathlib.Core.List.{List, [], ◌∷◌, ◌++◌, map}
use Prim.Native.Nat.{ℕ, ◌-◌, ◌≤◌, ◌<◌}
use native.Mathlib.Omega.{arith}
use lib.ListN.{length, take, drop, length-append, length-drop, take-append-drop}
use lib.Seq.{take-append-le, drop-append-le}
use Rattle.base.specs.Pick.{pick}
use Rattle.base.proofs.Cases.{by_cases}
use Rattle.vcd_words.specs.Words.{shut, closed, opened, words, among}
use Rattle.vcd_words.specs.declared.Span.{Span}
use Rattle.vcd_words.proofs.Cutting.{words_cut, opened_late}
use Rattle.vcd_declarations.specs.declared.codes.Codes.{Codes}
use Rattle.vcd_declarations.specs.declared.codes.Further.{Further}
use Rattle.vcd_declarations.specs.declared.head.Begun.{Begun}
use Rattle.vcd_declarations.specs.Codes.{code_in, five_in, further_in, placed_in, Within, AllWithin, EachWithin, FurtherWithin}
use Rattle.vcd_declarations.specs.Declarations.{Head, Cut, keyword_of, begins, is_last, is_end, one_more, cut_from, cut, blank, declared_from, head_of}
use Rattle.vcd_declarations.specs.Begun.{all_by, Begins}
use Rattle.vcd_declarations.proofs.EndLaws.{cancel}
use Rattle.vcd_declarations.proofs.CutLaws.{over}

-- ---- the codes, by their places in the first bytes
code_more : (h more : List ℕ) (s : Span) → Within s (length h) → code_in (h ++ more) s ≡ code_in h s
code_more h more s w =
    ap (take (s.to - s.from)) (drop-append-le s.from h more (omega (arith, w.ordered, w.inside)))
    ∙ take-append-le (s.to - s.from) (drop s.from h) more (omega (arith, length-drop s.from h, w.inside))

pub settled_five : (h more : List ℕ) (c : Codes) → AllWithin c (length h) → five_in (h ++ more) c ≡ five_in h c
settled_five h more c a =
    rw (
      code_more h more c.cs a.cs_in,
      code_more h more c.dc a.dc_in,
      code_more h more c.clk a.clk_in,
      code_more h more c.mosi a.mosi_in,
      code_more h more c.rst a.rst_in,
    )

settled_each : (h more : List ℕ) (l : List Span) → EachWithin l (length h) → map (code_in (h ++ more)) l ≡ map (code_in h) l
settled_each h more [] a = refl
settled_each h more (s ∷ l) a = rw (code_more h more s a.0, settled_each h more l a.1)

settled_further : (h more : List ℕ) (f : Further) → FurtherWithin f (length h) → further_in (h ++ more) f ≡ further_in h f
settled_further h more f a = settled_each h more f.codes a.each_in

wider : (h more : List ℕ) (s : Span) → Within s (length h) → Within s (length (h ++ more))
wider h more s w = record { ordered = w.ordered; inside = omega (arith, w.inside, length-append h more) }

all_more : (h more : List ℕ) (c : Codes) → AllWithin c (length h) → AllWithin c (length (h ++ more))
all_more h more c a = record {
  cs_in = wider h more c.cs a.cs_in;
  dc_in = wider h more c.dc a.dc_in;
  clk_in = wider h more c.clk a.clk_in;
  mosi_in = wider h more c.mosi a.mosi_in;
  rst_in = wider h more c.rst a.rst_in;
}

each_more : (h more : List ℕ) (l : List Span) → EachWithin l (length h) → EachWithin l (length (h ++ more))
each_more h more [] a = tt
each_more h more (s ∷ l) a = (wider h more s a.0, each_more h more l a.1)

further_more : (h more : List ℕ) (f : Further) → FurtherWithin f (length h) → FurtherWithin f (length (h ++ more))
further_more h more f a = record { eight = a.eight; each_in = each_more h more f.codes a.each_in }

-- ---- no more words are left than there were
rest_most : (d ws : List (List ℕ)) → length (cut_from d ws).rest ≤ length ws
rest_most [] [] = omega arith
rest_most (k ∷ d) [] = omega arith
rest_most [] (w ∷ ws) = by_cases (begins (keyword_of w)) (λ e. rw e (omega (arith, rest_most (w ∷ []) ws))) (λ e. rw e (omega arith))
rest_most (k ∷ d) (w ∷ ws) =
    by_cases (is_end w)
    (λ e. rw e (by_cases (is_last (keyword_of k)) (λ f. rw f (omega arith)) (λ f. rw f (omega (arith, rest_most [] ws)))))
    (λ e. rw e (omega (arith, rest_most (k ∷ (d ++ w ∷ [])) ws)))

-- ---- two cuts that differ only in the last words that they leave: vs the one, xs the other
module _ (vs xs : List (List ℕ)) where
  record Akin (c e : Cut) : Type 0 where
    pub declared : e.declarations ≡ c.declarations
    pub ended_is : e.ended ≡ c.ended
    pub left : List (List ℕ)
    pub left_one : c.rest ≡ left ++ vs
    pub left_other : e.rest ≡ left ++ xs

  -- so they are where the first leaves more than vs
  abbrev Agree : Cut → Cut → Type 0
  Agree c e = length vs < length c.rest → Akin c e

  over_there : (us : List (List ℕ)) → Agree (over (us ++ vs)) (over (us ++ xs))
  over_there us l = record { declared = refl; ended_is = refl; left = us; left_one = refl; left_other = refl }

  one_more_lem : (d : List (List ℕ)) (c e : Cut) → Agree c e → Agree (one_more d c) (one_more d e)
  one_more_lem d c e f l =
      let a = f l in
      record {
        declared = ap (λ (ds : List (List (List ℕ))). d ∷ ds) a.declared;
        ended_is = a.ended_is;
        left = a.left;
        left_one = a.left_one;
        left_other = a.left_other;
      }

  picked : (t : Bool) {c e c' e' : Cut} → Agree c e → Agree c' e' → Agree (pick t c c') (pick t e e')
  picked true f g = f
  picked false f g = g

  -- a cut before the last words takes no notice of them
  cut_more : (d us : List (List ℕ)) → Agree (cut_from d (us ++ vs)) (cut_from d (us ++ xs))
  cut_more d [] = λ l. absurd (omega (arith, l, rest_most d vs))
  cut_more [] (u ∷ us) = picked (begins (keyword_of u)) (cut_more (u ∷ []) us) (over_there (u ∷ us))
  cut_more (k ∷ d) (u ∷ us) =
      picked (is_end u)
      (one_more_lem (k ∷ d) _ _ (picked (is_last (keyword_of k)) (over_there us) (cut_more [] us)))
      (cut_more (k ∷ (d ++ u ∷ [])) us)

-- ---- the first bytes, with a word closed in them after the declarations
module _ (h : List ℕ) (b : Begun) (g : Begins h b) (k : 0 < length (closed (drop b.next h))) (more : List ℕ) where
  abbrev after : List ℕ
  after = drop b.next h

  -- the word that is open at the end, and what becomes of it
  abbrev half : List (List ℕ)
  half = shut (opened h) []

  abbrev whole : List (List ℕ)
  whole = words (opened h ++ more)

  same_open : opened h ≡ opened after
  same_open = ap opened (sym (take-append-drop b.next h)) ∙ opened_late (take b.next h) after k

  rest_is : (cut (words h)).rest ≡ closed after ++ half
  unfolding words
  rest_is = sym g.rest_is ∙ ap (λ (w : List ℕ). closed after ++ shut w []) (sym same_open)

  both : Akin half whole (cut (words h)) (cut (closed h ++ whole))
  unfolding cut words
  both = cut_more half whole [] (closed h) (omega (arith, k, length-append (closed after) half, ap length rest_is))

  cuts : Akin half whole (cut (words h)) (cut (words (h ++ more)))
  cuts = rw (words_cut h more) both

  left_is : cuts.left ≡ closed after
  left_is = cancel cuts.left (closed after) half (sym cuts.left_one ∙ rest_is)

  rest_more : words (drop b.next (h ++ more)) ≡ (cut (words (h ++ more))).rest
  rest_more =
      ap words (drop-append-le b.next h more g.next_in)
      ∙ words_cut after more
      ∙ ap (λ (w : List ℕ). closed after ++ words (w ++ more)) (sym same_open)
      ∙ sym (cuts.left_other ∙ ap (λ (l : List (List ℕ)). l ++ whole) left_is)

  -- what the declarations say is the same
  pub settled_head : head_of (words (h ++ more)) ≡ head_of (words h)
  unfolding head_of
  settled_head = ap (declared_from blank) cuts.declared

  pub settled_all : all_by (h ++ more) b.head ≡ all_by h b.head
  unfolding all_by
  settled_all =
      ap (λ (l : List (List ℕ)). pick b.head.further.full l (placed_in (h ++ more) b.head.codes b.head.further)) (ap (λ (d : Head). d.all) settled_head)
      ∙ ap (λ (l : List (List ℕ)). pick b.head.further.full (head_of (words h)).all (l ++ further_in (h ++ more) b.head.further)) (settled_five h more b.head.codes g.codes_in_lem)
      ∙ ap (λ (l : List (List ℕ)). pick b.head.further.full (head_of (words h)).all (five_in h b.head.codes ++ l)) (settled_further h more b.head.further g.further_in_lem)

  -- reading the first bytes is reading the dump
  pub settled : Begins (h ++ more) b
  settled = record {
    broken_is = g.broken_is ∙ ap (λ (d : Head). d.broken) (sym settled_head);
    scaled_is = g.scaled_is ∙ ap (λ (d : Head). d.scaled) (sym settled_head);
    bad_is = g.bad_is ∙ ap (λ (d : Head). d.bad) (sym settled_head);
    codes_are = settled_five h more b.head.codes g.codes_in_lem ∙ g.codes_are ∙ ap (λ (d : Head). d.codes) (sym settled_head);
    codes_in_lem = all_more h more b.head.codes g.codes_in_lem;
    all_are = λ code n.
        ap (λ (l : List (List ℕ)). among l code) settled_all ∙ g.all_are code n ∙ ap (λ (d : Head). among d.all code) (sym settled_head);
    further_in_lem = further_more h more b.head.further g.further_in_lem;
    ended_is = g.ended_is ∙ sym cuts.ended_is;
    rest_is = rest_more;
    next_in = omega (arith, g.next_in, length-append h more);
  }
