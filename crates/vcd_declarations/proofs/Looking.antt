-- The codes of the five, declaration after declaration: none so far is the one looked for.
use mathlib.Core.Path.{◌≡◌, refl, sym, ap, ◌∙◌}
use mathlib.Core.Bool.{Bool, true, false}
use mathlib.Core.List.{List, [], ◌∷◌}
use Prim.Native.Nat.{ℕ, ◌≤◌, ◌<◌}
use native.Mathlib.Omega.{arith}
use lib.Dec.{ltb}
use lib.ListN.{length, drop, drop_of_length-le}
use Rattle.base.specs.Pick.{pick}
use Rattle.base.proofs.Cases.{by_cases}
use Rattle.vcd_words.specs.Words.{words, closed, opened, among}
use Rattle.vcd_words.specs.Places.{part}
use Rattle.vcd_words.specs.declared.Span.{Span}
use Rattle.vcd_words.proofs.SpanLaws.{Next}
use Rattle.vcd_values.specs.Names.{other_signal}
use Rattle.vcd_declarations.specs.declared.commands.Keyword.{Keyword}
use Rattle.vcd_declarations.specs.declared.commands.Keyword.TheVariants as key
use Rattle.vcd_declarations.specs.Declarations.{Head, Cut, keyword_of, begins, is_last, cut, blank, signal_in, variable, declares_by, declares, declared_from, head_of}
use Rattle.vcd_declarations.specs.InnerDeclared.{declares_code}
use Rattle.vcd_declarations.specs.InnerEnd.{EndAt}
use Rattle.vcd_declarations.proofs.CutLaws.{over, cut_none, none_here, half_here, one_here}

-- ---- one declaration adds its code, if it is one of the five
all_by_lem : (k : Keyword) (ws : List (List ℕ)) (s : Head) (code : List ℕ)
    → among (declares_by k ws s).all code ≡ pick (declares_code k ws code) true (among s.all code)
unfolding variable
all_by_lem key.Text ws s code = refl
all_by_lem key.Timescale ws s code = refl
all_by_lem key.Scope ws s code = refl
all_by_lem key.Upscope ws s code = refl
all_by_lem key.Var ws s code = by_cases (ltb (signal_in ws) other_signal) (λ e. rw e) (λ e. rw e)
all_by_lem key.EndDefinitions ws s code = refl
all_by_lem key.Other ws s code = refl

-- a code stays declared
pub stays : (ds : List (List (List ℕ))) (s : Head) (code : List ℕ) → among s.all code ≡ true → among (declared_from s ds).all code ≡ true
unfolding declares
stays [] s code e = e
stays ([] ∷ ds) s code e = stays ds s code e
stays ((k ∷ ws) ∷ ds) s code e =
    stays ds (declares_by (keyword_of k) ws s) code (all_by_lem (keyword_of k) ws s code ∙ rw e (either (declares_code (keyword_of k) ws code)))
  where
    either : (t : Bool) → pick t true true ≡ true
    either true = refl
    either false = refl

pub record Looking (bytes code : List ℕ) (at : ℕ) : Type 0 where
  pub so_far : Head
  pub none : among so_far.all code ≡ false
  pub head_is : declared_from so_far (cut (words (drop at bytes))).declarations ≡ head_of (words bytes)
  pub inside : at ≤ length bytes

pub looking_start : (bytes code : List ℕ) → Looking bytes code 0
unfolding head_of
looking_start bytes code = record { so_far = blank; none = refl; head_is = refl; inside = omega arith }

module _ (bytes code : List ℕ) (at : ℕ) (g : Looking bytes code at) where
  -- no declaration is left
  over_none : (c : Cut) → cut (words (drop at bytes)) ≡ c → c.declarations ≡ [] → false ≡ among (head_of (words bytes)).all code
  over_none c e none =
      sym g.none ∙ ap (λ (s : Head). among s.all code) (sym (ap (declared_from g.so_far) (ap (λ (d : Cut). d.declarations) e ∙ none)) ∙ g.head_is)

  pub none_at_end : length bytes ≤ at → false ≡ among (head_of (words bytes)).all code
  unfolding words closed opened
  none_at_end l = over_none _ (cut_none (words (drop at bytes)) (ap words (drop_of_length-le bytes l))) refl

  module _ (s : Span) (n : Next bytes at s) where
    pub none_begun : begins (keyword_of (part bytes s.from s.to)) ≡ false → false ≡ among (head_of (words bytes)).all code
    none_begun f = over_none _ (none_here bytes at s n f) refl

    module _ (b : begins (keyword_of (part bytes s.from s.to)) ≡ true) where
      pub none_half : (e : Span) → EndAt bytes s.to e → e.from ≡ e.to → false ≡ among (head_of (words bytes)).all code
      none_half e a same = over_none _ (half_here bytes at s n b e a same) refl

      module _ (e : Span) (a : EndAt bytes s.to e) (l : e.from < e.to) where
        abbrev w : List ℕ
        w = part bytes s.from s.to

        abbrev text : List (List ℕ)
        text = words (part bytes s.to e.from)

        abbrev ws : List (List ℕ)
        ws = words (drop e.to bytes)

        abbrev next_head : Head
        next_head = declares_by (keyword_of w) text g.so_far

        abbrev rest : Cut
        rest = pick (is_last (keyword_of w)) (over ws) (cut ws)

        all_left : declared_from next_head rest.declarations ≡ head_of (words bytes)
        unfolding declares
        all_left = sym (ap (λ (d : Cut). declared_from g.so_far d.declarations) (one_here bytes at s n b e a l)) ∙ g.head_is

        pub found_here : declares_code (keyword_of w) text code ≡ true → true ≡ among (head_of (words bytes)).all code
        found_here f =
            sym (stays rest.declarations next_head code (all_by_lem (keyword_of w) text g.so_far code ∙ rw f))
            ∙ ap (λ (s : Head). among s.all code) all_left

        still : declares_code (keyword_of w) text code ≡ false → among next_head.all code ≡ false
        still f = all_by_lem (keyword_of w) text g.so_far code ∙ rw f g.none

        pub none_last : declares_code (keyword_of w) text code ≡ false → is_last (keyword_of w) ≡ true → false ≡ among (head_of (words bytes)).all code
        none_last f t =
            sym (still f)
            ∙ ap (λ (s : Head). among s.all code) (sym (ap (λ (c : Cut). declared_from next_head c.declarations) (picked t)) ∙ all_left)
          where
            picked : is_last (keyword_of w) ≡ true → rest ≡ over ws
            picked t = rw t

        pub still_looking : declares_code (keyword_of w) text code ≡ false → is_last (keyword_of w) ≡ false → Looking bytes code e.to
        still_looking f t = record {
          so_far = next_head;
          none = still f;
          head_is = sym (ap (λ (c : Cut). declared_from next_head c.declarations) picked) ∙ all_left;
          inside = a.inside;
        }
          where
            picked : rest ≡ cut ws
            picked = rw t
