-- Where none of the five was declared twice or wide, every code of one of them is a first one.
use mathlib.Core.Path.{◌≡◌, refl, ◌∙◌}
use mathlib.Core.Bool.{Bool, false, ◌||◌, not}
use mathlib.Core.List.{List, [], ◌∷◌}
use Prim.Native.Nat.{ℕ, ◌<◌}
use native.Mathlib.Omega.{arith}
use borrow.Author.Tests.{ltb-true}
use lib.Dec.{ltb}
use lib.ListN.{length, get_or, length-set}
use Rattle.base.proofs.Cases.{by_cases}
use Rattle.vcd_words.specs.Words.{alike, among}
use Rattle.vcd_values.specs.Names.{other_signal}
use Rattle.vcd_declarations.specs.declared.commands.Keyword.{Keyword}
use Rattle.vcd_declarations.specs.declared.commands.Keyword.TheVariants as key
use Rattle.vcd_declarations.proofs.PlacedLaws.{put_in, or_none, not_none}
use Rattle.vcd_declarations.specs.Declarations.{Head, cut, keyword_of, blank, declare, signal_in, wide_in, code_of, variable, declares_by, declares, declared_from, head_of}

pub record Only (h : Head) : Type 0 where
  pub five : length h.codes ≡ 5
  pub only : h.bad ≡ false → (code : List ℕ) → alike code [] ≡ false → among h.codes code ≡ among h.all code

declare_only : (signal : ℕ) (wide : Bool) (code : List ℕ) (h : Head) → signal < 5 → Only h → Only (declare signal wide code h)
declare_only signal wide code h l o = record {
  five = by_cases (alike (get_or h.codes signal []) []) (λ e. rw e (length-set h.codes signal code ∙ o.five)) (λ e. rw e o.five);
  only = λ b c n.
      let parts = or_none h.bad (wide || not (alike (get_or h.codes signal []) [])) b in
      let free = not_none (alike (get_or h.codes signal []) []) (or_none wide (not (alike (get_or h.codes signal []) [])) parts.1).1 in
      rw free (put_in h.codes signal code c (omega (arith, l, o.five)) free n ∙ rw (o.only parts.0 c n));
}

by_only : (k : Keyword) (ws : List (List ℕ)) (h : Head) → Only h → Only (declares_by k ws h)
unfolding variable
by_only key.Text ws h o = o
by_only key.Timescale ws h o = record { five = o.five; only = o.only }
by_only key.Scope ws h o = record { five = o.five; only = o.only }
by_only key.Upscope ws h o = record { five = o.five; only = o.only }
by_only key.Var ws h o =
    by_cases (ltb (signal_in ws) other_signal)
    (λ e. rw e (declare_only (signal_in ws) (wide_in ws) (code_of ws) h (ltb-true (signal_in ws) 5 e) o))
    (λ e. rw e (record { five = o.five; only = o.only }))
by_only key.EndDefinitions ws h o = record { five = o.five; only = o.only }
by_only key.Other ws h o = o

from_only : (ds : List (List (List ℕ))) (h : Head) → Only h → Only (declared_from h ds)
unfolding declares
from_only [] h o = o
from_only ([] ∷ ds) h o = from_only ds h o
from_only ((k ∷ ws) ∷ ds) h o = from_only ds (declares_by (keyword_of k) ws h) (by_only (keyword_of k) ws h o)

blank_only : Only blank
blank_only = record { five = refl; only = λ b code n. none_of_five code n }
  where
    none_of_five : (code : List ℕ) → alike code [] ≡ false → among ([] ∷ [] ∷ [] ∷ [] ∷ [] ∷ []) code ≡ false
    none_of_five code n = rw n

pub only_five : (ws : List (List ℕ)) → Only (head_of ws)
unfolding head_of
only_five ws = from_only (cut ws).declarations blank blank_only
