-- A variable by its places, against the words of its declaration.
use mathlib.Core.Path.{◌≡◌, sym, ap, ◌∙◌}
use mathlib.Core.Bool.{true, false, ◌&&◌}
use mathlib.Core.List.{List, [], ◌∷◌}
use Prim.Native.Nat.{ℕ, ◌<◌}
use native.Mathlib.Omega.{arith}
use borrow.Author.Tests.{eqb-true, eqb-false}
use lib.Dec.{eqb, ltb}
use lib.ListN.{length, drop}
use Rattle.base.specs.Pick.{pick}
use Rattle.base.proofs.Cases.{by_cases}
use Rattle.vcd_words.specs.Words.{words, printable}
use Rattle.vcd_words.specs.Places.{part}
use Rattle.vcd_words.specs.declared.Span.{Span}
use Rattle.vcd_words.proofs.SpanLaws.{Next}
use Rattle.vcd_values.specs.Numbers.{is_number, value_of, size_of}
use Rattle.std.specs.Prelude.{Option, Some, None}
use Rattle.vcd_values.specs.declared.times.Width.{Width}
use Rattle.vcd_values.specs.declared.names.Pin.{Pin}
use Rattle.vcd_values.specs.declared.names.Pin.TheVariants.{Cs, Dc, Clk, Mosi, Rst}
use Rattle.vcd_values.specs.Names.{name_of, signal_of, pin_number, other_signal, no_name}
use Rattle.vcd_declarations.specs.declared.variable.Variable.{Variable}
use Rattle.vcd_declarations.specs.declared.variable.Variable.TheVariants as var
use Rattle.vcd_declarations.specs.Codes.{code_in, Within}
use Rattle.vcd_declarations.specs.Declarations.{is_var_type, signal_in, wide_in, code_of}
use Rattle.vcd_declarations.specs.InnerVariable.{is_size, is_wide, variable_number, IfFive, Refers, Found, Varies}

-- ---- where it is broken nothing else counts
pub none_varies : (text : List ℕ) → signal_in (words text) ≡ no_name → Varies text None
none_varies text f = record { number_is = sym f; five = tt }

pub pin_below : (p : Pin) → pin_number p < 5
pin_below Cs = omega arith
pin_below Dc = omega arith
pin_below Clk = omega arith
pin_below Mosi = omega arith
pin_below Rst = omega arith

-- ---- a word, and then those of what follows it
pub word_then : {t : List ℕ} {us vs ws : List (List ℕ)} → us ≡ t ∷ vs → vs ≡ ws → us ≡ t ∷ ws
word_then {t} e f = e ∙ ap (λ (l : List (List ℕ)). t ∷ l) f

-- ---- fewer words than four
pub no_words : (ws : List (List ℕ)) → ws ≡ [] → signal_in ws ≡ no_name
unfolding signal_in
no_words ws e = rw e

pub one_word : (ws : List (List ℕ)) (t : List ℕ) → ws ≡ t ∷ [] → signal_in ws ≡ no_name
unfolding signal_in
one_word ws t e = rw e

pub two_words : (ws : List (List ℕ)) (t n : List ℕ) → ws ≡ t ∷ (n ∷ []) → signal_in ws ≡ no_name
unfolding signal_in
two_words ws t n e = rw e

pub three_words : (ws : List (List ℕ)) (t n c : List ℕ) → ws ≡ t ∷ (n ∷ (c ∷ [])) → signal_in ws ≡ no_name
unfolding signal_in
three_words ws t n c e = rw e

pub no_type : (ws : List (List ℕ)) (t n c r : List ℕ) (after : List (List ℕ)) → ws ≡ t ∷ (n ∷ (c ∷ (r ∷ after))) → is_var_type t ≡ false
    → signal_in ws ≡ no_name
unfolding signal_in
no_type ws t n c r after e f = rw (e, f)

-- what is known of four words one behind the other, of which the last has bytes or none
module _ (text : List ℕ) (t n c r : Span) (T : Next text 0 t) (N : Next text t.to n) (C : Next text n.to c) (R : Next text c.to r) where
  pub few_words : eqb r.from r.to ≡ true → signal_in (words text) ≡ no_name
  few_words e =
      by_cases (eqb t.from t.to)
      (λ x. no_words _ (T.none (eqb-true _ _ x)))
      (λ x. let one = T.some (omega (arith, T.ordered, eqb-false _ _ x)) in
      by_cases (eqb n.from n.to)
      (λ y. one_word _ _ (word_then one (N.none (eqb-true _ _ y))))
      (λ y. let two = N.some (omega (arith, N.ordered, eqb-false _ _ y)) in
      by_cases (eqb c.from c.to)
      (λ z. two_words _ _ _ (word_then one (word_then two (C.none (eqb-true _ _ z)))))
      (λ z. let three = C.some (omega (arith, C.ordered, eqb-false _ _ z)) in
      three_words _ _ _ _ (word_then one (word_then two (word_then three (R.none (eqb-true _ _ e))))))))

-- a word that others follow has bytes
pub some_before : (bytes : List ℕ) (at : ℕ) (s : Span) → Next bytes at s → (words (drop s.to bytes) ≡ [] → ⊥) → s.from < s.to
some_before bytes at s next h =
    by_cases (eqb s.from s.to)
    (λ e. absurd (h (ap (λ (k : ℕ). words (drop k bytes)) (sym (eqb-true _ _ e)) ∙ sym next.begins ∙ next.none (eqb-true _ _ e))))
    (λ e. omega (arith, next.ordered, eqb-false _ _ e))

pub not_none : {w : List ℕ} {ws vs : List (List ℕ)} → vs ≡ w ∷ ws → vs ≡ [] → ⊥
not_none e f = absurd (cons_none (sym e ∙ f))
  where
    cons_none : {w : List ℕ} {ws : List (List ℕ)} → w ∷ ws ≡ [] → ⊥
    cons_none e = cc

-- ---- a size
size_is : (n : List ℕ) → is_size (size_of n) ≡ is_number n
unfolding size_of
size_is n = by_cases (is_number n) (λ e. rw e) (λ e. rw e)

wide_size : (n : List ℕ) → is_number n ≡ true → is_wide (size_of n) ≡ ltb 1 (value_of n)
unfolding size_of
wide_size n e = rw e (by_cases (ltb 1 (value_of n)) (λ f. rw f) (λ f. rw f))

-- ---- four words and more, the first of them a type
module _ (text : List ℕ) (t n : List ℕ) (size : Option Width) (code : Span) (from to : ℕ) (sized : size ≡ size_of n)
    (four : words text ≡ t ∷ (n ∷ (code_in text code ∷ (part text from to ∷ words (drop to text)))))
    (type : is_var_type t ≡ true) (w : Within code (length text)) (some : code.from < code.to) where
  size_right : is_size size ≡ is_number n
  size_right = ap is_size sized ∙ size_is n

  number_of : {v : Option Variable} → Refers text size code from to v → variable_number v < other_signal → is_number n ≡ true
  number_of {v} refers l =
      by_cases (is_number n)
      (λ e. e)
      (λ e. absurd (omega (arith, l, refers.number_is ∙ six (size_right ∙ e))))
    where
      six : is_size size ≡ false
          → pick (is_size size && (printable (code_in text code) && printable (part text from to))) (signal_of (name_of (part text from to) (words (drop to text)))) no_name ≡ 6
      six f = rw f

  found : (v : Option Variable) → Refers text size code from to v → IfFive v (Found text)
  unfolding wide_in code_of
  found None refers = tt
  found (Some var.Other) refers = tt
  found (Some (var.Of pin wide place)) refers = record {
    wide_is = refers.five.0 ∙ ap is_wide sized ∙ wide_size n (number_of refers (pin_below pin)) ∙ sym (rw four);
    code_is = ap (code_in text) refers.five.1 ∙ sym (rw four);
    code_in_lem = rw refers.five.1 w;
    code_some = rw refers.five.1 some;
  }

  pub four_vary : (v : Option Variable) → Refers text size code from to v → Varies text v
  unfolding signal_in
  four_vary v refers = record { number_is = refers.number_is ∙ rw (size_right, four, type); five = found v refers }
