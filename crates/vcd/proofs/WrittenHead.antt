-- The declarations that are written: they end, each of them holds, and they give the five signals their codes.
use mathlib.Core.Path.{◌≡◌, refl, ap, ◌∙◌}
use mathlib.Core.Bool.{Bool, true, false, ◌&&◌, not, false≢true}
use mathlib.Core.List.{List, [], ◌∷◌, ◌++◌, append_assoc, append-nil}
use Prim.Native.Nat.{ℕ}
use Prim.Native.String.{String}
use lib.ListN.{drop}
use Rattle.base.specs.Pick.{pick}
use Rattle.text.specs.Text.{ascii}
use Rattle.vcd_words.specs.Words.{closed, opened, words, printable}
use Rattle.vcd_values.specs.Numbers.{value_of}
use Rattle.vcd_values.specs.Names.{name_of, signal_of}
use Rattle.vcd_declarations.specs.Declarations.{Head, Cut, keyword_of, begins, is_last, is_end, cut, cut_from, one_more, declared_from, blank}
use Rattle.vcd_declarations.specs.Declarations.{is_nano, is_var_type, signal_in, wide_in, code_of, variable, declares}
use Rattle.vcd.specs.Writer.{signal, declarations}
use Rattle.vcd.proofs.WrittenWords.{and_split}

-- a signal without its `$end`
abbrev pub var : String → String → List (List ℕ)
var code name = ascii "$var" ∷ ascii "wire" ∷ ascii "1" ∷ ascii code ∷ ascii name ∷ []

abbrev pub cuts : List (List (List ℕ))
cuts =
    (ascii "$timescale" ∷ ascii "1ns" ∷ [])
    ∷ var "s" "cs"
    ∷ var "d" "dc"
    ∷ var "k" "clk"
    ∷ var "m" "mosi"
    ∷ var "r" "rst"
    ∷ (ascii "$enddefinitions" ∷ [])
    ∷ []

-- ---- one declaration: the words up to its `$end`
abbrev ending : List ℕ
ending = ascii "$end"

ending_ends : is_end ending ≡ true
unfolding is_end
ending_ends = refl

abbrev no_end : List (List ℕ) → Bool
no_end [] = true
no_end (w ∷ ws) = not (is_end w) && no_end ws

-- what follows a declaration of that keyword
abbrev following : List ℕ → List (List ℕ) → Cut
following k ws = pick (is_last (keyword_of k)) (record { declarations = []; ended = true; rest = ws }) (cut_from [] ws)

inside : (k : List ℕ) (d us ws : List (List ℕ)) → no_end us ≡ true
    → cut_from (k ∷ d) (us ++ ending ∷ ws) ≡ one_more (k ∷ (d ++ us)) (following k ws)
inside k d [] ws e = rw (ending_ends, append-nil d)
inside k d (u ∷ us) ws e =
    let parts = and_split (not (is_end u)) (no_end us) e in
    rw (not-true (is_end u) parts.0)
    (inside k (d ++ u ∷ []) us ws parts.1 ∙ ap (λ (l : List (List ℕ)). one_more (k ∷ l) (following k ws)) (append_assoc d (u ∷ []) us))
  where
    not-true : (t : Bool) → not t ≡ true → t ≡ false
    not-true true e = absurd (false≢true e)
    not-true false e = refl

-- one that another may follow
one_cut : (k : List ℕ) (d ws : List (List ℕ)) → (begins (keyword_of k) ≡ true) × (is_last (keyword_of k) ≡ false) → no_end d ≡ true
    → cut_from [] (k ∷ (d ++ ending ∷ ws)) ≡ one_more (k ∷ d) (cut_from [] ws)
one_cut k d ws b e = rw b.0 (inside k [] d ws e ∙ rw b.1)

-- the last one
last_cut : (k : List ℕ) (d ws : List (List ℕ)) → (begins (keyword_of k) ≡ true) × (is_last (keyword_of k) ≡ true) → no_end d ≡ true
    → cut_from [] (k ∷ (d ++ ending ∷ ws)) ≡ record { declarations = (k ∷ d) ∷ []; ended = true; rest = ws }
last_cut k d ws b e = rw b.0 (inside k [] d ws e ∙ rw b.1)

-- ---- those that are written
scale_begins : (begins (keyword_of (ascii "$timescale")) ≡ true) × (is_last (keyword_of (ascii "$timescale")) ≡ false)
unfolding keyword_of words closed opened
scale_begins = (refl, refl)

var_begins : (begins (keyword_of (ascii "$var")) ≡ true) × (is_last (keyword_of (ascii "$var")) ≡ false)
unfolding keyword_of words closed opened
var_begins = (refl, refl)

last_begins : (begins (keyword_of (ascii "$enddefinitions")) ≡ true) × (is_last (keyword_of (ascii "$enddefinitions")) ≡ true)
unfolding keyword_of words closed opened
last_begins = (refl, refl)

signal_cut : (code name : String) (ws : List (List ℕ)) → no_end (drop 1 (var code name)) ≡ true
    → cut_from [] (signal code name ++ ws) ≡ one_more (var code name) (cut_from [] ws)
signal_cut code name ws e = one_cut (ascii "$var") (drop 1 (var code name)) ws var_begins e

pub cut_is : (rest : List (List ℕ)) → cut (declarations ++ rest) ≡ record { declarations = cuts; ended = true; rest = rest }
unfolding cut declarations is_end
cut_is rest =
    one_cut (ascii "$timescale") (ascii "1ns" ∷ []) _ scale_begins refl
    ∙ ap (one_more (ascii "$timescale" ∷ ascii "1ns" ∷ []))
    (signal_cut "s" "cs" _ refl
    ∙ ap (one_more (var "s" "cs"))
    (signal_cut "d" "dc" _ refl
    ∙ ap (one_more (var "d" "dc"))
    (signal_cut "k" "clk" _ refl
    ∙ ap (one_more (var "k" "clk"))
    (signal_cut "m" "mosi" _ refl
    ∙ ap (one_more (var "m" "mosi"))
    (signal_cut "r" "rst" _ refl
    ∙ ap (one_more (var "r" "rst")) (last_cut (ascii "$enddefinitions") [] rest last_begins refl))))))

-- ---- what they say
abbrev pub head : Head
head = record {
  broken = false;
  scaled = true;
  bad = false;
  codes = ascii "s" ∷ ascii "d" ∷ ascii "k" ∷ ascii "m" ∷ ascii "r" ∷ [];
  all = ascii "r" ∷ ascii "m" ∷ ascii "k" ∷ ascii "d" ∷ ascii "s" ∷ [];
}

pub head_is : declared_from blank cuts ≡ head
unfolding declares keyword_of words closed opened variable signal_in wide_in code_of is_nano is_var_type printable value_of name_of signal_of
head_is = refl
