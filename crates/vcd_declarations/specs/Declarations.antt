-- IEEE 1364, Value Change Dump: the declaration commands, each of them the words from its keyword up to `$end`.
use Rattle.std.specs.Prelude.{Bool, true, false, ◌&&◌, ◌||◌, not, List, [], ◌∷◌, ◌++◌, ℕ, eqb, ltb, get_or, set, replicate}
use Rattle.base.specs.Pick.{pick}
use Rattle.text.specs.Text.{ascii}
use Rattle.vcd_words.specs.Words.{words, alike, among, printable}
use Rattle.vcd_values.specs.Numbers.{is_number, value_of}
use Rattle.vcd_values.specs.Names.{name_of, signal_of, other_signal, no_name}
use Rattle.vcd_declarations.specs.declared.commands.Keyword.{Keyword}
use Rattle.vcd_declarations.specs.declared.commands.Keyword.TheVariants as key

-- ---- where a declaration begins and ends
unfoldable pub keyword_of : List ℕ → Keyword
keyword_of w =
    pick (among (words (ascii "$comment $date $version")) w) key.Text
    (pick (alike w (ascii "$timescale")) key.Timescale
    (pick (alike w (ascii "$scope")) key.Scope
    (pick (alike w (ascii "$upscope")) key.Upscope
    (pick (alike w (ascii "$var")) key.Var
    (pick (alike w (ascii "$enddefinitions")) key.EndDefinitions
    key.Other)))))

abbrev pub begins : Keyword → Bool
begins key.Text = true
begins key.Timescale = true
begins key.Scope = true
begins key.Upscope = true
begins key.Var = true
begins key.EndDefinitions = true
begins key.Other = false

abbrev pub is_last : Keyword → Bool
is_last key.Text = false
is_last key.Timescale = false
is_last key.Scope = false
is_last key.Upscope = false
is_last key.Var = false
is_last key.EndDefinitions = true
is_last key.Other = false

unfoldable pub is_end : List ℕ → Bool
is_end w = alike w (ascii "$end")

-- the declarations of some words, without their `$end`; whether each of them has one; the words after the last
pub record Cut : Type 0 where
  pub declarations : List (List (List ℕ))
  pub ended : Bool
  pub rest : List (List ℕ)

abbrev pub one_more : List (List ℕ) → Cut → Cut
one_more d c = record { declarations = d ∷ c.declarations; ended = c.ended; rest = c.rest }

-- behind the words d of a declaration that is open, [] if none is. They are over after `$enddefinitions`, or before a word that begins none
abbrev pub cut_from : List (List ℕ) → List (List ℕ) → Cut
cut_from [] [] = record { declarations = []; ended = true; rest = [] }
cut_from (k ∷ d) [] = record { declarations = []; ended = false; rest = [] }
cut_from [] (w ∷ ws) = pick (begins (keyword_of w)) (cut_from (w ∷ []) ws) (record { declarations = []; ended = true; rest = w ∷ ws })
cut_from (k ∷ d) (w ∷ ws) =
    pick (is_end w)
    (one_more (k ∷ d) (pick (is_last (keyword_of k)) (record { declarations = []; ended = true; rest = ws }) (cut_from [] ws)))
    (cut_from (k ∷ (d ++ w ∷ [])) ws)

unfoldable pub cut : List (List ℕ) → Cut
cut ws = cut_from [] ws

-- ---- what the declarations say
pub record Head : Type 0 where
  -- malformed
  pub broken : Bool
  -- a time scale was given
  pub scaled : Bool
  -- one of the five signals was declared twice, or wider than a bit
  pub bad : Bool
  -- the first code of each of the five; without bytes while there is none
  pub codes : List (List ℕ)
  -- every code of one of the five
  pub all : List (List ℕ)

abbrev pub blank : Head
blank = record { broken = false; scaled = false; bad = false; codes = replicate 5 []; all = [] }

-- a declaration that is right changes nothing, another makes the dump malformed
abbrev pub holding : Bool → Head → Head
holding right h = record { broken = h.broken || not right; scaled = h.scaled; bad = h.bad; codes = h.codes; all = h.all }

-- `$timescale`: 1 ns
unfoldable pub is_nano : List (List ℕ) → Bool
is_nano [] = false
is_nano (w ∷ []) = alike w (ascii "1ns")
is_nano (w ∷ (v ∷ [])) = alike w (ascii "1") && alike v (ascii "ns")
is_nano (w ∷ (v ∷ (u ∷ us))) = false

abbrev pub scale : List (List ℕ) → Head → Head
scale ws h = record { broken = h.broken || not (is_nano ws); scaled = true; bad = h.bad; codes = h.codes; all = h.all }

-- `$scope`: a type and a name
unfoldable pub is_scope_type : List ℕ → Bool
is_scope_type w = among (words (ascii "begin fork function module task")) w

unfoldable pub is_scope : List (List ℕ) → Bool
is_scope [] = false
is_scope (t ∷ []) = false
is_scope (t ∷ (n ∷ [])) = is_scope_type t && printable n
is_scope (t ∷ (n ∷ (w ∷ ws))) = false

-- `$upscope`, `$enddefinitions`: nothing more
abbrev pub is_bare : List (List ℕ) → Bool
is_bare [] = true
is_bare (w ∷ ws) = false

-- `$var`: a type, a size, a code and a reference
unfoldable pub is_var_type : List ℕ → Bool
is_var_type w = among (words (ascii
    "event integer parameter real realtime reg supply0 supply1 time tri triand trior trireg tri0 tri1 wand wire wor")) w

-- one of the five, with a code: declared twice where it has one, wide where its size is above 1
abbrev pub declare : ℕ → Bool → List ℕ → Head → Head
declare signal wide code h = record {
  broken = h.broken;
  scaled = h.scaled;
  bad = h.bad || (wide || not (alike (get_or h.codes signal []) []));
  codes = pick (alike (get_or h.codes signal []) []) (set h.codes signal code) h.codes;
  all = code ∷ h.all;
}

-- any other signal is passed over; without a name it is malformed
abbrev pub named : ℕ → Bool → List ℕ → Head → Head
named signal wide code h = pick (ltb signal other_signal) (declare signal wide code h) (holding (not (eqb signal no_name)) h)

-- the signal of a declaration, no name where it is malformed; whether it is wide; its code
unfoldable pub signal_in : List (List ℕ) → ℕ
signal_in [] = no_name
signal_in (t ∷ []) = no_name
signal_in (t ∷ (n ∷ [])) = no_name
signal_in (t ∷ (n ∷ (c ∷ []))) = no_name
signal_in (t ∷ (n ∷ (c ∷ (r ∷ after)))) =
    pick (is_var_type t && (is_number n && (printable c && printable r))) (signal_of (name_of r after)) no_name

unfoldable pub wide_in : List (List ℕ) → Bool
wide_in [] = false
wide_in (t ∷ []) = false
wide_in (t ∷ (n ∷ ws)) = ltb 1 (value_of n)

unfoldable pub code_of : List (List ℕ) → List ℕ
code_of [] = []
code_of (t ∷ []) = []
code_of (t ∷ (n ∷ [])) = []
code_of (t ∷ (n ∷ (c ∷ ws))) = c

unfoldable pub variable : List (List ℕ) → Head → Head
variable ws h = named (signal_in ws) (wide_in ws) (code_of ws) h

-- one declaration: `$comment`, `$date` and `$version` hold any words
abbrev pub declares_by : Keyword → List (List ℕ) → Head → Head
declares_by key.Text ws h = h
declares_by key.Timescale ws h = scale ws h
declares_by key.Scope ws h = holding (is_scope ws) h
declares_by key.Upscope ws h = holding (is_bare ws) h
declares_by key.Var ws h = variable ws h
declares_by key.EndDefinitions ws h = holding (is_bare ws) h
declares_by key.Other ws h = h

unfoldable pub declares : List (List ℕ) → Head → Head
declares [] h = h
declares (k ∷ ws) h = declares_by (keyword_of k) ws h

-- one after the other
abbrev pub declared_from : Head → List (List (List ℕ)) → Head
declared_from h [] = h
declared_from h (d ∷ ds) = declared_from (declares d h) ds

unfoldable pub head_of : List (List ℕ) → Head
head_of ws = declared_from blank (cut ws).declarations

-- one of the five is missing
abbrev pub any_none : List (List ℕ) → Bool
any_none [] = false
any_none (c ∷ cs) = alike c [] || any_none cs
