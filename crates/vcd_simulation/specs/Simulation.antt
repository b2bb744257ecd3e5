-- IEEE 1364, Value Change Dump: the simulation commands, word by word, and what the request makes of them.
use Rattle.std.specs.Prelude.{Bool, true, false, ◌&&◌, not, List, [], ◌∷◌, ◌++◌, ℕ, eqb, ltb, Option, Some, None}
use Rattle.base.specs.Pick.{pick, one_of}
use Rattle.text.specs.Text.{ascii}
use Rattle.event.specs.declared.Event.{Event}
use Rattle.vcd_words.specs.Words.{words, alike, among, printable}
use Rattle.vcd_values.specs.Numbers.{time_of, is_real}
use Rattle.vcd_values.specs.Levels.{level, vector_level, unknown}
use Rattle.vcd_declarations.specs.Declarations.{is_end}
use Rattle.vcd_simulation.specs.declared.body.Wanted.{Wanted}
use Rattle.vcd_simulation.specs.declared.body.Wanted.TheVariants as want
use Rattle.vcd_simulation.specs.declared.body.Body.{Body}
use Rattle.vcd_bus.specs.Signals.{quiet}
use Rattle.vcd_simulation.specs.Coded.{after_code, code_makes}

-- the codes of the five signals, and every code that one of them was declared with
pub record Codes : Type 0 where
  pub five : List (List ℕ)
  pub all : List (List ℕ)

-- changes before the first time stand at 0
abbrev pub begun : Body
begun = record { wanted = want.Command; now = 0; bus = quiet }

-- the body after a word, and the events that the word made
pub record Went : Type 0 where
  pub body : Body
  pub events : List Event

-- nothing but what may come next changes
abbrev pub goes : Wanted → Body → Went
goes next b = record { body = record { wanted = next; now = b.now; bus = b.bus }; events = [] }

-- a break of the syntax: nothing mends it
abbrev pub breaks : Body → Went
breaks b = goes want.Broken b

-- x, z and real numbers on one of the five are malformed, on others passed over
abbrev pub unknown_at : Codes → Wanted → List ℕ → Body → Went
unknown_at codes next code b = pick (among codes.all code) (breaks b) (goes next b)

-- a change of the signals of a code
unfoldable pub changes : Codes → Wanted → List ℕ → ℕ → Body → Went
changes codes next code v b =
    pick (eqb v unknown) (unknown_at codes next code b)
    (record {
      body = record { wanted = next; now = b.now; bus = after_code codes.five code 5 v b.bus };
      events = code_makes codes.five code 5 b.now v b.bus;
    })

-- a code: one printable byte or more
unfoldable pub is_code : List ℕ → Bool
is_code w = not (alike w []) && printable w

abbrev pub code_word : Codes → Wanted → List ℕ → ℕ → Body → Went
code_word codes next code v b = pick (is_code code) (changes codes next code v b) (breaks b)

-- what comes after a change, and after a value whose code is the next word, in a section or not
abbrev pub next_of : Bool → Wanted
next_of section = pick section want.Section want.Command

abbrev pub later_of : Bool → ℕ → Wanted
later_of section v = pick section (want.SectionCode v) (want.Code v)

-- b and digits, or r and a real number, whose code is the next word
abbrev pub real_level : List ℕ → Option ℕ
real_level w = pick (is_real w) (Some unknown) None

abbrev pub apart_level : ℕ → List ℕ → Option ℕ
apart_level c w = pick (one_of (0x42 ∷ 0x62 ∷ []) c) (vector_level w) (pick (one_of (0x52 ∷ 0x72 ∷ []) c) (real_level w) None)

abbrev pub apart : Bool → Option ℕ → Body → Went
apart section (Some v) b = goes (later_of section v) b
apart section None b = breaks b

-- a level and its code, joined; or one of these
abbrev pub joined : Codes → Bool → ℕ → List ℕ → Body → Option ℕ → Went
joined codes section c w b (Some v) = code_word codes (next_of section) w v b
joined codes section c w b None = apart section (apart_level c w) b

-- a value change: a digit and the code; or one of these
unfoldable pub value_word : Codes → Bool → List ℕ → Body → Went
value_word codes section [] b = breaks b
value_word codes section (c ∷ w) b = joined codes section c w b (level c)

-- # and a time, which does not go back
abbrev pub timed : Option ℕ → Body → Went
timed None b = breaks b
timed (Some t) b = pick (ltb t b.now) (breaks b) (record { body = record { wanted = want.Command; now = t; bus = b.bus }; events = [] })

-- `$comment` with any words, or a section of value changes, each up to `$end`
unfoldable pub key_word : List ℕ → Body → Went
key_word w b =
    pick (alike w (ascii "$comment")) (goes want.Text b)
    (pick (among (words (ascii "$dumpall $dumpoff $dumpon $dumpvars")) w) (goes want.Section b)
    (breaks b))

-- a simulation command begins
unfoldable pub command_word : Codes → List ℕ → Body → Went
command_word codes [] b = breaks b
command_word codes (c ∷ w) b =
    pick (eqb c 0x23) (timed (time_of w) b)
    (pick (eqb c 0x24) (key_word (c ∷ w) b)
    (value_word codes false (c ∷ w) b))

-- a word of a section, or its end; of a comment
abbrev pub section_word : Codes → List ℕ → Body → Went
section_word codes w b = pick (is_end w) (goes want.Command b) (value_word codes true w b)

abbrev pub text_word : List ℕ → Body → Went
text_word w b = pick (is_end w) (goes want.Command b) (goes want.Text b)

-- a word, by what may come next
abbrev pub word_by : Wanted → Codes → List ℕ → Body → Went
word_by want.Command codes w b = command_word codes w b
word_by want.Section codes w b = section_word codes w b
word_by want.Text codes w b = text_word w b
word_by (want.Code v) codes w b = code_word codes want.Command w v b
word_by (want.SectionCode v) codes w b = code_word codes want.Section w v b
word_by want.Broken codes w b = breaks b

unfoldable pub word_done : Codes → List ℕ → Body → Went
word_done codes w b = word_by b.wanted codes w b

-- one word after the other
abbrev pub words_done : Codes → List (List ℕ) → Body → Went
words_done codes [] b = record { body = b; events = [] }
words_done codes (w ∷ ws) b =
    record {
      body = (words_done codes ws (word_done codes w b).body).body;
      events = (word_done codes w b).events ++ (words_done codes ws (word_done codes w b).body).events;
    }

-- a dump may end where a command may begin
abbrev pub is_over : Wanted → Bool
is_over want.Command = true
is_over want.Section = false
is_over want.Text = false
is_over (want.Code v) = false
is_over (want.SectionCode v) = false
is_over want.Broken = false
