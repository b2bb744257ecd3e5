-- A word of the simulation in code: the codes by their places, and the events in a buffer.
use Rattle.std.specs.Prelude.{◌≡◌, List, [], ℕ, ◌≤◌, length, drop, Bool, true, false, Option, Some, None}
use Rattle.base.specs.Pick.{pick}
use Rattle.vcd_simulation.specs.declared.body.Wanted.{Wanted}
use Rattle.vcd_simulation.specs.declared.body.Wanted.TheVariants as want
use Rattle.vcd_simulation.specs.declared.body.Body.{Body}
use Rattle.vcd_simulation.specs.declared.word.Stepped.{Stepped}
use Rattle.vcd_simulation.specs.declared.word.Plan.{Plan}
use Rattle.vcd_simulation.specs.declared.word.Plan.TheVariants.{Change, Only}
use Rattle.vcd_simulation.specs.Simulation.{Codes, Went, code_word, section_word, command_word}
use Rattle.vcd_simulation.specs.Written.{written, Holds}

-- a word went so: the body after it, and its events behind those held
pub record Steps (w : Went) (held : ℕ) (r : Stepped) (b c : List ℕ) : Type 0 where
  pub body_is : r.body ≡ w.body
  pub holds : Holds (written w.events) held r.held b c

-- a body, and no events
abbrev pub alone : Body → Went
alone body = record { body = body; events = [] }

-- what a plan for a word w comes to
abbrev pub planned : Plan → List ℕ → Body → Codes → Went
planned (Change level from x) w b codes = code_word codes x (drop from w) level b
planned (Only body) w b codes = alone body

-- the code of a change lies in the word
abbrev pub CodeIn : Plan → List ℕ → Type 0
CodeIn (Change level from _) w = from ≤ length w
CodeIn (Only body) w = Unit {0}

pub record Plans (r : Plan) (w : List ℕ) (b : Body) (went : Codes → Went) : Type 0 where
  pub comes : (codes : Codes) → planned r w b codes ≡ went codes
  pub inside : CodeIn r w

-- whether a value change of a section, or its end, may come next
abbrev pub is_section : Wanted → Bool
is_section want.Command = false
is_section want.Section = true
is_section want.Text = false
is_section (want.Code v) = false
is_section (want.SectionCode v) = false
is_section want.Broken = false

-- a word where a value change may stand: in a section, or outside of one
abbrev pub command_or_section : Codes → Bool → List ℕ → Body → Went
command_or_section codes section w b = pick section (section_word codes w b) (command_word codes w b)

-- what settles a word: that body; or, where there is none, what the word comes to as a value change
abbrev pub Settles : Option Body → (Codes → Went) → (Codes → Went) → Type 0
Settles (Some body) value went = (codes : Codes) → alone body ≡ went codes
Settles None value went = (codes : Codes) → value codes ≡ went codes
