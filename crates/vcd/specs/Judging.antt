-- A dump by what reading it gives: its declarations by places, and the body after its words.
use Rattle.std.specs.Prelude.{Bool, ◌||◌, not, List, ℕ, eqb, drop, Result, Ok, Err}
use Rattle.base.specs.Pick.{pick}
use Rattle.vcd_words.specs.Words.{words}
use Rattle.vcd_words.specs.declared.Span.{Span}
use Rattle.vcd_declarations.specs.declared.codes.Codes.{Codes}
use Rattle.vcd_declarations.specs.declared.head.Head.{Head}
use Rattle.vcd_declarations.specs.declared.head.Begun.{Begun}
use Rattle.vcd_simulation.specs.declared.body.Body.{Body}
use Rattle.vcd_simulation.specs.Simulation.{begun, words_done, is_over}
use Rattle.vcd_simulation.specs.Feed.{codes_by}
use Rattle.vcd.specs.declared.judging.Fault.{Fault}
use Rattle.vcd.specs.declared.judging.Fault.TheVariants.{Malformed, Unsignalled}

unfoldable pub body_after : List ℕ → Head → ℕ → Body
body_after dump h at = (words_done (codes_by dump h) (words (drop at dump)) begun).body

abbrev pub is_none : Span → Bool
is_none s = eqb s.from s.to

abbrev pub any_none : Codes → Bool
any_none c = is_none c.cs || (is_none c.dc || (is_none c.clk || (is_none c.mosi || is_none c.rst)))

abbrev pub malformed_by : Begun → Body → Bool
malformed_by b body = b.head.broken || (not b.head.scaled || (not b.ended || not (is_over body.wanted)))

abbrev pub unsignalled_by : Head → Bool
unsignalled_by h = h.bad || any_none h.codes

-- 11 comes before 12
unfoldable pub judged_by : Begun → Body → Result (Unit {0}) Fault
judged_by b body = pick (malformed_by b body) (Err Malformed) (pick (unsignalled_by b.head) (Err Unsignalled) (Ok tt))
