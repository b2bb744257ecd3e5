-- Whether a declaration is one of the five signals with a code.
use Rattle.std.specs.Prelude.{Bool, false, List, ℕ, ltb}
use Rattle.base.specs.Pick.{pick}
use Rattle.vcd_words.specs.Words.{alike}
use Rattle.vcd_values.specs.Names.{other_signal}
use Rattle.vcd_declarations.specs.declared.commands.Keyword.{Keyword}
use Rattle.vcd_declarations.specs.declared.commands.Keyword.TheVariants as key
use Rattle.vcd_declarations.specs.Declarations.{signal_in, code_of}

abbrev pub declares_code : Keyword → List (List ℕ) → List ℕ → Bool
declares_code key.Text ws code = false
declares_code key.Timescale ws code = false
declares_code key.Scope ws code = false
declares_code key.Upscope ws code = false
declares_code key.Var ws code = pick (ltb (signal_in ws) other_signal) (alike code (code_of ws)) false
declares_code key.EndDefinitions ws code = false
declares_code key.Other ws code = false
