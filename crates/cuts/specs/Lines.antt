-- `cut TIME FRAMES OF`: the clock at which reset was asserted, the whole frames until then, and those of the whole refresh.
use Rattle.std.specs.Prelude.{List, ◌∷◌, ◌++◌, ℕ}
use Rattle.text.specs.Text.{ascii, digits}
use Rattle.cuts.specs.declared.finding.Cut.{Cut}

unfoldable pub cut_line : Cut → List ℕ
cut_line c = ascii "cut" ++ (32 ∷ digits c.at) ++ (32 ∷ digits c.frames) ++ (32 ∷ digits c.of) ++ ascii "\n"
