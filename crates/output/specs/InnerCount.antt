-- How many units a capture that was played has: a line for each event, stored row and row of the picture and two more; or a head and the rows.
use Rattle.std.specs.Prelude.{List, ℕ, ◌+◌, ◌/◌, length}
use Rattle.output.specs.declared.Form.{Form}
use Rattle.output.specs.declared.Form.TheVariants as form

abbrev pub played_count : Form → ℕ → ℕ → List ℕ → ℕ
played_count form.Panel stored height events = length events / 10 + (stored + height + 2)
played_count form.Lines stored height events = length events / 10 + (stored + height + 2)
played_count form.Graymap stored height events = height + 1
played_count form.Png stored height events = height + 2

-- and a picture at a top
abbrev pub wide_count : Form → ℕ → ℕ
wide_count form.Panel height = height + 1
wide_count form.Lines height = height + 1
wide_count form.Graymap height = height + 1
wide_count form.Png height = height + 2
