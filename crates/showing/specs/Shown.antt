-- What a capture is played in: the front of what is lent, of its panel's size.
use Rattle.std.specs.Prelude.{◌≡◌, List, ◌++◌, ℕ, pos, length, take, drop, replicate}
use Rattle.output.specs.declared.Form.{Form}
use Rattle.capture.specs.Layout.{config_in, pixel_count}
use Rattle.controller.specs.World.{Buffers, buffers}
use Rattle.showing.specs.declared.Sizes.{Sizes}
use Rattle.showing.specs.Played.{played}

-- a pixel of the panel each, as far as there is room
unfoldable pub panel_size : List ℕ → ℕ
panel_size file = pixel_count (config_in file)

abbrev pub fitted : List ℕ → Buffers → Buffers
fitted file b =
    let n = panel_size file in
    buffers b.old b.new (take n b.states) (take n b.picture) b.rows

-- what is left of it: there what playing left, behind it what was lent
abbrev pub left_by : Form → List ℕ → Buffers → Buffers
left_by f file b =
    let n = panel_size file in
    let w = (played f file (fitted file b)).lent in
    buffers w.old w.new (w.states ++ drop n b.states) (w.picture ++ drop n b.picture) w.rows

-- what `panel` lends beside the two planes
abbrev pub panel_lent : List ℕ → List ℕ → Buffers
panel_lent old new = buffers old new (replicate 8000 (pos 0)) (replicate 8000 0) (replicate 5120 0)

-- an answer for each event of the largest capture
abbrev pub lent_answers : List ℕ
lent_answers = replicate 6521 0

-- how much is lent, and so much of zeros
abbrev pub sizes_of : Buffers → Sizes
sizes_of b = record {
  old = length b.old;
  new = length b.new;
  states = length b.states;
  picture = length b.picture;
  rows = length b.rows;
}

abbrev pub blank : Sizes → Buffers
blank s =
    buffers (replicate s.old 0) (replicate s.new 0) (replicate s.states (pos 0)) (replicate s.picture 0)
    (replicate s.rows 0)

-- b is as large as the front of so much
abbrev pub Fits : List ℕ → Sizes → Buffers → Type 0
Fits file s b = sizes_of b ≡ sizes_of (fitted file (blank s))
