-- How the code goes: the trailer's two numbers, read once, each of four bytes.
use Rattle.std.specs.Prelude.{◌≡◌, List, ℕ, ◌<◌}
use Rattle.capture.specs.declared.layout.Trailer.{Trailer}
use Rattle.capture.specs.Layout.{offset_of, count_of}

pub record Trails (file : List ℕ) (t : Trailer) : Type 0 where
  pub offset_is : t.offset ≡ offset_of file
  pub count_is : t.count ≡ count_of file
  pub offset_fits : t.offset < 4_294_967_296
  pub count_fits : t.count < 4_294_967_296
