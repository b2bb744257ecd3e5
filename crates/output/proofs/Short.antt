-- Every unit of a panel of at most 800 columns, at any top, is shorter than a buffer of 8,192 bytes, so parts through such a buffer are the whole text.
use mathlib.Core.Path.{◌≡◌, refl, ap}
use mathlib.Core.Bool.{Bool, true, false}
use mathlib.Core.List.{List, [], ◌∷◌, ◌++◌, map}
use Prim.Native.Nat.{ℕ, zero, suc, ◌+◌, ◌*◌, ◌/◌, ◌^◌, ◌≤◌, ◌<◌}
use native.Mathlib.Nat.{zero-mul, suc-mul, pow-zero, pow-succ'}
use native.Mathlib.Omega.{arith}
use native.Mathlib.Decide.{dec_le}
use lib.Dec.{eqb, lit<}
use lib.ListN.{length, get_or, drop, length-append, length-take, length-map}
use Rattle.base.specs.Pick.{pick}
use Rattle.base.proofs.Cases.{both}
use Rattle.glass.specs.declared.RefreshKind.{RefreshKind}
use Rattle.glass.specs.declared.RefreshKind.TheVariants.{PowerOn, Full, Partial}
use Rattle.capture.specs.Little.{little}
use Rattle.text.specs.Text.{ascii, digits}
use Rattle.text.proofs.Digits.{length_digits}
use Rattle.png.specs.declared.Adler.{Adler}
use Rattle.png.specs.Zlib.{four, adler_number, stored_head, stored, none, zlib_head, adler_of}
use Rattle.png.specs.Png.{chunk, signature, head_unit, piece, row_unit, row_units, end_unit, png_of}
use Rattle.outcome.specs.declared.Came.{Came}
use Rattle.outcome.specs.declared.Came.TheVariants as came
use Rattle.output.specs.declared.Form.{Form}
use Rattle.output.specs.declared.Form.TheVariants as form
use Rattle.output.specs.declared.Outcome.{Outcome}
use Rattle.output.specs.Lines.{behind, line, byte_word, kind_word, flag_word, refresh_words}
use Rattle.output.specs.Lines.{no_events_line, refused_line, read_line, diag_line, dropped_line, image_line, greys_line, graymap_head}
use Rattle.output.specs.Units.{up_to, row_of, read_of, last_of, lines_of, rows_of, png_units, played_of, units_by, units_of}
use Rattle.output.specs.Units.{wide_rows, graymap_units, depth_of, wide_by, wide_of}
use Rattle.output.specs.Parts.{joined}
use Rattle.output.proofs.PartLaws.{in_parts, all_parts}
use Rattle.output.proofs.UnitLaws.{row_below, row_long, at_rows, past_rows, at_wide, past_wide}
use Rattle.output.proofs.SampleLaws.{length_samples}

-- what the machine's types say of the numbers, and the width of a panel that is not oversized
pub record Sized (o : Outcome) (events answers picture rows : List ℕ) : Type 0 where
  pub width : o.image.width ≤ 800
  pub height : o.image.height < 2 ^ 64
  pub refused : (n : ℕ) → o.came ≡ came.Refused n → n < 2 ^ 64
  pub dropped : o.log.dropped < 2 ^ 64
  pub generation : o.image.generation < 2 ^ 64
  pub started : o.image.started < 2 ^ 64
  pub at : o.image.at < 2 ^ 64
  pub events_bytes : (i : ℕ) → get_or events i 0 < 256
  pub answers_words : (i : ℕ) → get_or answers i 257 < 2 ^ 64
  pub picture_bytes : (i : ℕ) → get_or picture i 0 < 256
  pub rows_words : (i : ℕ) → get_or rows i 0 < 2 ^ 64

-- ---- numbers in decimal
word_short : (x : ℕ) → x < 2 ^ 64 → length (digits x) ≤ 20
word_short x h = length_digits 19 x (omega (arith, h))

byte_short : (x : ℕ) → x < 256 → length (digits x) ≤ 3
byte_short x h = length_digits 2 x (omega (arith, h))

-- ---- words behind blanks, each of at most m bytes
AllShort : ℕ → List (List ℕ) → Type 0
AllShort m [] = Unit
AllShort m (w ∷ ws) = (length w ≤ m) × AllShort m ws

length_behind : (m : ℕ) (ws : List (List ℕ)) → AllShort m ws → length (behind ws) ≤ length ws * (m + 1)
unfolding AllShort
length_behind m [] h = omega (arith, zero-mul (m + 1))
length_behind m (w ∷ ws) h =
    rw (length-append (32 ∷ w) (behind ws)) (omega (arith, h.0, length_behind m ws h.1, suc-mul (length ws) (m + 1)))

length_line : (m : ℕ) (w : List ℕ) (ws : List (List ℕ)) → AllShort m ws → length (line (w ∷ ws)) ≤ length w + length ws * (m + 1) + 1
length_line m w ws h =
    rw (length-append (w ++ behind ws) (ascii "\n"), length-append w (behind ws)) (omega (arith, length_behind m ws h))

-- ---- rows of numbers
numbers_short : (b m : ℕ) → ((x : ℕ) → x < b → length (digits x) ≤ m)
    → (l : List ℕ) → ((i : ℕ) → get_or l i 0 < b) → AllShort m (map digits l)
unfolding AllShort
numbers_short b m s [] h = tt
numbers_short b m s (x ∷ l) h = (s x (h 0), numbers_short b m s l (λ i. h (suc i)))

little_below : (l : List ℕ) → ((i : ℕ) → get_or l i 0 < 256) → (n at : ℕ) → little l at n < 256 ^ n
little_below l h zero at = rw (pow-zero 256) (omega arith)
little_below l h (suc n) at = rw (pow-succ' 256 n) (omega (arith, h at, little_below l h n (suc at)))

-- ---- line by line
one_short : (w : List ℕ) (x : ℕ) → length w ≤ 7 → x < 2 ^ 64 → length (line (w ∷ digits x ∷ [])) < 8192
unfolding AllShort
one_short w x l h = omega (arith, length_line 20 w (digits x ∷ []) (word_short x h, tt))

read_short : (time answer : ℕ) → time < 2 ^ 64 → answer < 2 ^ 64 → length (read_line time answer) < 8192
unfolding read_line AllShort
read_short time answer h k =
    let b : length (byte_word answer) ≤ 20 = both (λ (w : List ℕ). length w ≤ 20) (eqb answer 256) (omega arith) (word_short answer k) in
    omega (arith, length_line 20 (ascii "read") (digits time ∷ byte_word answer ∷ []) (word_short time h, (b, tt)))

diag_short : (row : List ℕ) → length row ≤ 5 → ((i : ℕ) → get_or row i 0 < 2 ^ 64) → length (diag_line row) < 8192
unfolding diag_line
diag_short row l h =
    omega (arith, length_line 20 (ascii "diag") (map digits row) (numbers_short (2 ^ 64) 20 word_short row h), length-map row digits)

kind_short : (k : RefreshKind) → length (kind_word k) ≤ 20
kind_short PowerOn = omega arith
kind_short Full = omega arith
kind_short Partial = omega arith

flag_short : (b : Bool) → length (flag_word b) ≤ 20
flag_short true = omega arith
flag_short false = omega arith

greys_short : (row : List ℕ) → length row ≤ 800 → ((i : ℕ) → get_or row i 0 < 256) → length (greys_line row) < 8192
unfolding greys_line AllShort
greys_short [] l h = omega arith
greys_short (x ∷ row) l h =
    let s : AllShort 3 (map digits row) = numbers_short 256 3 byte_short row (λ i. h (suc i)) in
    omega (arith, length_line 3 (digits x) (map digits row) s, byte_short x (h 0), length-map row digits)

-- ---- lists of units that are each shorter than the buffer
abbrev pub Short : List (List ℕ) → Type 0
Short us = (i : ℕ) → length (get_or us i []) < 8192

short_nil : Short []
short_nil i = omega arith

short_cons : (u : List ℕ) (us : List (List ℕ)) → length u < 8192 → Short us → Short (u ∷ us)
short_cons u us h s zero = h
short_cons u us h s (suc i) = s i

short_append : (us vs : List (List ℕ)) → Short us → Short vs → Short (us ++ vs)
short_append [] vs s t = t
short_append (u ∷ us) vs s t = short_cons u (us ++ vs) (s 0) (short_append us vs (λ i. s (suc i)) t)

short_up_to : (n : ℕ) (f : ℕ → List ℕ) → ((k : ℕ) → length (f k) < 8192) → Short (up_to n f)
short_up_to zero f h = short_nil
short_up_to (suc n) f h = short_cons (f 0) (up_to n (λ k. f (suc k))) (h 0) (short_up_to n (λ k. f (suc k)) (λ k. h (suc k)))

-- ---- a PNG file
chunk_length : (kind content : List ℕ) → length (chunk kind content) ≡ length kind + length content + 8
unfolding chunk
chunk_length kind content = simp length-append (omega arith)

picked_length : (b : Bool) (l : List ℕ) (n : ℕ) → length l ≤ n → length (pick b l []) ≤ n
picked_length b l n h = both (λ (m : List ℕ). length m ≤ n) b h (omega arith)

piece_length : (row : List ℕ) (first last : Bool) (s : Adler) → length (piece row first last s) ≤ length row + 12
unfolding piece stored stored_head
piece_length row first last s =
    simp length-append
    (omega (
      arith,
      picked_length first zlib_head 2 (omega arith),
      picked_length last (four (adler_number s)) 4 (omega arith),
    ))

row_unit_short : (row : List ℕ) (first last : Bool) (s : Adler) → length row ≤ 1600 → length (row_unit row first last s) < 8192
unfolding row_unit
row_unit_short row first last s h =
    omega (arith, chunk_length (ascii "IDAT") (piece row first last s), piece_length row first last s)

row_units_short : (rows : List (List ℕ)) (first : Bool) (s : Adler) → ((i : ℕ) → length (get_or rows i []) ≤ 1600)
    → Short (row_units rows first s)
row_units_short [] first s h = short_nil
row_units_short (r ∷ rs) first s h =
    short_cons (row_unit r first (none rs) s) (row_units rs false s) (row_unit_short r first (none rs) s (h 0))
    (row_units_short rs false s (λ i. h (suc i)))

file_head_short : (w h d : ℕ) → length (head_unit w h d) < 8192
unfolding head_unit
file_head_short w h d =
    let content = four w ++ four h ++ d ∷ 0 ∷ 0 ∷ 0 ∷ 0 ∷ [] in
    rw (length-append signature (chunk (ascii "IHDR") content)) (omega (arith, chunk_length (ascii "IHDR") content))

end_short : length end_unit < 8192
unfolding end_unit
end_short = omega (arith, chunk_length (ascii "IEND") [])

module _ (o : Outcome) (events answers picture rows : List ℕ) (s : Sized o events answers picture rows) where
  wide : o.image.width < 2 ^ 64
  wide = omega (arith, s.width)

  image_short : length (image_line o.image) < 8192
  unfolding image_line AllShort
  image_short =
      let i = o.image in
      let w = word_short i.width wide in
      let h = word_short i.height s.height in
      let g = word_short i.generation s.generation in
      let b = word_short i.started s.started in
      let e = word_short i.at s.at in
      let rs : AllShort 20 (refresh_words i) = (kind_short i.kind, (flag_short i.interrupted, (b, (e, tt)))) in
      let ws = digits i.width ∷ digits i.height ∷ digits i.generation ∷ refresh_words i in
      omega (arith, length_line 20 (ascii "image") ws (w, (h, (g, rs))))

  head_short : (top : ℕ) → top < 2 ^ 64 → length (graymap_head top o.image.width o.image.height) < 8192
  unfolding graymap_head AllShort
  head_short top t =
      let w = o.image.width in
      let h = o.image.height in
      let l = line (digits w ∷ digits h ∷ []) in
      let m = line (digits top ∷ []) in
      rw (length-append (ascii "P5\n" ++ l) m, length-append (ascii "P5\n") l)
      (omega (
        arith,
        length_line 20 (digits w) (digits h ∷ []) (word_short h s.height, tt),
        word_short w wide,
        length_line 20 (digits top) [] tt,
        word_short top t,
      ))

  read_of_short : (i : ℕ) → length (read_of events answers i) < 8192
  unfolding read_of
  read_of_short i =
      let t : little events (i * 10) 8 < 2 ^ 64 = omega (arith, little_below events s.events_bytes 8 (i * 10)) in
      both (λ (u : List ℕ). length u < 8192) (eqb (get_or answers i 257) 257) (omega arith)
      (read_short (little events (i * 10) 8) (get_or answers i 257) t (s.answers_words i))

  row_short : (y : ℕ) → length (greys_line (row_of o.image.width y picture)) < 8192
  row_short y =
      greys_short (row_of o.image.width y picture)
      (omega (arith, row_long 256 o.image.width y picture s.picture_bytes, s.width))
      (row_below 256 o.image.width y picture s.picture_bytes)

  stored_short : (k : ℕ) → length (diag_line (row_of 5 k rows)) < 8192
  stored_short k = diag_short (row_of 5 k rows) (row_long (2 ^ 64) 5 k rows s.rows_words) (row_below (2 ^ 64) 5 k rows s.rows_words)

  -- ---- all of them
  rows_short : Short (up_to o.image.height (λ y. greys_line (row_of o.image.width y picture)))
  rows_short = short_up_to o.image.height (λ y. greys_line (row_of o.image.width y picture)) row_short

  dropped_short : length (dropped_line o.log.dropped) < 8192
  unfolding dropped_line
  dropped_short = one_short (ascii "dropped") o.log.dropped (omega arith) s.dropped

  last_short : Short (last_of o.log.dropped o.image picture)
  unfolding last_of
  last_short =
      let greys = up_to o.image.height (λ y. greys_line (row_of o.image.width y picture)) in
      short_cons (dropped_line o.log.dropped) (image_line o.image ∷ greys) dropped_short
      (short_cons (image_line o.image) greys image_short rows_short)

  lines_short : Short (lines_of o.log o.image events answers picture rows)
  unfolding lines_of
  lines_short =
      let reads = up_to (length events / 10) (read_of events answers) in
      let stored = up_to o.log.stored (λ k. diag_line (row_of 5 k rows)) in
      let last = last_of o.log.dropped o.image picture in
      short_append reads (stored ++ last) (short_up_to (length events / 10) (read_of events answers) read_of_short)
      (short_append stored last (short_up_to o.log.stored (λ k. diag_line (row_of 5 k rows)) stored_short) last_short)

  graymap_short : (top : ℕ) (us : List (List ℕ)) → top < 2 ^ 64 → ((i : ℕ) → length (get_or us i []) ≤ 1600) → Short (graymap_units top o.image us)
  unfolding graymap_units
  graymap_short top us t h =
      short_cons (graymap_head top o.image.width o.image.height) us (head_short top t) (λ i. omega (arith, h i))

  file_short : (d : ℕ) (us : List (List ℕ)) → ((i : ℕ) → length (get_or us i []) ≤ 1600) → Short (png_of o.image.width o.image.height d us)
  unfolding png_of
  file_short d us h =
      short_cons (head_unit o.image.width o.image.height d) (row_units us true (adler_of us) ++ end_unit ∷ [])
      (file_head_short o.image.width o.image.height d)
      (short_append (row_units us true (adler_of us)) (end_unit ∷ []) (row_units_short us true (adler_of us) h)
      (short_cons end_unit [] end_short short_nil))

  -- the rows, of bytes and at a top
  rows_long : (i : ℕ) → length (get_or (rows_of o.image.width o.image.height picture) i []) ≤ 1600
  rows_long i =
      let w = o.image.width in
      let h = o.image.height in
      elim (dec_le h i) [
        | yes p ↦ omega (arith, ap length (past_rows w h picture i p))
        | no p ↦ omega (arith, ap length (at_rows w h picture i (omega arith)), length-take w (drop (i * w) picture), s.width)
      ]

  wide_long : (top : ℕ) (greys : List ℕ) (i : ℕ) → length (get_or (wide_rows top o.image.width o.image.height greys) i []) ≤ 1600
  wide_long top greys i =
      let w = o.image.width in
      let h = o.image.height in
      elim (dec_le h i) [
        | yes p ↦ omega (arith, ap length (past_wide w h greys top i p))
        | no p ↦
            omega (
              arith,
              ap length (at_wide w h greys top i (omega arith)),
              length_samples top (row_of w i greys),
              length-take w (drop (i * w) greys),
              s.width,
            )
      ]

  png_short : Short (png_units o.image picture)
  unfolding png_units
  png_short = file_short 8 (rows_of o.image.width o.image.height picture) rows_long

  played_short : (f : Form) → Short (played_of f o.log o.image events answers picture rows)
  played_short form.Panel = lines_short
  played_short form.Lines = lines_short
  played_short form.Graymap = graymap_short 255 (rows_of o.image.width o.image.height picture) (lit< tt) rows_long
  played_short form.Png = png_short

  units_by_short : (c : Came) (played : List (List ℕ)) → ((n : ℕ) → c ≡ came.Refused n → n < 2 ^ 64) → Short played
      → Short (units_by c played)
  unfolding no_events_line refused_line
  units_by_short came.NoEvents played small p = short_cons no_events_line [] (omega arith) short_nil
  units_by_short (came.Refused n) played small p =
      short_cons (refused_line n) [] (one_short (ascii "refused") n (omega arith) (small n refl)) short_nil
  units_by_short came.Played played small p = p

  pub units_short : (f : Form) → Short (units_of f o events answers picture rows)
  unfolding units_of
  units_short f = units_by_short o.came _ s.refused (played_short f)

  -- so a buffer of 8,192 bytes takes the whole text, part by part
  pub whole_text : (f : Form) → let us = units_of f o events answers picture rows in in_parts 8192 (length us) 0 us ≡ joined us
  whole_text f =
      let us = units_of f o events answers picture rows in
      all_parts 8192 (length us) 0 us (λ i h. units_short f i) (omega arith)

  -- and a picture at a top likewise
  wide_by_short : (f : Form) (top : ℕ) (greys : List ℕ) → top < 2 ^ 64 → Short (wide_by f top o.image greys)
  wide_by_short form.Panel top greys t = graymap_short top (wide_rows top o.image.width o.image.height greys) t (wide_long top greys)
  wide_by_short form.Lines top greys t = graymap_short top (wide_rows top o.image.width o.image.height greys) t (wide_long top greys)
  wide_by_short form.Graymap top greys t = graymap_short top (wide_rows top o.image.width o.image.height greys) t (wide_long top greys)
  wide_by_short form.Png top greys t = file_short (depth_of top) (wide_rows top o.image.width o.image.height greys) (wide_long top greys)

  pub wide_short : (f : Form) (top : ℕ) (greys : List ℕ) → top < 2 ^ 64 → Short (wide_of f top o greys)
  unfolding wide_of
  wide_short f top greys t = units_by_short o.came _ s.refused (wide_by_short f top greys t)

  pub wide_text : (f : Form) (top : ℕ) (greys : List ℕ) → top < 2 ^ 64
      → let us = wide_of f top o greys in in_parts 8192 (length us) 0 us ≡ joined us
  wide_text f top greys t =
      let us = wide_of f top o greys in
      all_parts 8192 (length us) 0 us (λ i h. wide_short f top greys t i) (omega arith)
