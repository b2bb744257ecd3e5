-- Which unit stands at a place of the list, and how many there are.
use mathlib.Core.Path.{◌≡◌, refl, sym, ap, ◌∙◌}
use mathlib.Core.Bool.{true, false}
use mathlib.Core.List.{List, [], ◌∷◌, ◌++◌}
use Prim.Native.Nat.{ℕ, zero, suc, ◌+◌, ◌-◌, ◌*◌, ◌/◌, ◌≤◌, ◌<◌}
use native.Mathlib.Nat.{not-suc-le-zero, le_of_suc-le-suc, add-sub_cancel_left}
use native.Mathlib.Omega.{arith}
use native.Mathlib.Decide.{dec_le}
use lib.Dec.{eqb}
use lib.ListN.{length, get_or, take, drop, length-append, length-take, length-drop, drop_of_length-le, get_or-append}
use lib.Seq.{take-nil, take_all, get_or-append-add, get_or-take, get_or-drop}
use borrow.Author.Tests.{ne_eqb}
use Rattle.base.proofs.Lists.{get_d_past}
use Rattle.png.specs.declared.Adler.{Adler}
use Rattle.png.specs.Zlib.{adler_of}
use Rattle.png.specs.Png.{row_unit, end_unit, png_of}
use Rattle.png.proofs.UnitLaws.{length_png}
use Rattle.png.proofs.UnitLaws as png
use Rattle.glass.specs.declared.PanelImage.{PanelImage}
use Rattle.diagnostic_log.specs.declared.Log.{Log}
use Rattle.capture.specs.Little.{little}
use Rattle.outcome.specs.declared.Came.{Came}
use Rattle.outcome.specs.declared.Came.TheVariants as came
use Rattle.output.specs.declared.Form.{Form}
use Rattle.output.specs.declared.Form.TheVariants as form
use Rattle.output.specs.declared.Outcome.{Outcome}
use Rattle.output.specs.Lines.{no_events_line, refused_line, read_line, diag_line, dropped_line, image_line, greys_line, graymap_head}
use Rattle.output.specs.Units.{up_to, row_of, read_of, last_of, lines_of, rows_of, png_units, played_of, units_by, units_of}
use Rattle.output.specs.Units.{samples_of, wide_rows, graymap_units, depth_of, wide_by, wide_of}
use Rattle.output.specs.InnerCount.{played_count, wide_count}

length_up_to : {A : Type 0} (n : ℕ) (f : ℕ → A) → length (up_to n f) ≡ n
length_up_to zero f = refl
length_up_to (suc n) f = ap suc (length_up_to n (λ k. f (suc k)))

at_up_to : {A : Type 0} (n : ℕ) (f : ℕ → A) (d : A) (i : ℕ) → i < n → get_or (up_to n f) i d ≡ f i
at_up_to zero f d i h = absurd (not-suc-le-zero h)
at_up_to (suc n) f d zero h = refl
at_up_to (suc n) f d (suc i) h = at_up_to n (λ k. f (suc k)) d i (le_of_suc-le-suc h)

past_up_to : {A : Type 0} (n : ℕ) (f : ℕ → A) (d : A) (i : ℕ) → n ≤ i → get_or (up_to n f) i d ≡ d
past_up_to n f d i h = let e = length_up_to n f in get_d_past (up_to n f) i d (omega (arith, e))

pub up_to_same : {A : Type 0} (n : ℕ) (f g : ℕ → A) → ((k : ℕ) → f k ≡ g k) → up_to n f ≡ up_to n g
up_to_same zero f g e = refl
up_to_same (suc n) f g e = (λ i. e 0 i ∷ up_to_same n (λ k. f (suc k)) (λ k. g (suc k)) (λ k. e (suc k)) i)

-- in the first of two lists, or in the second
module _ {A : Type 0} (l m : List A) (d : A) (n i : ℕ) (e : length l ≡ n) where
  in_first : i < n → get_or (l ++ m) i d ≡ get_or l i d
  in_first h = get_or-append l m d i (omega (arith, e))

  in_second : n ≤ i → get_or (l ++ m) i d ≡ get_or m (i - n) d
  in_second h =
      let s : i ≡ length l + (i - n) = omega (arith, e) in
      ap (λ (k : ℕ). get_or (l ++ m) k d) s ∙ get_or-append-add l m (i - n) d

-- ---- the lines
module _ (g : Log) (p : PanelImage) (events answers picture rows : List ℕ) (i : ℕ) where
  reads : List (List ℕ)
  reads = up_to (length events / 10) (read_of events answers)

  stored : List (List ℕ)
  stored = up_to g.stored (λ k. diag_line (row_of 5 k rows))

  last : List (List ℕ)
  last = last_of g.dropped p picture

  long : length reads ≡ length events / 10
  unfolding reads
  long = length_up_to (length events / 10) (read_of events answers)

  stored_long : length stored ≡ g.stored
  unfolding stored
  stored_long = length_up_to g.stored (λ k. diag_line (row_of 5 k rows))

  pub is_read : i < length events / 10 → get_or (lines_of g p events answers picture rows) i [] ≡ read_of events answers i
  unfolding lines_of reads stored last
  is_read h = in_first reads (stored ++ last) [] _ i long h ∙ at_up_to _ (read_of events answers) [] i h

  module _ (h : length events / 10 ≤ i) where
    behind_reads : get_or (lines_of g p events answers picture rows) i [] ≡ get_or (stored ++ last) (i - length events / 10) []
    unfolding lines_of reads stored last
    behind_reads = in_second reads (stored ++ last) [] _ i long h

    pub is_stored : i - length events / 10 < g.stored
        → get_or (lines_of g p events answers picture rows) i [] ≡ diag_line (row_of 5 (i - length events / 10) rows)
    unfolding stored
    is_stored k =
        behind_reads
        ∙ in_first stored last [] _ (i - length events / 10) stored_long k
        ∙ at_up_to _ (λ k. diag_line (row_of 5 k rows)) [] (i - length events / 10) k

    pub is_last_lem : g.stored ≤ i - length events / 10
        → get_or (lines_of g p events answers picture rows) i []
        ≡ get_or (last_of g.dropped p picture) (i - length events / 10 - g.stored) []
    unfolding last
    is_last_lem k = behind_reads ∙ in_second stored last [] _ (i - length events / 10) stored_long k

-- ---- below them: the dropped count, the picture's head, and its rows
module _ (n : ℕ) (p : PanelImage) (picture : List ℕ) where
  pub is_dropped : (k : ℕ) → k ≡ 0 → get_or (last_of n p picture) k [] ≡ dropped_line n
  unfolding last_of
  is_dropped k e = rw e

  pub is_image : (k : ℕ) → k ≡ 1 → get_or (last_of n p picture) k [] ≡ image_line p
  unfolding last_of
  is_image k e = rw e

  behind_two : (k : ℕ) → (k ≡ 0 → ⊥) → (k ≡ 1 → ⊥)
      → get_or (last_of n p picture) k [] ≡ get_or (up_to p.height (λ y. greys_line (row_of p.width y picture))) (k - 2) []
  unfolding last_of
  behind_two zero f h = absurd (f refl)
  behind_two (suc zero) f h = absurd (h refl)
  behind_two (suc (suc k)) f h =
      let e : k ≡ suc (suc k) - 2 = omega arith in
      ap (λ (j : ℕ). get_or (up_to p.height (λ y. greys_line (row_of p.width y picture))) j []) e

  module _ (k : ℕ) (f : k ≡ 0 → ⊥) (h : k ≡ 1 → ⊥) where
    pub is_greys : k - 2 < p.height → get_or (last_of n p picture) k [] ≡ greys_line (row_of p.width (k - 2) picture)
    is_greys l = behind_two k f h ∙ at_up_to _ (λ y. greys_line (row_of p.width y picture)) [] (k - 2) l

    pub is_past : p.height ≤ k - 2 → get_or (last_of n p picture) k [] ≡ []
    is_past l = behind_two k f h ∙ past_up_to _ (λ y. greys_line (row_of p.width y picture)) [] (k - 2) l

-- ---- a graymap: its head, and its rows
module _ (top : ℕ) (p : PanelImage) (rows : List (List ℕ)) where
  pub is_head : (i : ℕ) → i ≡ 0 → get_or (graymap_units top p rows) i [] ≡ graymap_head top p.width p.height
  unfolding graymap_units
  is_head i e = rw e

  pub is_row : (i : ℕ) → (i ≡ 0 → ⊥) → get_or (graymap_units top p rows) i [] ≡ get_or rows (i - 1) []
  unfolding graymap_units
  is_row zero f = absurd (f refl)
  is_row (suc i) f =
      let e : i ≡ suc i - 1 = omega arith in
      ap (λ (j : ℕ). get_or rows j []) e

  pub length_graymap : length (graymap_units top p rows) ≡ length rows + 1
  unfolding graymap_units
  length_graymap = omega arith

-- ---- the rows of a picture, of bytes or at a top
module _ (w h : ℕ) (p : List ℕ) where
  pub length_rows : length (rows_of w h p) ≡ h
  unfolding rows_of
  length_rows = length_up_to h (λ y. row_of w y p)

  pub at_rows : (y : ℕ) → y < h → get_or (rows_of w h p) y [] ≡ row_of w y p
  unfolding rows_of
  at_rows y l = at_up_to h (λ y. row_of w y p) [] y l

  pub past_rows : (y : ℕ) → h ≤ y → get_or (rows_of w h p) y [] ≡ []
  unfolding rows_of
  past_rows y l = past_up_to h (λ y. row_of w y p) [] y l

  module _ (top : ℕ) where
    pub length_wide : length (wide_rows top w h p) ≡ h
    unfolding wide_rows
    length_wide = length_up_to h (λ y. samples_of top (row_of w y p))

    pub at_wide : (y : ℕ) → y < h → get_or (wide_rows top w h p) y [] ≡ samples_of top (row_of w y p)
    unfolding wide_rows
    at_wide y l = at_up_to h (λ y. samples_of top (row_of w y p)) [] y l

    pub past_wide : (y : ℕ) → h ≤ y → get_or (wide_rows top w h p) y [] ≡ []
    unfolding wide_rows
    past_wide y l = past_up_to h (λ y. samples_of top (row_of w y p)) [] y l

-- ---- a PNG file: a row that is not the last, the last, and the end
pub not_zero : (i : ℕ) → (i ≡ 0 → ⊥) → 0 < i
not_zero zero f = absurd (f refl)
not_zero (suc i) f = omega arith

module _ (w h d : ℕ) (rows : List (List ℕ)) (e : length rows ≡ h) (i y : ℕ) (f : i ≡ y + 1) where
  some : i ≡ 0 → ⊥
  some z = omega (arith, f, z)

  back : y ≡ i - 1
  back = omega (arith, f)

  pub row_mid : (s : Adler) → y + 1 < h → row_unit (get_or rows y []) (eqb y 0) false s ≡ get_or (png_of w h d rows) i []
  row_mid s l =
      ap (λ (k : ℕ). row_unit (get_or rows k []) (eqb k 0) false s) back ∙ sym (png.is_row w h d rows i some (omega (arith, e, f)) s)

  pub row_last : y + 1 ≡ h → row_unit (get_or rows y []) (eqb y 0) true (adler_of rows) ≡ get_or (png_of w h d rows) i []
  row_last l =
      ap (λ (k : ℕ). row_unit (get_or rows k []) (eqb k 0) true (adler_of rows)) back
      ∙ sym (png.is_last_lem w h d rows i some (omega (arith, e, f, l)))

  pub file_end : y ≡ h → end_unit ≡ get_or (png_of w h d rows) i []
  file_end l = sym (png.is_end_lem w h d rows i (omega (arith, e, f, l)))

-- ---- a row of what is lent: none of it, a part, or the whole
module _ (n y : ℕ) (l : List ℕ) where
  pub row_none : length l ≤ y * n → [] ≡ row_of n y l
  row_none h = rw (drop_of_length-le l h, take-nil)

  pub row_part : length l - y * n < n → take (length l - y * n) (drop (y * n) l) ≡ row_of n y l
  row_part h =
      let m : length (drop (y * n) l) ≤ n = omega (arith, length-drop (y * n) l) in
      let k : length (drop (y * n) l) ≤ length l - y * n = omega (arith, length-drop (y * n) l) in
      take_all (length l - y * n) (drop (y * n) l) k ∙ sym (take_all n (drop (y * n) l) m)

  pub row_whole : take (y * n + n - y * n) (drop (y * n) l) ≡ row_of n y l
  row_whole = ap (λ (k : ℕ). take k (drop (y * n) l)) (add-sub_cancel_left (y * n) n)

-- of a list whose numbers are below b
module _ (b n y : ℕ) (l : List ℕ) (h : (i : ℕ) → get_or l i 0 < b) where
  pub row_below : (i : ℕ) → get_or (row_of n y l) i 0 < b
  row_below i = elim (dec_le n i) [
    | yes p ↦
        let z : get_or (row_of n y l) i 0 ≡ 0 = get_d_past (row_of n y l) i 0 (omega (arith, length-take n (drop (y * n) l))) in
        omega (arith, z, h 0)
    | no p ↦ rw (get_or-take n (drop (y * n) l) i 0 (omega arith), get_or-drop (y * n) l i 0) (h (y * n + i))
  ]

  pub row_long : length (row_of n y l) ≤ n
  row_long = omega (arith, length-take n (drop (y * n) l))

-- ---- the event's line
same_inside : (l : List ℕ) (i d e : ℕ) → i < length l → get_or l i d ≡ get_or l i e
same_inside [] i d e h = absurd (not-suc-le-zero h)
same_inside (x ∷ l) zero d e h = refl
same_inside (x ∷ l) (suc i) d e h = same_inside l i d e (le_of_suc-le-suc h)

module _ (events answers : List ℕ) (i : ℕ) where
  pub read_past : length answers ≤ i → [] ≡ read_of events answers i
  unfolding read_of
  read_past h = rw (get_d_past answers i 257 h)

  module _ (h : i < length answers) where
    pub read_other : get_or answers i 0 ≡ 257 → [] ≡ read_of events answers i
    unfolding read_of
    read_other e = rw (same_inside answers i 257 0 h, e)

    pub read_is : (get_or answers i 0 ≡ 257 → ⊥) → read_line (little events (i * 10) 8) (get_or answers i 0) ≡ read_of events answers i
    unfolding read_of
    read_is f = rw (same_inside answers i 257 0 h, ne_eqb (get_or answers i 0) 257 f)

-- ---- a single unit
pub only_first : (u : List ℕ) (i : ℕ) → i ≡ 0 → u ≡ get_or (u ∷ []) i []
only_first u i e = rw e

pub only_past : (u : List ℕ) (i : ℕ) → (i ≡ 0 → ⊥) → [] ≡ get_or (u ∷ []) i []
only_past u zero f = absurd (f refl)
only_past u (suc i) f = refl

-- ---- what is written of a file, by what it came to
module _ (f : Form) (o : Outcome) (events answers picture rows : List ℕ) where
  pub units_none : o.came ≡ came.NoEvents → units_of f o events answers picture rows ≡ no_events_line ∷ []
  unfolding units_of
  units_none e = ap (λ (c : Came). units_by c (played_of f o.log o.image events answers picture rows)) e

  pub units_refused : {n : ℕ} → o.came ≡ came.Refused n → units_of f o events answers picture rows ≡ refused_line n ∷ []
  unfolding units_of
  units_refused e = ap (λ (c : Came). units_by c (played_of f o.log o.image events answers picture rows)) e

  pub units_played_lem : o.came ≡ came.Played
      → units_of f o events answers picture rows ≡ played_of f o.log o.image events answers picture rows
  unfolding units_of
  units_played_lem e = ap (λ (c : Came). units_by c (played_of f o.log o.image events answers picture rows)) e

module _ (f : Form) (top : ℕ) (o : Outcome) (picture : List ℕ) where
  pub wide_none : o.came ≡ came.NoEvents → wide_of f top o picture ≡ no_events_line ∷ []
  unfolding wide_of
  wide_none e = ap (λ (c : Came). units_by c (wide_by f top o.image picture)) e

  pub wide_refused_lem : {n : ℕ} → o.came ≡ came.Refused n → wide_of f top o picture ≡ refused_line n ∷ []
  unfolding wide_of
  wide_refused_lem e = ap (λ (c : Came). units_by c (wide_by f top o.image picture)) e

  pub wide_played : o.came ≡ came.Played → wide_of f top o picture ≡ wide_by f top o.image picture
  unfolding wide_of
  wide_played e = ap (λ (c : Came). units_by c (wide_by f top o.image picture)) e

-- ---- how many units that is

pub length_lines : (g : Log) (p : PanelImage) (events answers picture rows : List ℕ)
    → length (lines_of g p events answers picture rows) ≡ length events / 10 + (g.stored + p.height + 2)
unfolding lines_of last_of
length_lines g p events answers picture rows =
    simp (length-append, length_up_to) (omega arith)

pub length_file : (p : PanelImage) (picture : List ℕ) → length (png_units p picture) ≡ p.height + 2
unfolding png_units
length_file p picture =
    let rows = rows_of p.width p.height picture in
    omega (arith, length_png p.width p.height 8 rows, length_rows p.width p.height picture)

pub length_played : (f : Form) (g : Log) (p : PanelImage) (events answers picture rows : List ℕ)
    → length (played_of f g p events answers picture rows) ≡ played_count f g.stored p.height events
length_played form.Panel g p events answers picture rows = length_lines g p events answers picture rows
length_played form.Lines g p events answers picture rows = length_lines g p events answers picture rows
length_played form.Graymap g p events answers picture rows =
    let lines = rows_of p.width p.height picture in
    omega (arith, length_graymap 255 p lines, length_rows p.width p.height picture)
length_played form.Png g p events answers picture rows = length_file p picture

module _ (top : ℕ) (p : PanelImage) (picture : List ℕ) where
  length_graymap_at : length (graymap_units top p (wide_rows top p.width p.height picture)) ≡ p.height + 1
  length_graymap_at =
      omega (
        arith,
        length_graymap top p (wide_rows top p.width p.height picture),
        length_wide p.width p.height picture top,
      )

  pub length_wide_units : (f : Form) → length (wide_by f top p picture) ≡ wide_count f p.height
  length_wide_units form.Panel = length_graymap_at
  length_wide_units form.Lines = length_graymap_at
  length_wide_units form.Graymap = length_graymap_at
  length_wide_units form.Png =
      omega (
        arith,
        length_png p.width p.height (depth_of top) (wide_rows top p.width p.height picture),
        length_wide p.width p.height picture top,
      )
