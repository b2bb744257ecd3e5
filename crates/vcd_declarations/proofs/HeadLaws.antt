-- What the places tell stays what the declarations say, one declaration after the other.
use mathlib.Core.Path.{◌≡◌, refl, sym, ap, ◌∙◌}
use mathlib.Core.Bool.{Bool, true, false, ◌||◌, not}
use mathlib.Core.List.{List, [], ◌∷◌, ◌++◌}
use Prim.Native.Nat.{ℕ, zero, suc, ◌+◌, ◌-◌, ◌≤◌, ◌<◌}
use native.Mathlib.Omega.{arith}
use borrow.Author.Tests.{eq-eqb, ne_eqb, eqb-true, eqb-false}
use lib.Dec.{eqb}
use lib.ListN.{length, get_or, set, take, drop, length-take, length-drop}
use mathlib.Core.List.{map}
use Rattle.std.proofs.lemmas.List.{map-append}
use lib.Seq.{take-take, drop-drop, take_all, take-suc, length-take-le}
use Rattle.base.specs.Pick.{pick}
use Rattle.base.proofs.Cases.{by_cases}
use Rattle.vcd_words.specs.Words.{alike, among}
use Rattle.vcd_words.specs.Places.{part}
use Rattle.vcd_words.specs.declared.Span.{Span}
use Rattle.vcd_declarations.specs.declared.codes.Codes.{Codes}
use Rattle.vcd_declarations.specs.declared.codes.Further.{Further}
use Rattle.vcd_declarations.specs.declared.head.Head as place
use Rattle.vcd_declarations.specs.Codes.{code_in, five_in, further_in, placed_in, Within, AllWithin, EachWithin, FurtherWithin}
use Rattle.vcd_declarations.specs.Declarations.{Head, blank, holding, declare}
use Rattle.vcd_declarations.specs.InnerHead.{Tells, nowhere, blank_head, holding_head, place_of, with_place, moved, last_of, shifted, added, declare_head}
use Rattle.vcd_declarations.proofs.PlacedLaws.{or_none, not_none, alike_is, put_in, put_before, none_last}

-- ---- before the first declaration
at_start : (n : ℕ) → Within nowhere n
at_start n = record { ordered = omega arith; inside = omega arith }

pub blank_tells : (bytes : List ℕ) → Tells bytes blank_head blank
blank_tells bytes = record {
  broken_is = refl;
  scaled_is = refl;
  bad_is = refl;
  codes_are = refl;
  codes_in_lem = let w = at_start (length bytes) in record { cs_in = w; dc_in = w; clk_in = w; mosi_in = w; rst_in = w };
  all_are = λ f code n. rw n;
  further_in_lem = let w = at_start (length bytes) in record { eight = refl; each_in = (w, (w, (w, (w, (w, (w, (w, (w, tt)))))))) };
}

or_false : (b : Bool) → (b || false) ≡ b
or_false true = refl
or_false false = refl

module _ (bytes : List ℕ) (h : place.Head) (s : Head) (t : Tells bytes h s) where
  pub holding_tells : (right : Bool) → Tells bytes (holding_head right h) (holding right s)
  holding_tells right = record {
    broken_is = ap (λ (b : Bool). b || not right) t.broken_is;
    scaled_is = t.scaled_is;
    bad_is = t.bad_is;
    codes_are = t.codes_are;
    codes_in_lem = t.codes_in_lem;
    all_are = t.all_are;
    further_in_lem = t.further_in_lem;
  }

  pub passed_tells : Tells bytes h (holding true s)
  passed_tells = record {
    broken_is = t.broken_is ∙ sym (or_false s.broken);
    scaled_is = t.scaled_is;
    bad_is = t.bad_is;
    codes_are = t.codes_are;
    codes_in_lem = t.codes_in_lem;
    all_are = t.all_are;
    further_in_lem = t.further_in_lem;
  }

-- ---- a code of the five by its place
below_five : (P : ℕ → Type 0) → P 0 → P 1 → P 2 → P 3 → P 4 → (n : ℕ) → n < 5 → P n
below_five P a b c d e zero h = a
below_five P a b c d e (suc zero) h = b
below_five P a b c d e (suc (suc zero)) h = c
below_five P a b c d e (suc (suc (suc zero))) h = d
below_five P a b c d e (suc (suc (suc (suc zero)))) h = e
below_five P a b c d e (suc (suc (suc (suc (suc n))))) h = absurd (omega (arith, h))

code_at : (bytes : List ℕ) (c : Codes) (n : ℕ) → n < 5 → get_or (five_in bytes c) n [] ≡ code_in bytes (place_of c n)
code_at bytes c n h = below_five (λ k. get_or (five_in bytes c) k [] ≡ code_in bytes (place_of c k)) refl refl refl refl refl n h

codes_with : (bytes : List ℕ) (c : Codes) (p : Span) (n : ℕ) → n < 5 → five_in bytes (with_place c n p) ≡ set (five_in bytes c) n (code_in bytes p)
codes_with bytes c p n h =
    below_five (λ k. five_in bytes (with_place c k p) ≡ set (five_in bytes c) k (code_in bytes p)) refl refl refl refl refl n h

place_in : (c : Codes) (size n : ℕ) → n < 5 → AllWithin c size → Within (place_of c n) size
place_in c size n h a = below_five (λ k. Within (place_of c k) size) a.cs_in a.dc_in a.clk_in a.mosi_in a.rst_in n h

with_in : (c : Codes) (p : Span) (size n : ℕ) → n < 5 → AllWithin c size → Within p size → AllWithin (with_place c n p) size
with_in c p size n h a w =
    below_five (λ k. AllWithin (with_place c k p) size)
    (record { cs_in = w; dc_in = a.dc_in; clk_in = a.clk_in; mosi_in = a.mosi_in; rst_in = a.rst_in })
    (record { cs_in = a.cs_in; dc_in = w; clk_in = a.clk_in; mosi_in = a.mosi_in; rst_in = a.rst_in })
    (record { cs_in = a.cs_in; dc_in = a.dc_in; clk_in = w; mosi_in = a.mosi_in; rst_in = a.rst_in })
    (record { cs_in = a.cs_in; dc_in = a.dc_in; clk_in = a.clk_in; mosi_in = w; rst_in = a.rst_in })
    (record { cs_in = a.cs_in; dc_in = a.dc_in; clk_in = a.clk_in; mosi_in = a.mosi_in; rst_in = w })
    n h

-- a place without bytes has no code
none_or_some : (l : List ℕ) (n : ℕ) → length l ≡ n → alike l [] ≡ eqb n 0
none_or_some [] n e = sym (eq-eqb n 0 (sym e))
none_or_some (b ∷ l) n e = sym (ne_eqb n 0 (λ z. omega (arith, e, z)))

part_length : (bytes : List ℕ) (from to : ℕ) → from ≤ to → to ≤ length bytes → length (part bytes from to) ≡ to - from
part_length bytes from to h k = omega (arith, length-take (to - from) (drop from bytes), length-drop from bytes, h, k)

pub empty_is : (bytes : List ℕ) (p : Span) → Within p (length bytes) → alike (code_in bytes p) [] ≡ eqb p.from p.to
empty_is bytes p w =
    none_or_some (code_in bytes p) (p.to - p.from) (part_length bytes p.from p.to w.ordered w.inside)
    ∙ by_cases (eqb p.from p.to)
    (λ e. eq-eqb (p.to - p.from) 0 (omega (arith, eqb-true p.from p.to e)) ∙ sym e)
    (λ e. ne_eqb (p.to - p.from) 0 (λ z. eqb-false p.from p.to e (omega (arith, z, w.ordered))) ∙ sym e)

-- ---- one of the five
or-true : (b : Bool) → (b || true) ≡ true
or-true true = refl
or-true false = refl

-- the first code of a signal, among all that have a place
placed_at : (bytes : List ℕ) (c : Codes) (f : Further) (n : ℕ) → n < 5 → get_or (placed_in bytes c f) n [] ≡ code_in bytes (place_of c n)
placed_at bytes c f n h = below_five (λ k. get_or (placed_in bytes c f) k [] ≡ code_in bytes (place_of c k)) refl refl refl refl refl n h

placed_with : (bytes : List ℕ) (c : Codes) (f : Further) (p : Span) (n : ℕ) → n < 5
    → placed_in bytes (with_place c n p) f ≡ set (placed_in bytes c f) n (code_in bytes p)
placed_with bytes c f p n h =
    below_five (λ k. placed_in bytes (with_place c k p) f ≡ set (placed_in bytes c f) k (code_in bytes p)) refl refl refl refl refl n h

-- the first places, and the last of eight
first_in : (l : List Span) (k size : ℕ) → EachWithin l size → EachWithin (take k l) size
first_in l zero size a = tt
first_in [] (suc k) size a = tt
first_in (s ∷ l) (suc k) size a = (a.0, first_in l k size a.1)

nth_in : (l : List Span) (i size : ℕ) → i < length l → EachWithin l size → Within (get_or l i nowhere) size
nth_in [] i size h a = absurd (omega (arith, h))
nth_in (s ∷ l) zero size h a = a.0
nth_in (s ∷ l) (suc i) size h a = nth_in l i size (omega (arith, h)) a.1

seven_last : (l : List Span) → length l ≡ 8 → l ≡ take 7 l ++ (get_or l 7 nowhere ∷ [])
seven_last l e = sym (take_all 8 l (omega (arith, e))) ∙ take-suc l 7 nowhere (omega (arith, e))

shifted_in : (f : Further) (p : Span) (size : ℕ) → FurtherWithin f size → Within p size → FurtherWithin (shifted f p) size
shifted_in f p size a w = record {
  eight = ap suc (length-take-le 7 f.codes (omega (arith, a.eight)));
  each_in = (w, first_in f.codes 7 size a.each_in);
}

module _ (bytes : List ℕ) (h : place.Head) (s : Head) (t : Tells bytes h s) (p : Span) (w : Within p (length bytes)) where
  abbrev Placed : List (List ℕ) → Type 0
  Placed l = (code : List ℕ) → alike code [] ≡ false → among l code ≡ pick (alike code (code_in bytes p)) true (among s.all code)

  -- the first of a signal
  with_all : (signal : ℕ) → signal < 5 → eqb (place_of h.codes signal).from (place_of h.codes signal).to ≡ true → h.further.full ≡ false
      → Placed (placed_in bytes (with_place h.codes signal p) h.further)
  with_all signal l e full code n =
      let empty = ap (λ (c : List ℕ). alike c []) (placed_at bytes h.codes h.further signal l)
      ∙ empty_is bytes (place_of h.codes signal) (place_in h.codes (length bytes) signal l t.codes_in_lem) ∙ e in
      ap (λ (c : List (List ℕ)). among c code) (placed_with bytes h.codes h.further p signal l)
      ∙ put_in (placed_in bytes h.codes h.further) signal (code_in bytes p) code (omega (arith, l)) empty n
      ∙ ap (pick (alike code (code_in bytes p)) true) (t.all_are full code n)

  -- another one
  abbrev seven : List (List ℕ)
  seven = map (code_in bytes) (take 7 h.further.codes)

  with_last : further_in bytes h.further ≡ seven ++ (code_in bytes (last_of h.further) ∷ [])
  with_last = ap (map (code_in bytes)) (seven_last h.further.codes t.further_in_lem.eight) ∙ map-append (code_in bytes) (take 7 h.further.codes) (last_of h.further ∷ [])

  added_all : (placed : Bool) → placed ≡ among (placed_in bytes h.codes h.further) (code_in bytes p) → (added h.further placed p).full ≡ false
      → Placed (placed_in bytes h.codes (added h.further placed p))
  added_all true e full code n =
      by_cases (alike code (code_in bytes p))
      (λ a. rw a (ap (among (placed_in bytes h.codes h.further)) (alike_is code (code_in bytes p) a) ∙ sym e))
      (λ a. rw a (t.all_are full code n))
  added_all false e full code n =
      let last = last_of h.further in
      let parts = or_none h.further.full (not (eqb last.from last.to)) full in
      let empty = empty_is bytes last (nth_in h.further.codes 7 (length bytes) (omega (arith, t.further_in_lem.eight)) t.further_in_lem.each_in) ∙ not_none (eqb last.from last.to) parts.1 in
      put_before (five_in bytes h.codes) seven (code_in bytes p) code
      ∙ ap (pick (alike code (code_in bytes p)) true)
      (sym (none_last (five_in bytes h.codes ++ seven) (code_in bytes last) code empty n)
      ∙ ap (λ (l : List (List ℕ)). among (five_in bytes h.codes ++ l) code) (sym with_last)
      ∙ t.all_are parts.0 code n)

  added_in : (placed : Bool) → FurtherWithin (added h.further placed p) (length bytes)
  added_in true = t.further_in_lem
  added_in false = shifted_in h.further p (length bytes) t.further_in_lem w

  pub declare_tells : (signal : ℕ) → signal < 5 → (wide placed : Bool) → placed ≡ among (placed_in bytes h.codes h.further) (code_in bytes p)
      → Tells bytes (declare_head h signal wide p placed) (declare signal wide (code_in bytes p) s)
  declare_tells signal l wide placed k =
      by_cases first
      (λ e. rw (had, e) (record {
        broken_is = t.broken_is;
        scaled_is = t.scaled_is;
        bad_is = ap (λ (b : Bool). b || wide) t.bad_is ∙ ap (λ (b : Bool). s.bad || b) (sym (or_false wide));
        codes_are = codes_with bytes h.codes p signal l ∙ ap (λ (c : List (List ℕ)). set c signal (code_in bytes p)) t.codes_are;
        codes_in_lem = with_in h.codes p (length bytes) signal l t.codes_in_lem w;
        all_are = with_all signal l e;
        further_in_lem = t.further_in_lem;
      }))
      (λ e. rw (had, e) (record {
        broken_is = t.broken_is;
        scaled_is = t.scaled_is;
        bad_is = sym (ap (λ (b : Bool). s.bad || b) (or-true wide) ∙ or-true s.bad);
        codes_are = t.codes_are;
        codes_in_lem = t.codes_in_lem;
        all_are = added_all placed k;
        further_in_lem = added_in placed;
      }))
    where
      first : Bool
      first = eqb (place_of h.codes signal).from (place_of h.codes signal).to

      had : alike (get_or s.codes signal []) [] ≡ first
      had = ap (λ (c : List (List ℕ)). alike (get_or c signal []) []) (sym t.codes_are)
          ∙ ap (λ (c : List ℕ). alike c []) (code_at bytes h.codes signal l)
          ∙ empty_is bytes (place_of h.codes signal) (place_in h.codes (length bytes) signal l t.codes_in_lem)

-- ---- a code of a part lies in the whole
take_in : (a k n : ℕ) (l : List ℕ) → a + k ≤ n → take k (drop a (take n l)) ≡ take k (drop a l)
take_in zero k n l h = take-take k n l (omega (arith, h))
take_in (suc a) k zero l h = absurd (omega (arith, h))
take_in (suc a) k (suc n) [] h = refl
take_in (suc a) k (suc n) (x ∷ l) h = take_in a k n l (omega (arith, h))

pub code_moved : (bytes : List ℕ) (from to : ℕ) (p : Span) → from ≤ to → to ≤ length bytes → Within p (length (part bytes from to))
    → code_in (part bytes from to) p ≡ code_in bytes (moved from p)
code_moved bytes from to p h k w =
    let size = part_length bytes from to h k in
    let same : p.to - p.from ≡ (from + p.to) - (from + p.from) = omega arith in
    take_in p.from (p.to - p.from) (to - from) (drop from bytes) (omega (arith, size, w.ordered, w.inside))
    ∙ ap (take (p.to - p.from)) (drop-drop p.from from bytes)
    ∙ ap (λ (n : ℕ). take n (drop (from + p.from) bytes)) same

pub moved_in : (bytes : List ℕ) (from to : ℕ) (p : Span) → from ≤ to → to ≤ length bytes → Within p (length (part bytes from to))
    → Within (moved from p) (length bytes)
moved_in bytes from to p h k w =
    let size = part_length bytes from to h k in
    record { ordered = omega (arith, w.ordered); inside = omega (arith, size, w.inside, h, k) }
