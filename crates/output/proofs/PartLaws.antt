-- Units that go through a buffer part by part. Along the way the buffer holds the units so far, and what is still to come reaches as far as
-- it did; parts one after the other are the whole text.
use mathlib.Core.Path.{◌≡◌, refl, sym, ap, ◌∙◌}
use mathlib.Core.List.{List, [], ◌∷◌, ◌++◌, append-nil, append_assoc}
use Prim.Native.Nat.{ℕ, zero, suc, ◌+◌, ◌-◌, ◌≤◌, ◌<◌, min}
use native.Mathlib.Nat.{sub_self, sub-zero, zero-add, add-zero, add-sub_cancel_left}
use native.Mathlib.Decide.{dec_le}
use native.Mathlib.Numerals.{add-one}
use native.Mathlib.Omega.{arith}
use lib.Dec.{ltb}
use lib.ListN.{length, take, drop, get_or, length-append, length-drop, take-append-drop, drop_of_length-le}
use lib.Seq.{take-suc, take_all, drop-cons, get_or-drop, drop-drop}
use borrow.Author.Tests.{lt-ltb, le-ltb, ltb-true}
use Rattle.base.proofs.Cases.{by_cases}
use Rattle.std.specs.Borrow.{MutBor}
use Rattle.text.specs.declared.Text.{Text}
use Rattle.text.specs.Text.{filled, begun, put}
use Rattle.text.proofs.Filling.{length_filled, filled_full, take_filled, put_put, put_nothing, put_held, put_buffer, laid_zero}
use Rattle.output.specs.declared.Part.{Part}
use Rattle.output.specs.Parts.{joined, reach, units_from, part_of, Lays}

-- ---- units joined
joined_append : (us vs : List (List ℕ)) → joined (us ++ vs) ≡ joined us ++ joined vs
joined_append [] vs = refl
joined_append (u ∷ us) vs = ap (λ (l : List ℕ). u ++ l) (joined_append us vs) ∙ sym (append_assoc u (joined us) (joined vs))

-- some units and the others are all
pub joined_split : (k : ℕ) (us : List (List ℕ)) → joined (take k us) ++ joined (drop k us) ≡ joined us
joined_split k us = sym (joined_append (take k us) (drop k us)) ∙ ap joined (take-append-drop k us)

-- one unit more
module _ (us : List (List ℕ)) (from next : ℕ) (h : from ≤ next) (k : next < length us) where
  one_more : units_from from (next - from) us ++ get_or us next [] ≡ units_from from (next + 1 - from) us
  one_more =
      let e : next + 1 - from ≡ suc (next - from) = omega arith in
      let f : from + (next - from) ≡ next = omega arith in
      let l : next - from < length (drop from us) = omega (arith, length-drop from us) in
      sym
      (ap (λ (j : ℕ). joined (take j (drop from us))) e
      ∙ ap joined (take-suc (drop from us) (next - from) [] l)
      ∙ joined_append (take (next - from) (drop from us)) (get_or (drop from us) (next - from) [] ∷ [])
      ∙ ap (λ (u : List ℕ). units_from from (next - from) us ++ u)
      (append-nil (get_or (drop from us) (next - from) [])
      ∙ get_or-drop from us (next - from) []
      ∙ ap (λ (j : ℕ). get_or us j []) f))

-- ---- on the way: the units up to the next one are in the text that was begun in the buffer s, whole
pub record Along (us : List (List ℕ)) (from : ℕ) (s : MutBor (List ℕ)) (next : ℕ) (t : Text) : Type 0 where
  pub on : from ≤ next
  pub puts : t ≡ put (units_from from (next - from) us) (begun s)
  pub exact : t.held ≡ length (units_from from (next - from) us)
  pub far : reach (length s.now) (drop from us) ≡ next - from + reach (length s.now - t.held) (drop next us)

module _ (us : List (List ℕ)) (from : ℕ) (s : MutBor (List ℕ)) where
  pub along_start : Along us from s from (begun s)
  along_start =
      let e : units_from from (from - from) us ≡ [] = rw (sub_self from) in
      record {
        on = omega arith;
        puts = rw e (sym (put_nothing (begun s)));
        exact = rw e;
        far = rw (sub_self from, sub-zero (length s.now), zero-add);
      }

  -- a text that was put from the start of the buffer
  held_is : (x : List ℕ) (t : Text) → t ≡ put x (begun s) → t.held ≡ min (length x) (length s.now)
  held_is x t e = omega (arith, ap (λ (u : Text). u.held) e, put_held x (begun s))

  buffer_is : (x : List ℕ) (t : Text) → t ≡ put x (begun s) → t.buffer.now ≡ filled x s.now
  buffer_is x t e = ap (λ (u : Text). u.buffer.now) e ∙ put_buffer x (begun s) ∙ laid_zero x s.now

  module _ (next : ℕ) (t : Text) (a : Along us from s next t) where
    -- the units are at an end
    pub along_end : length us ≤ next → Lays us from s.now t.buffer.now (record { held = t.held; next = next })
    unfolding part_of
    along_end h =
        let b = s.now in
        let e : drop next us ≡ [] = drop_of_length-le us h in
        let r : reach (length b) (drop from us) ≡ next - from = a.far ∙ rw (e, add-zero) in
        let l : length (drop from us) ≤ next - from = omega (arith, length-drop from us) in
        let w : units_from from (next - from) us ≡ joined (drop from us) = ap joined (take_all (next - from) (drop from us) l) in
        let n : from + (next - from) ≡ next = omega (arith, a.on) in
        record {
          buffer = buffer_is (units_from from (next - from) us) t a.puts ∙ ap (λ (x : List ℕ). filled x b) w;
          part = rw (r, ← a.exact, n);
        }

    module _ (u : Text) (k : next < length us) (p : u ≡ put (get_or us next []) t) where
      whole : u ≡ put (units_from from (next + 1 - from) us) (begun s)
      whole =
          p ∙ ap (put (get_or us next [])) a.puts
          ∙ put_put (units_from from (next - from) us) (get_or us next []) (begun s)
          ∙ ap (λ (x : List ℕ). put x (begun s)) (one_more us from next a.on k)

      long : length u.buffer.now ≡ length s.now
      long = ap length (buffer_is (units_from from (next + 1 - from) us) u whole) ∙ length_filled (units_from from (next + 1 - from) us) s.now

      count : u.held ≡ min (length (units_from from (next + 1 - from) us)) (length s.now)
      count = held_is (units_from from (next + 1 - from) us) u whole

      longer : length (units_from from (next + 1 - from) us) ≡ t.held + length (get_or us next [])
      longer =
          ap length (sym (one_more us from next a.on k))
          ∙ length-append (units_from from (next - from) us) (get_or us next [])
          ∙ ap (λ (j : ℕ). j + length (get_or us next [])) (sym a.exact)

      at_next : drop next us ≡ get_or us next [] ∷ drop (next + 1) us
      at_next = drop-cons us next [] k ∙ ap (λ (j : ℕ). get_or us next [] ∷ drop j us) (sym (add-one next))

      -- a unit that ends before the buffer does
      pub along_more : u.held < length u.buffer.now → Along us from s (next + 1) u
      along_more h =
          let b = s.now in
          let m : u.held ≡ t.held + length (get_or us next []) = omega (arith, count, longer, long, h) in
          let f : length (get_or us next []) < length b - t.held = omega (arith, m, long, h) in
          let g : length b - u.held ≡ length b - t.held - length (get_or us next []) = omega (arith, m) in
          let r = ap (λ (j : ℕ). reach j (drop (next + 1) us)) g in
          record {
            on = omega (arith, a.on);
            puts = whole;
            exact = m ∙ sym longer;
            far = a.far ∙ rw (at_next, lt-ltb _ _ f) (omega (arith, r, a.on));
          }

      -- one that does not
      pub along_full : length u.buffer.now ≤ u.held → Lays us from s.now u.buffer.now (record { held = t.held; next = next })
      unfolding part_of
      along_full h =
          let b = s.now in
          let f : length b - t.held ≤ length (get_or us next []) = omega (arith, count, longer, long, h) in
          let r : reach (length b) (drop from us) ≡ next - from = a.far ∙ rw (at_next, le-ltb _ _ f, add-zero) in
          let m : from + (next - from) ≡ next = omega (arith, a.on) in
          let l : length b ≤ length (units_from from (next + 1 - from) us) = omega (arith, count, long, h) in
          record {
            buffer =
                buffer_is (units_from from (next + 1 - from) us) u whole
                ∙ sym (filled_full (units_from from (next + 1 - from) us) (joined (drop (next + 1 - from) (drop from us))) b l)
                ∙ ap (λ (x : List ℕ). filled x b) (joined_split (next + 1 - from) (drop from us));
            part = rw (r, ← a.exact, m);
          }

-- what a text leaves in the buffer that it was begun in
pub lays_as : {us : List (List ℕ)} {from next h k : ℕ} {b c d e : List ℕ} → c ≡ d → b ≡ e → h ≡ k
    → Lays us from e d (record { held = k; next = next }) → Lays us from b c (record { held = h; next = next })
lays_as p q r l = rw (p, q, r) l

-- ---- a part is whole units, and parts one after the other are the text
reach_within : (n : ℕ) (us : List (List ℕ)) → length (joined (take (reach n us) us)) ≤ n
reach_within n [] = omega arith
reach_within n (u ∷ us) =
    by_cases (ltb (length u) n)
    (λ t. let h : length u < n = ltb-true (length u) n t in
    rw (t, length-append u (joined (take (reach (n - length u) us) us)))
    (omega (arith, reach_within (n - length u) us)))
    (λ f. rw f (omega arith))

-- the first bytes of the buffer, as many as the part has, are its units
pub part_is : {us : List (List ℕ)} {from : ℕ} {b c : List ℕ} {r : Part} → Lays us from b c r
    → take r.held c ≡ units_from from (r.next - from) us
unfolding part_of
part_is {us} {from} {b} {c} {r} l =
    let k = reach (length b) (drop from us) in
    let t = units_from from k us in
    let e : r.held ≡ length t = ap (λ (p : Part). p.held) l.part in
    let n : r.next ≡ from + k = ap (λ (p : Part). p.next) l.part in
    let m : k ≡ r.next - from = omega (arith, n) in
    let f : length t ≤ length b = reach_within (length b) (drop from us) in
    let w : take (length t) (filled (t ++ joined (drop k (drop from us))) b) ≡ t = take_filled t (joined (drop k (drop from us))) b f in
    rw (e, l.buffer, ← joined_split k (drop from us), w) (ap (λ (j : ℕ). units_from from j us) m)

pub part_within : {us : List (List ℕ)} {from : ℕ} {b c : List ℕ} {r : Part} → Lays us from b c r → r.held ≤ length c
unfolding part_of
part_within {us} {from} {b} {c} {r} l =
    let e : length c ≡ length b = ap length l.buffer ∙ length_filled (joined (drop from us)) b in
    omega (arith, e, ap (λ (p : Part). p.held) l.part, reach_within (length b) (drop from us))

pub part_on : {us : List (List ℕ)} {from : ℕ} {b c : List ℕ} {r : Part} → Lays us from b c r → from ≤ r.next
unfolding part_of
part_on {us} {from} {b} {c} {r} l = omega (arith, ap (λ (p : Part). p.next) l.part)

-- and what comes after it is what is left
pub part_then : (us : List (List ℕ)) (from next : ℕ) → from ≤ next
    → units_from from (next - from) us ++ joined (drop next us) ≡ joined (drop from us)
part_then us from next h =
    let e : from + (next - from) ≡ next = omega arith in
    ap (λ (l : List (List ℕ)). units_from from (next - from) us ++ joined l)
    (sym (drop-drop (next - from) from us ∙ ap (λ (j : ℕ). drop j us) e))
    ∙ joined_split (next - from) (drop from us)

-- ---- what the program's loop writes: m parts one after the other, through a buffer of n bytes
abbrev pub in_parts : ℕ → ℕ → ℕ → List (List ℕ) → List ℕ
in_parts n zero from us = []
in_parts n (suc m) from us = units_from from (reach n (drop from us)) us ++ in_parts n m (from + reach n (drop from us)) us

-- a unit that is shorter than the buffer is in the next part
reach_some : (n : ℕ) (us : List (List ℕ)) → 0 < length us → length (get_or us 0 []) < n → 0 < reach n us
reach_some n [] h l = h
reach_some n (u ∷ us) h l = rw (lt-ltb (length u) n l) (omega arith)

-- where every unit is shorter than the buffer, as many parts as there are units are the whole text
pub all_parts : (n m from : ℕ) (us : List (List ℕ)) → ((i : ℕ) → i < length us → length (get_or us i []) < n) → length us ≤ from + m
    → in_parts n m from us ≡ joined (drop from us)
all_parts n zero from us s h = sym (ap joined (drop_of_length-le us {i = from} (omega arith)))
all_parts n (suc m) from us s h =
    let k = reach n (drop from us) in
    elim (dec_le (length us) from) [
      | yes l ↦
          let e : drop from us ≡ [] = drop_of_length-le us l in
          rw e (ap (λ (j : ℕ). in_parts n m j us) (add-zero from) ∙ all_parts n m from us s (omega arith) ∙ rw e)
      | no l ↦
          let q : from < length us = omega arith in
          let f : get_or (drop from us) 0 [] ≡ get_or us from [] = get_or-drop from us 0 [] ∙ ap (λ (j : ℕ). get_or us j []) (add-zero from) in
          let g : 0 < k = reach_some n (drop from us) (omega (arith, length-drop from us)) (rw f (s from q)) in
          let o : from + k - from ≡ k = add-sub_cancel_left from k in
          ap (λ (t : List ℕ). units_from from k us ++ t) (all_parts n m (from + k) us s (omega arith))
          ∙ (rw o at (part_then us from (from + k) (omega arith)))
    ]
