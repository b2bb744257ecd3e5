-- The front of what is lent, of the panel's size or as far as there is room: cut by the smaller of the two.
use mathlib.Core.Path.{◌≡◌, sym, ap, ◌∙◌}
use mathlib.Core.List.{List, ◌++◌}
use Prim.Native.Nat.{ℕ, ◌≤◌, min}
use native.Mathlib.Decide.{dec_le}
use native.Mathlib.Omega.{arith}
use lib.IntN.{ℤ, pos}
use lib.ListN.{length, take, drop, replicate, length-take, length-replicate, drop_of_length-le}
use lib.Seq.{take_all, length-take-le}
use Rattle.config.specs.declared.Uc8253Config.{Uc8253Config}
use Rattle.capture.specs.Layout.{config_in, pixel_count}
use Rattle.controller.specs.World.{Buffers, buffers}
use Rattle.output.specs.declared.Form.{Form}
use Rattle.showing.specs.Played.{played}
use Rattle.showing.specs.Shown.{panel_size, fitted, left_by, sizes_of, Fits}

module _ {A : Type 0} (l : List A) (p : ℕ) where
  pub take_cut : take (min p (length l)) l ≡ take p l
  take_cut = elim (dec_le p (length l)) [
    | yes h ↦ let e : min p (length l) ≡ p = omega arith in ap (λ (n : ℕ). take n l) e
    | no h ↦
        let e : min p (length l) ≡ length l = omega arith in
        ap (λ (n : ℕ). take n l) e ∙ take_all (length l) l (omega arith) ∙ sym (take_all p l (omega arith))
  ]

  pub drop_cut : drop (min p (length l)) l ≡ drop p l
  drop_cut = elim (dec_le p (length l)) [
    | yes h ↦ let e : min p (length l) ≡ p = omega arith in ap (λ (n : ℕ). drop n l) e
    | no h ↦
        let e : min p (length l) ≡ length l = omega arith in
        let whole : length l ≤ length l = omega arith in
        let past : length l ≤ p = omega arith in
        ap (λ (n : ℕ). drop n l) e ∙ drop_of_length-le l whole ∙ sym (drop_of_length-le l past)
  ]

-- a part has its length
pub length_front : {A : Type 0} (n : ℕ) (l : List A) → n ≤ length l → n ≡ length (take n l)
length_front n l h = sym (length-take-le n l h)

same_long : {A B : Type 0} (l : List A) (x : B) (p : ℕ) → length (take p l) ≡ length (take p (replicate (length l) x))
same_long l x p = omega (arith, length-take p l, length-take p (replicate (length l) x), length-replicate (length l) x)

-- the panel that was read
pub size_read : (file : List ℕ) (g : Uc8253Config) (n : ℕ) → g ≡ config_in file → n ≡ pixel_count g → n ≡ panel_size file
unfolding panel_size
size_read file g n e h = h ∙ ap pixel_count e

module _ (file : List ℕ) (b : Buffers) where
  pub fits_front : Fits file (sizes_of b) (fitted file b)
  fits_front = λ i. record {
    old = sym (length-replicate {A = ℕ} (length b.old) 0) i;
    new = sym (length-replicate {A = ℕ} (length b.new) 0) i;
    states = same_long b.states (pos 0) (panel_size file) i;
    picture = same_long {B = ℕ} b.picture 0 (panel_size file) i;
    rows = sym (length-replicate {A = ℕ} (length b.rows) 0) i;
  }

-- ---- what a job cuts off and gives back: n and q entries of the states and the picture
module _ (file : List ℕ) (b : Buffers) (p n q : ℕ) (ep : p ≡ panel_size file)
    (en : n ≡ min p (length b.states)) (eq : q ≡ min p (length b.picture)) where
  cut_is : {A : Type 0} (l : List A) (m : ℕ) → m ≡ min p (length l) → take m l ≡ take (panel_size file) l
  cut_is l m e = ap (λ (j : ℕ). take j l) e ∙ take_cut l p ∙ ap (λ (j : ℕ). take j l) ep

  rest_is : {A : Type 0} (l : List A) (m : ℕ) → m ≡ min p (length l) → drop m l ≡ drop (panel_size file) l
  rest_is l m e = ap (λ (j : ℕ). drop j l) e ∙ drop_cut l p ∙ ap (λ (j : ℕ). drop j l) ep

  front : Buffers
  front = buffers b.old b.new (take n b.states) (take q b.picture) b.rows

  front_is : front ≡ fitted file b
  unfolding front
  front_is = λ i. buffers b.old b.new (cut_is b.states n en i) (cut_is b.picture q eq i) b.rows

  pub fits_cut : Fits file (sizes_of b) (buffers b.old b.new (take n b.states) (take q b.picture) b.rows)
  unfolding front
  fits_cut = ap sizes_of front_is ∙ fits_front file b

  pub left_by_lem : (f : Form) (x : Buffers)
      → x ≡ (played f file (buffers b.old b.new (take n b.states) (take q b.picture) b.rows)).lent
      → (
      buffers x.old x.new (x.states ++ drop n b.states) (x.picture ++ drop q b.picture) x.rows
      ≡ left_by f file b
      )
  unfolding front
  left_by_lem f x e =
      let y = e ∙ ap (λ (c : Buffers). (played f file c).lent) front_is in
      λ i. buffers (y i).old (y i).new ((y i).states ++ rest_is b.states n en i) ((y i).picture ++ rest_is b.picture q eq i)
      (y i).rows

-- what is left in each slice that a struct held
pub left_in : {o o₂ n n₂ p p₂ r r₂ : List ℕ} {s s₂ : List ℤ} {b : Buffers} → o ≡ o₂ → n ≡ n₂ → s ≡ s₂ → p ≡ p₂ → r ≡ r₂
    → buffers o₂ n₂ s₂ p₂ r₂ ≡ b → buffers o n s p r ≡ b
left_in o n s p r e = rw (o, n, s, p, r) e
