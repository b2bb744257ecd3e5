-- Text put into a buffer: one text after another is the two joined, so that a chain of puts is one put.
use mathlib.Core.Path.{◌≡◌, refl, sym, ap, ◌∙◌}
use mathlib.Core.List.{List, [], ◌∷◌, ◌++◌, append-nil, append_assoc}
use Prim.Native.Nat.{ℕ, zero, suc, ◌+◌, ◌-◌, ◌≤◌, ◌<◌, min}
use native.Mathlib.Nat.{zero-add, add-zero, suc-add, zero-min, suc-min-suc, not-suc-le-zero, le_of_suc-le-suc}
use native.Mathlib.Omega.{arith}
use borrow.Rule.Slice.Mut.{set_vals}
use borrow.Rule.Slice.PartMut.{put_mid}
use lib.ListN.{length, take, drop, set, length-append, length-take, length-drop, drop_of_length-le}
use lib.Seq.{take-nil, drop-nil, take_all, take-take, take-append-le, take-append_seam, drop-drop}
use Rattle.std.proofs.lemmas.List.{take_min, drop_min, take-append-drop}
use Rattle.text.specs.declared.Text.{Text}
use Rattle.text.specs.Text.{filled, laid, put}

-- ---- over the start of a buffer
pub filled_nil : (b : List ℕ) → filled [] b ≡ b
unfolding filled
filled_nil b = rw take-nil

pub filled_none : (t : List ℕ) → filled t [] ≡ []
unfolding filled
filled_none t = drop-nil (length t)

pub filled_cons : (a c : ℕ) (t b : List ℕ) → filled (a ∷ t) (c ∷ b) ≡ a ∷ filled t b
unfolding filled
filled_cons a c t b = refl

pub length_filled : (t b : List ℕ) → length (filled t b) ≡ length b
unfolding filled
length_filled t b = length-append (take (length b) t) (drop (length t) b) ∙ simp (length-take, length-drop) (omega arith)

-- ---- from a place on
pub laid_zero : (x b : List ℕ) → laid 0 x b ≡ filled x b
unfolding laid
laid_zero x b = refl

pub laid_none : (h : ℕ) (x : List ℕ) → laid h x [] ≡ []
unfolding laid
laid_none h x = rw (take-nil, drop-nil) (filled_none x)

pub laid_cons : (h c : ℕ) (x b : List ℕ) → laid (suc h) x (c ∷ b) ≡ c ∷ laid h x b
unfolding laid
laid_cons h c x b = refl

-- a text and then another from its end on is the two joined
filled_more : (t x b : List ℕ) → laid (min (length t) (length b)) x (filled t b) ≡ filled (t ++ x) b
filled_more [] x b = rw (zero-min, filled_nil) (laid_zero x b)
filled_more (a ∷ t) x [] = rw filled_none (laid_none _ x ∙ sym (filled_none (a ∷ t ++ x)))
filled_more (a ∷ t) x (c ∷ b) =
    rw (suc-min-suc, filled_cons a c t b, laid_cons (min (length t) (length b)) a x (filled t b), filled_cons a c (t ++ x) b)
    (ap (λ (l : List ℕ). a ∷ l) (filled_more t x b))

pub length_laid : (h : ℕ) (x b : List ℕ) → length (laid h x b) ≡ length b
length_laid zero x b = rw laid_zero (length_filled x b)
length_laid (suc h) x [] = rw laid_none
length_laid (suc h) x (c ∷ b) = rw laid_cons (ap suc (length_laid h x b))

laid_then : (h : ℕ) (x y b : List ℕ) → laid (min (h + length x) (length b)) y (laid h x b) ≡ laid h (x ++ y) b
laid_then zero x y b = rw (zero-add, laid_zero x b, laid_zero (x ++ y) b) (filled_more x y b)
laid_then (suc h) x y [] = rw (laid_none, laid_none, laid_none)
laid_then (suc h) x y (c ∷ b) =
    rw (suc-add, suc-min-suc, laid_cons h c x b, laid_cons (min (h + length x) (length b)) c y (laid h x b), laid_cons h c (x ++ y) b)
    (ap (λ (l : List ℕ). c ∷ l) (laid_then h x y b))

-- a place past the end is the end
laid_min : (h : ℕ) (x b : List ℕ) → laid (min h (length b)) x b ≡ laid h x b
unfolding laid
laid_min h x b = rw (take_min, drop_min)

-- nothing is laid
laid_nothing : (h : ℕ) (b : List ℕ) → laid h [] b ≡ b
laid_nothing zero b = laid_zero [] b ∙ filled_nil b
laid_nothing (suc h) [] = laid_none (suc h) []
laid_nothing (suc h) (c ∷ b) = laid_cons h c [] b ∙ ap (λ (l : List ℕ). c ∷ l) (laid_nothing h b)

-- the buffer is full
laid_full : (h : ℕ) (x b : List ℕ) → length b ≤ h → laid h x b ≡ b
unfolding laid
laid_full h x b l = rw (take_all h b l, drop_of_length-le b l, filled_none) (append-nil b)

laid_byte : (a h : ℕ) (b : List ℕ) → h < length b → set b h a ≡ laid h (a ∷ []) b
laid_byte a h [] l = absurd (not-suc-le-zero l)
laid_byte a zero (c ∷ b) l = sym (laid_zero (a ∷ []) (c ∷ b) ∙ filled_cons a c [] b ∙ ap (λ (l : List ℕ). a ∷ l) (filled_nil b))
laid_byte a (suc h) (c ∷ b) l = ap (λ (l : List ℕ). c ∷ l) (laid_byte a h b (le_of_suc-le-suc l)) ∙ sym (laid_cons h c (a ∷ []) b)

-- as much is copied as there is room for
laid_room : (x b : List ℕ) (h n : ℕ) → n ≡ min (length x) (length b - h) → laid h x b ≡ take h b ++ (take n x ++ drop (h + n) b)
unfolding laid filled
laid_room x b h n f =
    let k : min (h + n) (length b) ≡ min (h + length x) (length b) = omega arith in
    let d : drop (h + n) b ≡ drop (h + length x) b = sym (drop_min (h + n) b) ∙ ap (λ (i : ℕ). drop i b) k ∙ drop_min (h + length x) b in
    let r : n ≡ min (length b - h) (length x) = omega arith in
    rw (d, r, take_min, length-drop, drop-drop)

-- ---- what comes after a text that fills the buffer is left out
pub filled_full : (t x b : List ℕ) → length b ≤ length t → filled (t ++ x) b ≡ filled t b
filled_full t x b l =
    sym (filled_more t x b) ∙ laid_full (min (length t) (length b)) x (filled t b) (omega (arith, length_filled t b))

-- a text that finds room stands at the start of the buffer
pub take_filled : (t x b : List ℕ) → length t ≤ length b → take (length t) (filled (t ++ x) b) ≡ t
unfolding filled
take_filled t x b l =
    let h : length t ≤ length (take (length b) (t ++ x)) = omega (arith, length-take (length b) (t ++ x), length-append t x) in
    take-append-le (length t) (take (length b) (t ++ x)) (drop (length (t ++ x)) b) h
    ∙ take-take (length t) (length b) (t ++ x) l
    ∙ take-append_seam t x

-- ---- texts: two puts, one after the other, are one of the two joined
pub put_put : (x y : List ℕ) (t : Text) → put y (put x t) ≡ put (x ++ y) t
unfolding put
put_put x y t =
    let b = t.buffer.now in
    let h = t.held in
    let more = min (length x) (length b - h) in
    let long : length (laid h x b) ≡ length b = length_laid h x b in
    let e : min (h + more) (length b) ≡ min (h + length x) (length b) = omega arith in
    let l : laid (h + more) y (laid h x b) ≡ laid h (x ++ y) b =
    sym (laid_min (h + more) y (laid h x b)) ∙ rw (long, e) (laid_then h x y b) in
    let n : h + more + min (length y) (length b - (h + more)) ≡ h + min (length (x ++ y)) (length b - h) = omega (arith, length-append x y) in
    rw (long, l, n)

-- nothing is put
pub put_nothing : (t : Text) → put [] t ≡ t
unfolding put
put_nothing t = rw (laid_nothing t.held t.buffer.now, zero-min, add-zero)

-- what is held then, and what the buffer has, which is the same buffer
pub put_held : (x : List ℕ) (t : Text) → (put x t).held ≡ t.held + min (length x) (length t.buffer.now - t.held)
unfolding put
put_held x t = refl

pub put_buffer : (x : List ℕ) (t : Text) → (put x t).buffer.now ≡ laid t.held x t.buffer.now
unfolding put
put_buffer x t = refl

pub put_same : (x : List ℕ) (t : Text) → (put x t).buffer.ghost_name ≡ t.buffer.ghost_name
unfolding put
put_same x t = refl

-- there is no room, or some
pub put_full : (t : Text) (x : List ℕ) → min (length x) (length t.buffer.now - t.held) ≡ 0 → t ≡ put x t
unfolding put
put_full t x n =
    let e : laid t.held x t.buffer.now ≡ t.buffer.now =
    rw (laid_room x t.buffer.now t.held 0 (sym n), add-zero) (take-append-drop t.held t.buffer.now) in
    rw (n, e, add-zero)

pub put_byte : (t : Text) (a : ℕ) → t.held < length t.buffer.now
    → record { buffer = set_vals (set t.buffer.now t.held a) t.buffer; held = t.held + 1 } ≡ put (a ∷ []) t
unfolding put
put_byte t a l =
    let n : min 1 (length t.buffer.now - t.held) ≡ 1 = omega arith in
    rw (← laid_byte a t.held t.buffer.now l, n)

pub put_room : (t : Text) (x : List ℕ) (n : ℕ) (part : List ℕ) → n ≡ min (length x) (length t.buffer.now - t.held) → part ≡ take n x
    → record { buffer = set_vals (put_mid t.held (t.held + n - t.held) t.buffer.now part) t.buffer; held = t.held + n } ≡ put x t
unfolding put
put_room t x n part g h =
    let k : t.held + n - t.held ≡ n = omega arith in
    rw (laid_room x t.buffer.now t.held n g, ← g, k, h, drop-drop)

-- what a chain of puts comes to, and what it leaves behind its buffer
pub ruleset puts = (put_put, put_nothing, put_buffer, put_same, put_held, append-nil, append_assoc)
