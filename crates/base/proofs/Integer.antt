-- The laws of an integer's parts, by which `omega` proves what is linear over ℤ: each operation's parts by the parts of its arguments.
use mathlib.Core.Path.{◌≡◌, refl, sym, ap, ◌∙◌}
use mathlib.Core.Bool.{Bool, true, false, not, cond}
use Prim.Native.Nat.{ℕ, zero, suc, ◌+◌, ◌-◌, ◌*◌, ◌≤◌, min, max}
use native.Mathlib.Nat.{mul-zero}
use native.Mathlib.Omega.{arith}
use lib.Dec.{T, ltb, ltb→lt, nltb→le, le→leb, leb→le}
use lib.IntN.{ℤ, pos, negsuc, neg_ℤ, sub_ℕ, ◌+ℤ◌, ◌-ℤ◌, ◌*ℤ◌, +ℤ_assoc, +ℤ_comm, neg_ℤ-+ℤ, neg_ℤ-neg_ℤ}
use lib.Signed.{◌≤ℤ◌}
use Rattle.base.specs.Integer.{up, dn, maxℤ, minℤ}

cond_ind : (c : Bool) (x y : ℤ) (P : ℤ → Type 0) → (T c → P x) → (T (not c) → P y) → P (cond c x y)
cond_ind true x y P f g = f tt
cond_ind false x y P f g = g tt

pub sub_up : (a b : ℕ) → up (sub_ℕ a b) ≡ a - b
sub_up a b = cond_ind (ltb a b) (negsuc (b - suc a)) (pos (a - b)) (λ z. up z ≡ a - b)
    (λ t. let h = ltb→lt a b t in omega arith) (λ t. refl)

pub sub_dn : (a b : ℕ) → dn (sub_ℕ a b) ≡ b - a
sub_dn a b = cond_ind (ltb a b) (negsuc (b - suc a)) (pos (a - b)) (λ z. dn z ≡ b - a)
    (λ t. let h = ltb→lt a b t in omega arith) (λ t. let h = nltb→le a b t in omega arith)

-- a sum, above zero and below
pub up_add : (a b : ℤ) → up (a +ℤ b) ≡ up a + up b - (dn a + dn b)
up_add (pos a) (pos b) = omega arith
up_add (pos a) (negsuc b) = omega (arith, sub_up a (suc b))
up_add (negsuc a) (pos b) = omega (arith, sub_up b (suc a))
up_add (negsuc a) (negsuc b) = omega arith

pub dn_add : (a b : ℤ) → dn (a +ℤ b) ≡ dn a + dn b - (up a + up b)
dn_add (pos a) (pos b) = omega arith
dn_add (pos a) (negsuc b) = omega (arith, sub_dn a (suc b))
dn_add (negsuc a) (pos b) = omega (arith, sub_dn b (suc a))
dn_add (negsuc a) (negsuc b) = omega arith

-- two integers with the same parts are the same
pub same : (a b : ℤ) → up a ≡ up b → dn a ≡ dn b → a ≡ b
same (pos a) (pos b) p q = ap pos p
same (pos a) (negsuc b) p q = absurd (omega arith)
same (negsuc a) (pos b) p q = absurd (omega arith)
same (negsuc a) (negsuc b) p q = ap negsuc (omega arith)

-- the negation, and n times
pub up_neg : (a : ℤ) → up (neg_ℤ a) ≡ dn a
up_neg (pos zero) = refl
up_neg (pos (suc n)) = refl
up_neg (negsuc n) = refl

pub dn_neg : (a : ℤ) → dn (neg_ℤ a) ≡ up a
dn_neg (pos zero) = refl
dn_neg (pos (suc n)) = refl
dn_neg (negsuc n) = refl

pub up_times : (n : ℕ) (d : ℤ) → up (pos n *ℤ d) ≡ n * up d
up_times n (pos k) = refl
up_times n (negsuc k) = omega (arith, up_neg (pos (n * suc k)), mul-zero n)

pub dn_times : (n : ℕ) (d : ℤ) → dn (pos n *ℤ d) ≡ n * dn d
dn_times n (pos k) = omega (arith, mul-zero n)
dn_times n (negsuc k) = dn_neg (pos (n * suc k))

-- ---- order

pub le_parts : {a b : ℤ} → a ≤ℤ b → up a + dn b ≤ up b + dn a
le_parts {a = pos a} {b = pos b} h = omega (arith, leb→le a b h.le)
le_parts {a = pos a} {b = negsuc b} h = absurd h.le
le_parts {a = negsuc a} {b = pos b} h = omega arith
le_parts {a = negsuc a} {b = negsuc b} h = omega (arith, leb→le b a h.le)

pub parts_le : (a b : ℤ) → up a + dn b ≤ up b + dn a → a ≤ℤ b
parts_le (pos a) (pos b) h = record { le = le→leb a b (omega arith) }
parts_le (pos a) (negsuc b) h = absurd (omega arith)
parts_le (negsuc a) (pos b) h = record { le = tt }
parts_le (negsuc a) (negsuc b) h = record { le = le→leb b a (omega arith) }

pub up_max : (a b : ℤ) → up (maxℤ a b) ≡ max (up a) (up b)
up_max (pos a) (pos b) = refl
up_max (pos a) (negsuc b) = omega arith
up_max (negsuc a) (pos b) = omega arith
up_max (negsuc a) (negsuc b) = omega arith

pub dn_max : (a b : ℤ) → dn (maxℤ a b) ≡ min (dn a) (dn b)
dn_max (pos a) (pos b) = omega arith
dn_max (pos a) (negsuc b) = omega arith
dn_max (negsuc a) (pos b) = omega arith
dn_max (negsuc a) (negsuc b) = omega arith

pub up_min : (a b : ℤ) → up (minℤ a b) ≡ min (up a) (up b)
up_min (pos a) (pos b) = refl
up_min (pos a) (negsuc b) = omega arith
up_min (negsuc a) (pos b) = omega arith
up_min (negsuc a) (negsuc b) = omega arith

pub dn_min : (a b : ℤ) → dn (minℤ a b) ≡ max (dn a) (dn b)
dn_min (pos a) (pos b) = omega arith
dn_min (pos a) (negsuc b) = omega arith
dn_min (negsuc a) (pos b) = omega arith
dn_min (negsuc a) (negsuc b) = omega arith

pub pos_le : {m n : ℕ} → pos m ≤ℤ pos n → m ≤ n
pos_le h = omega (arith, le_parts h)

pub le_pos : {m n : ℕ} → m ≤ n → pos m ≤ℤ pos n
le_pos {m} {n} h = parts_le (pos m) (pos n) (omega arith)

-- the larger of z and z + w, the smaller of z and z - w
pub max_plus : (z w : ℤ) → maxℤ z (z +ℤ w) ≡ z +ℤ pos (up w)
max_plus z w = same (maxℤ z (z +ℤ w)) (z +ℤ pos (up w)) (above z w) (below z w)
  where
    above : (z w : ℤ) → up (maxℤ z (z +ℤ w)) ≡ up (z +ℤ pos (up w))
    above (pos a) (pos b) = omega arith
    above (pos a) (negsuc b) = omega (arith, up_max (pos a) (pos a +ℤ negsuc b), up_add (pos a) (negsuc b))
    above (negsuc a) (pos b) = omega (arith, up_max (negsuc a) (negsuc a +ℤ pos b))
    above (negsuc a) (negsuc b) = omega (arith, up_add (negsuc a) (pos 0))

    below : (z w : ℤ) → dn (maxℤ z (z +ℤ w)) ≡ dn (z +ℤ pos (up w))
    below (pos a) (pos b) = omega arith
    below (pos a) (negsuc b) = omega (arith, dn_max (pos a) (pos a +ℤ negsuc b))
    below (negsuc a) (pos b) = omega (arith, dn_max (negsuc a) (negsuc a +ℤ pos b), dn_add (negsuc a) (pos b))
    below (negsuc a) (negsuc b) = omega (arith, dn_add (negsuc a) (pos 0))

pub min_is : (a b : ℤ) → minℤ a b ≡ neg_ℤ (maxℤ (neg_ℤ a) (neg_ℤ b))
min_is a b = same (minℤ a b) (neg_ℤ (maxℤ (neg_ℤ a) (neg_ℤ b)))
    (omega (arith, up_min a b, up_neg (maxℤ (neg_ℤ a) (neg_ℤ b)), dn_max (neg_ℤ a) (neg_ℤ b), dn_neg a, dn_neg b))
    (omega (arith, dn_min a b, dn_neg (maxℤ (neg_ℤ a) (neg_ℤ b)), up_max (neg_ℤ a) (neg_ℤ b), up_neg a, up_neg b))

pub min_minus : (z w : ℤ) → minℤ z (z -ℤ w) ≡ z -ℤ pos (up w)
min_minus z w =
    min_is z (z -ℤ w)
    ∙ ap (λ (v : ℤ). neg_ℤ (maxℤ (neg_ℤ z) v)) (neg_ℤ-+ℤ z (neg_ℤ w) ∙ ap (λ (v : ℤ). neg_ℤ z +ℤ v) (neg_ℤ-neg_ℤ w))
    ∙ ap neg_ℤ (max_plus (neg_ℤ z) w)
    ∙ neg_ℤ-+ℤ (neg_ℤ z) (pos (up w))
    ∙ ap (λ (v : ℤ). v +ℤ neg_ℤ (pos (up w))) (neg_ℤ-neg_ℤ z)

pub minus_minus : (z d f : ℤ) → z +ℤ d -ℤ f ≡ z -ℤ (f -ℤ d)
minus_minus z d f =
    +ℤ_assoc z d (neg_ℤ f)
    ∙ ap (λ (v : ℤ). z +ℤ v) (+ℤ_comm d (neg_ℤ f) ∙ ap (λ (v : ℤ). neg_ℤ f +ℤ v) (sym (neg_ℤ-neg_ℤ d)) ∙ sym (neg_ℤ-+ℤ f (neg_ℤ d)))

pub up_sub : (a b : ℤ) → up (a -ℤ b) ≡ up a + dn b - (dn a + up b)
up_sub a b = omega (arith, up_add a (neg_ℤ b), up_neg b, dn_neg b)

pub dn_sub : (a b : ℤ) → dn (a -ℤ b) ≡ dn a + up b - (up a + dn b)
dn_sub a b = omega (arith, dn_add a (neg_ℤ b), up_neg b, dn_neg b)

-- ---- sums of differences
pub sub_add : (a b c d : ℕ) → sub_ℕ a b +ℤ sub_ℕ c d ≡ sub_ℕ (a + c) (b + d)
sub_add a b c d = same (sub_ℕ a b +ℤ sub_ℕ c d) (sub_ℕ (a + c) (b + d))
    (up_add (sub_ℕ a b) (sub_ℕ c d) ∙ above ∙ sym (sub_up (a + c) (b + d)))
    (dn_add (sub_ℕ a b) (sub_ℕ c d) ∙ below ∙ sym (sub_dn (a + c) (b + d)))
  where
    parts : (a b c d : ℕ) → (a - b) + (c - d) - ((b - a) + (d - c)) ≡ a + c - (b + d)
    parts a b c d = omega arith

    above : up (sub_ℕ a b) + up (sub_ℕ c d) - (dn (sub_ℕ a b) + dn (sub_ℕ c d)) ≡ a + c - (b + d)
    above = simp (sub_up, sub_dn) (parts a b c d)

    below : dn (sub_ℕ a b) + dn (sub_ℕ c d) - (up (sub_ℕ a b) + up (sub_ℕ c d)) ≡ b + d - (a + c)
    below = simp (sub_up, sub_dn) (parts b a d c)

pub pos_sub : (x a b : ℕ) → pos x +ℤ sub_ℕ a b ≡ sub_ℕ (x + a) b
pos_sub x a b = same (pos x +ℤ sub_ℕ a b) (sub_ℕ (x + a) b)
    (omega (arith, up_add (pos x) (sub_ℕ a b), sub_up a b, sub_dn a b, sub_up (x + a) b))
    (omega (arith, dn_add (pos x) (sub_ℕ a b), sub_up a b, sub_dn a b, sub_dn (x + a) b))
