-- What drawing leaves in the picture: the grey of each state at the top, whatever stood there.
use mathlib.Core.Path.{◌≡◌, refl, sym, ap, ◌∙◌}
use mathlib.Core.List.{List, [], ◌∷◌, map}
use Prim.Native.Nat.{ℕ, ◌≤◌, ◌<◌}
use native.Mathlib.Omega.{arith}
use lib.IntN.{ℤ, pos}
use lib.ListN.{length, get_or}
use Rattle.base.specs.Integer.{up}
use Rattle.glass.specs.Gray.{gray_at, gray_of}
use Rattle.pixels.specs.Draw.{drawn_at, drawn}
use Rattle.pixels.proofs.ListLaws.{beside_length, beside_at, beside_past}

module _ (t s : ℕ) (states : List ℤ) (picture : List ℕ) where
  pub wide_length : length (drawn_at t s states picture) ≡ length picture
  wide_length = beside_length (λ (z : ℤ) (g : ℕ). gray_at t (up z) s) states picture

  pub wide_at : (i : ℕ) → i < length states → i < length picture
      → get_or (drawn_at t s states picture) i 0 ≡ gray_at t (up (get_or states i (pos 0))) s
  wide_at i h k = beside_at (λ (z : ℤ) (g : ℕ). gray_at t (up z) s) i states picture (pos 0) 0 h k

  pub wide_past : (i : ℕ) → length states ≤ i → get_or (drawn_at t s states picture) i 0 ≡ get_or picture i 0
  wide_past i h = beside_past (λ (z : ℤ) (g : ℕ). gray_at t (up z) s) i states picture 0 h

-- a picture with an entry for each state is drawn whole
pub wide_whole : (t s : ℕ) (states : List ℤ) (picture : List ℕ) → length picture ≡ length states
    → drawn_at t s states picture ≡ map (λ (z : ℤ). gray_at t (up z) s) states
wide_whole t s [] [] e = refl
wide_whole t s [] (g ∷ picture) e = absurd (omega arith)
wide_whole t s (z ∷ states) [] e = absurd (omega arith)
wide_whole t s (z ∷ states) (g ∷ picture) e = ap (λ (l : List ℕ). gray_at t (up z) s ∷ l) (wide_whole t s states picture (omega arith))

-- ---- at the top 255
module _ (s : ℕ) (states : List ℤ) (picture : List ℕ) where
  pub drawn_length : length (drawn s states picture) ≡ length picture
  drawn_length = wide_length 255 s states picture

  pub drawn_at_lem : (i : ℕ) → i < length states → i < length picture
      → get_or (drawn s states picture) i 0 ≡ gray_of (up (get_or states i (pos 0))) s
  drawn_at_lem i h k = wide_at 255 s states picture i h k

  pub drawn_past : (i : ℕ) → length states ≤ i → get_or (drawn s states picture) i 0 ≡ get_or picture i 0
  drawn_past i h = wide_past 255 s states picture i h

  pub drawn_whole : length picture ≡ length states → drawn s states picture ≡ map (λ (z : ℤ). gray_of (up z) s) states
  drawn_whole e = wide_whole 255 s states picture e

-- the picture at the top 255 is the picture of document 01, whatever stood in the two
pub wide_drawn : (s : ℕ) (states : List ℤ) (wide picture : List ℕ) → length wide ≡ length states → length picture ≡ length states
    → drawn_at 255 s states wide ≡ drawn s states picture
wide_drawn s states wide picture e f = wide_whole 255 s states wide e ∙ sym (wide_whole 255 s states picture f)
