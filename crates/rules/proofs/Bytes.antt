-- What a read gives at an index: the bytes of each command that gives some, and none past their end. It is the library's element at
-- an index of a slice.
use Rattle.std.proofs.Common.{None}
use mathlib.Core.Path.{◌≡◌, refl}
use mathlib.Core.List.{List, [], ◌∷◌}
use Prim.Native.Nat.{ℕ, zero, suc, ◌≤◌}
use native.Mathlib.Nat.{not-suc-le-zero, le_of_suc-le-suc}
use lib.ListN.{length}
use borrow.Author.Tests.{ne_eqb}
use Rattle.std.specs.List.{slice_get}
use Rattle.base.specs.Pick.{pick}
use Rattle.controller.specs.declared.Uc8253.{Uc8253}
use Rattle.controller.specs.Reading.{flags_of, bytes_of, byte_at}

-- the five bytes of 70
abbrev pub revision : List ℕ
revision = 0x00 ∷ 0x03 ∷ 0x66 ∷ 0xFF ∷ 0xFF ∷ []

pub of_70 : {c : ℕ} (p : Uc8253) → c ≡ 0x70 → bytes_of c p ≡ revision
unfolding bytes_of
of_70 p e = rw e

pub of_71 : {c : ℕ} (p : Uc8253) → c ≡ 0x71 → bytes_of c p ≡ (flags_of p ∷ [])
unfolding bytes_of
of_71 p e = rw e

pub of_11 : {c : ℕ} (p : Uc8253) → c ≡ 0x11 → bytes_of c p ≡ (pick p.mode.data_flag 128 0 ∷ [])
unfolding bytes_of
of_11 p e = rw e

pub of_40 : {c : ℕ} (p : Uc8253) → c ≡ 0x40 → bytes_of c p ≡ (p.config.ambient_celsius ∷ 0x00 ∷ [])
unfolding bytes_of
of_40 p e = rw e

pub of_others : (c : ℕ) (p : Uc8253) → (c ≡ 0x70 → ⊥) → (c ≡ 0x71 → ⊥) → (c ≡ 0x11 → ⊥) → (c ≡ 0x40 → ⊥) → bytes_of c p ≡ []
unfolding bytes_of
of_others c p h1 h2 h3 h4 = simp (ne_eqb _ _ h1, ne_eqb _ _ h2, ne_eqb _ _ h3, ne_eqb _ _ h4)

pub past : (l : List ℕ) (i : ℕ) → length l ≤ i → None ≡ byte_at l i
past [] i h = refl
past (b ∷ l) zero h = absurd (not-suc-le-zero h)
past (b ∷ l) (suc i) h = past l i (le_of_suc-le-suc h)

pub same_byte : (l : List ℕ) (i : ℕ) → byte_at l i ≡ slice_get l i
same_byte [] i = refl
same_byte (b ∷ l) zero = refl
same_byte (b ∷ l) (suc i) = same_byte l i
