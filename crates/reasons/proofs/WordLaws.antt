-- Four bytes are a little-endian number, and the trailer's two numbers are of four.
use mathlib.Core.Path.{◌≡◌}
use mathlib.Core.List.{List}
use Prim.Native.Nat.{ℕ, suc, ◌+◌, ◌-◌, ◌*◌}
use native.Mathlib.Omega.{arith}
use lib.ListN.{length, get_or}
use Rattle.capture.specs.Little.{little}
use Rattle.capture.specs.Layout.{offset_of, count_of}

pub four_bytes : (l : List ℕ) (at : ℕ) {a b c d : ℕ}
    → a ≡ get_or l (at + 0) 0 → b ≡ get_or l (at + 1) 0 → c ≡ get_or l (at + 2) 0 → d ≡ get_or l (at + 3) 0
    → a + 256 * (b + 256 * (c + 256 * d)) ≡ little l at 4
four_bytes l at p q r s =
    let zeroth : at + 0 ≡ at = omega arith in
    let first : at + 1 ≡ suc at = omega arith in
    let second : at + 2 ≡ suc (suc at) = omega arith in
    let third : at + 3 ≡ suc (suc (suc at)) = omega arith in
    rw (p, q, r, s, zeroth, first, second, third) (omega arith)

module _ (l : List ℕ) (x : ℕ) where
  pub is_offset : x ≡ little l (length l - 8) 4 → x ≡ offset_of l
  unfolding offset_of
  is_offset e = e

  pub is_count : x ≡ little l (length l - 4) 4 → x ≡ count_of l
  unfolding count_of
  is_count e = e
