-- Eight numbers in one number, a byte each: the bits of a byte spread by one product, and a difference that borrows
-- nothing from byte to byte.
use mathlib.Core.Path.{◌≡◌, sym, ap, ◌∙◌}
use mathlib.Core.Bool.{Bool, ◌&&◌}
use mathlib.Core.List.{List}
use Prim.Native.Nat.{ℕ, zero, suc, ◌+◌, ◌-◌, ◌*◌, ◌/◌, ◌%◌, ◌^◌, ◌≤◌, ◌<◌}
use native.Mathlib.Nat.{div-div-eq-div-mul}
use native.Mathlib.Omega.{arith}
use lib.Bits.{bit_and}
use lib.Dec.{T, eqb, leb, eqb→eq, leb→le}
use lib.ListN.{get_or}
use lib.Pow.{pow-add}
use Rattle.base.proofs.Below.{below, both, at}
use Rattle.ram.specs.Plane.{bit_of}
use Rattle.ram.proofs.ByteLaws.{bit_small}
use Rattle.numbers.specs.InnerRow.{number_of_bit, number_from, byte_of, Spread}
use Rattle.numbers.specs.Number.{transition_of}
use Rattle.numbers.specs.Filled.{filled}
use Rattle.numbers.proofs.FilledLaws.{filled_below, filled_on}
use Rattle.numbers.proofs.BitLaws.{number_of_ones}

-- ---- the bits of a byte, a byte each
-- 1 in each byte
abbrev ones : ℕ
ones = 0x0101_0101_0101_0101

-- as `spread` works them out
abbrev spread_of : ℕ → ℕ
spread_of b = bit_and (b * 0x0100_8040_2010_0804) 0x0101_0101_0101_0100 + b / 128

abbrev is_spread : ℕ → ℕ → Bool
is_spread b r = leb r ones && below 8 (λ k. eqb (byte_of r k) (bit_of b k))

spread_test : T (below 256 (λ b. is_spread b (spread_of b)))
spread_test = tt

pub spread_is : (b : ℕ) → b < 256 → Spread b (spread_of b)
spread_is b h =
    let r = spread_of b in
    let t = both (leb r ones) (below 8 (λ k. eqb (byte_of r k) (bit_of b k))) (at 256 (λ b. is_spread b (spread_of b)) spread_test b h) in
    record {
      most = leb→le r ones t.0;
      bits = λ k l. eqb→eq (byte_of r k) (bit_of b k) (at 8 (λ k. eqb (byte_of r k) (bit_of b k)) t.1 k l);
    }

-- ---- differences byte by byte
-- byte k + 1 is byte k of a 256th
byte_up : (w k : ℕ) → byte_of w (suc k) ≡ byte_of (w / 256) k
byte_up w k =
    let e : 2 ^ (8 * suc k) ≡ 256 * 2 ^ (8 * k) = ap (λ (n : ℕ). 2 ^ n) {x = 8 * suc k} {y = 8 + 8 * k} (omega arith) ∙ pow-add 2 8 (8 * k) in
    ap (λ (n : ℕ). n % 256) (ap (λ (m : ℕ). w / m) e ∙ sym (div-div-eq-div-mul w 256 (2 ^ (8 * k))))

-- where no byte of b is above that of a, nothing is borrowed
less_bytes : (k n a b : ℕ) → k < n → b ≤ a → ((j : ℕ) → j < n → byte_of b j ≤ byte_of a j) → byte_of (a - b) k ≡ byte_of a k - byte_of b k
less_bytes zero n a b l h f = omega (arith, f 0 l)
less_bytes (suc k) zero a b l h f = absurd (omega arith)
less_bytes (suc k) (suc n) a b l h f =
    let rest : (a - b) / 256 ≡ a / 256 - b / 256 = omega (arith, f 0 (omega arith)) in
    byte_up (a - b) k ∙ ap (λ (w : ℕ). byte_of w k) rest
    ∙ less_bytes k n (a / 256) (b / 256) (omega arith) (omega arith) (λ j m. omega (arith, byte_up a j, byte_up b j, f (suc j) (omega arith)))
    ∙ (λ i. sym (byte_up a k) i - sym (byte_up b k) i)

-- the same where the bytes are known
known_bytes : (a b : ℕ) (f g : ℕ → ℕ) → b ≤ a → ((k : ℕ) → g k ≤ f k) → ((k : ℕ) → k < 8 → byte_of a k ≡ f k) → ((k : ℕ) → k < 8 → byte_of b k ≡ g k)
    → (k : ℕ) → k < 8 → byte_of (a - b) k ≡ f k - g k
known_bytes a b f g h below-f ea eb k l =
    less_bytes k 8 a b l h (λ j m. omega (arith, ea j m, eb j m, below-f j)) ∙ (λ i. ea k l i - eb k l i)

-- ---- the numbers of eight pixels
-- 4 in each byte
abbrev fours : ℕ
fours = 0x0404_0404_0404_0404

fours_test : T (below 8 (λ k. eqb (byte_of fours k) 4))
fours_test = tt

pub eight_numbers : (old new o n : ℕ) → Spread old o → Spread new n → (k : ℕ) → k < 8 → byte_of (fours - o - n - n) k ≡ number_of_bit old new 1 k
eight_numbers old new o n p q k l =
    let f : ℕ → ℕ = bit_of old in
    let g : ℕ → ℕ = bit_of new in
    let first = known_bytes fours o (λ j. 4) f (omega (arith, p.most)) (λ j. omega (arith, bit_small old j)) (λ j m. eqb→eq (byte_of fours j) 4 (at 8 (λ j. eqb (byte_of fours j) 4) fours_test j m)) p.bits in
    let second = known_bytes (fours - o) n (λ j. 4 - f j) g (omega (arith, p.most, q.most)) (λ j. omega (arith, bit_small old j, bit_small new j)) first q.bits in
    known_bytes (fours - o - n) n (λ j. 4 - f j - g j) g (omega (arith, p.most, q.most)) (λ j. omega (arith, bit_small old j, bit_small new j)) second q.bits k l
    ∙ number_of_ones old new k

-- one byte of each plane more
pub eight_more : (old new : List ℕ) (place white at i o w r : ℕ) (l : List ℕ)
    → ((k : ℕ) → k < 8 → eqb (bit_of o k) 1 ≡ eqb (bit_of (get_or old (place + i) 0) k) white)
    → ((k : ℕ) → k < 8 → eqb (bit_of w k) 1 ≡ eqb (bit_of (get_or new (place + i) 0) k) white)
    → ((k : ℕ) → k < 8 → byte_of r k ≡ number_of_bit o w 1 k)
    → filled (byte_of r) (at + i * 8) 8 (filled (number_from old new place white) at (i * 8) l) ≡ filled (number_from old new place white) at ((i + 1) * 8) l
eight_more old new place white at i o w r l ho hw hr =
    let f = number_from old new place white in
    filled_below (byte_of r) (λ k. f (i * 8 + k)) (at + i * 8) 8 (filled f at (i * 8) l)
    (λ k h. hr k h ∙ (λ j. transition_of (ho k h j) (hw k h j)) ∙ here k h)
    ∙ filled_on f at (i * 8) 8 l
    ∙ ap (λ (n : ℕ). filled f at n l) {x = i * 8 + 8} {y = (i + 1) * 8} (omega arith)
  where
    here : (k : ℕ) → k < 8
        → number_of_bit (get_or old (place + i) 0) (get_or new (place + i) 0) white k ≡ number_from old new place white (i * 8 + k)
    here k h =
        let byte : i ≡ (i * 8 + k) / 8 = omega arith in
        let bit : k ≡ (i * 8 + k) % 8 = omega arith in
        λ j. number_of_bit (get_or old (place + byte j) 0) (get_or new (place + byte j) 0) white (bit j)
