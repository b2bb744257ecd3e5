-- The words of one event make that event: a bit at each rise of `clk`, eight of them the value.
use mathlib.Core.Path.{◌≡◌, refl, sym, ap, ◌∙◌}
use mathlib.Core.List.{List, [], ◌∷◌, ◌++◌, append_assoc}
use Prim.Native.Nat.{ℕ, zero, suc, ◌+◌, ◌*◌, ◌/◌, ◌%◌, ◌^◌, ◌≤◌, ◌<◌}
use native.Mathlib.Nat.{mul-le-mul_left, div-add-mod, mod-lt, mod-eq_of_lt, mod-one, mod-mod, mul-add-mod_self_left, pow-suc, one-le-pow}
use native.Mathlib.Omega.{arith}
use lib.Dec.{eqb}
use borrow.Author.Tests.{ne_eqb}
use Rattle.base.specs.Pick.{pick}
use Rattle.base.proofs.Cases.{by_cases}
use Rattle.text.specs.Text.{ascii}
use Rattle.event.specs.declared.Event.{Event}
use Rattle.vcd_words.specs.Words.{printable}
use Rattle.vcd_values.specs.Levels.{level}
use Rattle.vcd_simulation.specs.declared.body.Wanted.TheVariants as want
use Rattle.vcd_simulation.specs.declared.body.Body.{Body}
use Rattle.vcd_bus.specs.Signals.{counted, byte_kind}
use Rattle.vcd_simulation.specs.Coded.{after_code, code_makes}
use Rattle.vcd_simulation.specs.Simulation.{Codes, Went, changes, is_code, value_word, command_word, word_done, words_done}
use Rattle.vcd.specs.Writer.{event, bit_words, bits_of}

-- the codes of the five signals as they are written
abbrev pub codes : List (List ℕ) → Codes
codes all = record { five = ascii "s" ∷ ascii "d" ∷ ascii "k" ∷ ascii "m" ∷ ascii "r" ∷ []; all = all }

-- between the words of two events or two bits `cs` and `clk` are 0
abbrev pub state : ℕ → ℕ → ℕ → ℕ → ℕ → ℕ → Body
state t dc mosi rst bits byte = record {
  wanted = want.Command;
  now = t;
  bus = record { cs = 0; dc = dc; clk = 0; mosi = mosi; rst = rst; bits = bits; byte = byte };
}

-- a bit more behind those of a byte
abbrev shift : ℕ → ℕ → ℕ
shift byte v = (2 * byte + v) % 256

bit_done : (all : List (List ℕ)) (v t dc mosi rst bits byte : ℕ) → v < 2
    → words_done (codes all) (bit_words v) (state t dc mosi rst bits byte)
    ≡ record {
      body = state t dc v rst (counted bits) (shift byte v);
      events = pick (eqb bits 7) (event t (byte_kind dc) (shift byte v) ∷ []) [];
    }
unfolding word_done command_word value_word level is_code printable changes after_code code_makes
bit_done all zero t dc mosi rst bits byte h = by_cases (eqb bits 7) (λ e. rw e) (λ e. rw e)
bit_done all (suc zero) t dc mosi rst bits byte h = by_cases (eqb bits 7) (λ e. rw e) (λ e. rw e)
bit_done all (suc (suc v)) t dc mosi rst bits byte h = absurd (omega arith)

-- ---- words before others
abbrev pub join : Went → (Body → Went) → Went
join w f = record { body = (f w.body).body; events = w.events ++ (f w.body).events }

pub done_join : (c : Codes) (us vs : List (List ℕ)) (b : Body) → words_done c (us ++ vs) b ≡ join (words_done c us b) (words_done c vs)
done_join c [] vs b = refl
done_join c (u ∷ us) vs b =
    let first = word_done c u b in
    let second = words_done c us first.body in
    let third = words_done c vs second.body in
    ap (λ (w : Went). record { body = w.body; events = first.events ++ w.events }) (done_join c us vs first.body)
    ∙ ap (λ (l : List Event). record { body = third.body; events = l })
    (sym (append_assoc first.events second.events third.events))

-- ---- the bits of a value, the highest first
abbrev shifts : ℕ → ℕ → ℕ → ℕ
shifts zero value byte = byte
shifts (suc n) value byte = shifts n value (shift byte (value / 2 ^ n % 2))

bits_done : (n : ℕ) (all : List (List ℕ)) (value t dc mosi rst bits byte : ℕ) → bits + suc n ≡ 8
    → words_done (codes all) (bits_of (suc n) value) (state t dc mosi rst bits byte)
    ≡ record {
      body = state t dc (value / 1 % 2) rst 0 (shifts (suc n) value byte);
      events = event t (byte_kind dc) (shifts (suc n) value byte) ∷ [];
    }
bits_done zero all value t dc mosi rst bits byte h =
    let seven : bits ≡ 7 = omega arith in
    bit_done all (value / 1 % 2) t dc mosi rst bits byte (omega arith) ∙ rw seven
bits_done (suc n) all value t dc mosi rst bits byte h =
    let v = value / 2 ^ suc n % 2 in
    let fewer : (bits ≡ 7 → ⊥) = λ e. omega arith in
    done_join (codes all) (bit_words v) (bits_of (suc n) value) (state t dc mosi rst bits byte)
    ∙ ap (λ (w : Went). join w (words_done (codes all) (bits_of (suc n) value))) (bit_done all v t dc mosi rst bits byte (omega arith))
    ∙ rw (ne_eqb bits 7 fewer) (bits_done n all value t dc v rst (counted bits) (shift byte v) (omega arith))

-- the lowest bits of a value, with one more before them
one_more : (p v : ℕ) → 0 < p → v % (p * 2) ≡ p * (v / p % 2) + v % p
one_more p v h =
    let q = v / p in
    let least : p * (q % 2) ≤ p * 1 = mul-le-mul_left p (omega arith) in
    let parts : p * q ≡ p * (2 * (q / 2) + q % 2) = ap (λ (k : ℕ). p * k) (sym (div-add-mod q 2)) in
    let whole : v ≡ p * 2 * (q / 2) + (p * (q % 2) + v % p) = omega (arith, div-add-mod v p) in
    ap (λ (k : ℕ). k % (p * 2)) whole
    ∙ mul-add-mod_self_left (p * 2) (q / 2) (p * (q % 2) + v % p)
    ∙ mod-eq_of_lt (omega (arith, mod-lt v h))

-- a factor of what is cut to eight bits may be cut later
cut_later : (p y r : ℕ) → (p * (y % 256) + r) % 256 ≡ (p * y + r) % 256
cut_later p y r =
    let parts : p * y ≡ p * (256 * (y / 256) + y % 256) = ap (λ (k : ℕ). p * k) (sym (div-add-mod y 256)) in
    let whole : p * y + r ≡ 256 * (p * (y / 256)) + (p * (y % 256) + r) = omega arith in
    sym (ap (λ (k : ℕ). k % 256) whole ∙ mul-add-mod_self_left 256 (p * (y / 256)) (p * (y % 256) + r))

shifts_are : (n v x : ℕ) → shifts n v x % 256 ≡ (2 ^ n * x + v % 2 ^ n) % 256
shifts_are zero v x = ap (λ (k : ℕ). k % 256) (omega (arith, mod-one v))
shifts_are (suc n) v x =
    let p = 2 ^ n in
    let b = v / p % 2 in
    shifts_are n v (shift x b)
    ∙ cut_later p (2 * x + b) (v % p)
    ∙ ap (λ (k : ℕ). k % 256) (let e = one_more p v (one-le-pow n 2 (omega arith)) in omega arith)
    ∙ sym (ap (λ (k : ℕ). (k * x + v % k) % 256) (pow-suc 2 n))

-- eight bits leave nothing of those before them
eight : (v x : ℕ) → v < 256 → shifts 8 v x ≡ v
eight v x h = sym (mod-mod _ 256) ∙ shifts_are 8 v x ∙ mul-add-mod_self_left 256 x (v % 256) ∙ mod-mod v 256 ∙ mod-eq_of_lt h

pub byte_done : (all : List (List ℕ)) (value t dc mosi rst byte : ℕ) → value < 256
    → words_done (codes all) (bits_of 8 value) (state t dc mosi rst 0 byte)
    ≡ record { body = state t dc (value / 1 % 2) rst 0 value; events = event t (byte_kind dc) value ∷ [] }
byte_done all value t dc mosi rst byte h =
    bits_done 7 all value t dc mosi rst 0 byte refl
    ∙ ap (λ (x : ℕ). record { body = state t dc (value / 1 % 2) rst 0 x; events = event t (byte_kind dc) x ∷ [] }) (eight value byte h)
