-- A kind of event that is none of 1 to 5 has no word; an event, or a row, in words, or nothing past the last.
use mathlib.Core.Path.{◌≡◌, sym}
use mathlib.Core.List.{List, [], ◌++◌}
use Prim.Native.Nat.{ℕ, zero, suc, ◌+◌, ◌*◌, ◌/◌, ◌≤◌, ◌<◌}
use native.Mathlib.Decide.{dec_le}
use native.Mathlib.Omega.{arith}
use lib.Dec.{ltb}
use lib.ListN.{length, get_or}
use borrow.Author.Tests.{lt-ltb, le-ltb}
use Rattle.base.proofs.Lists.{get_d_past}
use Rattle.text.specs.Text.{ascii, digits}
use Rattle.capture.specs.Layout.{kind_at, value_at}
use Rattle.capture.specs.Little.{little}
use Rattle.differences.specs.Lines.{kinds, kind_word, blank, event_words, row_words, sides}

-- none of the n numbers from 1 on
abbrev NoneOf : ℕ → ℕ → Type 0
NoneOf zero x = Unit
NoneOf (suc n) x = NoneOf n x × (x ≡ suc n → ⊥)

past : (n x : ℕ) → NoneOf n x → (x ≡ 0 → ⊥) → n < x
past zero x r z = omega arith
past (suc n) x r z = omega (arith, past n x r.0 z, r.1)

pub unnamed : (x : ℕ) → NoneOf 6 x → [] ≡ kind_word x
unfolding kind_word
unnamed x r = elim (dec_le x 0) [
  | yes h ↦
      let z : x ≡ 0 = omega arith in
      rw z
  | no h ↦ sym (get_d_past kinds x [] (past 6 x r (λ z. omega arith)))
]

-- ---- an event
module _ (events : List ℕ) (i : ℕ) where
  pub no_event : length events / 10 ≤ i → [] ≡ event_words events i
  unfolding event_words
  no_event h = rw (le-ltb i (length events / 10) h)

  pub is_event : {kind value time : ℕ} → i < length events / 10 → kind ≡ kind_at events i → value ≡ value_at events i → time ≡ little events (10 * i) 8
      → kind_word kind ++ blank value ++ ascii " at" ++ blank time ≡ event_words events i
  unfolding event_words
  is_event h k v t = rw (lt-ltb i (length events / 10) h, k, v, t)

-- ---- a row
module _ (rows : List ℕ) (i : ℕ) where
  pub no_row : length rows / 5 ≤ i → [] ≡ row_words rows i
  unfolding row_words
  no_row h = rw (le-ltb i (length rows / 5) h)

  pub is_row : i < length rows / 5
      → digits (get_or rows (5 * i) 0) ++ blank (get_or rows (5 * i + 1) 0) ++ blank (get_or rows (5 * i + 2) 0) ++ blank (get_or rows (5 * i + 3) 0)
      ++ blank (get_or rows (5 * i + 4) 0) ≡ row_words rows i
  unfolding row_words
  is_row h = rw (lt-ltb i (length rows / 5) h)

-- ---- both sides, or one
module _ (n m i : ℕ) (a b : List ℕ) where
  pub in_both : i < n → i < m → a ++ ascii ", " ++ b ≡ sides (ltb i n) (ltb i m) a b
  in_both h k = rw (lt-ltb i n h, lt-ltb i m k)

  pub in_first : i < n → m ≤ i → ascii "only in A, " ++ a ≡ sides (ltb i n) (ltb i m) a b
  in_first h k = rw (lt-ltb i n h, le-ltb i m k)

  pub in_second : n ≤ i → ascii "only in B, " ++ b ≡ sides (ltb i n) (ltb i m) a b
  in_second h = rw (le-ltb i n h)
