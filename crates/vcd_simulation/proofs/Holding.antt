-- Bytes put into a buffer: one, none, and some behind others.
use mathlib.Core.Path.{◌≡◌, refl, sym, ap, ◌∙◌}
use mathlib.Core.List.{List, [], ◌∷◌, ◌++◌, append_assoc, append-nil}
use Prim.Native.Nat.{ℕ, zero, suc, ◌+◌, ◌/◌, ◌%◌, ◌^◌}
use native.Mathlib.Nat.{pow-suc}
use Rattle.std.proofs.Math.Nat.{div-div-eq-div-mul, div-one}
use Rattle.std.specs.Int.{byte_at, bytes_low_first}
use native.Mathlib.Nat.{add-zero}
use native.Mathlib.Omega.{arith}
use lib.ListN.{length, take, drop, length-append}
use lib.Seq.{drop-drop}
use Rattle.event.specs.declared.Event.{Event}
use Rattle.vcd_simulation.specs.Written.{lowest, event_bytes, written, Holds}

pub none_held : (b : List ℕ) (held : ℕ) → Holds [] held held b b
none_held b held = record { bytes = sym (append-nil (take held b)); count = sym (add-zero held); size = refl; rest = refl }

pub held_as : {x y : List ℕ} {held r : ℕ} {b c : List ℕ} → Holds x held r b c → x ≡ y → Holds y held r b c
held_as {held = held} {r} {b} {c} h e = rw (← e) h

-- what follows a place is the same, so also what follows a later one
pub later : (n m : ℕ) (b c : List ℕ) → drop n c ≡ drop n b → drop (n + m) c ≡ drop (n + m) b
later n m b c e = sym (drop-drop m n c) ∙ ap (drop m) e ∙ drop-drop m n b

pub more_held : (x y : List ℕ) (held r s : ℕ) (b c d : List ℕ) → Holds x held r b c → Holds y r s c d → Holds (x ++ y) held s b d
more_held x y held r s b c d h k = record {
  bytes = k.bytes ∙ ap (λ (l : List ℕ). l ++ y) h.bytes ∙ append_assoc (take held b) x y;
  count = omega (arith, k.count, h.count, length-append x y);
  size = k.size ∙ h.size;
  rest = k.rest ∙ ap (λ (n : ℕ). drop n c) k.count ∙ later r (length y) b c h.rest ∙ ap (λ (n : ℕ). drop n b) (sym k.count);
}

-- what is written of one event, and of two lists of them
pub one_written : (e : Event) → event_bytes e ≡ written (e ∷ [])
one_written e = sym (append-nil (event_bytes e))

pub written_join : (es fs : List Event) → written (es ++ fs) ≡ written es ++ written fs
written_join [] fs = refl
written_join (e ∷ es) fs = ap (λ (l : List ℕ). event_bytes e ++ l) (written_join es fs) ∙ sym (append_assoc (event_bytes e) (written es) (written fs))

-- the bytes of a number, the lowest first
byte_is : (i x : ℕ) → byte_at i x ≡ x / 256 ^ i % 256
byte_is zero x = ap (λ (y : ℕ). y % 256) (sym (div-one x))
byte_is (suc i) x = refl

low_from : (i k x : ℕ) → bytes_low_first i k x ≡ lowest k (x / 256 ^ i)
low_from i zero x = refl
low_from i (suc k) x =
    rw (byte_is i x, low_from (suc i) k x, pow-suc 256 i, ← div-div-eq-div-mul x (256 ^ i) 256)

pub low_bytes : (x : ℕ) → bytes_low_first 0 8 x ≡ lowest 8 x
low_bytes x = low_from 0 8 x ∙ ap (lowest 8) (div-one x)
