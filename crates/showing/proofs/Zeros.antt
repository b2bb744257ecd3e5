-- A part of an array of equal entries has its length.
use mathlib.Core.Path.{◌≡◌, sym, subst}
use Prim.Native.Nat.{ℕ, ◌≤◌}
use lib.ListN.{length, take, replicate, length-replicate}
use lib.Seq.{length-take-le}

pub length_part : {A : Type 0} (n m : ℕ) (x : A) → n ≤ m → n ≡ length (take n (replicate m x))
length_part n m x h = sym (length-take-le n (replicate m x) (subst (λ (k : ℕ). n ≤ k) (sym (length-replicate m x)) h))
