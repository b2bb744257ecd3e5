-- Where a table ends, group by group, and which is the longest.
use mathlib.Core.Path.{◌≡◌, refl}
use mathlib.Core.Bool.{true, false}
use mathlib.Core.List.{List, [], ◌∷◌}
use Prim.Native.Nat.{ℕ, zero, suc, ◌+◌, ◌<◌, ◌≤◌, max}
use native.Mathlib.Numerals.{add-one}
use native.Mathlib.Omega.{arith}
use lib.ListN.{length, get_or, drop, drop_of_length-le}
use lib.Seq.{drop-cons}
use Rattle.base.proofs.Cases.{by_cases}
use Rattle.waveform.specs.declared.Group.{Group}
use Rattle.waveform.specs.Tables.{ends, running, table_frame_count, longest}

-- what an index past a table's end would read
abbrev pub unread : Group
unread = record { codes = []; frames = []; repeats = 0 }

module _ (t : List Group) (k : ℕ) (d : Group) (h : k < length t) where
  pub running_ends : ends (get_or t k d) ≡ true → running (drop k t) ≡ []
  running_ends e = rw (drop-cons t k d h, e)

  pub running_goes : ends (get_or t k d) ≡ false → running (drop k t) ≡ get_or t k d ∷ running (drop (k + 1) t)
  running_goes e = rw (drop-cons t k d h, e, add-one k)

pub running_done : (t : List Group) (k : ℕ) → length t ≤ k → running (drop k t) ≡ []
running_done t k h = rw (drop_of_length-le t h)

-- ---- the groups that run are the first of the table
pub running_few : (t : List Group) → length (running t) ≤ length t
running_few [] = omega arith
running_few (g ∷ t) = by_cases (ends g) (λ yes. rw yes (omega arith)) (λ no. rw no (omega (arith, running_few t)))

-- of a group that runs before groups of which that holds
get_d_after : (t : List Group) (g d e : Group) → ((k : ℕ) → k < length (running t) → get_or (running t) k d ≡ get_or t k e) →
    (k : ℕ) → k < suc (length (running t)) → get_or (g ∷ running t) k d ≡ get_or (g ∷ t) k e
get_d_after t g d e later zero h = refl
get_d_after t g d e later (suc k) h = later k (omega arith)

pub running_get : (t : List Group) (d e : Group) (k : ℕ) → k < length (running t) → get_or (running t) k d ≡ get_or t k e
running_get [] d e k h = absurd (omega arith)
running_get (g ∷ t) d e k h =
    by_cases (ends g) (λ yes. absurd (nothing k (rw yes at h))) (λ no. rw no (get_d_after t g d e (running_get t d e) k (rw no at h)))
  where
    nothing : (k : ℕ) → k < 0 → ⊥
    nothing k l = omega arith

-- ---- the longest of the tables from the k-th on
pub longest_more : (ts : List (List Group)) (k : ℕ) → k < length ts →
    longest (drop k ts) ≡ max (table_frame_count (get_or ts k [])) (longest (drop (k + 1) ts))
longest_more ts k h = rw (drop-cons ts k [] h, add-one k)

pub longest_done : (ts : List (List Group)) (k : ℕ) → length ts ≤ k → longest (drop k ts) ≡ 0
longest_done ts k h = rw (drop_of_length-le ts h)

-- tables of which no group runs
pub longest_empty : (ts : List (List Group)) → ((k : ℕ) → running (get_or ts k []) ≡ []) → longest ts ≡ 0
longest_empty [] h = refl
longest_empty (t ∷ ts) h = rw (h 0, longest_empty ts (λ k. h (suc k)))
