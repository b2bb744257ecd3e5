-- Bytes are read where they stand as by themselves, so a configuration behind its events is that of the 312 bytes.
use mathlib.Core.Path.{◌≡◌, refl, sym, ap, ◌∙◌}
use mathlib.Core.List.{List, ◌++◌}
use Prim.Native.Nat.{ℕ, zero, suc, ◌+◌, ◌*◌, ◌≤◌, ◌<◌}
use native.Mathlib.Nat.{add-zero, le_refl}
use native.Mathlib.Omega.{arith}
use lib.ListN.{length, get_or}
use lib.Seq.{get_or-append-add}
use Rattle.capture.specs.Little.{little}
use Rattle.capture.specs.Layout.{periods_of, config_by}
use Rattle.capture.specs.Refused.{bad_config}

-- the first bytes of a part stand at a place of a file
module _ (file part : List ℕ) (at most : ℕ) (same : (p : ℕ) → p < most → get_or file (at + p) 0 ≡ get_or part p 0) where
  pub little_same : (p n : ℕ) → p + n ≤ most → little file (at + p) n ≡ little part p n
  little_same p zero h = refl
  little_same p (suc n) h =
      let e : suc (at + p) ≡ at + suc p = omega arith in
      rw (same p (omega arith), e, little_same (suc p) n (omega arith))

module _ (xs ys : List ℕ) where
  pub byte_behind : (p : ℕ) → get_or (xs ++ ys) (length xs + p) 0 ≡ get_or ys p 0
  byte_behind p = get_or-append-add xs ys p 0

  pub little_behind : (p n : ℕ) → little (xs ++ ys) (length xs + p) n ≡ little ys p n
  little_behind p n = little_same (xs ++ ys) ys (length xs) (p + n) (λ q h. byte_behind q) p n (le_refl (p + n))

-- the 312 bytes of a configuration stand at a place of a file
module _ (file config : List ℕ) (at : ℕ) (same : (p : ℕ) → p < 312 → get_or file (at + p) 0 ≡ get_or config p 0) where
  within : (p n : ℕ) → p + n ≤ 312 → little file (at + p) n ≡ little config p n
  within = little_same file config at 312 same

  periods_same : (n : ℕ) → n ≤ 32 → periods_of file at n ≡ periods_of config 0 n
  periods_same zero h = refl
  periods_same (suc n) h =
      let e : at + 56 + 8 * n ≡ at + (0 + 56 + 8 * n) = omega arith in
      rw (e, within (0 + 56 + 8 * n) 8 (omega arith), periods_same n (omega arith))

  first_same : get_or file at 0 ≡ get_or config 0 0
  first_same = ap (λ (p : ℕ). get_or file p 0) (sym (add-zero at)) ∙ same 0 (omega arith)

  pub config_same : (rate : ℕ) → config_by rate file at ≡ config_by rate config 0
  config_same rate =
      simp (
        first_same,
        same 1 (omega arith),
        same 6 (omega arith),
        same 7 (omega arith),
        within 2 2 (omega arith),
        within 4 2 (omega arith),
        within 8 8 (omega arith),
        within 16 8 (omega arith),
        within 24 8 (omega arith),
        within 32 8 (omega arith),
        within 40 8 (omega arith),
        within 48 8 (omega arith),
        periods_same 32 (omega arith),
      )

  pub bad_same : bad_config file at ≡ bad_config config 0
  unfolding bad_config
  bad_same = rw (first_same, same 1 (omega arith))
