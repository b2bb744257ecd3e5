-- A configuration is accepted exactly if its panel has 1 to 800 sources and 1 to 600 gates,
-- its full swing is 1 to 2^63 - 1, no period is 0, and its rate is 1 to 1,000,000,000.
use mathlib.Core.Path.{◌≡◌, refl, sym, ◌∙◌}
use mathlib.Core.Bool.{Bool, true, false, ◌||◌, or-true, true≢false}
use mathlib.Core.List.{List}
use Prim.Native.Nat.{ℕ, zero, suc, ◌-◌, ◌^◌, ◌≤◌, ◌<◌}
use native.Mathlib.Omega.{arith}
use native.Mathlib.Decide.{dec_le}
use lib.ListN.{get_or}
use lib.Dec.{eqb, ltb}
use borrow.Author.Tests.{eqb-false, ltb-false, eq-eqb, ne_eqb, le-ltb}
use Rattle.base.specs.Pick.{pick}
use Rattle.clock.proofs.ClockLaws.{rate_inside, rate_good}
use Rattle.config.specs.declared.Uc8253Config.{Uc8253Config}
use Rattle.config.specs.Refusal.{empty_panel, oversized_panel, swing_refused, some_zero, period_refused, rate_refused, refusal, Accepted}

-- ---- a number that is not 0
nonzero : {x : ℕ} → eqb x 0 ≡ false → 1 ≤ x
nonzero {x} e = omega (arith, eqb-false x 0 e)

positive : {x : ℕ} → 1 ≤ x → eqb x 0 ≡ false
positive {x} h = ne_eqb x 0 (λ e. omega arith)

-- ---- a period of 0
pub zero_seen : (l : List ℕ) (n k : ℕ) → k < n → get_or l k 0 ≡ 0 → some_zero l n ≡ true
zero_seen l zero k h e = absurd (omega arith)
zero_seen l (suc n) k h e = elim (dec_le n k) [
  | yes m ↦
      let s : k ≡ n = omega arith in
      rw (eq-eqb (get_or l n 0) 0 (rw s at e)) (or-true (some_zero l n))
  | no m ↦ rw (zero_seen l n k (omega arith) e)
]

none_zero : (l : List ℕ) (n : ℕ) → some_zero l n ≡ false → (k : ℕ) → k < n → 1 ≤ get_or l k 0
none_zero l n e k h = elim (dec_le 1 (get_or l k 0)) [
  | yes m ↦ m
  | no m ↦ absurd (true≢false (sym (zero_seen l n k h (omega arith)) ∙ e))
]

all_seen : (l : List ℕ) (n : ℕ) → ((k : ℕ) → k < n → 1 ≤ get_or l k 0) → some_zero l n ≡ false
all_seen l zero f = refl
all_seen l (suc n) f =
    rw (all_seen l n (λ k h. f k (omega arith))) (positive (f n (omega arith)))

-- ---- none of two tests, and none of five
neither : (a b : Bool) → (a || b) ≡ false → (a ≡ false) × (b ≡ false)
neither true b e = absurd (true≢false e)
neither false b e = (refl, e)

none_met : (a b d e f : Bool) → ◌≡◌ {A = ℕ} (pick a 1 (pick b 2 (pick d 3 (pick e 4 (pick f 13 0))))) 0
    → (a ≡ false) × (b ≡ false) × (d ≡ false) × (e ≡ false) × (f ≡ false)
none_met true b d e f q = absurd (omega arith)
none_met false true d e f q = absurd (omega arith)
none_met false false true e f q = absurd (omega arith)
none_met false false false true f q = absurd (omega arith)
none_met false false false false true q = absurd (omega arith)
none_met false false false false false q = (refl, refl, refl, refl, refl)

pub accepted : (c : Uc8253Config) → refusal c ≡ 0 → Accepted c
unfolding refusal empty_panel oversized_panel swing_refused period_refused rate_refused
accepted c q =
    let m = none_met (empty_panel c) (oversized_panel c) (swing_refused c) (period_refused c) (rate_refused c) q in
    let p = neither (eqb c.panel.sources 0) (eqb c.panel.gates 0) m.0 in
    let o = neither (ltb 800 c.panel.sources) (ltb 600 c.panel.gates) m.1 in
    let s = neither (eqb c.optics.full_swing 0) (ltb (2 ^ 63 - 1) c.optics.full_swing) m.2 in
    record {
      sources_least = nonzero p.0;
      sources_most = ltb-false _ _ o.0;
      gates_least = nonzero p.1;
      gates_most = ltb-false _ _ o.1;
      swing_least = nonzero s.0;
      swing_most = ltb-false _ _ s.1;
      period_least = none_zero c.timing.frame_period 32 m.3;
      rate_least = (rate_inside c.timing.rate m.4).0;
      rate_most = (rate_inside c.timing.rate m.4).1;
    }

pub accepts : (c : Uc8253Config) → Accepted c → refusal c ≡ 0
unfolding refusal empty_panel oversized_panel swing_refused period_refused rate_refused
accepts c a =
    simp (
      positive a.sources_least,
      positive a.gates_least,
      positive a.swing_least,
      le-ltb _ _ a.sources_most,
      le-ltb _ _ a.gates_most,
      le-ltb _ _ a.swing_most,
      all_seen c.timing.frame_period 32 a.period_least,
      rate_good c.timing.rate a.rate_least a.rate_most,
    )
