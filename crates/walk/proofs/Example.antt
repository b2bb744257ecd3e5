-- Lists that run, computed by the checker. At 1 GHz: a refresh ends by itself, a call is turned back, a refresh is cut after two whole
-- frames. At an odd rate: of two resets a cycle apart the earlier cuts after one frame and the later after two. By either rule of VCOM:
-- a refresh in whose midst the rule changes, and one after it.
use mathlib.Core.Path.{◌≡◌, refl, ap, ◌∙◌}
use mathlib.Core.Bool.{true, false}
use mathlib.Core.List.{List, [], ◌∷◌, ◌++◌, map}
use Prim.Native.Nat.{ℕ, ◌-◌, ◌*◌, ◌≤◌, ◌<◌}
use native.Mathlib.Omega.{arith}
use lib.Dec.{lit<, lit≤}
use lib.IntN.{ℤ, pos}
use lib.ListN.{length, replicate, take}
use Rattle.base.specs.Integer.{up}
use Rattle.clock.specs.Clock.{billion, bad_rate}
use Rattle.clock.proofs.ClockLaws.{rate_good}
use Rattle.config.specs.declared.Uc8253Config.{Uc8253Config}
use Rattle.config.specs.declared.Variant.TheVariants as variant
use Rattle.glass.specs.Walk.{hold, step, walk}
use Rattle.controller.specs.World.{World}
use Rattle.controller.specs.TurnedBack.{making_refused}
use Rattle.controller.specs.Ask.{Ask, command, datum, advance, reset, vcom_rule, taking, ask_busy, ask_picture}
use Rattle.walk.specs.Machine.{Fed, fresh, ran, frames_fed}
use Rattle.walk.specs.Calls.{Call, after, start, place, state_at, frames_between}
use Rattle.walk.specs.OnePixel.{one_pixel, bench, refresh_calls, feed, slow, driving}
use Rattle.walk.proofs.Lending.{lending, plain, bytes_lending, Lent}
use Rattle.walk.proofs.Demand.{demand3, lendable}
use Rattle.walk.proofs.OnePixel.{all, taken_by_lem, black_by}

abbrev no : Ask → Fed
no a = record { ask = a; back = true }

-- ---- a list on the panel of one pixel with frames of 10 ns, whatever its clock: the controller's state walks the machine's frames
module _ (rate : ℕ) (right : bad_rate rate ≡ false) (story : List Fed) (fine : plain 1 story ≡ true) where
  abbrev panel : Uc8253Config
  panel = one_pixel variant.Uc8253 10 rate

  abbrev calls : List Call
  calls = lending (start panel bench) story

  taken : making_refused panel bench ≡ 0
  taken = taken_by_lem variant.Uc8253 10 rate refl right

  lent : Lent panel bench story
  lent = lendable panel bench story (lit< tt) taken fine

  pub walks : (j : ℕ) → j ≤ length calls → (ds : List ℤ) → frames_fed panel (fresh panel) (take j story) 0 ≡ ds
      → state_at 0 (place panel bench calls j) ≡ pos (walk 100_000_000 0 ds)
  unfolding place after frames_between ran
  walks j h ds e =
      let between : frames_between panel bench calls 0 j 0 ≡ ds
      = ap (λ (fs : List Fed). frames_fed panel (fresh panel) (take (j - 0) fs) 0) lent.fed
      ∙ ap (λ (n : ℕ). frames_fed panel (fresh panel) (take n story) 0) {x = j - 0} {y = j} (omega arith) ∙ e in
      (demand3 panel bench calls (lit< tt) taken (bytes_lending 1 (start panel bench) story fine) lent.own 0 j (omega arith) h 0 (lit< tt)).moves
      ∙ (λ i. pos (walk 100_000_000 (up (black_by variant.Uc8253 10 rate refl right i)) (between i)))

-- ---- at 1 GHz
gigahertz : bad_rate billion ≡ false
gigahertz = rate_good billion (lit≤ tt) (lit≤ tt)

-- the calls of the panel of one pixel, whose refresh of 100 ends at 150; the one of 1,000 is cut at 1,025
unfoldable story : List Fed
story =
    map feed refresh_calls
    ++ feed (ask_busy 105) ∷ no (reset 110 true) ∷ feed (advance 400)
    ∷ feed (command 1000 0x12) ∷ feed taking ∷ feed (ask_picture 65_535 (0 ∷ [])) ∷ feed (reset 1025 true) ∷ feed (reset 1030 false)
    ∷ []

fine : plain 1 story ≡ true
unfolding story refresh_calls
fine = refl

-- three frames of 140,000 by the place where the first has ended, the call turned back counted; and then two
moves_first : state_at 0 (place (panel billion gigahertz story fine) bench (calls billion gigahertz story fine) 16) ≡ pos 420_000
unfolding all step hold lending story refresh_calls
moves_first = walks billion gigahertz story fine 16 (lit≤ tt) (replicate 3 (pos 140_000)) refl

moves : state_at 0 (place (panel billion gigahertz story fine) bench (calls billion gigahertz story fine) 21) ≡ pos 700_000
unfolding all step hold lending story refresh_calls
moves = walks billion gigahertz story fine 21 (lit≤ tt) (replicate 5 (pos 140_000)) refl

-- with frames of 1,000: a reset at its end, (3 + 2) × 1,000 after its start at 100, cuts none of the three
uncut : frames_fed (slow variant.Uc8253) driving (feed (reset 5_100 true) ∷ []) 0 ≡ replicate 3 (pos 14_000_000)
unfolding all slow driving refresh_calls
uncut = refl

-- ---- at 300,000,007 Hz: five frames of 10 ns are 16 cycles, so the refresh of 100 runs at 115 and is over at 116; of the one of 1,000
-- six cycles are 19 ns and hold one frame, seven are 23 ns and hold two
abbrev odd : ℕ
odd = 300_000_007

rightly : bad_rate odd ≡ false
rightly = rate_good odd (lit≤ tt) (lit≤ tt)

unfoldable cut_after : ℕ → List Fed
cut_after n = map feed refresh_calls ++ feed (advance 115) ∷ feed (advance 116) ∷ feed (command 1000 0x12) ∷ feed (reset n true) ∷ []

fair : (n : ℕ) → plain 1 (cut_after n) ≡ true
unfolding cut_after refresh_calls
fair n = refl

-- what is left of the list after so many of its calls
abbrev odd_state : ℕ → ℕ → ℤ
odd_state n j = state_at 0 (place (panel odd rightly (cut_after n) (fair n)) bench (calls odd rightly (cut_after n) (fair n)) j)

still_running : odd_state 1006 14 ≡ pos 0
unfolding all step hold lending cut_after refresh_calls
still_running = walks odd rightly (cut_after 1006) (fair 1006) 14 (lit≤ tt) [] refl

whole : odd_state 1006 15 ≡ pos 420_000
unfolding all step hold lending cut_after refresh_calls
whole = walks odd rightly (cut_after 1006) (fair 1006) 15 (lit≤ tt) (replicate 3 (pos 140_000)) refl

one_more : odd_state 1006 17 ≡ pos 560_000
unfolding all step hold lending cut_after refresh_calls
one_more = walks odd rightly (cut_after 1006) (fair 1006) 17 (lit≤ tt) (replicate 4 (pos 140_000)) refl

two_more : odd_state 1007 17 ≡ pos 700_000
unfolding all step hold lending cut_after refresh_calls
two_more = walks odd rightly (cut_after 1007) (fair 1007) 17 (lit≤ tt) (replicate 5 (pos 140_000)) refl

-- ---- VCOM by rule 1, then by rule 2 (2026-08): 20 is loaded with one frame of code 1, 14 V; the pixel's three frames are of code 2,
-- -14 V. By rule 1 VCOM stays at 14 V for them; by rule 2 it is at 0 after its first. The refresh of 100 ends by rule 1, though the rule
-- changes at 105
unfoldable both_rules : List Fed
both_rules =
    map feed
    (command 0 0x00 ∷ datum 0 0x3F ∷ command 0 0x04
    ∷ command 100 0x20 ∷ datum 100 0x40 ∷ datum 100 0x01 ∷ datum 100 0x00 ∷ datum 100 0x00 ∷ datum 100 0x00 ∷ datum 100 0x01
    ∷ command 100 0x22 ∷ datum 100 0x80 ∷ datum 100 0x03 ∷ datum 100 0x00 ∷ datum 100 0x00 ∷ datum 100 0x00 ∷ datum 100 0x01
    ∷ command 100 0x13 ∷ datum 100 0x80
    ∷ command 100 0x12 ∷ vcom_rule 105 true ∷ advance 400
    ∷ command 1000 0x12 ∷ advance 2000
    ∷ [])

sensible : plain 1 both_rules ≡ true
unfolding both_rules
sensible = refl

by_rule_1 : state_at 0 (place (panel billion gigahertz both_rules sensible) bench (calls billion gigahertz both_rules sensible) 22) ≡ pos 840_000
unfolding all step hold lending both_rules
by_rule_1 = walks billion gigahertz both_rules sensible 22 (lit≤ tt) (replicate 3 (pos 280_000)) refl

by_rule_2 : state_at 0 (place (panel billion gigahertz both_rules sensible) bench (calls billion gigahertz both_rules sensible) 24) ≡ pos 1_400_000
unfolding all step hold lending both_rules
by_rule_2 =
    walks billion gigahertz both_rules sensible 24 (lit≤ tt) (replicate 4 (pos 280_000) ++ replicate 2 (pos 140_000)) refl
