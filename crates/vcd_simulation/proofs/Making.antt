-- What a level makes of the bus: at most one event of `clk` and one of `rst`.
use mathlib.Core.Path.{◌≡◌, refl, sym, ap, ◌∙◌}
use mathlib.Core.Bool.{Bool, true, false, ◌&&◌}
use mathlib.Core.List.{List, [], ◌∷◌, ◌++◌, append-nil}
use Prim.Native.Nat.{ℕ, ◌≤◌}
use native.Mathlib.Omega.{arith}
use borrow.Author.Tests.{eq-eqb, ne_eqb, eqb-true, eqb-false}
use lib.Dec.{eqb}
use lib.ListN.{length, get_or}
use Rattle.base.specs.Pick.{pick}
use Rattle.base.proofs.Cases.{both, by_cases}
use Rattle.event.specs.declared.Event.{Event}
use Rattle.vcd_words.specs.Words.{alike}
use Rattle.vcd_bus.specs.declared.Bus.{Bus}
use Rattle.vcd_bus.specs.Signals.{selected, data_or, clocked, sent, reset, takes, shifted, byte_kind, byte_events, reset_value, reset_events}
use Rattle.vcd_simulation.specs.Coded.{after_code, code_makes}
use Rattle.vcd_simulation.specs.Written.{event_bytes, written}
use Rattle.vcd_simulation.proofs.Holding.{one_written, written_join}

pub alike_turned : (v w : List ℕ) → alike v w ≡ alike w v
alike_turned [] [] = refl
alike_turned [] (b ∷ w) = refl
alike_turned (a ∷ v) [] = refl
alike_turned (a ∷ v) (b ∷ w) = rw (turned a b, alike_turned v w)
  where
    turned : (x y : ℕ) → eqb x y ≡ eqb y x
    turned x y = by_cases (eqb x y) (λ e. rw (eqb-true x y e)) (λ e. e ∙ sym (ne_eqb y x (λ h. eqb-false x y e (sym h))))

-- ---- the event of `clk`
pub byte_made : (t v : ℕ) (b : Bus) (kind value : ℕ) → (takes v b && eqb b.bits 7) ≡ true → kind ≡ byte_kind b.dc → value ≡ shifted b
    → event_bytes (record { time = t; kind = kind; value = value }) ≡ written (byte_events t v b)
byte_made t v b kind value last k x = rw (last, k, x) (one_written _)

pub no_byte : (t v : ℕ) (b : Bus) → (takes v b && eqb b.bits 7) ≡ false → [] ≡ written (byte_events t v b)
no_byte t v b e = rw e

-- ---- the event of `rst`
pub edge_made : (t v : ℕ) (b : Bus) (value : ℕ) → (b.rst ≡ v → ⊥) → value ≡ reset_value v
    → event_bytes (record { time = t; kind = 4; value = value }) ≡ written (reset_events t v b)
edge_made t v b value n x = rw (ne_eqb b.rst v n, x) (one_written _)

pub no_edge : (t v : ℕ) (b : Bus) → b.rst ≡ v → [] ≡ written (reset_events t v b)
no_edge t v b e = rw (eq-eqb b.rst v e)

-- ---- each is ten bytes, or none
one_long : (e : Event) → length (written (e ∷ [])) ≤ 10
unfolding event_bytes
one_long e = omega arith

pub byte_room : (hit : Bool) (t v : ℕ) (b : Bus) → length (written (pick hit (byte_events t v b) [])) ≤ 10
byte_room hit t v b =
    both (λ es. length (written es) ≤ 10) hit
    (both (λ es. length (written es) ≤ 10) (takes v b && eqb b.bits 7) (one_long _) (omega arith)) (omega arith)

-- ---- of the five signals only these two make events
none : (t : Bool) → ◌≡◌ {A = List Event} (pick t [] []) []
none true = refl
none false = refl

pub two_make : (codes : List (List ℕ)) (code : List ℕ) (t v : ℕ) (b : Bus)
    → code_makes codes code 5 t v b
    ≡ pick (alike (get_or codes 2 []) code) (byte_events t v (after_code codes code 2 v b)) []
    ++ pick (alike (get_or codes 4 []) code) (reset_events t v (after_code codes code 4 v b)) []
unfolding code_makes
two_make codes code t v b = rw (
  none (alike (get_or codes 0 []) code),
  none (alike (get_or codes 1 []) code),
  none (alike (get_or codes 3 []) code),
  append-nil (pick (alike (get_or codes 2 []) code) (byte_events t v (after_code codes code 2 v b)) []),
)

-- ---- the five in turn, each where it is hit
pub at_clock : (codes : List (List ℕ)) (code : List ℕ) (v : ℕ) (b b1 b2 : Bus) (cs dc : Bool)
    → cs ≡ alike (get_or codes 0 []) code → dc ≡ alike (get_or codes 1 []) code → b1 ≡ pick cs (selected v b) b → b2 ≡ pick dc (data_or v b1) b1
    → b2 ≡ after_code codes code 2 v b
unfolding after_code
at_clock codes code v b b1 b2 cs dc c d e f = f ∙ rw (e, c, d)

pub at_reset : (codes : List (List ℕ)) (code : List ℕ) (v : ℕ) (b b2 b3 b4 : Bus) (clk mosi : Bool)
    → clk ≡ alike (get_or codes 2 []) code → mosi ≡ alike (get_or codes 3 []) code → b2 ≡ after_code codes code 2 v b
    → b3 ≡ pick clk (clocked v b2) b2 → b4 ≡ pick mosi (sent v b3) b3
    → b4 ≡ after_code codes code 4 v b
unfolding after_code
at_reset codes code v b b2 b3 b4 clk mosi c d h e f = f ∙ rw (e, c, d, h)

pub at_last : (codes : List (List ℕ)) (code : List ℕ) (v : ℕ) (b b4 b5 : Bus) (rst : Bool)
    → rst ≡ alike (get_or codes 4 []) code → b4 ≡ after_code codes code 4 v b → b5 ≡ pick rst (reset v b4) b4
    → b5 ≡ after_code codes code 5 v b
unfolding after_code
at_last codes code v b b4 b5 rst c h f = f ∙ rw (c, h)

pub both_made : (codes : List (List ℕ)) (code : List ℕ) (t v : ℕ) (b at-clk at-rst : Bus) (clk rst : Bool)
    → clk ≡ alike (get_or codes 2 []) code → rst ≡ alike (get_or codes 4 []) code
    → at-clk ≡ after_code codes code 2 v b → at-rst ≡ after_code codes code 4 v b
    → written (pick clk (byte_events t v at-clk) []) ++ written (pick rst (reset_events t v at-rst) []) ≡ written (code_makes codes code 5 t v b)
both_made codes code t v b at-clk at-rst clk rst c r x y =
    let byte = pick (alike (get_or codes 2 []) code) (byte_events t v (after_code codes code 2 v b)) [] in
    let edge = pick (alike (get_or codes 4 []) code) (reset_events t v (after_code codes code 4 v b)) [] in
    rw (c, r, x, y) (sym (written_join byte edge) ∙ ap written (sym (two_make codes code t v b)))
