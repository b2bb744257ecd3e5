-- The words of events, one after the other, make these events: between two of them `cs` and `clk` are 0 and no byte is begun.
use mathlib.Core.Path.{◌≡◌, refl, ap, ◌∙◌}
use mathlib.Core.List.{List, [], ◌∷◌}
use Prim.Native.Nat.{ℕ, zero, suc, ◌-◌, ◌/◌, ◌%◌, ◌≤◌, ◌<◌}
use native.Mathlib.Omega.{arith}
use borrow.Author.Tests.{le-ltb}
use Rattle.event.specs.declared.Event.{Event}
use Rattle.vcd_words.specs.Words.{printable}
use Rattle.vcd_values.specs.Levels.{level}
use Rattle.vcd_values.proofs.NumberLaws.{limit}
use Rattle.vcd_values.proofs.ReadBack.{time_digits}
use Rattle.vcd_simulation.specs.declared.body.Wanted.TheVariants as want
use Rattle.vcd_simulation.specs.declared.body.Body.{Body}
use Rattle.vcd_bus.specs.Signals.{byte_kind}
use Rattle.vcd_simulation.specs.Coded.{after_code, code_makes}
use Rattle.vcd_simulation.specs.Simulation.{Codes, Went, begun, changes, is_code, value_word, command_word, word_done, words_done}
use Rattle.vcd.specs.Writer.{event, time_word, level_word, bits_of, reset_words, event_words, simulation, Follows}
use Rattle.vcd.proofs.WrittenBits.{codes, state, join, done_join, byte_done}

-- ---- single words: a time, a level of `dc`, an edge of `rst`, and those at the start
time_done : (all : List (List ℕ)) (t now dc mosi rst byte : ℕ) → now ≤ t → t < limit
    → word_done (codes all) (time_word t) (state now dc mosi rst 0 byte) ≡ record { body = state t dc mosi rst 0 byte; events = [] }
unfolding time_word word_done command_word
time_done all t now dc mosi rst byte h k = rw (time_digits t k, le-ltb t now h)

dc_done : (all : List (List ℕ)) (v t dc mosi rst byte : ℕ) → v < 2
    → word_done (codes all) (level_word v "d") (state t dc mosi rst 0 byte) ≡ record { body = state t v mosi rst 0 byte; events = [] }
unfolding word_done command_word value_word level is_code printable changes after_code code_makes
dc_done all zero t dc mosi rst byte h = refl
dc_done all (suc zero) t dc mosi rst byte h = refl
dc_done all (suc (suc v)) t dc mosi rst byte h = absurd (omega arith)

-- an edge has the level that `rst` leaves for its value
edge_done : (all : List (List ℕ)) (v t dc mosi byte : ℕ) → v < 2
    → words_done (codes all) (reset_words v) (state t dc mosi v 0 byte)
    ≡ record { body = state t dc mosi (1 - v) 0 byte; events = event t 4 v ∷ [] }
unfolding word_done command_word value_word level is_code printable changes after_code code_makes
edge_done all zero t dc mosi byte h = refl
edge_done all (suc zero) t dc mosi byte h = refl
edge_done all (suc (suc v)) t dc mosi byte h = absurd (omega arith)

start_is : (all : List (List ℕ))
    → words_done (codes all) (level_word 0 "s" ∷ level_word 0 "k" ∷ []) begun ≡ record { body = state 0 1 1 1 0 0; events = [] }
unfolding word_done command_word value_word level is_code printable changes after_code code_makes
start_is all = refl

pub start_done : (all ws : List (List ℕ))
    → words_done (codes all) (level_word 0 "s" ∷ level_word 0 "k" ∷ ws) begun ≡ words_done (codes all) ws (state 0 1 1 1 0 0)
start_done all ws =
    done_join (codes all) (level_word 0 "s" ∷ level_word 0 "k" ∷ []) ws begun
    ∙ ap (λ (w : Went). join w (words_done (codes all) ws)) (start_is all)

-- ---- one event: words that make nothing, and then the others
behind : (c : Codes) (w : List ℕ) (ws : List (List ℕ)) (b next : Body) (r : Went)
    → word_done c w b ≡ record { body = next; events = [] } → words_done c ws next ≡ r → words_done c (w ∷ ws) b ≡ r
behind c w ws b next r e f = ap (λ (x : Went). join x (words_done c ws)) e ∙ f

module _ (all : List (List ℕ)) (t now dc mosi rst byte : ℕ) (later : now ≤ t) (fits : t < limit) where
  byte_event : (d v : ℕ) → d < 2 → v < 256
      → words_done (codes all) (time_word t ∷ level_word d "d" ∷ bits_of 8 v) (state now dc mosi rst 0 byte)
      ≡ record { body = state t d (v / 1 % 2) rst 0 v; events = event t (byte_kind d) v ∷ [] }
  byte_event d v h small =
      behind (codes all) (time_word t) (level_word d "d" ∷ bits_of 8 v) _ _ _ (time_done all t now dc mosi rst byte later fits)
      (behind (codes all) (level_word d "d") (bits_of 8 v) _ _ _ (dc_done all d t dc mosi rst byte h)
      (byte_done all v t d mosi rst byte small))

  edge_event : rst < 2
      → words_done (codes all) (time_word t ∷ reset_words rst) (state now dc mosi rst 0 byte)
      ≡ record { body = state t dc mosi (1 - rst) 0 byte; events = event t 4 rst ∷ [] }
  edge_event h =
      behind (codes all) (time_word t) (reset_words rst) _ _ _ (time_done all t now dc mosi rst byte later fits)
      (edge_done all rst t dc mosi byte h)

-- ---- all of them: what is left is at rest at the last time
pub record Reads (last : ℕ) (es : List Event) (w : Went) : Type 0 where
  pub wanted_is : w.body.wanted ≡ want.Command
  pub now_is : w.body.now ≡ last
  pub events_are : w.events ≡ es

event_then : (c : Codes) (last : ℕ) (e : Event) (es : List Event) (b next : Body)
    → words_done c (event_words e) b ≡ record { body = next; events = e ∷ [] }
    → Reads last es (words_done c (simulation es last) next)
    → Reads last (e ∷ es) (words_done c (simulation (e ∷ es) last) b)
event_then c last e es b next h r =
    rw (done_join c (event_words e) (simulation es last) b, h)
    (record { wanted_is = r.wanted_is; now_is = r.now_is; events_are = ap (λ (l : List Event). e ∷ l) r.events_are })

within : {last now rst : ℕ} {es : List Event} → Follows last now rst es → now ≤ last
within (Follows.over h) = h
within (Follows.command t v h small f) = omega (arith, within f)
within (Follows.datum t v h small f) = omega (arith, within f)
within (Follows.asserted t h f) = omega (arith, within f)
within (Follows.released t h f) = omega (arith, within f)

pub follows_done : {last now rst : ℕ} {es : List Event} (all : List (List ℕ)) (dc mosi byte : ℕ) → last < limit → Follows last now rst es
    → Reads last es (words_done (codes all) (simulation es last) (state now dc mosi rst 0 byte))
unfolding event_words
follows_done {last} {now} {rst} all dc mosi byte k (Follows.over h) =
    rw (time_done all last now dc mosi rst byte h k) (record { wanted_is = refl; now_is = refl; events_are = refl })
follows_done {last} {now} {rst} all dc mosi byte k (Follows.command {es = es} t v h small f) =
    event_then (codes all) last (event t 1 v) es _ _
    (byte_event all t now dc mosi rst byte h (omega (arith, within f)) 0 v (omega arith) small)
    (follows_done all 0 (v / 1 % 2) v k f)
follows_done {last} {now} {rst} all dc mosi byte k (Follows.datum {es = es} t v h small f) =
    event_then (codes all) last (event t 2 v) es _ _
    (byte_event all t now dc mosi rst byte h (omega (arith, within f)) 1 v (omega arith) small)
    (follows_done all 1 (v / 1 % 2) v k f)
follows_done {last} {now} all dc mosi byte k (Follows.asserted {es = es} t h f) =
    event_then (codes all) last (event t 4 1) es _ _
    (edge_event all t now dc mosi 1 byte h (omega (arith, within f)) (omega arith))
    (follows_done all dc mosi byte k f)
follows_done {last} {now} all dc mosi byte k (Follows.released {es = es} t h f) =
    event_then (codes all) last (event t 4 0) es _ _
    (edge_event all t now dc mosi 0 byte h (omega (arith, within f)) (omega arith))
    (follows_done all dc mosi byte k f)
