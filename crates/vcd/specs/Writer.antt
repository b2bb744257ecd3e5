-- A dump written from events: 1 ns, the five signals, and for each event the levels that make it.
use Rattle.std.specs.Prelude.{List, [], ◌∷◌, ◌++◌, ℕ, zero, suc, ◌+◌, ◌/◌, ◌%◌, ◌^◌, ◌≤◌, ◌<◌, eqb}
use Prim.Native.String.{String}
use Rattle.base.specs.Pick.{pick}
use Rattle.text.specs.Text.{ascii, digits}
use Rattle.event.specs.declared.Event.{Event}

-- words, a blank behind each
abbrev pub text : List (List ℕ) → List ℕ
text [] = []
text (w ∷ ws) = w ++ 32 ∷ text ws

-- ---- the declarations: a signal of one bit, by its code and its name
abbrev pub signal : String → String → List (List ℕ)
signal code name = ascii "$var" ∷ ascii "wire" ∷ ascii "1" ∷ ascii code ∷ ascii name ∷ ascii "$end" ∷ []

abbrev pub signals : List (List ℕ)
signals = signal "s" "cs" ++ (signal "d" "dc" ++ (signal "k" "clk" ++ (signal "m" "mosi" ++ signal "r" "rst")))

unfoldable pub declarations : List (List ℕ)
declarations = (ascii "$timescale" ∷ ascii "1ns" ∷ ascii "$end" ∷ []) ++ (signals ++ (ascii "$enddefinitions" ∷ ascii "$end" ∷ []))

-- ---- the simulation: a time; a level of the signal with that code
unfoldable pub time_word : ℕ → List ℕ
time_word t = ascii "#" ++ digits t

abbrev pub level_word : ℕ → String → List ℕ
level_word v code = (48 + v) ∷ ascii code

-- a level of `mosi`, a rise and a fall of `clk`
abbrev pub bit_words : ℕ → List (List ℕ)
bit_words v = level_word v "m" ∷ level_word 1 "k" ∷ level_word 0 "k" ∷ []

-- the lowest n bits of a value, the highest of them first
abbrev pub bits_of : ℕ → ℕ → List (List ℕ)
bits_of zero value = []
bits_of (suc n) value = bit_words (value / 2 ^ n % 2) ++ bits_of n value

-- `dc` is 0 for a command, `rst` is 0 where reset is asserted
abbrev pub byte_words : ℕ → ℕ → List (List ℕ)
byte_words kind value = level_word (pick (eqb kind 1) 0 1) "d" ∷ bits_of 8 value

abbrev pub reset_words : ℕ → List (List ℕ)
reset_words value = level_word (pick (eqb value 1) 0 1) "r" ∷ []

unfoldable pub event_words : Event → List (List ℕ)
event_words e = time_word e.time ∷ pick (eqb e.kind 4) (reset_words e.value) (byte_words e.kind e.value)

-- the events, and the last time
abbrev pub simulation : List Event → ℕ → List (List ℕ)
simulation [] last = time_word last ∷ []
simulation (e ∷ es) last = event_words e ++ simulation es last

-- `cs` and `clk` are 0 from the start
unfoldable pub dump_of : List Event → ℕ → List ℕ
dump_of es last = text (declarations ++ (level_word 0 "s" ∷ level_word 0 "k" ∷ simulation es last))

-- ---- the events that can be written
abbrev pub event : ℕ → ℕ → ℕ → Event
event t kind value = record { time = t; kind = kind; value = value }

-- these events from a time and a level of `rst` on: commands, data bytes and edges, at times that do not fall and are not above the last
pub data Follows (last : ℕ) : ℕ → ℕ → List Event → Type 0 where
  over : {now rst : ℕ} → now ≤ last → Follows last now rst []
  command : {now rst : ℕ} {es : List Event} (t value : ℕ) → now ≤ t → value < 256 → Follows last t rst es
      → Follows last now rst (event t 1 value ∷ es)
  datum : {now rst : ℕ} {es : List Event} (t value : ℕ) → now ≤ t → value < 256 → Follows last t rst es
      → Follows last now rst (event t 2 value ∷ es)
  asserted : {now : ℕ} {es : List Event} (t : ℕ) → now ≤ t → Follows last t 0 es → Follows last now 1 (event t 4 1 ∷ es)
  released : {now : ℕ} {es : List Event} (t : ℕ) → now ≤ t → Follows last t 1 es → Follows last now 0 (event t 4 0 ∷ es)

-- `rst` is 1 at first, so the first edge asserts; the last time is one of 64 bits
pub record Writable (es : List Event) (last : ℕ) : Type 0 where
  pub follows : Follows last 0 1 es
  pub fits : last < 0x1_0000_0000_0000_0000
