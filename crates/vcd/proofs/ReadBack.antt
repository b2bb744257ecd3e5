-- A dump that is written from events is accepted and reads back these events, and then an advance at the last time: its words are those
-- written, its declarations give the five signals their codes, and the words of each event make that event.
use mathlib.Core.Path.{◌≡◌, ap, ◌∙◌}
use mathlib.Core.Bool.{true, false}
use mathlib.Core.List.{List, [], ◌∷◌, ◌++◌}
use Prim.Native.Nat.{ℕ}
use Rattle.event.specs.declared.Event.{Event}
use Rattle.vcd_words.specs.Words.{words}
use Rattle.vcd_declarations.specs.Declarations.{cut, head_of}
use Rattle.vcd.specs.Dump.{simulated, malformed, unsignalled, dump_events}
use Rattle.vcd.specs.Writer.{event, level_word, simulation, dump_of, Writable}
use Rattle.vcd.proofs.WrittenWords.{words_dump}
use Rattle.vcd.proofs.WrittenHead.{cuts, head, cut_is, head_is}
use Rattle.vcd.proofs.WrittenEvents.{Reads, start_done, follows_done}

-- ---- the two parts of a written dump
abbrev rest : List Event → ℕ → List (List ℕ)
rest es last = level_word 0 "s" ∷ level_word 0 "k" ∷ simulation es last

cut_dump : (es : List Event) (last : ℕ) → cut (words (dump_of es last)) ≡ record { declarations = cuts; ended = true; rest = rest es last }
cut_dump es last = ap cut (words_dump es last) ∙ cut_is (rest es last)

head_dump : (es : List Event) (last : ℕ) → head_of (words (dump_of es last)) ≡ head
unfolding head_of
head_dump es last = rw (cut_dump es last) head_is

simulated_reads : (es : List Event) (last : ℕ) → Writable es last → Reads last es (simulated (dump_of es last))
unfolding simulated
simulated_reads es last w =
    rw (head_dump es last, cut_dump es last, start_done head.all (simulation es last))
    (follows_done head.all 1 1 0 w.fits w.follows)

-- ---- the theorem
pub accepted : (es : List Event) (last : ℕ) → Writable es last → malformed (dump_of es last) ≡ false
unfolding malformed
accepted es last w = rw (head_dump es last, cut_dump es last, (simulated_reads es last w).wanted_is)

pub signalled : (es : List Event) (last : ℕ) → Writable es last → unsignalled (dump_of es last) ≡ false
unfolding unsignalled
signalled es last w = rw (head_dump es last)

pub read_back : (es : List Event) (last : ℕ) → Writable es last
    → dump_events (dump_of es last) ≡ es ++ (record { time = last; kind = 5; value = 0 } ∷ [])
unfolding dump_events
read_back es last w =
    let r = simulated_reads es last w in
    rw r.events_are (ap (λ (t : ℕ). es ++ (event t 5 0 ∷ [])) r.now_is)
