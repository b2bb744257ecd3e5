-- The worked example of docs/FORMAT.md and two edges of `rst` can be written, and what is written of a few events is this text.
use mathlib.Core.Path.{◌≡◌, refl}
use mathlib.Core.Bool.{false}
use mathlib.Core.List.{List, [], ◌∷◌, ◌++◌}
use native.Mathlib.Omega.{arith}
use Rattle.text.specs.Text.{ascii, digits}
use Rattle.event.specs.declared.Event.{Event}
use Rattle.vcd.specs.Dump.{malformed, unsignalled, dump_events}
use Rattle.vcd.specs.Writer.{event, declarations, time_word, event_words, dump_of, Follows, Writable}
use Rattle.vcd.proofs.ReadBack.{accepted, signalled, read_back}

-- 00 3F, 04, 22 80 01 00 00 00 01, 13 F0, 12, and an advance at 3,100
abbrev pub worked : List Event
worked =
    event 0 1 0x00
    ∷ event 0 2 0x3f
    ∷ event 0 1 0x04
    ∷ event 100 1 0x22
    ∷ event 100 2 0x80
    ∷ event 100 2 1
    ∷ event 100 2 0
    ∷ event 100 2 0
    ∷ event 100 2 0
    ∷ event 100 2 1
    ∷ event 100 1 0x13
    ∷ event 100 2 0xf0
    ∷ event 100 1 0x12
    ∷ []

worked_writable : Writable worked 3100
worked_writable = record {
  follows =
      Follows.command {now = 0} 0 0x00 (omega arith) (omega arith)
      (Follows.datum {now = 0} 0 0x3f (omega arith) (omega arith)
      (Follows.command {now = 0} 0 0x04 (omega arith) (omega arith)
      (Follows.command {now = 0} 100 0x22 (omega arith) (omega arith)
      (Follows.datum {now = 100} 100 0x80 (omega arith) (omega arith)
      (Follows.datum {now = 100} 100 1 (omega arith) (omega arith)
      (Follows.datum {now = 100} 100 0 (omega arith) (omega arith)
      (Follows.datum {now = 100} 100 0 (omega arith) (omega arith)
      (Follows.datum {now = 100} 100 0 (omega arith) (omega arith)
      (Follows.datum {now = 100} 100 1 (omega arith) (omega arith)
      (Follows.command {now = 100} 100 0x13 (omega arith) (omega arith)
      (Follows.datum {now = 100} 100 0xf0 (omega arith) (omega arith)
      (Follows.command {now = 100} 100 0x12 (omega arith) (omega arith)
      (Follows.over {now = 100} (omega arith))))))))))))));
  fits = omega arith;
}

pub worked_read : (malformed (dump_of worked 3100) ≡ false)
    × (unsignalled (dump_of worked 3100) ≡ false)
    × (dump_events (dump_of worked 3100) ≡ worked ++ (event 3100 5 0 ∷ []))
worked_read = (accepted worked 3100 worked_writable, signalled worked 3100 worked_writable, read_back worked 3100 worked_writable)

-- reset asserted at 5 and released at 6, and then command A4, up to the largest time
abbrev edges : List Event
edges = event 5 4 1 ∷ event 6 4 0 ∷ event 6 1 0xa4 ∷ []

edges_writable : Writable edges 18_446_744_073_709_551_615
edges_writable = record {
  follows =
      Follows.asserted {now = 0} 5 (omega arith)
      (Follows.released {now = 5} 6 (omega arith)
      (Follows.command {now = 6} 6 0xa4 (omega arith) (omega arith) (Follows.over {now = 6} (omega arith))));
  fits = omega arith;
}

pub edges_read : dump_events (dump_of edges 18_446_744_073_709_551_615) ≡ edges ++ (event 18_446_744_073_709_551_615 5 0 ∷ [])
edges_read = read_back edges 18_446_744_073_709_551_615 edges_writable

-- what is written of them
pub edges_text : dump_of edges 70
    ≡ ascii "$timescale 1ns $end $var wire 1 s cs $end $var wire 1 d dc $end $var wire 1 k clk $end $var wire 1 m mosi $end "
    ++ (ascii "$var wire 1 r rst $end $enddefinitions $end 0s 0k #5 0r #6 1r #6 0d "
    ++ ascii "1m 1k 0k 0m 1k 0k 1m 1k 0k 0m 1k 0k 0m 1k 0k 1m 1k 0k 0m 1k 0k 0m 1k 0k #70 ")
unfolding dump_of declarations event_words time_word digits
edges_text = refl
