-- A dump read part by part: while its first bytes are kept, and where its declarations are over.
use mathlib.Core.Path.{◌≡◌, refl, sym, ap, subst, ◌∙◌}
use mathlib.Core.Bool.{true, false≢true}
use mathlib.Core.List.{List, [], ◌++◌, append_assoc, append-nil}
use Prim.Native.Nat.{ℕ, ◌+◌, ◌≤◌, ◌<◌}
use native.Mathlib.Omega.{arith}
use lib.ListN.{length, take, drop, length-drop, take-append-drop}
use lib.Seq.{length-take-le, take_all}
use Rattle.std.proofs.Common.{Option, Some, None}
use Rattle.controller.specs.World.{World}
use Rattle.vcd_words.specs.Words.{closed, opened}
use Rattle.vcd_words.specs.declared.Span.{Span}
use Rattle.vcd_words.specs.Places.{span_at}
use Rattle.vcd_words.proofs.SpanLaws.{next_is}
use Rattle.vcd_declarations.specs.declared.head.Begun.{Begun}
use Rattle.vcd_declarations.specs.Begun.{Begins}
use Rattle.vcd_simulation.specs.declared.body.Body.{Body}
use Rattle.vcd_simulation.specs.Simulation.{begun, words_done}
use Rattle.vcd_simulation.specs.Feed.{codes_by}
use Rattle.vcd.specs.Played.{calls}
use Rattle.vcd_reading.specs.declared.reader.Stage.{Stage}
use Rattle.vcd_reading.specs.declared.reader.Stage.TheVariants as stage
use Rattle.vcd_reading.specs.declared.reader.Reader.{Reader}
use Rattle.vcd_reading.specs.declared.reading.Step.{Step}
use Rattle.vcd_reading.specs.Reading.{Heading, Playing, LongHead, StandsBy, Stands}
use Rattle.vcd_reading.specs.InnerStep.{is_playing, gone_on, PlaysPart}
use Rattle.vcd_reading.specs.InnerCarried.{Carries}
use Rattle.vcd_reading.proofs.CarryLaws.{Kept}

-- ---- a word after the declarations is closed there, or none is
pub closed_there : (bytes : List ℕ) (at : ℕ) (s : Span) → s ≡ span_at bytes at → at ≤ length bytes → s.to < length bytes → 0 < length (closed (drop at bytes))
closed_there bytes at s e l h = omega (arith, ap length ((next_is bytes at s e l).closes h))

none_there : (bytes : List ℕ) (at : ℕ) (s : Span) → s ≡ span_at bytes at → at ≤ length bytes → length bytes ≤ s.to → closed (drop at bytes) ≡ []
none_there bytes at s e l h = (next_is bytes at s e l).ends h

pub begins_as : {bytes bytes' : List ℕ} {b : Begun} → bytes ≡ bytes' → Begins bytes b → Begins bytes' b
begins_as e g = rw (← e) g

-- ---- where a word behind them is closed, they are over
pub settle_may : (held : ℕ) (kept : List ℕ) (b : Begun) → Begins (take held kept) b → (s : Span) → s ≡ span_at (take held kept) b.next → held ≤ length kept
    → s.to < held → 0 < length (closed (drop b.next (take held kept)))
settle_may held kept b g s e l h = closed_there (take held kept) b.next s e g.next_in (omega (arith, h, length-take-le held kept l))

-- ---- the declarations are over in the first bytes
module _ (held : ℕ) (kept : List ℕ) (b : Begun) (body : Body) (eb : body ≡ begun) (l : held ≤ length kept) (g : Begins (take held kept) b)
    (k : 0 < length (closed (drop b.next (take held kept)))) (s : Step) (word word' : List ℕ) (v u : World)
    (p : PlaysPart kept (record { stage = stage.Playing; held = held; begun = b; body = body; carried = 0 }) (take held kept) b.next s word word' v u) where
  abbrev first : Reader
  first = record { stage = stage.Playing; held = held; begun = b; body = body; carried = 0 }

  abbrev last : Body
  last = (words_done (codes_by (take held kept) b.head) (closed (drop b.next (take held kept))) body).body

  head_stands : (c : Option ℕ) → Carries (opened (drop b.next (take held kept))) 0 c word word' → Stands (take held kept) (gone_on first last c) kept word' v u
  head_stands (Some n) x = record {
    held_in = l;
    begins = g;
    settled = k;
    later = [];
    dump_is = sym (append-nil (take held kept));
    body_is = ap (λ (x : Body). (words_done (codes_by (take held kept) b.head) (closed (drop b.next (take held kept))) x).body) eb;
    called = p.called ∙ ap (λ (x : Body). calls (words_done (codes_by (take held kept) b.head) (closed (drop b.next (take held kept))) x).events v) eb;
    carried_in = x.cases.0;
    carried_is = x.cases.1;
  }
  head_stands None x = record {
    front = take held kept;
    rest = [];
    cut = sym (append-nil (take held kept));
    from = b.next;
    longer = omega (arith, x.cases, x.size);
  }

  stands_there : Stands (take held kept) s.reader kept word' v u
  stands_there = subst (λ (x : Reader). Stands (take held kept) x kept word' v u) (sym p.reader_is) (head_stands p.carried p.carries)

  -- it plays on
  playing_stage : (x : Stage) → is_playing x ≡ true → x ≡ stage.Playing
  playing_stage stage.Heading e = absurd (false≢true e)
  playing_stage stage.Playing e = refl
  playing_stage stage.HeadTooLong e = absurd (false≢true e)
  playing_stage stage.WordTooLong e = absurd (false≢true e)

  pub plays_there : is_playing s.reader.stage ≡ true → Playing (take held kept) s.reader kept word' v u
  plays_there e = subst (λ (x : Stage). StandsBy x (take held kept) s.reader kept word' v u) (playing_stage s.reader.stage e) stands_there

-- ---- one part more is kept
module _ (d bytes kept kept' : List ℕ) (h n : ℕ) (g : Heading d h kept) (p : Kept bytes h n kept kept') where
  kept_front : take (h + n) kept' ≡ d ++ take n bytes
  kept_front = p.front ∙ ap (λ (x : List ℕ). x ++ take n bytes) g.all_kept

  held_most : h + n ≤ length kept'
  held_most = omega (arith, p.count, p.size, g.held_in)

  pub whole_part : d ++ bytes ≡ take (h + n) kept' ++ drop n bytes
  whole_part = ap (λ (x : List ℕ). d ++ x) (sym (take-append-drop n bytes)) ∙ sym (append_assoc d (take n bytes) (drop n bytes))
      ∙ ap (λ (x : List ℕ). x ++ drop n bytes) (sym kept_front)

  -- all of it, or there was no room for the rest
  pub keeps_all : n ≡ length bytes → Heading (d ++ bytes) (h + n) kept'
  keeps_all e = record { held_in = held_most; all_kept = kept_front ∙ ap (λ (x : List ℕ). d ++ x) (take_all n bytes (omega (arith, e))) }

  pub keeps_some : (n ≡ length bytes → ⊥) → (b : Begun) → Begins (take (h + n) kept') b → (s : Span) → s ≡ span_at (take (h + n) kept') b.next → h + n ≤ s.to
      → LongHead (d ++ bytes) (length kept')
  keeps_some e b w s q o =
      let most : h + n ≡ length kept' = omega (arith, p.count, p.size, e, g.held_in) in
      let size = length-take-le (h + n) kept' held_most in record {
        front = take (h + n) kept';
        rest = drop n bytes;
        cut = whole_part;
        full = size ∙ most;
        more = omega (arith, p.count, p.size, e, g.held_in, length-drop n bytes);
        begun = b;
        begins = w;
        unsettled = none_there (take (h + n) kept') b.next s q w.next_in (omega (arith, o, size));
      }
