-- Words one after the other, with their events in a buffer: what was read so far, and then the rest, is all.
use mathlib.Core.Path.{◌≡◌, refl, sym, ap, ◌∙◌}
use mathlib.Core.Bool.{Bool, true, false, false≢true}
use mathlib.Core.List.{List, [], ◌∷◌, ◌++◌, append_assoc}
use Prim.Native.Nat.{ℕ, ◌+◌, ◌≤◌, ◌<◌}
use native.Mathlib.Omega.{arith}
use borrow.Author.Tests.{leb-true, leb-false}
use lib.ListN.{length, take, drop, length-append, length-take, drop_of_length-le}
use Rattle.event.specs.declared.Event.{Event}
use Rattle.vcd_words.specs.Words.{words, closed, opened, shut}
use Rattle.vcd_words.specs.Places.{part}
use Rattle.vcd_words.specs.declared.Span.{Span}
use Rattle.vcd_words.proofs.SpanLaws.{Next}
use Rattle.vcd_simulation.specs.declared.body.Body.{Body}
use Rattle.vcd_simulation.specs.declared.word.Stepped.{Stepped}
use Rattle.vcd_simulation.specs.Simulation.{Codes, word_done, words_done}
use Rattle.vcd_simulation.specs.Written.{written, Holds}
use Rattle.vcd_simulation.specs.InnerSteps.{Steps}
use Rattle.vcd_simulation.specs.Feed.{words_by, is_open, behind, Feeds}
use Rattle.vcd_simulation.proofs.Holding.{written_join, later}

-- ---- so far
pub record Feeding (codes : Codes) (bytes : List ℕ) (at : ℕ) (last : Bool) (b : Body) (next held : ℕ) (body : Body) (out out' : List ℕ) : Type 0 where
  pub events : List Event
  pub all : words_done codes (words_by last (drop at bytes)) b ≡ behind events (words_done codes (words_by last (drop next bytes)) body)
  pub bytes_held : take held out' ≡ written events
  pub held_in : held ≤ length out'
  pub size : length out' ≡ length out
  pub rest : drop held out' ≡ drop held out
  pub not_back : at ≤ next
  pub inside_bytes : at ≤ length bytes → next ≤ length bytes
  pub moves : 0 < held → at < next
  pub open_kept : last ≡ false → opened (drop next bytes) ≡ opened (drop at bytes)

pub feeding_start : (codes : Codes) (bytes : List ℕ) (at : ℕ) (last : Bool) (b : Body) (out : List ℕ) → Feeding codes bytes at last b at 0 b out out
feeding_start codes bytes at last b out = record {
  events = [];
  all = refl;
  bytes_held = refl;
  held_in = omega arith;
  size = refl;
  rest = refl;
  not_back = omega arith;
  inside_bytes = λ h. h;
  moves = λ h. absurd (omega (arith, h));
  open_kept = λ e. refl;
}

module _ (codes : Codes) (bytes : List ℕ) (at : ℕ) (last : Bool) (b : Body) (next held : ℕ) (body : Body) (out out' : List ℕ)
    (f : Feeding codes bytes at last b next held body out out') where
  -- it stops there
  pub feeding_stops : (held + 20 ≤ length out → words_by last (drop next bytes) ≡ []) → Feeds codes bytes at last b (record { body = body; next = next; held = held }) out out'
  feeding_stops s = record {
    events = f.events;
    all = f.all;
    bytes_held = f.bytes_held;
    held_in = f.held_in;
    size = f.size;
    rest = f.rest;
    not_back = f.not_back;
    inside = f.inside_bytes;
    moves = f.moves;
    stops = s;
    open_kept = f.open_kept;
  }

  -- one word more
  pub feeding_more : (w : List ℕ) (to : ℕ) (s : Stepped) (out'' : List ℕ) → next < to → (next ≤ length bytes → to ≤ length bytes)
      → words_by last (drop next bytes) ≡ w ∷ words_by last (drop to bytes) → held + 20 ≤ length out' → Steps (word_done codes w body) held s out' out''
      → s.held ≤ length out'' → (last ≡ false → opened (drop next bytes) ≡ opened (drop to bytes)) → Feeding codes bytes at last b to s.held s.body out out''
  feeding_more w to s out'' l m e room t k o = record {
    events = f.events ++ (word_done codes w body).events;
    all = f.all ∙ ap (λ (ws : List (List ℕ)). behind f.events (words_done codes ws body)) e
        ∙ ap (λ (x : Body). behind f.events (behind ev (words_done codes (words_by last (drop to bytes)) x))) (sym t.body_is)
        ∙ ap (λ (es : List Event). record { body = (words_done codes (words_by last (drop to bytes)) s.body).body; events = es })
        (sym (append_assoc f.events ev (words_done codes (words_by last (drop to bytes)) s.body).events));
    bytes_held = t.holds.bytes ∙ ap (λ (l : List ℕ). l ++ written ev) f.bytes_held ∙ sym (written_join f.events ev);
    held_in = k;
    size = t.holds.size ∙ f.size;
    rest = t.holds.rest ∙ ap (λ (n : ℕ). drop n out') t.holds.count ∙ later held (length (written ev)) out out' f.rest ∙ ap (λ (n : ℕ). drop n out) (sym t.holds.count);
    not_back = omega (arith, f.not_back, l);
    inside_bytes = λ h. m (f.inside_bytes h);
    moves = λ h. omega (arith, f.not_back, l);
    open_kept = λ n. sym (o n) ∙ f.open_kept n;
  }
    where
      ev : List Event
      ev = (word_done codes w body).events

-- ---- what is left, by the next word
pub held_inside : (more : List ℕ) (held r : ℕ) (b c : List ℕ) → Holds more held r b c → held ≤ length b → r ≤ length c
held_inside more held r b c h k =
    omega (arith, h.count, k, length-take r c, length-take held b, length-append (take held b) more, ap length h.bytes)

nil_left : (us vs : List (List ℕ)) → us ++ vs ≡ [] → us ≡ []
nil_left [] vs e = refl
nil_left (u ∷ us) vs e = absurd (omega (arith, ap length e))

none_closed : (l : List ℕ) → words l ≡ [] → closed l ≡ []
unfolding words
none_closed l e = nil_left (closed l) (shut (opened l) []) e

pub none_by : (last : Bool) (l : List ℕ) → words l ≡ [] → words_by last l ≡ []
none_by true l e = e
none_by false l e = none_closed l e

pub over_by : (last : Bool) (bytes : List ℕ) (at : ℕ) → length bytes ≤ at → words_by last (drop at bytes) ≡ []
unfolding words closed opened
over_by last bytes at h = none_by last (drop at bytes) (ap words (drop_of_length-le bytes h))

module _ (bytes : List ℕ) (at : ℕ) (s : Span) (n : Next bytes at s) where
  pub open_by : (last : Bool) → is_open last s.to (length bytes) ≡ true → words_by last (drop at bytes) ≡ []
  open_by true e = absurd (false≢true e)
  open_by false e = n.ends (leb-true (length bytes) s.to e)

  pub some_by : (last : Bool) → s.from < s.to → is_open last s.to (length bytes) ≡ false
      → words_by last (drop at bytes) ≡ part bytes s.from s.to ∷ words_by last (drop s.to bytes)
  some_by true l e = n.some l
  some_by false l e = n.closes (leb-false (length bytes) s.to e)

-- a word that was read and is not the last leaves the open one where it is
pub open_by_word : (bytes : List ℕ) (at : ℕ) (s : Span) → Next bytes at s → (last : Bool) → is_open last s.to (length bytes) ≡ false
    → last ≡ false → opened (drop at bytes) ≡ opened (drop s.to bytes)
open_by_word bytes at s n true e h = absurd (false≢true (sym h))
open_by_word bytes at s n false e h = n.keeps (leb-false (length bytes) s.to e)
