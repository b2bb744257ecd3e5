-- Words under way through the controller: what was read so far, and then the rest, is all; and the calls of what was read are made.
use mathlib.Core.Path.{◌≡◌, sym, ap, ◌∙◌}
use mathlib.Core.Bool.{Bool, false}
use mathlib.Core.List.{List, [], ◌∷◌, ◌++◌, append_assoc, append-nil}
use Prim.Native.Nat.{ℕ, ◌≤◌, ◌<◌}
use lib.ListN.{length, take, drop}
use Rattle.controller.specs.World.{World}
use Rattle.event.specs.declared.Event.{Event}
use Rattle.event.specs.Events.{ran}
use Rattle.vcd_words.specs.Words.{opened}
use Rattle.vcd_simulation.specs.declared.body.Body.{Body}
use Rattle.vcd_simulation.specs.declared.feeding.Fed.{Fed}
use Rattle.vcd_simulation.specs.Simulation.{Codes, Went, words_done}
use Rattle.vcd_simulation.specs.Feed.{words_by, behind, Feeds}
use Rattle.vcd_simulation.proofs.FeedLaws.{over_by}
use Rattle.vcd.specs.Played.{calls}
use Rattle.vcd.proofs.Calls.{AllFit, calls_run, calls_join}
use Rattle.vcd.proofs.Fitting.{words_fit}
use Rattle.vcd_playing.specs.declared.words.Turn.{Turn}
use Rattle.vcd_playing.specs.Words.{went, Plays}

abbrev pub Timed : Body → Type 0
Timed b = b.now < 0x1_0000_0000_0000_0000

-- the first of the events fit where all do
fit_first : (es fs : List Event) → AllFit (es ++ fs) → AllFit es
fit_first [] fs a = AllFit.no_event
fit_first (e ∷ es) fs (AllFit.one_more f a) = AllFit.one_more f (fit_first es fs a)

pub record Playing (codes : Codes) (bytes : List ℕ) (at : ℕ) (last : Bool) (b : Body) (next : ℕ) (body : Body) (w v : World) : Type 0 where
  pub events : List Event
  pub all : went codes bytes at last b ≡ behind events (went codes bytes next last body)
  pub called : v ≡ calls events w
  pub open_kept : last ≡ false → opened (drop next bytes) ≡ opened (drop at bytes)
  pub inside : at ≤ length bytes → next ≤ length bytes
  pub timed : Timed body

module _ {codes : Codes} {bytes : List ℕ} {at : ℕ} {last : Bool} {b : Body} {w : World} {next : ℕ} {body : Body} {v : World}
    (p : Playing codes bytes at last b next body w v) where
  -- one part more: its words, and the run of its events
  pub playing_more : {r : Fed} {out out' : List ℕ} {u : World} → Feeds codes bytes next last body r out out' → Timed r.body
      → u ≡ ran (take r.held out') v → Playing codes bytes at last b r.next r.body w u
  playing_more {r} {out} {out'} {u} f t e = record {
    events = p.events ++ f.events;
    all = p.all ∙ ap (behind p.events) f.all
        ∙ ap (λ (es : List Event). record { body = (went codes bytes r.next last r.body).body; events = es })
        (sym (append_assoc p.events f.events (went codes bytes r.next last r.body).events));
    called = e ∙ ap (λ (l : List ℕ). ran l v) f.bytes_held ∙ calls_run f.events fit v ∙ ap (calls f.events) p.called
        ∙ sym (calls_join p.events f.events w);
    open_kept = λ n. f.open_kept n ∙ p.open_kept n;
    inside = λ h. f.inside (p.inside h);
    timed = t;
  }
    where
      fit : AllFit f.events
      fit = fit_first f.events (went codes bytes r.next last r.body).events
          (rw (← ap (λ (x : Went). x.events) f.all) (words_fit codes (words_by last (drop next bytes)) body p.timed).1)

  -- no word is left
  pub playing_over : (r : Turn) → r.body ≡ body → r.next ≡ next → words_by last (drop next bytes) ≡ [] → Plays codes bytes at last b r w v
  playing_over r eb en n = record {
    body_is = eb ∙ sym (ap (λ (x : Went). x.body) over);
    called = p.called ∙ ap (λ (es : List Event). calls es w) (sym (append-nil p.events) ∙ sym (ap (λ (x : Went). x.events) over));
    none_left = rw en n;
    open_kept = λ e. rw en (p.open_kept e);
    inside = λ h. rw en (p.inside h);
  }
    where
      over : went codes bytes at last b ≡ behind p.events (record { body = body; events = [] })
      over = p.all ∙ ap (λ (ws : List (List ℕ)). behind p.events (words_done codes ws body)) n

  pub playing_end : (r : Turn) → r.body ≡ body → r.next ≡ next → length bytes ≤ next → Plays codes bytes at last b r w v
  playing_end r eb en h = playing_over r eb en (over_by last bytes next h)
