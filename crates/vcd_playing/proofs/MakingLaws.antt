-- A configuration's making, a dump's calls, and the order of what turns a dump back.
use mathlib.Core.Path.{◌≡◌, refl, sym, ap, ◌∙◌}
use mathlib.Core.Bool.{Bool, true, false, false≢true}
use mathlib.Core.List.{List, [], ◌∷◌}
use Prim.Native.Nat.{ℕ}
use native.Mathlib.Omega.{arith}
use lib.Dec.{eqb}
use lib.ListN.{length}
use borrow.Author.Tests.{eq-eqb, ne_eqb}
use Rattle.std.specs.Result.{MatchResult, is_ok}
use Rattle.std.proofs.Common.{Result, Ok, Err}
use Rattle.base.specs.Pick.{pick}
use Rattle.base.specs.RefusalNumbers.{refusal_number}
use Rattle.base.specs.declared.refusals.Refusal.{Refusal}
use Rattle.base.proofs.RefusalWords.{some_number}
use Rattle.config.specs.declared.Uc8253Config.{Uc8253Config}
use Rattle.capture.specs.Layout.{config_of}
use Rattle.capture.specs.Refused.{bad_config}
use Rattle.controller.specs.World.{World, Buffers, world}
use Rattle.controller.specs.TurnedBack.{making_refused}
use Rattle.controller.specs.Calls.{made, zeros}
use Rattle.event.specs.Events.{event_done}
use Rattle.vcd_declarations.specs.declared.head.Begun.{Begun}
use Rattle.vcd_declarations.specs.Begun.{Begins}
use Rattle.vcd_simulation.specs.declared.body.Body.{Body}
use Rattle.vcd_simulation.specs.Simulation.{Went, begun}
use Rattle.vcd_simulation.specs.Feed.{codes_by}
use Rattle.vcd.specs.Dump.{simulated, malformed, unsignalled, dump_events, config_in, dump_refused, judged}
use Rattle.vcd.specs.Played.{calls, dump_played}
use Rattle.vcd.specs.declared.judging.Fault.{Fault}
use Rattle.vcd.specs.declared.judging.Fault.TheVariants.{Malformed, Unsignalled}
use Rattle.vcd.proofs.Calls.{calls_join}
use Rattle.vcd.proofs.JudgeLaws.{simulated_is}
use Rattle.vcd_playing.specs.declared.words.Turn.{Turn}
use Rattle.vcd_playing.specs.Words.{Plays}
use Rattle.vcd_playing.specs.Making.{config_refused, config_made, finished, fine_played, refusal_of, number_by}

-- what a contract says of a making: the world after it, and its number
abbrev Made : (Buffers → World) → (Buffers → ℕ) → Buffers → World → ℕ → Type 0
Made f number b w n = (w ≡ f b) × (n ≡ number b)

-- ---- the making
pub bad_made : (config : List ℕ) (b : Buffers) → bad_config config 0 ≡ true → Made (config_made config) (config_refused config) b (world zeros b) 9
unfolding config_made config_refused
bad_made config b e = (rw e, rw e)

pub good_made : (config : List ℕ) (b : Buffers) {w : World} {n : ℕ} (c : Uc8253Config) → c ≡ config_of config 0 → bad_config config 0 ≡ false
    → Made (made c) (making_refused c) b w n → Made (config_made config) (config_refused config) b w n
unfolding config_made config_refused config_in
good_made config b c s e m =
    (m.0 ∙ ap (λ (x : Uc8253Config). made x b) s ∙ rw e, m.1 ∙ ap (λ (x : Uc8253Config). making_refused x b) s ∙ rw e)

-- ---- the calls of a dump's words, and the advance at their end
pub events_played : (dump : List ℕ) (b : Begun) → Begins dump b → (r : Turn) (w v u : World)
    → Plays (codes_by dump b.head) dump b.next true begun r w v → u ≡ finished r.body v → u ≡ calls (dump_events dump) w
unfolding dump_events finished
events_played dump b g r w v u p e =
    let all = simulated_is dump b g in
    let body = p.body_is ∙ ap (λ (x : Went). x.body) all in
    let done = p.called ∙ ap (λ (x : Went). calls x.events w) all in
    e ∙ ap (λ (x : Body). event_done (record { time = x.now; kind = 5; value = 0 }) v) body
    ∙ ap (event_done (record { time = (simulated dump).body.now; kind = 5; value = 0 })) done
    ∙ sym (calls_join (simulated dump).events (record { time = (simulated dump).body.now; kind = 5; value = 0 } ∷ []) w)

-- ---- a dump that is fine
taken : (config : List ℕ) (b : Buffers) → eqb (config_refused config b) 0 ≡ true → config_made config b ≡ made (config_in config) b
unfolding config_refused config_made
taken config b = by_config (bad_config config 0)
  where
    by_config : (t : Bool) → eqb (pick t 9 (making_refused (config_in config) b)) 0 ≡ true
        → pick t (world zeros b) (made (config_in config) b) ≡ made (config_in config) b
    by_config true e = absurd (false≢true e)
    by_config false e = refl

turned_back_lem : (config : List ℕ) (b : Buffers) → eqb (config_refused config b) 0 ≡ false → config_made config b ≡ world zeros b
unfolding config_refused config_made made
turned_back_lem config b = by_config (bad_config config 0)
  where
    by_config : (t : Bool) → eqb (pick t 9 (making_refused (config_in config) b)) 0 ≡ false
        → pick t (world zeros b) (made (config_in config) b) ≡ world zeros b
    by_config true e = refl
    by_config false e = rw e

module _ (config dump : List ℕ) (b : Buffers) {w : World} {n : ℕ} where
  pub fine_yes : (v : World) → Made (config_made config) (config_refused config) b v n → eqb (config_refused config b) 0 ≡ true
      → w ≡ calls (dump_events dump) v → Made (fine_played config dump) (config_refused config) b w n
  unfolding fine_played
  fine_yes v m z e = (e ∙ ap (calls (dump_events dump)) (m.0 ∙ taken config b z) ∙ rw z, m.1)

  pub fine_no : Made (config_made config) (config_refused config) b w n → eqb (config_refused config b) 0 ≡ false
      → Made (fine_played config dump) (config_refused config) b w n
  unfolding fine_played
  fine_no m z = (m.0 ∙ turned_back_lem config b z ∙ rw z, m.1)

-- ---- the order: 8, 11, 12, then the configuration's
turned_made : (config dump : List ℕ) (b : Buffers) (n : ℕ) → eqb n 0 ≡ false → dump_refused config dump b ≡ n
    → Made (dump_played config dump) (dump_refused config dump) b (world zeros b) n
unfolding dump_played
turned_made config dump b n z e = (rw (e, z), sym e)

dump_number : (config dump : List ℕ) (b : Buffers)
    → dump_refused config dump b ≡ pick (eqb (length config) 312) (number_by (judged dump) (config_refused config b)) 8
unfolding dump_refused judged config_refused
dump_number config dump b = by_judged (malformed dump) (unsignalled dump)
  where
    by_judged : (m u : Bool)
        → pick (eqb (length config) 312) (pick m 11 (pick u 12 (pick (bad_config config 0) 9 (making_refused (config_in config) b)))) 8
        ≡ pick (eqb (length config) 312) (number_by (pick m (Err Malformed) (pick u (Err Unsignalled) (Ok tt)))
        (pick (bad_config config 0) 9 (making_refused (config_in config) b))) 8
    by_judged true u = refl
    by_judged false true = refl
    by_judged false false = refl

fault_number : (x : Fault) (n : ℕ) → number_by (Err x) n ≡ refusal_number (refusal_of x)
fault_number Malformed n = refl
fault_number Unsignalled n = refl

module _ (config dump : List ℕ) (b : Buffers) where
  pub eight : (length config ≡ 312 → ⊥) → Made (dump_played config dump) (dump_refused config dump) b (world zeros b) 8
  eight n = turned_made config dump b 8 refl (dump_number config dump b ∙ rw (ne_eqb (length config) 312 n))

  module _ (whole : length config ≡ 312) where
    pub number_is : dump_refused config dump b ≡ number_by (judged dump) (config_refused config b)
    number_is = dump_number config dump b ∙ rw (eq-eqb (length config) 312 whole)

    -- 11 and 12
    pub faulty : (x : Fault) → judged dump ≡ Err x
        → Made (dump_played config dump) (dump_refused config dump) b (world zeros b) (refusal_number (refusal_of x))
    faulty x e =
        turned_made config dump b _ (some_number (refusal_of x)) (number_is ∙ rw e (fault_number x (config_refused config b)))

    pub fine : {w : World} {n : ℕ} → judged dump ≡ Ok tt → Made (fine_played config dump) (config_refused config) b w n
        → Made (dump_played config dump) (dump_refused config dump) b w n
    unfolding dump_played fine_played
    fine e m =
        let number : dump_refused config dump b ≡ config_refused config b = number_is ∙ rw e in
        (m.0 ∙ rw number, m.1 ∙ sym number)

-- the verdict, by its refusal's word
pub word_of : (j : Result (Unit {0}) Fault) {e : Refusal} → false ≡ is_ok j → MatchResult j (λ x. Err e ≡ Ok x) (λ x. e ≡ refusal_of x)
    → (x : Fault) × (j ≡ Err x) × (e ≡ refusal_of x)
word_of (Ok x) v m = absurd (false≢true v)
word_of (Err x) v m = (x, refl, m)

pub no_word : (j : Result (Unit {0}) Fault) → true ≡ is_ok j → j ≡ Ok tt
no_word (Ok x) v = refl
no_word (Err x) v = absurd (false≢true (sym v))

-- ---- a dump that is not turned back leaves what its calls leave, from the configuration's making on
none_by : (j : Result (Unit {0}) Fault) (n : ℕ) → number_by j n ≡ 0 → n ≡ 0
none_by (Err Malformed) n e = absurd (omega (arith, e))
none_by (Err Unsignalled) n e = absurd (omega (arith, e))
none_by (Ok x) n e = e

pub whole_played : (config dump : List ℕ) (b : Buffers) → length config ≡ 312 → dump_refused config dump b ≡ 0
    → calls (dump_events dump) (config_made config b) ≡ dump_played config dump b
unfolding dump_played
whole_played config dump b l e =
    let fine = none_by (judged dump) (config_refused config b) (sym (number_is config dump b l) ∙ e) in
    ap (calls (dump_events dump)) (taken config b (eq-eqb (config_refused config b) 0 fine)) ∙ rw (eq-eqb (dump_refused config dump b) 0 e)
