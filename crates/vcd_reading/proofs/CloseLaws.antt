-- The end of a dump that was read part by part.
use mathlib.Core.Path.{◌≡◌, refl, sym, ap, subst, ◌∙◌}
use mathlib.Core.List.{List, [], ◌∷◌, ◌++◌, append-nil}
use Prim.Native.Nat.{ℕ}
use lib.ListN.{take, drop}
use lib.IntN.{ℤ}
use Rattle.std.proofs.Common.{Result, Ok}
use Rattle.controller.specs.World.{World, buffers, world}
use Rattle.controller.specs.declared.Uc8253.{Uc8253}
use Rattle.vcd_words.specs.Words.{closed, opened, words}
use Rattle.vcd_words.proofs.Cutting.{words_cut}
use Rattle.vcd_declarations.specs.declared.head.Begun.{Begun}
use Rattle.vcd_declarations.specs.Begun.{Begins}
use Rattle.vcd_declarations.proofs.Settled.{settled}
use Rattle.vcd_simulation.proofs.SameCodes.{codes_settled}
use Rattle.vcd_simulation.specs.declared.body.Body.{Body}
use Rattle.vcd_simulation.specs.Simulation.{Codes, Went, begun, words_done}
use Rattle.vcd_simulation.specs.Feed.{codes_by}
use Rattle.vcd.specs.Dump.{simulated, dump_events, judged}
use Rattle.vcd.specs.Judging.{body_after, judged_by}
use Rattle.vcd.specs.Played.{calls}
use Rattle.vcd.proofs.Calls.{calls_join}
use Rattle.vcd.proofs.JudgeLaws.{simulated_is, judged_is}
use Rattle.vcd.specs.declared.judging.Fault.{Fault}
use Rattle.vcd_playing.specs.Making.{finished}
use Rattle.vcd_reading.specs.declared.reader.Stage.{Stage}
use Rattle.vcd_reading.specs.declared.reader.Reader.{Reader}
use Rattle.vcd_reading.specs.declared.closing.Closed.{Closed}
use Rattle.vcd_reading.specs.declared.closing.Limit.{Limit}
use Rattle.vcd_reading.specs.Reading.{Playing, Closes}
use Rattle.vcd_reading.specs.InnerStep.{ClosesWords}
use Rattle.vcd_reading.proofs.ReadLaws.{more_done}

-- what a dump that was read to its end comes to
abbrev whole : Result (Unit {0}) Fault → Result (Result (Unit {0}) Fault) Limit
whole j = Ok j

-- ---- slices that hold the same
pub closes_in : (x : Stage) (d : List ℕ) (r : Closed) (w v : World) (c : Uc8253) {o o₂ n n₂ p p₂ q q₂ : List ℕ} {s s₂ : List ℤ}
    → o ≡ o₂ → n ≡ n₂ → s ≡ s₂ → p ≡ p₂ → q ≡ q₂
    → Closes x d r w v (world c (buffers o₂ n₂ s₂ p₂ q₂)) → Closes x d r w v (world c (buffers o n s p q))
closes_in x d r w v c o n s p q h = rw (o, n, s, p, q) h

-- ---- the words after the declarations, all of them
abbrev all_went : List ℕ → Begun → Went
all_went d b = words_done (codes_by d b.head) (words (drop b.next d)) begun

module _ (d : List ℕ) (b : Begun) (g : Begins d b) (x : Went) (e : x ≡ all_went d b) where
  ending_is : whole (judged_by b x.body) ≡ whole (judged d)
  unfolding body_after
  ending_is = ap whole (judged_is d b g x.body (ap (λ (y : Went). y.body) e))

  called_is : (w u : World) → u ≡ finished x.body (calls x.events w) → u ≡ calls (dump_events d) w
  unfolding dump_events finished
  called_is w u c =
      let all = e ∙ simulated_is d b g in
      c ∙ ap (λ (y : Went). finished y.body (calls y.events w)) all
      ∙ sym (calls_join (simulated d).events (record { time = (simulated d).body.now; kind = 5; value = 0 } ∷ []) w)

pub closes_at : (x : Stage) (r : Reader) (d : List ℕ) (c : Closed) (w v u : World) → r.stage ≡ x → Closes x d c w v u → Closes r.stage d c w v u
closes_at x r d c w v u e k = subst (λ (y : Stage). Closes y d c w v u) (sym e) k

pub closes_as : {codes codes' : Codes} {bytes bytes' : List ℕ} {b : Begun} {at : ℕ} {body : Body} {c : Closed} {v u : World} → codes ≡ codes' → bytes ≡ bytes'
    → ClosesWords codes b bytes at body c v u → ClosesWords codes' b bytes' at body c v u
closes_as e f k = rw (← e, ← f) k

-- ---- all of it was kept
pub kept_closes : (d : List ℕ) (b : Begun) (body : Body) (c : Closed) (w v u : World) (bytes : List ℕ) → bytes ≡ d → Begins bytes b → body ≡ begun → v ≡ w
    → ClosesWords (codes_by bytes b.head) b bytes b.next body c v u → (c.ending ≡ Ok (judged d)) × (u ≡ calls (dump_events d) w)
kept_closes d b body c w v u bytes s g e same k =
    let went = ap (λ (x : Body). words_done (codes_by bytes b.head) (words (drop b.next bytes)) x) e in
    rw (← s, ← same) (k.ending_is ∙ ending_is bytes b g _ went, called_is bytes b g _ went v u k.called)

-- ---- part by part: the words that were closed, and then the open one
module _ (d : List ℕ) (r : Reader) (kept word : List ℕ) (w v : World) (g : Playing d r kept word w v) where
  abbrev front : List ℕ
  front = take r.held kept

  whole_begins : Begins d r.begun
  whole_begins = rw g.dump_is (settled front r.begun g.begins g.settled g.later)

  same_codes : codes_by front r.begun.head ≡ codes_by d r.begun.head
  same_codes = rw g.dump_is (sym (codes_settled front r.begun g.begins g.settled g.later))

  pub played_closes : (c : Closed) (u : World) → ClosesWords (codes_by front r.begun.head) r.begun (take r.carried word) 0 r.body c v u
      → (c.ending ≡ Ok (judged d)) × (u ≡ calls (dump_events d) w)
  played_closes c u k =
      let codes = codes_by front r.begun.head in
      let since = drop r.begun.next d in
      let last = words (take r.carried word) in
      let y = words_done codes last r.body in
      let done = more_done codes (closed since) last begun r.body w v (calls y.events v) g.body_is g.called refl in
      let all : closed since ++ last ≡ words since =
      ap (λ (x : List ℕ). closed since ++ words x) (g.carried_is ∙ sym (append-nil (opened since))) ∙ sym (words_cut since []) ∙ ap words (append-nil since) in
      let went = ap (λ (ws : List (List ℕ)). words_done codes ws begun) all ∙ ap (λ (x : Codes). words_done x (words since) begun) same_codes in
      let z = words_done codes (closed since ++ last) begun in (
        k.ending_is ∙ ap (λ (x : Body). whole (judged_by r.begun x)) done.0 ∙ ending_is d r.begun whole_begins z went,
        called_is d r.begun whole_begins z went w u
            (k.called ∙ ap (λ (x : Body). finished x (calls y.events v)) done.0 ∙ ap (finished z.body) done.1),
      )
