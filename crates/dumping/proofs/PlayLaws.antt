-- A configuration's making and what a dump ends with: which refusal they meet, and what is left without one; and the front of what is lent.
use mathlib.Core.Path.{◌≡◌, sym, ap, subst, ◌∙◌}
use mathlib.Core.List.{List, ◌++◌, append-nil}
use Prim.Native.Nat.{ℕ, ◌≤◌, min}
use native.Mathlib.Decide.{dec_le}
use native.Mathlib.Omega.{arith}
use lib.Dec.{eqb}
use lib.IntN.{ℤ}
use lib.ListN.{length, take, drop, drop_of_length-le}
use lib.Seq.{take_all, take-append_seam, length-take-le}
use borrow.Author.Tests.{eqb-false}
use Rattle.std.proofs.Common.{Option, Some, None, Ok, Err}
use Rattle.base.specs.declared.refusals.Refusal.{Refusal}
use Rattle.base.specs.RefusalNumbers.{refusal_number, number_of}
use Rattle.base.proofs.Cases.{by_cases}
use Rattle.base.proofs.RefusalWords.{some_number}
use Rattle.config.specs.declared.Uc8253Config.{Uc8253Config}
use Rattle.capture.specs.Layout.{config_of, pixel_count}
use Rattle.controller.specs.declared.Uc8253.{Uc8253}
use Rattle.controller.specs.World.{World, Buffers, buffers, world}
use Rattle.vcd.specs.declared.judging.Fault.{Fault}
use Rattle.vcd.specs.declared.judging.Fault.TheVariants.{Malformed, Unsignalled}
use Rattle.vcd.specs.Dump.{dump_events, dump_refused, judged}
use Rattle.vcd.specs.Played.{calls, dump_played}
use Rattle.vcd_playing.specs.Making.{config_made, config_refused, refusal_of}
use Rattle.vcd_playing.proofs.MakingLaws.{fine_yes, fine_no, faulty, fine}
use Rattle.vcd_reading.specs.declared.closing.Limit.TheVariants as limit
use Rattle.showing.proofs.Fitted.{take_cut}
use Rattle.dumping.specs.declared.playing.Came.{Came}
use Rattle.dumping.specs.declared.playing.Dumped.{Dumped}
use Rattle.dumping.specs.Reading.{Ending, Tells}
use Rattle.dumping.specs.Played.{came_by, CameTo, Dumps, panel_size, fitted}

module _ (config : List ℕ) (whole : length config ≡ 312) (b : Buffers) (p : World) (made : Option Refusal) (ep : p ≡ config_made config b)
    (em : number_of made ≡ config_refused config b) where
  fine_came : (d : List ℕ) (u : World) → judged d ≡ Ok tt → u ≡ calls (dump_events d) p
      → (number_of made ≡ dump_refused config d b) × (number_of made ≡ 0 → u ≡ dump_played config d b)
  fine_came d u t e =
      by_cases (eqb (config_refused config b) 0)
      (λ z. let m = fine config d b whole t (fine_yes config d b p (ep, em) z e) in (m.1, λ _. m.0))
      (λ z. let m = fine config d b whole t (fine_no config d b (ep, em) z) in
      (m.1, λ x. absurd (eqb-false (config_refused config b) 0 z (sym em ∙ x))))

  -- 11 and 12
  faulty_came : (x : Fault) (d : List ℕ) (u : World) → judged d ≡ Err x
      → (refusal_number (refusal_of x) ≡ dump_refused config d b) × (refusal_number (refusal_of x) ≡ 0 → u ≡ dump_played config d b)
  faulty_came x d u t =
      ((faulty config d b whole x t).1, λ e. absurd (eqb-false (refusal_number (refusal_of x)) 0 (some_number (refusal_of x)) e))

  pub came_to : (v : Option Ending) (d : List ℕ) (most longest : ℕ) (u : World) → Tells v d most longest p u
      → CameTo (came_by v made) config d most longest b u
  came_to (Some (Ok (Ok x))) d most longest u t = fine_came d u t.0 t.1
  came_to (Some (Ok (Err Malformed))) d most longest u t = faulty_came Malformed d u t
  came_to (Some (Ok (Err Unsignalled))) d most longest u t = faulty_came Unsignalled d u t
  came_to (Some (Err limit.HeadTooLong)) d most longest u t = t
  came_to (Some (Err limit.WordTooLong)) d most longest u t = t
  came_to None d most longest u t = tt

  pub came_as : (x : Came) (v : Option Ending) (d : List ℕ) (most longest : ℕ) (u : World) → x ≡ came_by v made → Tells v d most longest p u
      → CameTo x config d most longest b u
  came_as x v d most longest u e t = subst (λ (y : Came). CameTo y config d most longest b u) (sym e) (came_to v d most longest u t)

-- ---- the front of what is lent, cut off and given back
take_back : {A : Type 0} (l x : List A) (p n : ℕ) → n ≡ min p (length l) → length x ≡ length (take n l) → take p (x ++ drop n l) ≡ x
take_back {A = A} l x p n e h = elim (dec_le p (length l)) [
  | yes k ↦
      let m : length x ≡ p = h ∙ length-take-le n l (omega (arith, e)) ∙ omega (arith, e) in
      ap (λ (j : ℕ). take j (x ++ drop n l)) (sym m) ∙ take-append_seam x (drop n l)
  | no k ↦
      let m : length l ≤ n = omega (arith, e) in
      let short : length x ≤ p = omega (arith, h, length-take-le n l (omega (arith, e))) in
      ap (λ (r : List A). take p (x ++ r)) (drop_of_length-le l m) ∙ ap (take p) (append-nil x) ∙ take_all p x short
]

module _ (config : List ℕ) (b : Buffers) (p n q : ℕ) (ep : p ≡ panel_size config)
    (en : n ≡ min p (length b.states)) (eq : q ≡ min p (length b.picture)) where
  cut_is : {A : Type 0} (l : List A) (m : ℕ) → m ≡ min p (length l) → take m l ≡ take (panel_size config) l
  cut_is l m e = ap (λ (j : ℕ). take j l) e ∙ take_cut l p ∙ ap (λ (j : ℕ). take j l) ep

  back_is : {A : Type 0} (l x : List A) (m : ℕ) → m ≡ min p (length l) → length x ≡ length (take m l)
      → take (panel_size config) (x ++ drop m l) ≡ x
  back_is l x m e h = ap (λ (j : ℕ). take j (x ++ drop m l)) (sym ep) ∙ take_back l x p m e h

  abbrev lent_on : Buffers
  lent_on = buffers b.old b.new (take n b.states) (take q b.picture) b.rows

  lent_is : lent_on ≡ fitted config b
  lent_is = λ i. buffers b.old b.new (cut_is b.states n en i) (cut_is b.picture q eq i) b.rows

  abbrev given : Buffers → Buffers
  given x = buffers x.old x.new (x.states ++ drop n b.states) (x.picture ++ drop q b.picture) x.rows

  pub fitted_dumps : (r : Dumped) (most longest : ℕ) (x : Buffers) → length x.states ≡ length (take n b.states)
      → length x.picture ≡ length (take q b.picture)
      → Dumps r config most longest lent_on (world r.chip x)
      → Dumps r config most longest (fitted config b) (world r.chip (fitted config (given x)))
  fitted_dumps r most longest x hs hp g =
      let back : x ≡ fitted config (given x) = sym (λ i.
      buffers x.old x.new (back_is b.states x.states n en hs i) (back_is b.picture x.picture q eq hp i)
      x.rows) in
      record {
        dump = g.dump;
        came_to = subst (λ (y : Buffers). CameTo r.came config g.dump most longest y (world r.chip (fitted config (given x)))) lent_is
            (subst (λ (y : Buffers). CameTo r.came config g.dump most longest lent_on (world r.chip y)) back g.came_to);
      }

pub size_is : (config : List ℕ) (c : Uc8253Config) (n : ℕ) → c ≡ config_of config 0 → n ≡ pixel_count c → n ≡ panel_size config
unfolding panel_size
size_is config c n e h = h ∙ ap pixel_count e

-- what is left in each slice that a struct held
pub dumps_in : {x : Dumped} {config : List ℕ} {most longest : ℕ} {b : Buffers} {c : Uc8253} {o o₂ n n₂ p p₂ r r₂ : List ℕ} {s s₂ : List ℤ}
    → o ≡ o₂ → n ≡ n₂ → s ≡ s₂ → p ≡ p₂ → r ≡ r₂
    → Dumps x config most longest b (world c (buffers o₂ n₂ s₂ p₂ r₂)) → Dumps x config most longest b (world c (buffers o n s p r))
dumps_in o n s p r d = rw (o, n, s, p, r) d
