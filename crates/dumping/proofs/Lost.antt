-- A dump that is malformed by what was read of it is malformed whatever follows: nothing is declared any more, and no word mends the
-- syntax. So reading may stop there.
use mathlib.Core.Path.{◌≡◌, refl, sym, ap, ◌∙◌}
use mathlib.Core.Bool.{Bool, true, false, ◌&&◌, not, true≢false}
use mathlib.Core.List.{List, [], ◌∷◌, ◌++◌, append_assoc}
use Prim.Native.Nat.{ℕ}
use lib.ListN.{take, drop}
use lib.Seq.{drop-append-le}
use Rattle.std.proofs.Common.{Err}
use Rattle.base.specs.Pick.{pick}
use Rattle.base.proofs.Cases.{by_cases}
use Rattle.controller.specs.World.{World}
use Rattle.vcd_words.specs.Words.{words, closed, opened}
use Rattle.vcd_words.proofs.Cutting.{words_cut}
use Rattle.vcd_declarations.specs.declared.head.Begun.{Begun}
use Rattle.vcd_declarations.specs.Begun.{Begins}
use Rattle.vcd_declarations.proofs.Settled.{settled}
use Rattle.vcd_simulation.proofs.SameCodes.{codes_settled}
use Rattle.vcd_simulation.specs.declared.body.Wanted.{Wanted}
use Rattle.vcd_simulation.specs.declared.body.Wanted.TheVariants as want
use Rattle.vcd_simulation.specs.declared.body.Body.{Body}
use Rattle.vcd_simulation.specs.Simulation.{Codes, Went, begun, word_done, words_done, is_over}
use Rattle.vcd_simulation.specs.Feed.{codes_by}
use Rattle.vcd_simulation.proofs.StepLaws.{done_by_lem}
use Rattle.vcd.specs.declared.judging.Fault.TheVariants.{Malformed}
use Rattle.vcd.specs.Dump.{judged}
use Rattle.vcd.specs.Judging.{body_after, malformed_by, judged_by}
use Rattle.vcd.proofs.WrittenBits.{done_join}
use Rattle.vcd.proofs.JudgeLaws.{judged_is}
use Rattle.vcd_reasons.specs.Finding.{is_broken}
use Rattle.vcd_reasons.specs.Wording.{is_declared_well}
use Rattle.vcd_reading.specs.declared.reader.Reader.{Reader}
use Rattle.vcd_reading.specs.Reading.{Playing}
use Rattle.dumping.specs.Reading.{is_lost}

-- ---- no word mends the syntax
is_broken_lem : (x : Wanted) → is_broken x ≡ true → x ≡ want.Broken
is_broken_lem want.Command e = absurd (true≢false (sym e))
is_broken_lem want.Section e = absurd (true≢false (sym e))
is_broken_lem want.Text e = absurd (true≢false (sym e))
is_broken_lem (want.Code v) e = absurd (true≢false (sym e))
is_broken_lem (want.SectionCode v) e = absurd (true≢false (sym e))
is_broken_lem want.Broken e = refl

not_over : (x : Wanted) → is_broken x ≡ true → is_over x ≡ false
not_over x e = ap is_over (is_broken_lem x e)

broken_word : (codes : Codes) (w : List ℕ) (b : Body) → is_broken b.wanted ≡ true → is_broken (word_done codes w b).body.wanted ≡ true
broken_word codes w b e =
    sym (ap (λ (x : Went). is_broken x.body.wanted) (done_by_lem codes w b want.Broken (is_broken_lem b.wanted e)))

broken_words : (codes : Codes) (ws : List (List ℕ)) (b : Body) → is_broken b.wanted ≡ true
    → is_broken (words_done codes ws b).body.wanted ≡ true
broken_words codes [] b e = e
broken_words codes (w ∷ ws) b e = broken_words codes ws (word_done codes w b).body (broken_word codes w b e)

-- ---- what makes a dump malformed
by_words : (b : Begun) (body : Body) → is_over body.wanted ≡ false → malformed_by b body ≡ true
by_words b body e =
    by_cases b.head.broken (λ p. rw p)
    (λ p. by_cases b.head.scaled (λ q. by_cases b.ended (λ s. rw (p, q, s, e)) (λ s. rw (p, q, s))) (λ q. rw (p, q)))

by_head : (b : Begun) (body : Body) → is_declared_well b ≡ false → malformed_by b body ≡ true
by_head b body e =
    by_cases b.head.broken (λ p. rw p)
    (λ p. by_cases b.head.scaled
    (λ q. by_cases b.ended
    (λ s. absurd (true≢false (sym (ap (λ (t : Bool). not t && (b.ended && b.head.scaled)) p
    ∙ ap (λ (t : Bool). t && b.head.scaled) s ∙ q) ∙ e)))
    (λ s. rw (p, q, s)))
    (λ q. rw (p, q)))

malformed_judged : (b : Begun) (body : Body) → malformed_by b body ≡ true → judged_by b body ≡ Err Malformed
unfolding judged_by
malformed_judged b body e = rw e

-- ---- whatever follows
module _ (d : List ℕ) (r : Reader) (kept word : List ℕ) (w v : World) (g : Playing d r kept word w v) (more : List ℕ) where
  abbrev front : List ℕ
  front = take r.held kept

  longer : d ++ more ≡ front ++ (g.later ++ more)
  longer = ap (λ (l : List ℕ). l ++ more) g.dump_is ∙ append_assoc front g.later more

  all_begins : Begins (d ++ more) r.begun
  all_begins = rw longer (settled front r.begun g.begins g.settled (g.later ++ more))

  d_begins : Begins d r.begun
  d_begins = rw g.dump_is (settled front r.begun g.begins g.settled g.later)

  codes_same : codes_by front r.begun.head ≡ codes_by (d ++ more) r.begun.head
  codes_same = rw longer (sym (codes_settled front r.begun g.begins g.settled (g.later ++ more)))

  abbrev last : Body
  last = body_after (d ++ more) r.begun.head r.begun.next

  all_words : words (drop r.begun.next (d ++ more))
      ≡ closed (drop r.begun.next d) ++ words (opened (drop r.begun.next d) ++ more)
  all_words =
      ap words (drop-append-le r.begun.next d more d_begins.next_in) ∙ words_cut (drop r.begun.next d) more

  last_broken : is_broken r.body.wanted ≡ true → is_broken last.wanted ≡ true
  unfolding body_after
  last_broken e =
      let codes = codes_by front r.begun.head in
      let since = drop r.begun.next d in
      let later = words (opened since ++ more) in
      let so : is_broken (words_done codes (closed since) begun).body.wanted ≡ true =
      ap (λ (b : Body). is_broken b.wanted) (sym g.body_is) ∙ e in
      ap (λ (c : Codes). is_broken (words_done c (words (drop r.begun.next (d ++ more))) begun).body.wanted) (sym codes_same)
      ∙ ap (λ (ws : List (List ℕ)). is_broken (words_done codes ws begun).body.wanted) all_words
      ∙ ap (λ (x : Went). is_broken x.body.wanted) (done_join codes (closed since) later begun)
      ∙ broken_words codes later (words_done codes (closed since) begun).body so

  last_malformed : is_lost r ≡ true → malformed_by r.begun last ≡ true
  last_malformed e =
      by_cases (is_declared_well r.begun)
      (λ p. by_words r.begun last (not_over last.wanted (last_broken
      (ap (λ (t : Bool). pick t (is_broken r.body.wanted) true) (sym p) ∙ e))))
      (λ p. by_head r.begun last p)

  pub lost_malformed : is_lost r ≡ true → judged (d ++ more) ≡ Err Malformed
  lost_malformed e =
      sym (judged_is (d ++ more) r.begun all_begins last refl) ∙ malformed_judged r.begun last (last_malformed e)
