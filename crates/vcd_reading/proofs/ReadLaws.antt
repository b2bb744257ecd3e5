-- A dump read part by part: what a reader stands for after a part.
use mathlib.Core.Path.{◌≡◌, refl, sym, ap, subst, ◌∙◌}
use mathlib.Core.Bool.{Bool, true, false}
use mathlib.Core.List.{List, [], ◌∷◌, ◌++◌, append_assoc, append-nil}
use mathlib.Core.Logic.{◌⊎◌, inl, inr}
use Prim.Native.Nat.{ℕ, suc, ◌≤◌, ◌<◌}
use native.Mathlib.Omega.{arith}
use lib.ListN.{length, take, drop, length-append, length-drop, take-append-drop}
use lib.IntN.{ℤ}
use lib.Seq.{drop-append-le, length-take-le, take_all}
use Rattle.std.proofs.Common.{Option, Some, None}
use Rattle.base.proofs.Cases.{by_cases}
use Rattle.controller.specs.World.{World, buffers, world}
use Rattle.controller.specs.declared.Uc8253.{Uc8253}
use Rattle.vcd_words.specs.Words.{is_blank, closed, opened, words}
use Rattle.vcd_words.specs.Places.{front, is_solid}
use Rattle.vcd_words.proofs.Cutting.{words_cut, closed_join, opened_join, stays_closed, stays_open}
use Rattle.vcd_words.proofs.WordLaws.{front_none}
use Rattle.vcd_simulation.specs.declared.body.Body.{Body}
use Rattle.vcd_simulation.specs.Simulation.{Codes, Went, begun, words_done}
use Rattle.vcd_simulation.specs.Feed.{codes_by}
use Rattle.vcd.specs.Played.{calls}
use Rattle.vcd.proofs.Calls.{calls_join}
use Rattle.vcd.proofs.WrittenBits.{done_join}
use Rattle.vcd_playing.specs.declared.words.Turn.{Turn}
use Rattle.vcd_playing.specs.Words.{Plays}
use Rattle.vcd_reading.specs.declared.reader.Stage.{Stage}
use Rattle.vcd_reading.specs.declared.reader.Stage.TheVariants as stage
use Rattle.vcd_reading.specs.declared.reader.Reader.{Reader}
use Rattle.vcd_reading.specs.declared.reading.Step.{Step}
use Rattle.vcd_reading.specs.Reading.{Playing, LongHead, LongWord, StandsBy, Stands}
use Rattle.vcd_reading.specs.InnerCarried.{Carries}
use Rattle.vcd_reading.specs.InnerStep.{gone_on, part_went, PlaysPart}
use Rattle.vcd_reading.proofs.CarryLaws.{carries_as}

-- ---- words after others, with their calls
pub more_done : (codes : Codes) (us vs : List (List ℕ)) (b body : Body) (w v u : World) → body ≡ (words_done codes us b).body
    → v ≡ calls (words_done codes us b).events w → u ≡ calls (words_done codes vs body).events v
    → ((words_done codes vs body).body ≡ (words_done codes (us ++ vs) b).body) × (u ≡ calls (words_done codes (us ++ vs) b).events w)
more_done codes us vs b body w v u eb ev eu =
    let all = done_join codes us vs b in (
      ap (λ (x : Body). (words_done codes vs x).body) eb ∙ sym (ap (λ (x : Went). x.body) all),
      eu
          ∙ ap (λ (x : Body). calls (words_done codes vs x).events v) eb
          ∙ ap (calls (words_done codes vs (words_done codes us b).body).events) ev
          ∙ sym (calls_join (words_done codes us b).events (words_done codes vs (words_done codes us b).body).events w)
          ∙ ap (λ (x : Went). calls x.events w) (sym all),
    )

pub plays_as : {codes codes' : Codes} {bytes bytes' : List ℕ} {at : ℕ} {last : Bool} {b : Body} {t : Turn} {v u : World} → codes ≡ codes' → bytes ≡ bytes'
    → Plays codes bytes at last b t v u → Plays codes' bytes' at last b t v u
plays_as e f p = rw (← e, ← f) p

pub stands_as : (d kept word : List ℕ) (w v : World) {r q : Reader} → r ≡ q → Stands d q kept word w v → Stands d r kept word w v
stands_as d kept word w v e s = subst (λ (x : Reader). Stands d x kept word w v) (sym e) s

pub dump_as : {d d' : List ℕ} (r : Reader) (kept word : List ℕ) (w v : World) → d ≡ d' → Stands d r kept word w v → Stands d' r kept word w v
dump_as r kept word w v e s = subst (λ (x : List ℕ). Stands x r kept word w v) e s

-- ---- slices that hold the same
pub stands_in : (d kept word : List ℕ) (r : Reader) (w : World) (c : Uc8253) {o o₂ n n₂ p p₂ q q₂ : List ℕ} {s s₂ : List ℤ}
    → o ≡ o₂ → n ≡ n₂ → s ≡ s₂ → p ≡ p₂ → q ≡ q₂
    → Stands d r kept word w (world c (buffers o₂ n₂ s₂ p₂ q₂)) → Stands d r kept word w (world c (buffers o n s p q))
stands_in d kept word r w c o n s p q h = rw (o, n, s, p, q) h

-- ---- by the stage
pub at_stage : (d : List ℕ) (r : Reader) (kept word : List ℕ) (w v : World) (x : Stage) → r.stage ≡ x → Stands d r kept word w v → StandsBy x d r kept word w v
at_stage d r kept word w v x e s = subst (λ (y : Stage). StandsBy y d r kept word w v) e s

pub of_stage : (d : List ℕ) (r : Reader) (kept word : List ℕ) (w v : World) (x : Stage) → r.stage ≡ x → StandsBy x d r kept word w v → Stands d r kept word w v
of_stage d r kept word w v x e s = subst (λ (y : Stage). StandsBy y d r kept word w v) (sym e) s

-- ---- words from a place on, and the open one carried
pub part_played : (kept : List ℕ) (r : Reader) (bytes : List ℕ) (at : ℕ) (s : Step) (word word' : List ℕ) (v u : World) (t : Turn) (c : Option ℕ) (head : List ℕ)
    → head ≡ take r.held kept → Plays (codes_by head r.begun.head) bytes at false r.body t v u
    → Carries (opened (drop t.next bytes)) 0 c word word' → s.reader ≡ gone_on r t.body c → PlaysPart kept r bytes at s word word' v u
part_played kept r bytes at s word word' v u t c head e p k q =
    let x = plays_as (ap (λ (h : List ℕ). codes_by h r.begun.head) e) refl p in record {
      carried = c;
      carries = carries_as (p.open_kept refl) k;
      reader_is = q ∙ ap (λ (b : Body). gone_on r b c) x.body_is;
      called = x.called;
    }

-- ---- a limit that was met stays met
pub head_more : (d more : List ℕ) (most : ℕ) → LongHead d most → LongHead (d ++ more) most
head_more d more most l = record {
  front = l.front;
  rest = l.rest ++ more;
  cut = ap (λ (x : List ℕ). x ++ more) l.cut ∙ append_assoc l.front l.rest more;
  full = l.full;
  more = omega (arith, l.more, length-append l.rest more);
  begun = l.begun;
  begins = l.begins;
  unsettled = l.unsettled;
}

pub word_more : (d more : List ℕ) (most : ℕ) → LongWord d most → LongWord (d ++ more) most
word_more d more most l = record {
  front = l.front;
  rest = l.rest ++ more;
  cut = ap (λ (x : List ℕ). x ++ more) l.cut ∙ append_assoc l.front l.rest more;
  from = l.from;
  longer = l.longer;
}

pub limit_more : (d more : List ℕ) (r : Reader) (kept word : List ℕ) (w v : World) → (r.stage ≡ stage.HeadTooLong) ⊎ (r.stage ≡ stage.WordTooLong)
    → Stands d r kept word w v → Stands (d ++ more) r kept word w v
limit_more d more r kept word w v (inl e) s =
    of_stage (d ++ more) r kept word w v stage.HeadTooLong e (head_more d more (length kept) (at_stage d r kept word w v stage.HeadTooLong e s))
limit_more d more r kept word w v (inr e) s =
    of_stage (d ++ more) r kept word w v stage.WordTooLong e (word_more d more (length word) (at_stage d r kept word w v stage.WordTooLong e s))

-- ---- the bytes before the first blank
solid_take : (l : List ℕ) → front is_solid (take (front is_solid l) l) ≡ length (take (front is_solid l) l)
solid_take [] = refl
solid_take (x ∷ l) = by_cases (is_blank x) (λ e. rw e) (λ e. rw e (rw e (ap suc (solid_take l))))

module _ (d : List ℕ) (r : Reader) (kept word : List ℕ) (w v : World) (g : Playing d r kept word w v) where
  next : ℕ
  next = r.begun.next

  abbrev since : List ℕ
  since = drop r.begun.next d

  abbrev codes : Codes
  codes = codes_by (take r.held kept) r.begun.head

  next_in : r.begun.next ≤ length d
  next_in = omega (arith, g.begins.next_in, ap length g.dump_is, length-append (take r.held kept) g.later)

  since_more : (bytes : List ℕ) → drop r.begun.next (d ++ bytes) ≡ since ++ bytes
  since_more bytes = drop-append-le r.begun.next d bytes next_in

  -- more bytes, whose words vs are closed behind those that are, and what is carried then
  module _ (bytes : List ℕ) (vs : List (List ℕ)) (all : closed (since ++ bytes) ≡ closed since ++ vs) (body : Body) (u : World)
      (eb : body ≡ (words_done codes vs r.body).body) (eu : u ≡ calls (words_done codes vs r.body).events v) where
    playing_on : (s : Stage) (count : ℕ) (word' : List ℕ) → count ≤ length word' → take count word' ≡ opened (since ++ bytes)
        → Playing (d ++ bytes) (record { stage = s; held = r.held; begun = r.begun; body = body; carried = count }) kept word' w u
    playing_on s count word' l e =
        let done = more_done codes (closed since) vs begun r.body w v u g.body_is g.called eu in
        let words_are = ap closed (since_more bytes) ∙ all in record {
          held_in = g.held_in;
          begins = g.begins;
          settled = g.settled;
          later = g.later ++ bytes;
          dump_is = ap (λ (x : List ℕ). x ++ bytes) g.dump_is ∙ append_assoc (take r.held kept) g.later bytes;
          body_is = eb ∙ done.0 ∙ ap (λ (ws : List (List ℕ)). (words_done codes ws begun).body) (sym words_are);
          called = done.1 ∙ ap (λ (ws : List (List ℕ)). calls (words_done codes ws begun).events w) (sym words_are);
          carried_in = l;
          carried_is = e ∙ ap opened (sym (since_more bytes));
        }

    -- it goes on, or the word is too long
    stands_on : (c : Option ℕ) (more : List ℕ) (carried : ℕ) (word₁ word' : List ℕ) → Carries more carried c word₁ word' → carried ≤ length word₁
        → take carried word₁ ++ more ≡ opened (since ++ bytes) → Stands (d ++ bytes) (gone_on r body c) kept word' w u
    stands_on (Some n) more carried word₁ word' k l e = playing_on stage.Playing n word' k.cases.0 (k.cases.1 ∙ e)
    stands_on None more carried word₁ word' k l e = record {
      front = d ++ bytes;
      rest = [];
      cut = sym (append-nil (d ++ bytes));
      from = r.begun.next;
      longer = omega (arith, k.cases, k.size, length-take-le carried word₁ l, ap length e, length-append (take carried word₁) more, ap (λ (x : List ℕ). length (opened x)) (since_more bytes));
    }

  -- the bytes before the first blank behind the open word
  module _ (bytes : List ℕ) (n : ℕ) (solid : n ≡ front is_solid bytes) where
    abbrev start : List ℕ
    start = take n bytes

    start_solid : front is_solid start ≡ length start
    start_solid = rw solid (solid_take bytes)

    open_start : opened (since ++ start) ≡ take r.carried word ++ start
    open_start = stays_open since start start_solid ∙ ap (λ (x : List ℕ). x ++ start) (sym g.carried_is)

    pub word_long : (word' : List ℕ) → Carries start r.carried None word word' → LongWord (d ++ bytes) (length word')
    word_long word' k = record {
      front = d ++ start;
      rest = drop n bytes;
      cut = ap (λ (x : List ℕ). d ++ x) (sym (take-append-drop n bytes)) ∙ sym (append_assoc d start (drop n bytes));
      from = r.begun.next;
      longer = omega (arith, k.cases, k.size, length-take-le r.carried word g.carried_in, ap length open_start, length-append (take r.carried word) start, ap (λ (x : List ℕ). length (opened x)) (since_more start));
    }

    -- no blank: the word stays open
    pub no_blank : (c : Option ℕ) (word' : List ℕ) → Carries start r.carried c word word' → n ≡ length bytes
        → Stands (d ++ bytes) (gone_on r r.body c) kept word' w v
    no_blank c word' k whole =
        let same = take_all n bytes (omega (arith, whole)) in
        let all = ap (λ (x : List ℕ). closed (since ++ x)) (sym same) ∙ stays_closed since start start_solid ∙ sym (append-nil (closed since)) in
        stands_on bytes [] all r.body v refl refl c start r.carried word word' k g.carried_in
        (sym open_start ∙ ap (λ (x : List ℕ). opened (since ++ x)) same)

    -- a blank: the word is closed, and then what is behind it
    pub blank_there : (c : ℕ) (word₁ : List ℕ) → Carries start r.carried (Some c) word word₁ → n < length bytes
        → (t : Turn) (v₁ : World) → Plays codes (take c word₁) 0 true r.body t v v₁
        → (s : Step) (word₂ : List ℕ) (u : World) → PlaysPart kept (gone_on r t.body (Some c)) bytes n s word₁ word₂ v₁ u
        → Stands (d ++ bytes) s.reader kept word₂ w u
    blank_there c word₁ k h t v₁ p s word₂ u q =
        let x = more_done codes (words (take c word₁)) (closed (drop n bytes)) r.body t.body v v₁ u p.body_is p.called q.called in
        rw q.reader_is
        (stands_on bytes (words (take c word₁) ++ closed (drop n bytes)) all (part_went kept (gone_on r t.body (Some c)) bytes n).body u x.0 x.1
        q.carried (opened (drop n bytes)) 0 word₁ word₂ q.carries (omega arith) (sym (opened_join (since ++ start) (drop n bytes) blank rest) ∙ ap opened split))
      where
        blank : front is_solid (drop n bytes) ≡ 0
        blank = rw solid (front_none is_solid bytes)

        rest : 0 < length (drop n bytes)
        rest = omega (arith, h, length-drop n bytes)

        split : (since ++ start) ++ drop n bytes ≡ since ++ bytes
        split = append_assoc since start (drop n bytes) ∙ ap (λ (x : List ℕ). since ++ x) (take-append-drop n bytes)

        held_word : take c word₁ ≡ opened since ++ start
        held_word = k.cases.1 ∙ ap (λ (x : List ℕ). x ++ start) g.carried_is

        all : closed (since ++ bytes) ≡ closed since ++ (words (take c word₁) ++ closed (drop n bytes))
        all = ap closed (sym split) ∙ closed_join (since ++ start) (drop n bytes) blank rest
            ∙ ap (λ (ws : List (List ℕ)). ws ++ closed (drop n bytes)) (words_cut since start ∙ ap (λ (x : List ℕ). closed since ++ words x) (sym held_word))
            ∙ append_assoc (closed since) (words (take c word₁)) (closed (drop n bytes))
