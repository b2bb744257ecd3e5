-- A dump read piece by piece: each piece lies behind what was read before it; and what its ending says of all of it.
use mathlib.Core.Path.{◌≡◌, refl, sym, ap, subst, ◌∙◌}
use mathlib.Core.Bool.{Bool, true, false, true≢false}
use mathlib.Core.List.{List, [], ◌++◌, append-nil, append_assoc}
use Prim.Native.Nat.{ℕ, ◌+◌, ◌-◌, ◌≤◌}
use native.Mathlib.Omega.{arith}
use lib.ListN.{length, take, drop}
use lib.Seq.{take-add}
use Rattle.base.proofs.Cases.{by_cases}
use Rattle.base.specs.Pick.{pick}
use Rattle.std.specs.Prelude.{Option, Some, Result, Ok, Err}
use Rattle.controller.specs.declared.Uc8253.{Uc8253}
use Rattle.controller.specs.World.{World, Buffers, world}
use Rattle.vcd.specs.declared.judging.Fault.{Fault}
use Rattle.vcd.specs.Dump.{dump_events, judged}
use Rattle.vcd.specs.Played.{calls}
use Rattle.vcd_reading.specs.declared.reader.Stage.{Stage}
use Rattle.vcd_reading.specs.declared.reader.Stage.TheVariants as stage
use Rattle.vcd_reading.specs.declared.reader.Reader.{Reader}
use Rattle.vcd_reading.specs.declared.closing.Closed as reading
use Rattle.vcd_reading.specs.Reading.{Stands, StandsBy, Closes}
use Rattle.dumping.specs.declared.reading.Course.{Course}
use Rattle.dumping.specs.declared.reading.Course.TheVariants as course
use Rattle.dumping.specs.declared.reading.Gone.{Gone}
use Rattle.dumping.specs.Reading.{is_on, settled_in, is_settled, course_of, Steps, Plays, Begins, ended, last_of, is_stopped, Stood, Ending, settled_ending, stopped_ending, Tells}
use Rattle.dumping.proofs.Lost.{lost_malformed}

-- ---- the pieces of a chunk
grown : (d bytes : List ℕ) (from to : ℕ) → from ≤ to → (d ++ take from bytes) ++ take (to - from) (drop from bytes) ≡ d ++ take to bytes
grown d bytes from to h =
    let e : from + (to - from) ≡ to = omega arith in
    append_assoc d (take from bytes) (take (to - from) (drop from bytes))
    ∙ ap (λ (l : List ℕ). d ++ l) (sym (take-add from (to - from) bytes) ∙ ap (λ (n : ℕ). take n bytes) e)

-- the bytes of a chunk up to a place were read
pub record Along (bytes : List ℕ) (r : Reader) (q : Gone) (from : ℕ) (kept word kept' word' : List ℕ) (v v' : World) : Type 0 where
  pub stands : (d : List ℕ) (w : World) → Stands d r kept word w v → Stands (d ++ take from bytes) q.reader kept' word' w v'
  pub on : is_on q.course ≡ true

pub along_start : (bytes : List ℕ) (q : Gone) (kept word : List ℕ) (v : World) → is_on q.course ≡ true
    → Along bytes q.reader q 0 kept word kept word v v
along_start bytes q kept word v e = record {
  stands = λ d w s. subst (λ (l : List ℕ). Stands l q.reader kept word w v) (sym (append-nil d)) s;
  on = e;
}

module _ (bytes : List ℕ) (r : Reader) (q : Gone) (from : ℕ) (kept word kept' word' : List ℕ) (v v' : World)
    (a : Along bytes r q from kept word kept' word' v v') where
  pub along_all : length bytes ≤ from → take from bytes ≡ bytes → Plays bytes r q kept word kept' word' v v'
  along_all h e = record {
    read = from;
    stands = a.stands;
    all = λ _. e;
    settled = λ off. absurd (true≢false (sym a.on ∙ off));
  }

  module _ (to : ℕ) (h : from ≤ to) (q₁ : Gone) (kept₁ word₁ : List ℕ) (v₁ : World)
      (s : Steps (take (to - from) (drop from bytes)) q.reader q₁ kept' word' kept₁ word₁ v' v₁) where
    stands_on : (d : List ℕ) (w : World) → Stands d r kept word w v → Stands (d ++ take to bytes) q₁.reader kept₁ word₁ w v₁
    stands_on d w x =
        subst (λ (l : List ℕ). Stands l q₁.reader kept₁ word₁ w v₁) (grown d bytes from to h)
        (s.stands (d ++ take from bytes) w (a.stands d w x))

    pub along_more : is_on q₁.course ≡ true → Along bytes r q₁ to kept word kept₁ word₁ v v₁
    along_more e = record { stands = stands_on; on = e }

    pub along_stops : is_on q₁.course ≡ false → Plays bytes r q₁ kept word kept₁ word₁ v v₁
    along_stops e = record {
      read = to;
      stands = stands_on;
      all = λ on. absurd (true≢false (sym on ∙ e));
      settled = λ _. s.course_is;
    }

-- ---- chunk after chunk
stopped_settled : (x : Course) (r : Reader) → is_stopped x ≡ true → (is_on x ≡ false → x ≡ course_of r) → is_settled r ≡ true
stopped_settled course.On r e k = absurd (true≢false (sym e))
stopped_settled course.Whole r e k = absurd (true≢false (sym e))
stopped_settled course.Settled r e k = stopped_by (is_settled r) (k refl)
  where
    stopped_by : (t : Bool) → course.Settled ≡ pick t course.Settled course.On → t ≡ true
    stopped_by true p = refl
    stopped_by false p = absurd (true≢false (ap is_stopped p))
stopped_settled course.Unread r e k = absurd (true≢false (sym e))

pub stood_more : (g q : Gone) (bytes kept word kept' word' : List ℕ) (w v v' : World) → Plays bytes g.reader q kept word kept' word' v v'
    → Stood g kept word w v → Stood q kept' word' w v'
stood_more g q bytes kept word kept' word' w v v' p s = record {
  dump = s.dump ++ take p.read bytes;
  stands = p.stands s.dump w s.stands;
  settled = λ e. stopped_settled q.course q.reader e p.settled;
}

pub stood_ended : (x : Course) (g q : Gone) (kept word : List ℕ) (b : Buffers) (w : World) → is_stopped x ≡ false → q ≡ ended x g
    → Stood g kept word w (world g.chip b) → Stood q kept word w (world q.chip b)
stood_ended x g q kept word b w e k s =
    subst (λ (y : Gone). Stood y kept word w (world y.chip b)) (sym k)
    (record { dump = s.dump; stands = s.stands; settled = λ t. absurd (true≢false (sym t ∙ e)) })

pub stood_last : (over : Bool) (g q : Gone) (kept word : List ℕ) (b : Buffers) (w : World) → q ≡ last_of over g
    → Stood g kept word w (world g.chip b) → Stood q kept word w (world q.chip b)
unfolding last_of
stood_last false g q kept word b w k s = subst (λ (y : Gone). Stood y kept word w (world y.chip b)) (sym k) s
stood_last true g q kept word b w k s =
    by_cases (is_on g.course)
    (λ e. stood_ended course.Whole g q kept word b w refl (k ∙ rw e) s)
    (λ e. subst (λ (y : Gone). Stood y kept word w (world y.chip b)) (sym (k ∙ rw e)) s)

on_runs : (x : Course) → is_on x ≡ true → is_stopped x ≡ false
on_runs course.On e = refl
on_runs course.Whole e = refl
on_runs course.Settled e = absurd (true≢false (sym e))
on_runs course.Unread e = refl

pub stood_begins : (p : Uc8253) (q : Gone) (kept word : List ℕ) (b : Buffers) → Begins p q
    → Stood q kept word (world q.chip b) (world q.chip b)
stood_begins p q kept word b g = record {
  dump = [];
  stands = g.stands kept word (world q.chip b);
  settled = λ t. absurd (true≢false (sym t ∙ on_runs q.course g.on));
}

pub stood_from : (p x : Uc8253) (q : Gone) (kept word : List ℕ) (b : Buffers) (v : World) → x ≡ p → Stood q kept word (world x b) v
    → Stood q kept word (world p b) v
stood_from p x q kept word b v e s = subst (λ (y : Uc8253). Stood q kept word (world y b) v) e s

-- ---- how it ended
tells_judged : (j : Result (Unit {0}) Fault) (d : List ℕ) (most longest : ℕ) (w u : World) → j ≡ judged d → u ≡ calls (dump_events d) w
    → Tells (Some (Ok j)) d most longest w u
tells_judged (Ok x) d most longest w u e c = (sym e, c)
tells_judged (Err x) d most longest w u e c = sym e

tells_as : (d : List ℕ) (most longest : ℕ) (w u : World) {x y : Option Ending} → x ≡ y → Tells y d most longest w u → Tells x d most longest w u
tells_as d most longest w u e t = subst (λ (z : Option Ending). Tells z d most longest w u) (sym e) t

closed_by : (x : Stage) (d : List ℕ) (r : Reader) (kept word : List ℕ) (w v u : World) (c : reading.Closed)
    → StandsBy x d r kept word w v → Closes x d c w v u → Tells (Some c.ending) d (length kept) (length word) w u
closed_by stage.Heading d r kept word w v u c s k = tells_as d _ _ w u (ap Some k.0) (tells_judged (judged d) d _ _ w u refl k.1)
closed_by stage.Playing d r kept word w v u c s k = tells_as d _ _ w u (ap Some k.0) (tells_judged (judged d) d _ _ w u refl k.1)
closed_by stage.HeadTooLong d r kept word w v u c s k = tells_as d _ _ w u (ap Some k.0) s
closed_by stage.WordTooLong d r kept word w v u c s k = tells_as d _ _ w u (ap Some k.0) s

pub closed_tells : (d : List ℕ) (r : Reader) (kept word : List ℕ) (w v u : World) (c : reading.Closed)
    → Stands d r kept word w v → Closes r.stage d c w v u → Tells (Some c.ending) d (length kept) (length word) w u
closed_tells d r kept word w v u c s k = closed_by r.stage d r kept word w v u c s k

settled_by : (x : Stage) (d : List ℕ) (r : Reader) (kept word : List ℕ) (w v u : World) → StandsBy x d r kept word w v
    → settled_in x r ≡ true → Tells (Some (settled_ending x)) d (length kept) (length word) w u
settled_by stage.Heading d r kept word w v u s e = absurd (true≢false (sym e))
settled_by stage.Playing d r kept word w v u s e = ap judged (sym (append-nil d)) ∙ lost_malformed d r kept word w v s [] e
settled_by stage.HeadTooLong d r kept word w v u s e = s
settled_by stage.WordTooLong d r kept word w v u s e = s

stopped_by : (x : Course) (d : List ℕ) (r : Reader) (kept word : List ℕ) (w v : World) → Stands d r kept word w v
    → (is_stopped x ≡ true → is_settled r ≡ true) → Tells (stopped_ending x r.stage) d (length kept) (length word) w v
stopped_by course.On d r kept word w v s e = tt
stopped_by course.Whole d r kept word w v s e = tt
stopped_by course.Settled d r kept word w v s e = settled_by r.stage d r kept word w v v s (e refl)
stopped_by course.Unread d r kept word w v s e = tt

pub stopped_tells : (g : Gone) (kept word : List ℕ) (w v : World) (t : Option Ending) (s : Stood g kept word w v)
    → t ≡ stopped_ending g.course g.reader.stage → Tells t s.dump (length kept) (length word) w v
stopped_tells g kept word w v t s e =
    tells_as s.dump _ _ w v e (stopped_by g.course s.dump g.reader kept word w v s.stands s.settled)
