-- What the log says after a report and after reports in a row: with room and without, and that a stored row reads back as its five numbers.
use mathlib.Core.Path.{◌≡◌, refl, sym, ap, ◌∙◌}
use mathlib.Core.List.{List, [], ◌∷◌, ◌++◌}
use Prim.Native.Nat.{ℕ, zero, suc, ◌+◌, ◌*◌, ◌/◌, ◌≤◌, ◌<◌, min}
use native.Mathlib.Nat.{not-suc-le-zero, le_of_suc-le-suc}
use native.Mathlib.Decide.{dec_le}
use native.Mathlib.Omega.{arith}
use lib.ListN.{length, get_or, set, take, drop, length-set, length-append, get_or-append}
use lib.Seq.{get_or-set_other, sets, sets-eq, get_or-append-add, length-take-le}
use borrow.Author.Tests.{lt-ltb, le-ltb}
use Rattle.base.specs.Word.{top}
use Rattle.diagnostic.specs.declared.DiagnosticKind.{DiagnosticKind}
use Rattle.diagnostic.specs.Row.{row_numbers}
use Rattle.diagnostic_log.specs.declared.Log.{Log}
use Rattle.diagnostic_log.specs.Log.{reported, rows_after, put_row, Report, all_reported, rows_after_all}

-- ---- a report, with room and without
pub reported_room : (g : Log) → g.stored < 1024 → reported g ≡ record { stored = g.stored + 1; dropped = g.dropped }
unfolding reported
reported_room g h = rw (lt-ltb g.stored 1024 h)

pub reported_full : (g : Log) → 1024 ≤ g.stored → reported g ≡ record { stored = g.stored; dropped = min (g.dropped + 1) top }
unfolding reported
reported_full g h = rw (le-ltb g.stored 1024 h)

pub rows_room : (g : Log) (at : ℕ) (k : DiagnosticKind) (l : List ℕ) → g.stored < 1024
    → rows_after g at k l ≡ put_row l (5 * g.stored) (row_numbers at k)
unfolding rows_after
rows_room g at k l h = rw (lt-ltb g.stored 1024 h)

pub rows_full : (g : Log) (at : ℕ) (k : DiagnosticKind) (l : List ℕ) → 1024 ≤ g.stored → rows_after g at k l ≡ l
unfolding rows_after
rows_full g at k l h = rw (le-ltb g.stored 1024 h)

one_more : (g : Log) → g.stored < 1024 → (reported g).stored ≡ g.stored + 1
one_more g h = ap {B = ℕ} (λ x. x.stored) (reported_room g h)

-- the rows that are stored never become fewer
pub stored_grows : (g : Log) → g.stored ≤ (reported g).stored
stored_grows g = elim (dec_le 1024 g.stored) [
  | yes h ↦ omega (arith, ap {B = ℕ} (λ x. x.stored) (reported_full g h))
  | no h ↦ omega (arith, ap {B = ℕ} (λ x. x.stored) (reported_room g (omega arith)))
]

-- ---- the numbers of a row: entry n belongs to row n / 5
put_stores : (l : List ℕ) (i a b c d e : ℕ) → put_row l i (a ∷ b ∷ c ∷ d ∷ e ∷ []) ≡ sets l i (a ∷ b ∷ c ∷ d ∷ e ∷ [])
put_stores l i a b c d e =
    let p : i + 1 ≡ suc i = omega arith in
    let q : i + 2 ≡ suc (suc i) = omega arith in
    let r : i + 3 ≡ suc (suc (suc i)) = omega arith in
    let s : i + 4 ≡ suc (suc (suc (suc i))) = omega arith in
    λ t. set (set (set (set (set l i a) (p t) b) (q t) c) (r t) d) (s t) e

-- a row in the buffer stands between what was before it and what was after it
pub put_whole : (l : List ℕ) (i at : ℕ) (k : DiagnosticKind) → i + 5 ≤ length l
    → put_row l i (row_numbers at k) ≡ take i l ++ row_numbers at k ++ drop (i + 5) l
put_whole l i at k h = put_stores l i _ _ _ _ _ ∙ sets-eq (row_numbers at k) l i h

put_others : (l r : List ℕ) (i n : ℕ) → (n ≡ i → ⊥) → (n ≡ i + 1 → ⊥) → (n ≡ i + 2 → ⊥) → (n ≡ i + 3 → ⊥) → (n ≡ i + 4 → ⊥)
    → get_or (put_row l i r) n 0 ≡ get_or l n 0
put_others l r i n p q s t u = rw (get_or-set_other, get_or-set_other, get_or-set_other, get_or-set_other, get_or-set_other)

-- the row that was stored reads back as its five numbers
pub row_stored : (g : Log) (at : ℕ) (k : DiagnosticKind) (l : List ℕ) → length l ≡ 5120 → g.stored < 1024 → (j : ℕ) → j < 5 →
    get_or (rows_after g at k l) (5 * g.stored + j) 0 ≡ get_or (row_numbers at k) j 0
row_stored g at k l e h j b =
    let front : length (take (5 * g.stored) l) ≡ 5 * g.stored = length-take-le (5 * g.stored) l (omega arith) in
    ap (λ (m : List ℕ). get_or m (5 * g.stored + j) 0) (rows_room g at k l h ∙ put_whole l (5 * g.stored) at k (omega arith))
    ∙ get_or-append (take (5 * g.stored) l ++ row_numbers at k) (drop (5 * g.stored + 5) l) 0
    (5 * g.stored + j) (simp length-append (omega arith))
    ∙ ap (λ (n : ℕ). get_or (take (5 * g.stored) l ++ row_numbers at k) (n + j) 0) (sym front)
    ∙ get_or-append-add (take (5 * g.stored) l) (row_numbers at k) j 0

-- and no entry of another row changes
pub row_others : (g : Log) (at : ℕ) (k : DiagnosticKind) (l : List ℕ) (n : ℕ) → (n / 5 ≡ g.stored → ⊥)
    → get_or (rows_after g at k l) n 0 ≡ get_or l n 0
row_others g at k l n b = elim (dec_le 1024 g.stored) [
  | yes h ↦ ap (λ (m : List ℕ). get_or m n 0) (rows_full g at k l h)
  | no h ↦ ap (λ (m : List ℕ). get_or m n 0) (rows_room g at k l (omega arith))
      ∙ put_others l (row_numbers at k) (5 * g.stored) n (λ e. b (omega arith)) (λ e. b (omega arith)) (λ e. b (omega arith))
      (λ e. b (omega arith)) (λ e. b (omega arith))
]

pub rows_length : (g : Log) (at : ℕ) (k : DiagnosticKind) (l : List ℕ) → length (rows_after g at k l) ≡ length l
rows_length g at k l = elim (dec_le 1024 g.stored) [
  | yes h ↦ ap length (rows_full g at k l h)
  | no h ↦ ap length (rows_room g at k l (omega arith)) ∙ simp length-set
]

-- ---- reports in a row: what is stored stays, and each row reads back
pub rows_stay : (g : Log) (rs : List Report) (l : List ℕ) (n : ℕ) → n / 5 < g.stored → get_or (rows_after_all g rs l) n 0 ≡ get_or l n 0
rows_stay g [] l n h = refl
rows_stay g (r ∷ rs) l n h =
    rows_stay (reported g) rs (rows_after g r.at r.kind l) n (omega (arith, stored_grows g))
    ∙ row_others g r.at r.kind l n (λ e. omega arith)

pub row_read_back : (g : Log) (rs : List Report) (l : List ℕ) → length l ≡ 5120 → g.stored + length rs ≤ 1024
    → (i j : ℕ) → i < length rs → j < 5 → (d : Report)
    → get_or (rows_after_all g rs l) (5 * (g.stored + i) + j) 0 ≡ get_or (row_numbers (get_or rs i d).at (get_or rs i d).kind) j 0
row_read_back g [] l e h i j p q d = absurd (not-suc-le-zero p)
row_read_back g (r ∷ rs) l e h zero j p q d =
    ap (λ (n : ℕ). get_or (rows_after_all g (r ∷ rs) l) (5 * n + j) 0) {y = g.stored} (omega arith)
    ∙ rows_stay (reported g) rs (rows_after g r.at r.kind l) (5 * g.stored + j) (omega (arith, one_more g (omega arith)))
    ∙ row_stored g r.at r.kind l e (omega arith) j q
row_read_back g (r ∷ rs) l e h (suc i) j p q d =
    ap (λ (n : ℕ). get_or (rows_after_all g (r ∷ rs) l) (5 * n + j) 0) {y = (reported g).stored + i} (omega (arith, one_more g (omega arith)))
    ∙ row_read_back (reported g) rs (rows_after g r.at r.kind l) (rows_length g r.at r.kind l ∙ e)
    (omega (arith, one_more g (omega arith))) i j (le_of_suc-le-suc p) q d

-- ---- the counts after reports in a row
both : (s t d e : ℕ) → s ≡ t → d ≡ e → ◌≡◌ {A = Log} (record { stored = s; dropped = d }) (record { stored = t; dropped = e })
both s t d e p q = λ i. record { stored = p i; dropped = q i }

pub all_stored : (g : Log) (rs : List Report) → g.stored + length rs ≤ 1024
    → all_reported g rs ≡ record { stored = g.stored + length rs; dropped = g.dropped }
all_stored g [] h = both g.stored (g.stored + 0) g.dropped g.dropped (omega arith) refl
all_stored g (r ∷ rs) h =
    all_stored (reported g) rs (omega (arith, one_more g (omega arith)))
    ∙ both ((reported g).stored + length rs) (g.stored + suc (length rs)) (reported g).dropped g.dropped
    (omega (arith, one_more g (omega arith))) (ap {B = ℕ} (λ x. x.dropped) (reported_room g (omega arith)))

pub all_dropped : (g : Log) (rs : List Report) → 1024 ≤ g.stored → g.dropped ≤ top →
    all_reported g rs ≡ record { stored = g.stored; dropped = min (g.dropped + length rs) top }
all_dropped g [] h b = both g.stored g.stored g.dropped (min (g.dropped + 0) top) refl (omega arith)
all_dropped g (r ∷ rs) h b =
    let s : (reported g).stored ≡ g.stored = ap {B = ℕ} (λ x. x.stored) (reported_full g h) in
    let d : (reported g).dropped ≡ min (g.dropped + 1) top = ap {B = ℕ} (λ x. x.dropped) (reported_full g h) in
    all_dropped (reported g) rs (omega arith) (omega arith)
    ∙ both (reported g).stored g.stored (min ((reported g).dropped + length rs) top)
    (min (g.dropped + suc (length rs)) top) s (omega arith)
