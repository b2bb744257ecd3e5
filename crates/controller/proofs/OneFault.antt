-- One fault, one row (2026-02): what is told of a table load, 20 to 24, from its command byte to its close, whatever data bytes, reads
-- and advances come between. The invariant: after n bytes the command under way has counted them, and has told of an extra one just if n
-- passes 60.
use Rattle.std.proofs.Common.{None, Some}
use mathlib.Core.Path.{◌≡◌, refl, sym, ap, ◌∙◌, subst}
use mathlib.Core.Bool.{true}
use mathlib.Core.List.{List, [], ◌∷◌}
use Prim.Native.Nat.{ℕ, suc, ◌+◌, ◌-◌, ◌≤◌, ◌<◌, min, max}
use native.Mathlib.Nat.{add-zero, zero-add}
use native.Mathlib.Omega.{arith}
use native.Mathlib.Decide.{dec_le, ℕ_discrete}
use lib.Dec.{eqb, ltb, leb}
use borrow.Author.Tests.{lt-ltb, le-ltb, ne_eqb}
use Rattle.base.specs.Pick.{pick, between}
use Rattle.base.specs.Word.{top}
use Rattle.base.proofs.Cases.{both}
use Rattle.config.specs.declared.Variant.{Variant}
use Rattle.command.specs.declared.kinds.Kind.{Kind}
use Rattle.command.specs.declared.kinds.Kind.TheVariants as kind
use Rattle.command.specs.declared.kinds.Params.TheVariants as params
use Rattle.command.specs.Kinds.{kind_of}
use Rattle.diagnostic.specs.declared.DiagnosticKind.TheVariants.{MissingData, ExtraData, LutLength}
use Rattle.diagnostic_log.specs.Log.{reported, Report, all_reported, rows_after_all}
use Rattle.diagnostic_log.specs.Log as log
use Rattle.controller.specs.declared.Active.{Active}
use Rattle.controller.specs.declared.Current.{Current}
use Rattle.controller.specs.declared.Current.TheVariants as current
use Rattle.controller.specs.declared.Power.TheVariants as power
use Rattle.controller.specs.declared.Work.{Work}
use Rattle.controller.specs.declared.Work.TheVariants as work
use Rattle.controller.specs.declared.Uc8253.{Uc8253}
use Rattle.controller.specs.Maybe.{Note}
use Rattle.controller.specs.declared.uses.Use.{Use}
use Rattle.controller.specs.declared.uses.Use.TheVariants as use-for
use Rattle.controller.specs.Setters.{with_log}
use Rattle.controller.specs.Tell.{notes, log_told, rows_told}
use Rattle.controller.specs.Arrives.{timed, ended_by, ended, arrived}
use Rattle.controller.specs.Command.{closing_note, close_note, barred_note, begun, executed, sorted_by, sort_note, passed_by, pass_note}
use Rattle.controller.specs.Command.{command_byte, command_note}
use Rattle.controller.specs.DataByte.{more_of, extra_of, doing, purpose_of, under, register_byte, used_by, used_note}
use Rattle.controller.specs.Counting.{own}
use Rattle.controller.specs.Ask.{command, record_after, rows_after}
use Rattle.controller.specs.Ask as ask
use Rattle.controller.proofs.Keeps.{kept_arrived}
use Rattle.controller.proofs.Meanwhile.{Meanwhile, datum, reading, advance, Diary, came_one, came_all, bytes_in, clock_after}
use Rattle.controller.proofs.Meanwhile.{Diagnosed, diagnosed, closes, leaving, byte_is, read_is, close_is}

-- ---- the statement: the rows of a load of n bytes
-- the diagnostics and their rows after reports, one after the other
abbrev pub reports : List Report → Diagnosed → Diagnosed
reports rs d = record { log = all_reported d.log rs; rows = rows_after_all d.log rs d.rows }

-- the clock when data byte number k comes, from 0
abbrev pub clock_at : ℕ → ℕ → List Meanwhile → ℕ
clock_at k now [] = now
clock_at k now (datum t b ∷ xs) = pick (eqb k 0) (max now t) (clock_at (k - 1) (max now t) xs)
clock_at k now (reading t ∷ xs) = clock_at k (max now t) xs
clock_at k now (advance t ∷ xs) = clock_at k (max now t) xs

-- 61 and more: kind 4 alone, at the extra byte; 42: none; 0: kind 5, any other: kind 13, at the close
unfoldable pub faults : ℕ → ℕ → ℕ → ℕ → List Report
faults c n extra close =
    pick (ltb 60 n) (record { at = extra; kind = ExtraData c } ∷ [])
    (pick (eqb n 42) []
    (pick (eqb n 0) (record { at = close; kind = MissingData c 1 0 } ∷ [])
    (record { at = close; kind = LutLength c n } ∷ [])))

-- ---- a rule at each table
each_table : (P : ℕ → Type 0) → P 0x20 → P 0x21 → P 0x22 → P 0x23 → P 0x24 → (c : ℕ) → 0x20 ≤ c → c ≤ 0x24 → P c
each_table P p0 p1 p2 p3 p4 c lo hi =
    elim (dec_le c 0x20) [
      | yes h ↦ subst P (omega arith) p0
      | no h ↦ elim (dec_le c 0x21) [
        | yes h1 ↦ subst P (omega (arith, h)) p1
        | no h1 ↦ elim (dec_le c 0x22) [
          | yes h2 ↦ subst P (omega (arith, h1)) p2
          | no h2 ↦ elim (dec_le c 0x23) [
            | yes h3 ↦ subst P (omega (arith, h2)) p3
            | no h3 ↦ subst P (omega (arith, h3)) p4
          ]
        ]
      ]
    ]

-- ---- where nothing runs the clock alone moves
in_time : (t : ℕ) (p : Uc8253) → p.operation.work ≡ work.Nothing → arrived t p ≡ timed t p
unfolding arrived ended
in_time t p e =
    both (λ (q : Uc8253). q ≡ timed t p) (leb p.operation.until (max p.now t)) (ap (λ (x : Work). ended_by x (timed t p)) e) refl

module _ (c : ℕ) (lo : 0x20 ≤ c) (hi : c ≤ 0x24) where
  -- ---- what each step makes of the command under way
  record Loads (n : ℕ) (a : Active) (x : Current) (runs : Work) : Type 0 where
    is : x ≡ current.Active a
    command_is : a.command ≡ c
    kind_is : a.kind ≡ kind.Write (params.Between 1 60)
    count : a.received ≡ min n 65535
    extra : a.extra_reported ≡ ltb 60 n
    idle : runs ≡ work.Nothing

  abbrev LoadsIn : ℕ → Active → Diary → Type 0
  LoadsIn n a d = Loads n a d.chip.stage.current d.chip.operation.work

  -- a byte of a table that is taken goes to a register
  taken_does : (i b : ℕ) → doing c i b ≡ use-for.Register
  unfolding doing
  taken_does i b = each_table (λ k. doing k i b ≡ use-for.Register) refl refl refl refl refl c lo hi

  table : between 0x20 0x24 c ≡ true
  table = each_table (λ k. between 0x20 0x24 k ≡ true) refl refl refl refl refl c lo hi

  -- up to 60 bytes are taken, the next one is told, the others are counted alone
  use_taken : (n b : ℕ) (a : Active) (x : Current) (r : Work) → Loads n a x r → n < 60 → purpose_of a b ≡ use-for.Register
  unfolding purpose_of
  use_taken n b a x r s h =
      let few : a.received < 60 = omega (arith, s.count) in
      rw (s.kind_is, lt-ltb a.received 60 few, s.command_is) (taken_does a.received b)

  use_extra : (b : ℕ) (a : Active) (x : Current) (r : Work) → Loads 60 a x r → purpose_of a b ≡ use-for.Extra
  unfolding purpose_of
  use_extra b a x r s =
      let all : 60 ≤ a.received = omega (arith, s.count) in
      rw (s.kind_is, le-ltb a.received 60 all, s.extra)

  use_past : (n b : ℕ) (a : Active) (x : Current) (r : Work) → Loads n a x r → 60 < n → purpose_of a b ≡ use-for.Quiet
  unfolding purpose_of
  use_past n b a x r s h =
      let all : 60 ≤ a.received = omega (arith, s.count) in
      rw (s.kind_is, le-ltb a.received 60 all, s.extra, lt-ltb 60 n h)

  -- the close
  note_past : (n : ℕ) (a : Active) (x : Current) (r : Work) → Loads n a x r → 60 < n → closing_note a ≡ None
  unfolding closing_note
  note_past n a x r s h =
      let some : 1 ≤ a.received = omega (arith, s.count) in
      rw (s.kind_is, le-ltb a.received 1 some, s.command_is, table, s.extra, lt-ltb 60 n h)

  note_none : (a : Active) (x : Current) (r : Work) → Loads 0 a x r → closing_note a ≡ Some (MissingData c 1 0)
  unfolding closing_note
  note_none a x r s = rw (s.kind_is, s.count, s.command_is)

  note_whole : (a : Active) (x : Current) (r : Work) → Loads 42 a x r → closing_note a ≡ None
  unfolding closing_note
  note_whole a x r s = rw (s.kind_is, s.count, s.command_is, table, s.extra)

  note_other : (n : ℕ) (a : Active) (x : Current) (r : Work) → Loads n a x r → 0 < n → n ≤ 60 → (n ≡ 42 → ⊥)
      → closing_note a ≡ Some (LutLength c n)
  unfolding closing_note
  note_other n a x r s some few other =
      let e : min n 65535 ≡ n = omega arith in
      rw (s.kind_is, s.count, e, le-ltb n 1 some, s.command_is, table, s.extra, le-ltb 60 n few, ne_eqb n 42 other)

  -- ---- what each call leaves, where nothing runs
  abbrev waited : ℕ → Diary → Diary
  waited t d = leaving None (max d.chip.now t) (timed t d.chip) d

  module _ (n : ℕ) (a : Active) (d : Diary) (s : LoadsIn n a d) (t : ℕ) where
    -- a data byte
    put : (u : Use) (b : ℕ) → purpose_of a b ≡ u
        → came_one (ask.datum t b) d
        ≡ leaving (used_note u a b (timed t d.chip)) (max d.chip.now t) (used_by own u a b (timed t d.chip)) d
    put u b f =
        byte_is t d a s.is u b f
        ∙ ap (λ (q : Uc8253). leaving (used_note u a b q) (max d.chip.now t) (used_by own u a b q) d) (in_time t d.chip s.idle)

    -- an advance, and so a read
    wait : came_one (ask.advance t) d ≡ waited t d
    unfolding record_after rows_after
    wait = ap (λ (q : Uc8253). leaving None (max d.chip.now t) q d) (in_time t d.chip s.idle)

    look : came_one (ask.reading t) d ≡ waited t d
    look = read_is t d a s.is (params.Between 1 60) s.kind_is ∙ wait

  -- ---- from byte to byte
  more : (n : ℕ) (a : Active) → a.received ≡ min n 65535 → (more_of a).received ≡ min (suc n) 65535
  more n a e = omega (arith, e)

  -- past the extra byte nothing more is told
  past : (xs : List Meanwhile) (n : ℕ) (a : Active) (d : Diary) → LoadsIn n a d → 60 < n → (t : ℕ)
      → closes t (came_all xs d) ≡ diagnosed d
  past [] n a d s h t = close_is t d a s.is None (note_past n a _ _ s h)
  past (datum u b ∷ xs) n a d s h t =
      ap (λ (v : Diary). closes t (came_all xs v)) (put n a d s u use-for.Quiet b (use_past n b a _ _ s h))
      ∙ past xs (suc n) (more_of a) (leaving None (max d.chip.now u) (under (more_of a) (timed u d.chip)) d)
      (record {
        is = refl;
        command_is = s.command_is;
        kind_is = s.kind_is;
        count = more n a s.count;
        extra = s.extra ∙ lt-ltb 60 n h ∙ sym (lt-ltb 60 (suc n) (omega arith));
        idle = s.idle;
      })
      (omega arith) t
  past (reading u ∷ xs) n a d s h t =
      ap (λ (v : Diary). closes t (came_all xs v)) (look n a d s u) ∙ past xs n a (waited u d) s h t
  past (advance u ∷ xs) n a d s h t =
      ap (λ (v : Diary). closes t (came_all xs v)) (wait n a d s u) ∙ past xs n a (waited u d) s h t

  -- the close after n bytes, up to 60
  close_told : (n : ℕ) (a : Active) (d : Diary) → LoadsIn n a d → n ≤ 60 → (extra t : ℕ)
      → closes t d ≡ reports (faults c n extra (max d.chip.now t)) (diagnosed d)
  unfolding faults
  close_told n a d s few extra t =
      let close = close_is t d a s.is in
      rw (le-ltb 60 n few)
      (elim (dec_le n 0) [
        | yes h ↦ let e : n ≡ 0 = omega arith in
            rw e (close _ (note_none a _ _ (subst (λ m. LoadsIn m a d) e s)))
        | no h ↦ elim (ℕ_discrete n 42) [
          | yes e ↦ rw e (close _ (note_whole a _ _ (subst (λ m. LoadsIn m a d) e s)))
          | no e ↦ rw (ne_eqb n 42 e, ne_eqb n 0 (λ z. h (omega (arith, z)))) (close _ (note_other n a _ _ s (omega (arith, h)) few e))
        ]
      ])

  -- the extra byte, number 61
  extra_byte : (xs : List Meanwhile) (u b n : ℕ) (a : Active) (d : Diary) → LoadsIn n a d → n ≡ 60 → (t : ℕ)
      → closes t (came_all xs (came_one (ask.datum u b) d))
      ≡ reports
      (faults c (n + (1 + bytes_in xs)) (pick (eqb (60 - n) 0) (max d.chip.now u) (clock_at (60 - n - 1) (max d.chip.now u) xs))
      (max (clock_after (max d.chip.now u) xs) t))
      (diagnosed d)
  unfolding faults
  extra_byte xs u b n a d s is60 t =
      let s60 : LoadsIn 60 a d = subst (λ m. LoadsIn m a d) is60 s in
      let v : Diary = leaving (Some (ExtraData a.command)) (max d.chip.now u) (used_by own use-for.Extra a b (timed u d.chip)) d in
      let long : 60 < 60 + (1 + bytes_in xs) = omega arith in
      ap (λ (x : Diary). closes t (came_all xs x)) (put n a d s u use-for.Extra b (use_extra b a _ _ s60))
      ∙ past xs 61 (extra_of (more_of a)) v
      (record {
        is = refl;
        command_is = s.command_is;
        kind_is = s.kind_is;
        count = more 60 a s60.count;
        extra = refl;
        idle = s.idle;
      })
      (omega arith) t
      ∙ rw (is60, lt-ltb 60 (60 + (1 + bytes_in xs)) long, s.command_is)

  -- what is told from n bytes on
  within : (xs : List Meanwhile) (n : ℕ) (a : Active) (d : Diary) → LoadsIn n a d → n ≤ 60 → (t : ℕ)
      → closes t (came_all xs d)
      ≡ reports
      (faults c (n + bytes_in xs) (clock_at (60 - n) d.chip.now xs) (max (clock_after d.chip.now xs) t))
      (diagnosed d)
  within [] n a d s few t = rw (add-zero n) (close_told n a d s few d.chip.now t)
  within (reading u ∷ xs) n a d s few t =
      ap (λ (v : Diary). closes t (came_all xs v)) (look n a d s u) ∙ within xs n a (waited u d) s few t
  within (advance u ∷ xs) n a d s few t =
      ap (λ (v : Diary). closes t (came_all xs v)) (wait n a d s u) ∙ within xs n a (waited u d) s few t
  within (datum u b ∷ xs) n a d s few t =
      elim (dec_le 60 n) [
        | yes h ↦ extra_byte xs u b n a d s (omega arith) t
        | no h ↦
            let below : n < 60 = omega (arith, h) in
            let v : Diary = leaving None (max d.chip.now u) (under (more_of a) (register_byte a b (timed u d.chip))) d in
            let on = within xs (suc n) (more_of a) v
            (record {
              is = refl;
              command_is = s.command_is;
              kind_is = s.kind_is;
              count = more n a s.count;
              extra = s.extra ∙ le-ltb 60 n few ∙ sym (le-ltb 60 (suc n) below);
              idle = s.idle;
            })
            below t in
            let k : n + (1 + bytes_in xs) ≡ suc n + bytes_in xs = omega arith in
            let l : 60 - n - 1 ≡ 60 - suc n = omega arith in
            ap (λ (x : Diary). closes t (came_all xs x)) (put n a d s u use-for.Register b (use_taken n b a _ _ s below))
            ∙ rw (k, ne_eqb (60 - n) 0 (λ z. h (omega (arith, z))), l) on
      ]

  -- ---- the command byte: taken where the chip is awake and nothing runs
  kind_of_lem : (v : Variant) → kind_of c v ≡ kind.Write (params.Between 1 60)
  unfolding kind_of
  kind_of_lem v = each_table (λ k. kind_of k v ≡ kind.Write (params.Between 1 60)) refl refl refl refl refl c lo hi

  executes_nothing : (p : Uc8253) → executed own c p ≡ p
  unfolding executed
  executes_nothing p = each_table (λ k. executed own k p ≡ p) refl refl refl refl refl c lo hi

  tells_nothing : (p : Uc8253) → sort_note (kind.Write (params.Between 1 60)) c p ≡ None
  tells_nothing p =
      each_table (λ k. sort_note (kind.Write (params.Between 1 60)) k p ≡ None) refl refl refl refl refl c lo hi

  free : barred_note power.Running work.Nothing c ≡ None
  unfolding barred_note
  free = refl

  drops : (g : Diagnosed) → g.log.stored ≡ 1024 → (n extra close : ℕ) → 60 < n
      → reports (faults c n extra close) g
      ≡ record { log = record { stored = 1024; dropped = min (g.log.dropped + 1) top }; rows = g.rows }
  unfolding faults reported log.rows_after
  drops g full n extra close long = rw (lt-ltb 60 n long, full)

  module _ (d : Diary) (u : ℕ) (awake : (arrived u d.chip).mode.power ≡ power.Running)
      (idle : (arrived u d.chip).operation.work ≡ work.Nothing) where
    abbrev begins : Diary
    begins =
        leaving (close_note (arrived u d.chip).stage.current) (max d.chip.now u)
        (begun c (kind.Write (params.Between 1 60)) (arrived u d.chip)) d

    begin_is : came_one (command u c) d ≡ begins
    unfolding record_after rows_after command_byte command_note
    begin_is =
        let q = arrived u d.chip in
        let m = close_note q.stage.current in
        let left : Note → Uc8253 → Diary = λ n v. record {
          chip = with_log (log_told (notes m n) v.log) v;
          rows = rows_told (notes m n) (max d.chip.now u) d.chip.log d.rows;
        } in
        ap (λ (n : Note). left (pass_note n c q) (passed_by own n c q))
        (ap (λ p. barred_note p q.operation.work c) awake ∙ ap (λ x. barred_note power.Running x c) idle ∙ free)
        ∙ ap (λ (k : Kind). left (sort_note k c q) (sorted_by own k c q)) (kind_of_lem q.config.variant)
        ∙ (λ i. left (tells_nothing q i) (executes_nothing (begun c (kind.Write (params.Between 1 60)) q) i))

    -- it tells no more than the close of the command before it
    pub begin_told : diagnosed (came_one (command u c) d) ≡ closes u d
    unfolding begun
    begin_told = ap diagnosed begin_is ∙ rw (kept_arrived u d.chip).log

    -- from the command byte on, which is taken, up to the close by the next one or by a reset
    pub table_told : (xs : List Meanwhile) (t : ℕ)
        → closes t (came_all xs (came_one (command u c) d))
        ≡ reports
        (faults c (bytes_in xs) (clock_at 60 (max d.chip.now u) xs) (max (clock_after (max d.chip.now u) xs) t))
        (diagnosed (came_one (command u c) d))
    unfolding begun
    table_told xs t =
        let load : ℕ → Diary → Diagnosed
        = λ now v. reports (faults c (bytes_in xs) (clock_at 60 now xs) (max (clock_after now xs) t)) (diagnosed v) in
        let on : closes t (came_all xs begins) ≡ load (arrived u d.chip).now begins
        = rw (← zero-add (bytes_in xs))
        (within xs 0 _ begins (record { is = refl; command_is = refl; kind_is = refl; count = refl; extra = refl; idle = idle })
        (omega arith) t) in
        ap (λ (v : Diary). closes t (came_all xs v)) begin_is ∙ on ∙ (λ i. load ((kept_arrived u d.chip).clock i) (sym begin_is i))

    -- the same where the log is full as the load begins: one row is dropped for 61 bytes and more, as for any fault, and none stored
    pub full_told : (closes u d).log.stored ≡ 1024 → (xs : List Meanwhile) (t : ℕ) → 60 < bytes_in xs
        → closes t (came_all xs (came_one (command u c) d))
        ≡ record { log = record { stored = 1024; dropped = min ((closes u d).log.dropped + 1) top }; rows = (closes u d).rows }
    full_told full xs t long =
        let now = max d.chip.now u in
        table_told xs t
        ∙ ap (reports (faults c (bytes_in xs) (clock_at 60 now xs) (max (clock_after now xs) t))) begin_told
        ∙ drops (closes u d) full (bytes_in xs) _ _ long
