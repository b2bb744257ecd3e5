-- The reason is of refusal 8 exactly if the file is broken, of 9 exactly if it is not and has a bad event, and neither exactly if
-- the file is refused as neither. What it says of the file holds and each test before it passes, so it names the first fault.
use mathlib.Core.Path.{◌≡◌, refl, sym, ap, subst}
use mathlib.Core.Bool.{Bool, true, false, ◌||◌, not, true≢false}
use Rattle.std.proofs.Common.{Option, Some, None}
use mathlib.Core.List.{List}
use mathlib.Core.Logic.{◌↔◌}
use Prim.Native.Nat.{ℕ, ◌+◌, ◌*◌, ◌≤◌, ◌<◌}
use native.Mathlib.Omega.{arith}
use lib.ListN.{length}
use lib.Dec.{eqb, ltb}
use borrow.Author.Tests.{ltb-true, ltb-false, eqb-true, eqb-false, not-true, not-false}
use Rattle.base.specs.Pick.{pick}
use Rattle.base.proofs.Cases.{both}
use Rattle.config.specs.declared.Uc8253Config.{Uc8253Config}
use Rattle.config.specs.Refusal.{empty_panel, oversized_panel, swing_refused, period_refused, rate_refused, refusal}
use Rattle.capture.specs.Layout.{kind_at, value_at, variant_at, flags_at, offset_of, count_of, rated, config_in}
use Rattle.capture.specs.Refused.{broken, listed, bad_config, bad_event, file_refused}
use Rattle.capture.proofs.CaptureLaws.{Whole, either_length}
use Rattle.reasons.specs.declared.causes.Reason.{Reason}
use Rattle.reasons.specs.declared.causes.Reason.TheVariants as reason
use Rattle.reasons.specs.Reasons.{length_fits, first_fault, bad_reason, reason_of, refusal_of}
use Rattle.reasons.proofs.EventLaws.{picked, some_value, known_some, known_none, First, Faulty, events_faulty, events_number}

-- ---- which refusal it is of
refusal_picked : (t : Bool) (r s : Option Reason) → refusal_of (pick t r s) ≡ pick t (refusal_of r) (refusal_of s)
refusal_picked true r s = refl
refusal_picked false r s = refl

either : (s t : Bool) (m n : ℕ) → pick (s || t) m n ≡ pick s m (pick t m n)
either true t m n = refl
either false t m n = refl

bad_number : (file : List ℕ) → refusal_of (bad_reason file (offset_of file) (count_of file)) ≡ pick (bad_event file) 9 0
unfolding bad_reason bad_config bad_event
bad_number file = simp (refusal_picked, either, events_number)

-- a configuration by itself: of 9 exactly if it is bad
pub config_number : (config : List ℕ) → refusal_of (bad_reason config 0 0) ≡ pick (bad_config config 0) 9 0
unfolding bad_reason bad_config
config_number config = simp (refusal_picked, either)

pub number_is : (file : List ℕ) → refusal_of (reason_of file) ≡ pick (broken file) 8 (pick (bad_event file) 9 0)
unfolding reason_of broken rated
number_is file = simp (refusal_picked, either, bad_number)

-- no configuration is refused as 8 or 9
abbrev Other : ℕ → Type 0
Other n = (n ≡ 8 → ⊥) × (n ≡ 9 → ⊥)

refusal_other : (c : Uc8253Config) → Other (refusal c)
unfolding refusal
refusal_other c =
    both Other (empty_panel c) ((λ e. omega arith), (λ e. omega arith))
    (both Other (oversized_panel c) ((λ e. omega arith), (λ e. omega arith))
    (both Other (swing_refused c) ((λ e. omega arith), (λ e. omega arith))
    (both Other (period_refused c) ((λ e. omega arith), (λ e. omega arith))
    (both Other (rate_refused c) ((λ e. omega arith), (λ e. omega arith)) ((λ e. omega arith), (λ e. omega arith))))))

none_of : (r : Option Reason) → refusal_of r ≡ 0 → r ≡ None
none_of (Some (reason.Short bytes)) e = absurd (omega arith)
none_of (Some (reason.Long bytes)) e = absurd (omega arith)
none_of (Some (reason.Offset offset count)) e = absurd (omega arith)
none_of (Some (reason.Length bytes offset)) e = absurd (omega arith)
none_of (Some (reason.Variant v)) e = absurd (omega arith)
none_of (Some (reason.Flags f)) e = absurd (omega arith)
none_of (Some (reason.Kind i kind)) e = absurd (omega arith)
none_of (Some (reason.Value i kind value)) e = absurd (omega arith)
none_of None e = refl

-- ---- the three, over the two tests
is_eight : (s t : Bool) {n : ℕ} → n ≡ pick s 8 (pick t 9 0) → n ≡ 8 ↔ s ≡ true
is_eight true t e = ((λ h. refl), (λ h. e))
is_eight false true e = ((λ h. absurd (omega arith)), (λ h. absurd (true≢false (sym h))))
is_eight false false e = ((λ h. absurd (omega arith)), (λ h. absurd (true≢false (sym h))))

is_nine : (s t : Bool) {n : ℕ} → n ≡ pick s 8 (pick t 9 0) → n ≡ 9 ↔ (s ≡ false) × (t ≡ true)
is_nine true t e = ((λ h. absurd (omega arith)), (λ h. absurd (true≢false h.0)))
is_nine false true e = ((λ h. (refl, refl)), (λ h. e))
is_nine false false e = ((λ h. absurd (omega arith)), (λ h. absurd (true≢false (sym h.1))))

is_neither : (s t : Bool) {n x : ℕ} → n ≡ pick s 8 (pick t 9 0) → Other x → n ≡ 0 ↔ Other (pick s 8 (pick t 9 x))
is_neither true t e m = ((λ h. absurd (omega arith)), (λ h. absurd (h.0 refl)))
is_neither false true e m = ((λ h. absurd (omega arith)), (λ h. absurd (h.1 refl)))
is_neither false false e m = ((λ h. m), (λ h. e))

is_same : (s t : Bool) (x : ℕ) {n : ℕ} → n ≡ pick s 8 (pick t 9 0) → (n ≡ 0 → ⊥) → n ≡ pick s 8 (pick t 9 x)
is_same true t x e h = e
is_same false true x e h = e
is_same false false x e h = absurd (h e)

module _ (file : List ℕ) where
  -- one of the four of 8, exactly if the file is broken
  pub eight_exactly : refusal_of (reason_of file) ≡ 8 ↔ broken file ≡ true
  eight_exactly = is_eight (broken file) (bad_event file) (number_is file)

  -- one of those of 9, exactly if it is not broken and has a bad event
  pub nine_exactly : refusal_of (reason_of file) ≡ 9 ↔ (broken file ≡ false) × (bad_event file ≡ true)
  nine_exactly = is_nine (broken file) (bad_event file) (number_is file)

  -- neither, exactly if the file is refused as neither
  pub neither_exactly : reason_of file ≡ None ↔ (file_refused file ≡ 8 → ⊥) × (file_refused file ≡ 9 → ⊥)
  unfolding file_refused
  neither_exactly =
      let i = is_neither (broken file) (bad_event file) (number_is file) (refusal_other (config_in file)) in
      ((λ e. i.0 (ap refusal_of e)), (λ h. none_of (reason_of file) (i.1 h)))

  -- a reason that is told is of the refusal that the file meets
  pub same_refusal : (reason_of file ≡ None → ⊥) → refusal_of (reason_of file) ≡ file_refused file
  unfolding file_refused
  same_refusal told =
      is_same (broken file) (bad_event file) (refusal (config_in file)) (number_is file) (λ z. told (none_of (reason_of file) z))

-- ---- what a reason says of a file
neither : (s t : Bool) → (s || t) ≡ false → (s ≡ false) × (t ≡ false)
neither true t e = absurd (true≢false e)
neither false t e = (refl, e)

abbrev pub Holds : List ℕ → Option Reason → Type 0
Holds file (Some (reason.Short bytes)) = (bytes ≡ length file) × (bytes < 320)
Holds file (Some (reason.Long bytes)) = (bytes ≡ length file) × (65536 < bytes)
Holds file (Some (reason.Offset offset count)) = (offset ≡ offset_of file) × (count ≡ count_of file) × (offset ≡ 10 * count → ⊥)
Holds file (Some (reason.Length bytes offset)) =
    (bytes ≡ length file) × (offset ≡ offset_of file) × (bytes ≡ offset + 320 → ⊥) × (bytes ≡ offset + 328 → ⊥)
Holds file (Some (reason.Variant v)) = (v ≡ variant_at file (offset_of file)) × (1 < v)
Holds file (Some (reason.Flags f)) = (f ≡ flags_at file (offset_of file)) × (15 < f)
Holds file (Some (reason.Kind i kind)) = Faulty file (count_of file) (Some (reason.Kind i kind))
Holds file (Some (reason.Value i kind value)) = Faulty file (count_of file) (Some (reason.Value i kind value))
Holds file None = Faulty file (count_of file) None

events_hold : (file : List ℕ) (r : Option Reason) → Faulty file (count_of file) r → Holds file r
events_hold file (Some (reason.Short bytes)) f = absurd f
events_hold file (Some (reason.Long bytes)) f = absurd f
events_hold file (Some (reason.Offset offset count)) f = absurd f
events_hold file (Some (reason.Length bytes offset)) f = absurd f
events_hold file (Some (reason.Variant v)) f = absurd f
events_hold file (Some (reason.Flags v)) f = absurd f
events_hold file (Some (reason.Kind i kind)) f = f
events_hold file (Some (reason.Value i kind value)) f = f
events_hold file None f = f

module _ (file : List ℕ) where
  bad_holds : Holds file (bad_reason file (offset_of file) (count_of file))
  unfolding bad_reason
  bad_holds =
      picked (Holds file) (ltb 1 (variant_at file (offset_of file))) (λ t. (refl, ltb-true _ _ t))
      (λ _. picked (Holds file) (ltb 15 (flags_at file (offset_of file))) (λ t. (refl, ltb-true _ _ t))
      (λ _. events_hold file (first_fault file 0 (count_of file)) (events_faulty file (count_of file))))

  pub holds : Holds file (reason_of file)
  unfolding reason_of
  holds =
      picked (Holds file) (ltb (length file) 320) (λ t. (refl, ltb-true _ _ t))
      (λ _. picked (Holds file) (ltb 65536 (length file)) (λ t. (refl, ltb-true _ _ t))
      (λ _. picked (Holds file) (not (eqb (offset_of file) (10 * count_of file))) (λ t. (refl, refl, eqb-false _ _ (not-true _ t)))
      (λ _. picked (Holds file) (not (length_fits (length file) (offset_of file))) (λ t.
      let apart = neither (eqb (length file) (offset_of file + 320)) _ (not-true _ t) in
      (refl, refl, eqb-false _ _ apart.0, eqb-false _ _ apart.1))
      (λ _. bad_holds))))

-- ---- and each test before the one that is named passes
abbrev Checked : List ℕ → Type 0
Checked file = Whole file × (variant_at file (offset_of file) ≤ 1) × (flags_at file (offset_of file) ≤ 15)

abbrev pub Passed : List ℕ → Option Reason → Type 0
Passed file (Some (reason.Short bytes)) = Unit
Passed file (Some (reason.Long bytes)) = 320 ≤ length file
Passed file (Some (reason.Offset offset count)) = (320 ≤ length file) × (length file ≤ 65536)
Passed file (Some (reason.Length bytes offset)) = (320 ≤ length file) × (length file ≤ 65536) × (offset_of file ≡ 10 * count_of file)
Passed file (Some (reason.Variant v)) = Whole file
Passed file (Some (reason.Flags f)) = Whole file × (variant_at file (offset_of file) ≤ 1)
Passed file (Some (reason.Kind i kind)) = Checked file
Passed file (Some (reason.Value i kind value)) = Checked file
Passed file None = Checked file

events_pass : (file : List ℕ) (r : Option Reason) → Faulty file (count_of file) r → Checked file → Passed file r
events_pass file (Some (reason.Short bytes)) f p = absurd f
events_pass file (Some (reason.Long bytes)) f p = absurd f
events_pass file (Some (reason.Offset offset count)) f p = absurd f
events_pass file (Some (reason.Length bytes offset)) f p = absurd f
events_pass file (Some (reason.Variant v)) f p = absurd f
events_pass file (Some (reason.Flags v)) f p = absurd f
events_pass file (Some (reason.Kind i kind)) f p = p
events_pass file (Some (reason.Value i kind value)) f p = p
events_pass file None f p = p

module _ (file : List ℕ) where
  bad_passed : Whole file → Passed file (bad_reason file (offset_of file) (count_of file))
  unfolding bad_reason
  bad_passed w =
      picked (Passed file) (ltb 1 (variant_at file (offset_of file))) (λ _. w)
      (λ v. picked (Passed file) (ltb 15 (flags_at file (offset_of file))) (λ _. (w, ltb-false _ _ v))
      (λ f. events_pass file (first_fault file 0 (count_of file)) (events_faulty file (count_of file)) (w, ltb-false _ _ v, ltb-false _ _ f)))

  pub passed : Passed file (reason_of file)
  unfolding reason_of
  passed =
      picked (Passed file) (ltb (length file) 320) (λ _. tt)
      (λ s. picked (Passed file) (ltb 65536 (length file)) (λ _. ltb-false _ _ s)
      (λ l. picked (Passed file) (not (eqb (offset_of file) (10 * count_of file))) (λ _. (ltb-false _ _ s, ltb-false _ _ l))
      (λ o. picked (Passed file) (not (length_fits (length file) (offset_of file)))
      (λ _. (ltb-false _ _ s, ltb-false _ _ l, eqb-true _ _ (not-false _ o)))
      (λ e. bad_passed (record {
        least = ltb-false _ _ s;
        most = ltb-false _ _ l;
        offset_is = eqb-true _ _ (not-false _ o);
        length_is = either_length (length file) (offset_of file) (not-false _ e);
      })))))

-- ---- the event named is not listed, and every event before it is: for its kind no value is listed, or another one is
module _ (file : List ℕ) where
  pub kind_first : (i kind : ℕ) → reason_of file ≡ Some (reason.Kind i kind)
      → First file (count_of file) i × (kind ≡ kind_at file i) × ((value : ℕ) → listed kind value ≡ false)
  kind_first i kind e =
      let h : Holds file (Some (reason.Kind i kind)) = subst (Holds file) e (holds file) in
      (h.0, h.1, λ value. known_none kind value h.2)

  pub value_first : (i kind value : ℕ) → reason_of file ≡ Some (reason.Value i kind value)
      → First file (count_of file) i × (kind ≡ kind_at file i) × (value ≡ value_at file i) × (listed kind (some_value kind) ≡ true)
  value_first i kind value e =
      let h : Holds file (Some (reason.Value i kind value)) = subst (Holds file) e (holds file) in
      (h.0, h.1, h.2, known_some kind h.3)
