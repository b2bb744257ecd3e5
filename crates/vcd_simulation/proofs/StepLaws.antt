-- A word that makes no event, and a word by its first byte.
use mathlib.Core.Path.{◌≡◌, refl, sym, ap, ◌∙◌}
use mathlib.Core.Bool.{Bool, true, false}
use mathlib.Core.Logic.{◌⊎◌, inl, inr}
use mathlib.Core.List.{List, [], ◌∷◌}
use Prim.Native.Nat.{ℕ, ◌<◌}
use native.Mathlib.Omega.{arith}
use lib.Dec.{eqb, ltb}
use lib.ListN.{length, get_or, drop}
use Rattle.base.specs.Pick.{pick}
use Rattle.base.proofs.Cases.{both}
use Rattle.text.specs.Text.{ascii}
use Rattle.event.specs.declared.Event.{Event}
use Rattle.vcd_words.specs.Words.{words, alike, among, printable}
use Rattle.vcd_values.specs.Numbers.{time_of}
use Rattle.vcd_values.specs.Levels.{level, unknown}
use Rattle.vcd_declarations.specs.Declarations.{is_end}
use Rattle.vcd_simulation.specs.declared.body.Wanted.{Wanted}
use Rattle.vcd_simulation.specs.declared.body.Wanted.TheVariants as want
use Rattle.vcd_simulation.specs.declared.body.Body.{Body}
use Rattle.vcd_simulation.specs.declared.word.Stepped.{Stepped}
use Rattle.std.specs.Prelude.{Option, Some, None}
use Rattle.vcd_simulation.specs.declared.word.Plan.{Plan}
use Rattle.vcd_simulation.specs.declared.word.Plan.TheVariants.{Only}
use Rattle.vcd_simulation.specs.Simulation.{Codes, Went, breaks, unknown_at, changes, is_code, joined, apart, value_word, timed, key_word, command_word, text_word, word_by, word_done}
use Rattle.vcd_simulation.specs.Written.{written}
use Rattle.vcd_simulation.specs.InnerSteps.{Steps, Plans, alone, is_section, command_or_section}
use Rattle.vcd_simulation.proofs.Holding.{none_held, held_as}

-- ---- no event: the buffer stays
pub still : (w : Went) (held : ℕ) (body : Body) (out : List ℕ) → body ≡ w.body → w.events ≡ [] → Steps w held (record { body = body; held = held }) out out
still w held body out e f = record { body_is = e; holds = held_as (none_held out held) (sym (ap written f)) }

abbrev Quiet : Went → Type 0
Quiet w = w.events ≡ []

pub unknown_quiet : (codes : Codes) (next : Wanted) (code : List ℕ) (b : Body) → (unknown_at codes next code b).events ≡ []
unknown_quiet codes x code b = both Quiet (among codes.all code) refl refl

pub apart_quiet : (section : Bool) (v : Option ℕ) (b : Body) → (apart section v b).events ≡ []
apart_quiet section (Some v) b = refl
apart_quiet section None b = refl

pub timed_quiet : (t : Option ℕ) (b : Body) → (timed t b).events ≡ []
timed_quiet None b = refl
timed_quiet (Some t) b = both Quiet (ltb t b.now) refl refl

pub key_quiet : (w : List ℕ) (b : Body) → (key_word w b).events ≡ []
unfolding key_word
key_quiet w b =
    both Quiet (alike w (ascii "$comment")) refl
    (both Quiet (among (words (ascii "$dumpall $dumpoff $dumpon $dumpvars")) w) refl refl)

pub text_quiet : (w : List ℕ) (b : Body) → (text_word w b).events ≡ []
text_quiet w b = both Quiet (is_end w) refl refl

-- ---- a change of 0 or 1, and another
pub unknown_change : (codes : Codes) (next : Wanted) (code : List ℕ) (v : ℕ) (b : Body) → eqb v unknown ≡ true → changes codes next code v b ≡ unknown_at codes next code b
unfolding changes
unknown_change codes x code v b e = rw e

-- ---- a code
pub code_none : (code : List ℕ) → length code ≡ 0 → is_code code ≡ false
unfolding is_code
code_none [] e = refl
code_none (x ∷ code) e = absurd (omega (arith, e))

pub code_some : (code : List ℕ) → 0 < length code → is_code code ≡ printable code
unfolding is_code
code_some [] e = absurd (omega (arith, e))
code_some (x ∷ code) e = refl

-- ---- by the first byte
pub value_none : (codes : Codes) (section : Bool) (w : List ℕ) (b : Body) → length w ≡ 0 → value_word codes section w b ≡ breaks b
unfolding value_word
value_none codes section [] b e = refl
value_none codes section (x ∷ w) b e = absurd (omega (arith, e))

pub value_some : (codes : Codes) (section : Bool) (w : List ℕ) (b : Body) → 0 < length w
    → value_word codes section w b ≡ joined codes section (get_or w 0 0) (drop 1 w) b (level (get_or w 0 0))
unfolding value_word
value_some codes section [] b n = absurd (omega (arith, n))
value_some codes section (x ∷ w) b n = refl

pub command_none : (codes : Codes) (w : List ℕ) (b : Body) → length w ≡ 0 → command_word codes w b ≡ breaks b
unfolding command_word
command_none codes [] b e = refl
command_none codes (x ∷ w) b e = absurd (omega (arith, e))

pub command_some : (codes : Codes) (w : List ℕ) (b : Body) → 0 < length w
    → command_word codes w b
    ≡ pick (eqb (get_or w 0 0) 0x23) (timed (time_of (drop 1 w)) b) (pick (eqb (get_or w 0 0) 0x24) (key_word w b) (value_word codes false w b))
unfolding command_word
command_some codes [] b n = absurd (omega (arith, n))
command_some codes (x ∷ w) b n = refl

-- ---- plans
pub to_is : (w : Went) (body : Body) → body ≡ w.body → w.events ≡ [] → alone body ≡ w
to_is w body e f = ap (λ (x : Body). record { body = x; events = [] }) e ∙ ap (λ (es : List Event). record { body = w.body; events = es }) (sym f)

-- only a body
pub plans_to : (w : List ℕ) (b body : Body) (x : Went) (went : Codes → Went) → body ≡ x.body → x.events ≡ []
    → ((codes : Codes) → went codes ≡ x) → Plans (Only body) w b went
plans_to w b body x went e f h = record { comes = λ codes. to_is x body e f ∙ sym (h codes); inside = tt }

pub plans_as : (r : Plan) (w : List ℕ) (b : Body) (f g : Codes → Went) → Plans r w b f → ((codes : Codes) → g codes ≡ f codes) → Plans r w b g
plans_as r w b f g p h = record { comes = λ codes. p.comes codes ∙ sym (h codes); inside = p.inside }

-- ---- by what may come next
pub steps_as : {v w : Went} {held : ℕ} {r : Stepped} {b c : List ℕ} → Steps v held r b c → v ≡ w → Steps w held r b c
steps_as s e = rw (← e) s

pub done_by_lem : (codes : Codes) (w : List ℕ) (b : Body) (x : Wanted) → b.wanted ≡ x → word_by x codes w b ≡ word_done codes w b
unfolding word_done
done_by_lem codes w b x e = ap (λ (y : Wanted). word_by y codes w b) (sym e)

pub command_or_section_done : (codes : Codes) (w : List ℕ) (b : Body) → (b.wanted ≡ want.Command) ⊎ (b.wanted ≡ want.Section)
    → command_or_section codes (is_section b.wanted) w b ≡ word_done codes w b
command_or_section_done codes w b (inl e) =
    ap (λ (x : Wanted). command_or_section codes (is_section x) w b) e ∙ done_by_lem codes w b want.Command e
command_or_section_done codes w b (inr e) =
    ap (λ (x : Wanted). command_or_section codes (is_section x) w b) e ∙ done_by_lem codes w b want.Section e
