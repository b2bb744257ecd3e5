-- The words of what is written are the words written: each has bytes and no blank, and a blank behind it.
use mathlib.Core.Path.{◌≡◌, refl, sym, ap, ◌∙◌}
use mathlib.Core.Bool.{Bool, true, false, ◌&&◌, not, false≢true}
use mathlib.Core.List.{List, [], ◌∷◌, ◌++◌}
use Prim.Native.Nat.{ℕ, zero, suc, ◌/◌, ◌%◌, ◌^◌, ◌<◌}
use native.Mathlib.Omega.{arith}
use lib.Dec.{eqb, leb}
use lib.ListN.{length}
use lib.Seq.{take_at, drop_at}
use borrow.Author.Tests.{lt-ltb, ne_eqb, leb-true, le-leb, lt-leb}
use Rattle.base.specs.Pick.{pick}
use Rattle.base.proofs.Cases.{by_cases, both}
use Rattle.vcd_words.specs.Words.{is_blank, closed, opened, words, every}
use Rattle.vcd_words.specs.Places.{front, is_solid}
use Rattle.vcd_words.proofs.WordLaws.{past_blanks, first_word}
use Rattle.event.specs.declared.Event.{Event}
use Rattle.text.specs.Text.{digits}
use Rattle.vcd_values.specs.Numbers.{is_digit, is_number}
use Rattle.vcd_values.proofs.ReadBack.{number_digits}
use Rattle.vcd.specs.Writer.{text, declarations, time_word, level_word, bit_words, bits_of, byte_words, reset_words, event_words}
use Rattle.vcd.specs.Writer.{simulation, dump_of}

abbrev pub is_word : List ℕ → Bool
is_word [] = false
is_word (b ∷ w) = every is_solid (b ∷ w)

abbrev pub are_words : List (List ℕ) → Bool
are_words [] = true
are_words (w ∷ ws) = is_word w && are_words ws

pub and_split : (s t : Bool) → (s && t) ≡ true → (s ≡ true) × (t ≡ true)
and_split true t e = (refl, e)
and_split false t e = absurd (false≢true e)

-- ---- a blank is passed over, and a word goes up to it
blank_first : (l : List ℕ) → words (32 ∷ l) ≡ words l
blank_first l = past_blanks (32 ∷ l) ∙ sym (past_blanks l)

solid_up_to : (w l : List ℕ) → every is_solid w ≡ true → front is_solid (w ++ 32 ∷ l) ≡ length w
solid_up_to [] l e = refl
solid_up_to (b ∷ w) l e =
    let parts = and_split (is_solid b) (every is_solid w) e in
    rw parts.0 (ap suc (solid_up_to w l parts.1))

no_blank : (b : ℕ) (l : List ℕ) → is_solid b ≡ true → front is_blank (b ∷ l) ≡ 0
no_blank b l e =
    by_cases (is_blank b)
    (λ t. absurd (false≢true (sym (ap not t) ∙ e)))
    (λ t. rw t)

one_word : (w l : List ℕ) → is_word w ≡ true → words (w ++ 32 ∷ l) ≡ w ∷ words l
one_word [] l e = absurd (false≢true e)
one_word (b ∷ w) l e =
    let solid = and_split (is_solid b) (every is_solid w) e in
    first_word (b ∷ (w ++ 32 ∷ l)) (no_blank b (w ++ 32 ∷ l) solid.0)
    ∙ rw (solid_up_to (b ∷ w) l e, lt-ltb 0 (suc (length w)) (omega arith))
    (rw (take_at (b ∷ w) (32 ∷ l), drop_at (b ∷ w) (32 ∷ l), blank_first l))

pub words_text : (ws : List (List ℕ)) → are_words ws ≡ true → words (text ws) ≡ ws
unfolding words closed opened
words_text [] e = refl
words_text (w ∷ ws) e =
    let parts = and_split (is_word w) (are_words ws) e in
    one_word w (text ws) parts.0 ∙ ap (λ (l : List (List ℕ)). w ∷ l) (words_text ws parts.1)

-- ---- the words of a dump are such words
and_join : (s t : Bool) → s ≡ true → t ≡ true → (s && t) ≡ true
and_join s t e f = rw (e, f)

pub words_both : (us vs : List (List ℕ)) → are_words us ≡ true → are_words vs ≡ true → are_words (us ++ vs) ≡ true
words_both [] vs e f = f
words_both (u ∷ us) vs e f =
    let parts = and_split (is_word u) (are_words us) e in
    and_join (is_word u) (are_words (us ++ vs)) parts.0 (words_both us vs parts.1 f)

digit_solid : (b : ℕ) → is_digit b ≡ true → is_solid b ≡ true
digit_solid b e =
    by_cases (leb 48 b)
    (λ t. let least = leb-true 48 b t in
    rw (ne_eqb b 32 (λ z. omega arith), le-leb 9 b (omega arith), lt-leb b 13 (omega arith)))
    (λ t. absurd (false≢true (rw t at e)))

digits_solid : (w : List ℕ) → every is_digit w ≡ true → every is_solid w ≡ true
digits_solid [] e = refl
digits_solid (b ∷ w) e =
    let parts = and_split (is_digit b) (every is_digit w) e in
    and_join (is_solid b) (every is_solid w) (digit_solid b parts.0) (digits_solid w parts.1)

number_solid : (w : List ℕ) → is_number w ≡ true → every is_solid w ≡ true
number_solid [] e = refl
number_solid (b ∷ w) e = digits_solid (b ∷ w) e

pub time_word_lem : (t : ℕ) → is_word (time_word t) ≡ true
unfolding time_word
time_word_lem t = number_solid (digits t) (number_digits t)

bit_words_lem : (v : ℕ) → v < 2 → are_words (bit_words v) ≡ true
bit_words_lem zero h = refl
bit_words_lem (suc zero) h = refl
bit_words_lem (suc (suc v)) h = absurd (omega arith)

bits_words : (n value : ℕ) → are_words (bits_of n value) ≡ true
bits_words zero value = refl
bits_words (suc n) value =
    words_both (bit_words (value / 2 ^ n % 2)) (bits_of n value) (bit_words_lem (value / 2 ^ n % 2) (omega arith)) (bits_words n value)

dc_word : (t : Bool) → is_word (level_word (pick t 0 1) "d") ≡ true
dc_word true = refl
dc_word false = refl

rst_word : (t : Bool) → is_word (level_word (pick t 0 1) "r") ≡ true
rst_word true = refl
rst_word false = refl

event_words_lem : (e : Event) → are_words (event_words e) ≡ true
unfolding event_words
event_words_lem e =
    let bytes = and_join _ _ (dc_word (eqb e.kind 1)) (bits_words 8 e.value) in
    let edge = and_join _ _ (rst_word (eqb e.value 1)) refl in
    and_join (is_word (time_word e.time)) _ (time_word_lem e.time)
    (both (λ (l : List (List ℕ)). are_words l ≡ true) (eqb e.kind 4)
    {a = reset_words e.value} {b = byte_words e.kind e.value} edge bytes)

simulation_words : (es : List Event) (last : ℕ) → are_words (simulation es last) ≡ true
simulation_words [] last = and_join (is_word (time_word last)) true (time_word_lem last) refl
simulation_words (e ∷ es) last = words_both (event_words e) (simulation es last) (event_words_lem e) (simulation_words es last)

declared_words : are_words declarations ≡ true
unfolding declarations
declared_words = refl

pub words_dump : (es : List Event) (last : ℕ)
    → words (dump_of es last) ≡ declarations ++ (level_word 0 "s" ∷ level_word 0 "k" ∷ simulation es last)
unfolding dump_of
words_dump es last =
    words_text (declarations ++ (level_word 0 "s" ∷ level_word 0 "k" ∷ simulation es last))
    (words_both declarations (level_word 0 "s" ∷ level_word 0 "k" ∷ simulation es last) declared_words (simulation_words es last))
