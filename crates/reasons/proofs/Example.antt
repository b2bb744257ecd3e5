-- The definitions on small cases, computed: numbers, the names of refusals, and for each test a file that fails it first, with the
-- text that is told of it.
use mathlib.Core.Path.{◌≡◌, refl}
use Rattle.std.proofs.Common.{Some, None}
use mathlib.Core.List.{List, [], ◌∷◌, ◌++◌}
use Prim.Native.Nat.{ℕ}
use lib.ListN.{replicate, length-replicate}
use Rattle.base.specs.InTurn.{in_turn}
use Rattle.capture.specs.Layout.{offset_of, count_of}
use Rattle.capture.specs.Refused.{listed}
use Rattle.text.specs.Text.{ascii, digits}
use Rattle.reasons.specs.declared.causes.Reason.TheVariants as reason
use Rattle.reasons.specs.Reasons.{bad_reason, reason_of, refusal_of}
use Rattle.reasons.specs.Groups.{grouped}
use Rattle.reasons.specs.Wording.{name_of, words_of, because_of}

-- ---- numbers
pub numbers : (grouped 0 ≡ ascii "0") × (grouped 999 ≡ ascii "999") × (grouped 1_000 ≡ ascii "1,000") × (grouped 65_540 ≡ ascii "65,540")
unfolding grouped digits
numbers = (refl, refl, refl, refl)

pub largest : grouped 18_446_744_073_709_551_615 ≡ ascii "18,446,744,073,709,551,615"
unfolding grouped digits
largest = refl

-- ---- refusals by number
pub named : (words_of 1 ≡ ascii "refused 1: empty panel")
    × (words_of 2 ≡ ascii "refused 2: oversized panel")
    × (words_of 3 ≡ ascii "refused 3: swing")
    × (words_of 4 ≡ ascii "refused 4: frame period")
    × (words_of 5 ≡ ascii "refused 5: buffer length")
    × (words_of 6 ≡ ascii "refused 6: foreign record")
    × (words_of 7 ≡ ascii "refused 7: foreign contents")
    × (words_of 8 ≡ ascii "refused 8: broken capture")
    × (words_of 9 ≡ ascii "refused 9: bad event")
    × (words_of 10 ≡ ascii "refused 10: too many pixels")
    × (words_of 11 ≡ ascii "refused 11: malformed dump")
    × (words_of 12 ≡ ascii "refused 12: signals")
    × (words_of 13 ≡ ascii "refused 13: rate out of range")
unfolding words_of name_of digits
named = (refl, refl, refl, refl, refl, refl, refl, refl, refl, refl, refl, refl, refl)

pub nameless : (words_of 0 ≡ ascii "refused 0") × (words_of 20 ≡ ascii "refused 20") × (words_of 255 ≡ ascii "refused 255")
unfolding words_of name_of digits
nameless = (refl, refl, refl)

-- ---- files: the whole text of one, its trailer (offset and count below 256), an event at time 0, a configuration of zeros
abbrev pub text : List ℕ → List ℕ
text file = words_of (refusal_of (reason_of file)) ++ because_of (reason_of file)

abbrev trailer : ℕ → ℕ → List ℕ
trailer offset count = (offset ∷ 0 ∷ 0 ∷ 0 ∷ []) ++ (count ∷ 0 ∷ 0 ∷ 0 ∷ [])

abbrev event : ℕ → ℕ → List ℕ
event kind value = replicate 8 0 ++ (kind ∷ value ∷ [])

-- 17 advances, and then an event that is number 17
abbrev behind_17 : ℕ → ℕ → List ℕ
behind_17 kind value = in_turn 17 (λ k. event 5 0) ++ event kind value ++ replicate 312 0 ++ trailer 180 18

pub told_short : text (replicate 12 0) ≡ ascii "refused 8: broken capture: 12 bytes, at least 320"
unfolding words_of name_of reason_of grouped digits
told_short = refl

pub long_file : reason_of (replicate 65_540 0) ≡ Some (reason.Long 65_540)
unfolding reason_of
long_file = simp (length-replicate {A = ℕ} 65_540 0)

pub told_long : because_of (Some (reason.Long 65_540)) ≡ ascii ": 65,540 bytes, at most 65,536"
unfolding grouped digits
told_long = refl

pub told_offset : text (replicate 452 0 ++ trailer 150 14) ≡ ascii "refused 8: broken capture: offset 150 for 14 events, not 140"
unfolding words_of name_of reason_of offset_of count_of grouped digits
told_offset = refl

pub told_length : text (replicate 451 0 ++ trailer 140 14) ≡ ascii "refused 8: broken capture: 459 bytes, not 460 or 468"
unfolding words_of name_of reason_of offset_of count_of grouped digits
told_length = refl

pub told_variant : text ((2 ∷ replicate 311 0) ++ trailer 0 0) ≡ ascii "refused 9: bad event: variant 2, at most 1"
unfolding words_of name_of reason_of bad_reason offset_of count_of grouped digits
told_variant = refl

pub told_flags : text ((1 ∷ 16 ∷ replicate 310 0) ++ trailer 0 0) ≡ ascii "refused 9: bad event: flags 16, at most 15"
unfolding words_of name_of reason_of bad_reason offset_of count_of grouped digits
told_flags = refl

pub told_kind : text (behind_17 9 0) ≡ ascii "refused 9: bad event: event 17: kind 9"
unfolding words_of name_of reason_of bad_reason offset_of count_of listed grouped digits
told_kind = refl

pub told_value : text (behind_17 3 5) ≡ ascii "refused 9: bad event: event 17: kind 3, value 5"
unfolding words_of name_of reason_of bad_reason offset_of count_of listed grouped digits
told_value = refl

pub told_nothing : (reason_of (behind_17 4 1) ≡ None) × (because_of None ≡ [])
unfolding reason_of bad_reason offset_of count_of listed
told_nothing = (refl, refl)

-- with a rate
pub rated_neither : reason_of (replicate 320 0 ++ trailer 0 0) ≡ None
unfolding reason_of bad_reason offset_of count_of
rated_neither = refl
