-- The number of a refusal tells its word, which is found again from it;
-- and whether a refusal is none, by the number that a definition gives it.
use mathlib.Core.Path.{◌≡◌, refl, sym, ap, ◌∙◌}
use mathlib.Core.Bool.{true, false}
use mathlib.Core.List.{List, [], ◌∷◌}
use Prim.Native.Nat.{ℕ}
use lib.Dec.{eqb}
use lib.ListN.{get_or}
use Rattle.base.specs.declared.refusals.Refusal.{Refusal}
use Rattle.base.specs.declared.refusals.Refusal.TheVariants as refusal
use Rattle.base.specs.RefusalNumbers.{refusal_number, number_of, number_in, refusal_in}
use Rattle.std.specs.Result.{IsErrAnd}
use Rattle.std.proofs.lemmas.Result.{err_from_is_err_and}
use Rattle.std.proofs.Common.{Option, Some, None, Result, Ok, Err}

abbrev words : List (Option Refusal)
words =
    None ∷ Some refusal.EmptyPanel ∷ Some refusal.OversizedPanel ∷ Some refusal.Swing ∷ Some refusal.FramePeriod
    ∷ Some refusal.BufferLength ∷ Some refusal.ForeignRecord ∷ Some refusal.ForeignContents ∷ Some refusal.BrokenCapture
    ∷ Some refusal.BadEvent ∷ Some refusal.TooManyPixels ∷ Some refusal.MalformedDump ∷ Some refusal.WrongSignals
    ∷ Some refusal.ClockRate ∷ []

abbrev word : ℕ → Option Refusal
word n = get_or words n None

word_number : (r : Option Refusal) → word (number_of r) ≡ r
word_number None = refl
word_number (Some refusal.EmptyPanel) = refl
word_number (Some refusal.OversizedPanel) = refl
word_number (Some refusal.Swing) = refl
word_number (Some refusal.FramePeriod) = refl
word_number (Some refusal.BufferLength) = refl
word_number (Some refusal.ForeignRecord) = refl
word_number (Some refusal.ForeignContents) = refl
word_number (Some refusal.BrokenCapture) = refl
word_number (Some refusal.BadEvent) = refl
word_number (Some refusal.TooManyPixels) = refl
word_number (Some refusal.MalformedDump) = refl
word_number (Some refusal.WrongSignals) = refl
word_number (Some refusal.ClockRate) = refl

pub number_one_to_one : (r s : Option Refusal) → number_of r ≡ number_of s → r ≡ s
number_one_to_one r s e = sym (word_number r) ∙ ap word e ∙ word_number s

-- the number of a refusal, by either of its forms
pub number_either : {A : Type 0} (r : Result A Refusal) → number_of (refusal_in r) ≡ number_in r
number_either (Ok x) = refl
number_either (Err r) = refl

-- no word's number is 0
pub some_number : (r : Refusal) → eqb (refusal_number r) 0 ≡ false
some_number refusal.EmptyPanel = refl
some_number refusal.OversizedPanel = refl
some_number refusal.Swing = refl
some_number refusal.FramePeriod = refl
some_number refusal.BufferLength = refl
some_number refusal.ForeignRecord = refl
some_number refusal.ForeignContents = refl
some_number refusal.BrokenCapture = refl
some_number refusal.BadEvent = refl
some_number refusal.TooManyPixels = refl
some_number refusal.MalformedDump = refl
some_number refusal.WrongSignals = refl
some_number refusal.ClockRate = refl

-- whether there is a refusal, by the number that a definition gives it
pub taken : {n : ℕ} → 0 ≡ n → eqb n 0 ≡ true
taken e = rw (← e) refl

pub turned : (r : Refusal) {n : ℕ} → refusal_number r ≡ n → eqb n 0 ≡ false
turned r e = rw (← e) (some_number r)

-- what `?` hands on is the error as it was
pub handed_on : {A : Type 0} (r : Result A Refusal) (e : Refusal) → IsErrAnd r (λ y. y ≡ e) → r ≡ Err e
handed_on r e h = let p = err_from_is_err_and r h in p.1 ∙ ap (λ (y : Refusal). Err y) p.2
