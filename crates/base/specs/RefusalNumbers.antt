-- Document 01, "Making a panel, and being turned back": the number of each word of the table, 0 where nothing is turned back.
use Rattle.std.specs.Prelude.{ℕ, Option, Some, None, Result, Ok, Err}
use Rattle.base.specs.declared.refusals.Refusal.{Refusal}
use Rattle.base.specs.declared.refusals.Refusal.TheVariants as refusal

-- no two words share a number, nor does one have 0 (RefusalWords of proofs/, `number_one_to_one`)
abbrev pub refusal_number : Refusal → ℕ
refusal_number refusal.EmptyPanel = 1
refusal_number refusal.OversizedPanel = 2
refusal_number refusal.Swing = 3
refusal_number refusal.FramePeriod = 4
refusal_number refusal.BufferLength = 5
refusal_number refusal.ForeignRecord = 6
refusal_number refusal.ForeignContents = 7
refusal_number refusal.BrokenCapture = 8
refusal_number refusal.BadEvent = 9
refusal_number refusal.TooManyPixels = 10
refusal_number refusal.MalformedDump = 11
refusal_number refusal.WrongSignals = 12
refusal_number refusal.ClockRate = 13

-- of what turns a call back, if anything does
abbrev pub number_of : Option Refusal → ℕ
number_of None = 0
number_of (Some r) = refusal_number r

-- of what a call gives that may be turned back
abbrev pub number_in : {A : Type 0} → Result A Refusal → ℕ
number_in (Ok x) = 0
number_in (Err r) = refusal_number r

-- what turned it back, if anything did
abbrev pub refusal_in : {A : Type 0} → Result A Refusal → Option Refusal
refusal_in (Ok x) = None
refusal_in (Err r) = Some r

-- what f has of what a call gives, and b where it is turned back
abbrev pub given : {A B : Type 0} → (A → B) → B → Result A Refusal → B
given f b (Ok x) = f x
given f b (Err r) = b
