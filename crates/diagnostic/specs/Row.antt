-- Document 01, "A call arrives": the five numbers of a stored diagnostic.
use Rattle.std.specs.Prelude.{List, [], ◌∷◌, ℕ, get_or}
use Rattle.diagnostic.specs.declared.DiagnosticKind.{DiagnosticKind}
use Rattle.diagnostic.specs.declared.DiagnosticKind.TheVariants as kind

-- 1 to 15 in the order of `DiagnosticKind`
abbrev pub kind_number : DiagnosticKind → ℕ
kind_number (kind.UnknownCommand command) = 1
kind_number (kind.UnsupportedCommand command) = 2
kind_number (kind.DataWithoutCommand byte) = 3
kind_number (kind.ExtraData command) = 4
kind_number (kind.MissingData command expected received) = 5
kind_number (kind.WhileBusy command) = 6
kind_number (kind.WhileAsleep command) = 7
kind_number (kind.WhileInReset command) = 8
kind_number (kind.WrongCheckCode code) = 9
kind_number (kind.PastTheWindow command) = 10
kind_number (kind.RefreshNotModelled what) = 11
kind_number kind.RefreshWithoutPower = 12
kind_number (kind.LutLength command bytes) = 13
kind_number (kind.NothingToRead command) = 14
kind_number kind.ResetDuringRefresh = 15

-- its fields, in order
abbrev pub fields_of : DiagnosticKind → List ℕ
fields_of (kind.UnknownCommand command) = command ∷ []
fields_of (kind.UnsupportedCommand command) = command ∷ []
fields_of (kind.DataWithoutCommand byte) = byte ∷ []
fields_of (kind.ExtraData command) = command ∷ []
fields_of (kind.MissingData command expected received) = command ∷ expected ∷ received ∷ []
fields_of (kind.WhileBusy command) = command ∷ []
fields_of (kind.WhileAsleep command) = command ∷ []
fields_of (kind.WhileInReset command) = command ∷ []
fields_of (kind.WrongCheckCode code) = code ∷ []
fields_of (kind.PastTheWindow command) = command ∷ []
fields_of (kind.RefreshNotModelled what) = what ∷ []
fields_of kind.RefreshWithoutPower = []
fields_of (kind.LutLength command bytes) = command ∷ bytes ∷ []
fields_of (kind.NothingToRead command) = command ∷ []
fields_of kind.ResetDuringRefresh = []

-- time, kind, then its fields, zeros after
abbrev pub row_numbers : ℕ → DiagnosticKind → List ℕ
row_numbers at k = at ∷ kind_number k ∷ get_or (fields_of k) 0 0 ∷ get_or (fields_of k) 1 0 ∷ get_or (fields_of k) 2 0 ∷ []
