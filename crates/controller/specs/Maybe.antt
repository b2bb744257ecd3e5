-- What is there or not: a diagnostic that is told, the byte of a read, the time when what runs ends.
use Rattle.std.specs.Prelude.{Option, ℕ}
use Rattle.diagnostic.specs.declared.DiagnosticKind.{DiagnosticKind}

-- none: quiet
abbrev pub Note : Type 0
Note = Option DiagnosticKind

-- none: the line floats
abbrev pub Read : Type 0
Read = Option ℕ

-- none: nothing runs
abbrev pub Due : Type 0
Due = Option ℕ
