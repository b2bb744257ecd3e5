-- What a call tells in smaller steps, as the code takes them: parts of the definitions of `controller`, each under a name.
use Rattle.std.specs.Prelude.{None, ℕ}
use Rattle.controller.specs.Maybe.{Note}
use Rattle.controller.specs.declared.notes.Notes.{Notes}
use Rattle.controller.specs.declared.Uc8253.{Uc8253}
use Rattle.controller.specs.Tell.{notes}
use Rattle.controller.specs.Command.{close_note, command_note}

abbrev pub only : Note → Notes
only n = notes n None

abbrev pub command_notes : ℕ → Uc8253 → Notes
command_notes c p = notes (close_note p.stage.current) (command_note c p)
