-- Request 2026-03: what is written of a record's picture at a top, which the question for it draws from the states.
use Rattle.std.specs.Prelude.{List, ℕ, ◌*◌, min, ℤ, replicate}
use Rattle.glass.specs.Gray.{top_of}
use Rattle.outcome.specs.Came.{came_by}
use Rattle.output.specs.declared.Form.{Form}
use Rattle.output.specs.Units.{wide_of}
use Rattle.controller.specs.declared.Uc8253.{Uc8253}
use Rattle.controller.specs.Calls.{wide_refused, wide_answer}

-- the entries of the question's buffer: one for each pixel, and no more than the largest panel has
unfoldable pub room : Uc8253 → ℕ
room p = min (p.config.panel.sources * p.config.panel.gates) 480_000

-- the picture alone, at the top that is meant; a question that is turned back gives its number
unfoldable pub shades_of : Form → ℕ → Uc8253 → List ℤ → List (List ℕ)
shades_of f top p states =
    wide_of f (top_of top) (record { came = came_by (wide_refused p states (room p)); log = p.log; image = p.image })
    (wide_answer p states top (replicate (room p) 0))
