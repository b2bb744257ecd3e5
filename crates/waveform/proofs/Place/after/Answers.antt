-- `waveform::Place::after` meets its contract: fewer frames of the phase are to come, and then the phases without any are passed.
use mathlib.Core.Path.{◌≡◌, sym, ap, subst, ◌∙◌}
use mathlib.Core.List.{List}
use Prim.Native.Nat.{ℕ, min}
use lib.ListN.{drop}
use Rattle.waveform.specs.InnerPlaces.{codes_from, Placed, Stands}
use Rattle.waveform.proofs.PlaceLaws.{frames_on, later_codes, later_placed}
use Rattle.waveform.proofs.Place.after.Goals as goal

pub settled-requires : goal.settled-requires
settled-requires c =
    let s = c.args in
    let at = later_placed s.table s.self s.n c.requires.1 in
    (c.requires.0, subst (λ (k : ℕ). Placed s.table (frames_on s.self k)) (sym c.saturating_sub.ensures) at)

pub returns : goal.returns
returns c =
    let s = c.args in
    let codes : codes_from s.table (frames_on s.self c.saturating_sub.result) ≡
    drop (min s.n s.self.left) (codes_from s.table s.self) =
    ap (λ (k : ℕ). codes_from s.table (frames_on s.self k)) c.saturating_sub.ensures
    ∙ later_codes s.table s.self s.n in
    subst (λ (xs : List ℕ). Stands s.table c.settled.result xs) codes c.settled.ensures
