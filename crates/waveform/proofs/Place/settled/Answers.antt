-- `waveform::Place::settled` meets its contract. The loop's invariant: the codes to come are still those; the measure: the phases to come.
use mathlib.Core.Path.{◌≡◌, refl, sym, ap, ◌∙◌}
use mathlib.Core.List.{◌++◌}
use Prim.Native.Nat.{ℕ, ◌<◌}
use native.Mathlib.Omega.{arith}
use lib.ListN.{length, replicate}
use Rattle.waveform.specs.declared.Place.{Place}
use Rattle.waveform.specs.Tables.{running}
use Rattle.waveform.specs.InnerPlaces.{codes_after, codes_from}
use Rattle.waveform.proofs.PlaceLaws.{next_codes, next_placed, next_less}
use Rattle.waveform.proofs.Place.settled.Goals.{After-next-p, Start}
use Rattle.waveform.proofs.Place.settled.Goals as goal

pub loop-p-init : goal.loop-p-init
loop-p-init c = (refl, c.requires.1)

pub returns-then-runs-p : goal.returns-then-runs-p
returns-then-runs-p c =
    let l = c.loop-p in
    let s = c.before.before.before.before.before in
    let over = l.invariant.1 (omega (arith, s.requires.0, c.if-runs-p.true)) in
    record { codes = l.invariant.0; placed = l.invariant.1; settled = λ e. over }

pub next-p-requires : goal.next-p-requires
next-p-requires c = (c.requires.0, omega arith)

module _ (c : After-next-p) where
  abbrev s : Start
  s = c.before.before.before.before.before.before

  abbrev p : Place
  p = c.loop-p.p

  goes : p.group < length (running s.args.table)
  goes = omega (arith, s.requires.0, c.if-runs-p.false)

pub loop-p-smaller : goal.loop-p-smaller
loop-p-smaller c = rw c.next-p.ensures (next_less (s c).args.table (p c) (goes c))

pub loop-p-preserved : goal.loop-p-preserved
loop-p-preserved c =
    let l = c.loop-p in
    let none : codes_from (s c).args.table (p c) ≡ codes_after (s c).args.table (p c) =
    ap (λ (n : ℕ). replicate n (p c).code ++ codes_after (s c).args.table (p c)) c.loop-p-test.true in
    rw c.next-p.ensures (next_codes (s c).args.table (p c) (goes c) ∙ sym none ∙ l.invariant.0, next_placed (s c).args.table (p c) (goes c))

pub returns : goal.returns
returns c =
    let l = c.loop-p in
    record { codes = l.invariant.0; placed = l.invariant.1; settled = λ e. absurd (c.loop-p-test.false e) }
