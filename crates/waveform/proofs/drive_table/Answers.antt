-- `waveform::drive_table` meets its contract. After k groups the run extends the first by their frames.
use borrow.Author.Rules.{rules}
use mathlib.Core.Path.{◌≡◌, sym, subst}
use mathlib.Core.List.{List, []}
use Prim.Native.Nat.{ℕ, ◌<◌}
use native.Mathlib.Omega.{arith}
use lib.ListN.{length, take}
use lib.IntN.{ℤ}
use Rattle.base.specs.InTurn.{in_turn}
use Rattle.base.proofs.InTurn.{in_turn_more}
use Rattle.glass.specs.Transfer.{Acts}
use Rattle.waveform.specs.declared.Group.{Group}
use Rattle.waveform.specs.declared.Progress.{Progress}
use Rattle.waveform.specs.Tables.{running}
use Rattle.waveform.specs.Frames.{blank}
use Rattle.waveform.specs.InnerProgress.{Driven, Extends}
use Rattle.waveform.proofs.TableLaws.{unread, running_few, running_get}
use Rattle.waveform.proofs.ProgressLaws.{extends_more, driven_start}
use Rattle.waveform.proofs.drive_table.Invariants.{frames_at, frames_of}
use Rattle.waveform.proofs.drive_table.Goals as goal

-- a group that runs is one of seven
few : (t : List Group) (k : ℕ) → length t ≡ 7 → k < length (running t) → k < 7
few t k e h = omega (arith, running_few t)

pub offset_bounds-table-k : goal.offset_bounds-table-k
offset_bounds-table-k c =
    record { fits = omega (arith, few c.args.table c.loop-k.k (search rules) (omega (arith, c.running_groups-runs.ensures))) }

pub bounds-table-k : goal.bounds-table-k
bounds-table-k c = few c.args.table c.loop-k.k (search rules) (omega (arith, c.running_groups-runs.ensures))

pub loop-k-preserved : goal.loop-k-preserved
loop-k-preserved c =
    let l = c.loop-k in
    let s = c.args in
    let q₀ : Progress = record { run = c.identity.result; left = s.n } in
    let runs = c.running_groups-runs.ensures in
    let group : Extends s.swing l.q c.drive_group-q.result (frames_at s.supply s.table s.vcom l.k) =
    subst (λ (ds : List ℤ). Extends s.swing l.q c.drive_group-q.result ds)
    (λ i. frames_of s.supply (sym (running_get s.table blank unread l.k (omega (arith, runs))) i) (c.vcom_codes.ensures i))
    c.drive_group-q.ensures in
    rw (← in_turn_more l.k (frames_at s.supply s.table s.vcom))
    (extends_more s.swing q₀ l.q c.drive_group-q.result (in_turn l.k (frames_at s.supply s.table s.vcom)) _ l.invariant group)

pub returns : goal.returns
returns c =
    let l = c.loop-k in
    let s = c.args in
    let start : Driven s.swing s.n (record { run = c.identity.result; left = s.n }) [] =
    rw c.identity.ensures (driven_start s.swing s.n) in
    let all : l.k ≡ length (running s.table) = omega (arith, c.running_groups-runs.ensures) in
    subst (λ (k : ℕ). Acts s.swing l.q.run (take s.n (in_turn k (frames_at s.supply s.table s.vcom)))) all
    (l.invariant s.n [] start).acts
