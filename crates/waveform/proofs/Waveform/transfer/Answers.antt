-- `waveform::Waveform::transfer` meets its contract: the first frames, as many as the table has, are all.
use mathlib.Core.Path.{◌≡◌, subst}
use mathlib.Core.List.{List}
use Prim.Native.Nat.{◌≤◌}
use native.Mathlib.Omega.{arith}
use lib.ListN.{length}
use lib.Seq.{take_all}
use lib.IntN.{ℤ}
use Rattle.base.proofs.Lists.{length_mapped}
use Rattle.glass.specs.Transfer.{Acts}
use Rattle.glass.proofs.TransferLaws.{acts_identity}
use Rattle.waveform.specs.Tables.{table_at, table_frame_count}
use Rattle.waveform.specs.Frames.{frames_of}
use Rattle.waveform.proofs.FramesLaws.{frames_none, frames_counted}
use borrow.Author.Rules.{rules}
use Rattle.waveform.proofs.Waveform.transfer.Goals as goal

pub returns-then-lut-ge-LUTS : goal.returns-then-lut-ge-LUTS
returns-then-lut-ge-LUTS c =
    let s = c.before.before in
    let five : length s.args.self.tables ≡ 5 = search (rules, length_mapped) in
    rw (c.identity.ensures, frames_none s.args.self s.args.positive_drives_black s.args.lut (omega arith))
    (acts_identity s.args.swing)

pub returns : goal.returns
returns c =
    let s = c.args in
    let ds = frames_of s.self s.positive_drives_black s.lut in
    let all : c.table_frames-n.result ≡ table_frame_count (table_at s.self s.lut) =
    c.table_frames-n.ensures.0 in
    let most : length ds ≤ c.table_frames-n.result =
    omega (arith, all, frames_counted s.self s.positive_drives_black s.lut) in
    subst (λ (l : List ℤ). Acts s.swing c.transfer_first.result l) (take_all c.table_frames-n.result ds most)
    c.transfer_first.ensures
