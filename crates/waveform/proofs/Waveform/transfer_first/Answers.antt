-- `waveform::Waveform::transfer_first` meets its contract, by the rule: a number that no table has gives no frame.
use mathlib.Core.Path.{◌≡◌, refl, sym, subst}
use mathlib.Core.Bool.{Bool, true, false}
use mathlib.Core.List.{List, []}
use Prim.Native.Nat.{ℕ}
use native.Mathlib.Omega.{arith}
use lib.ListN.{length, take, get_or}
use lib.Seq.{take-nil}
use lib.IntN.{ℤ}
use Rattle.base.specs.Pick.{pick}
use Rattle.base.proofs.Lists.{length_mapped}
use Rattle.glass.specs.Transfer.{Acts}
use Rattle.glass.specs.declared.Transfer.{Transfer}
use Rattle.glass.proofs.TransferLaws.{acts_identity}
use Rattle.waveform.specs.declared.Group.{Group}
use Rattle.waveform.specs.declared.Waveform.{Waveform}
use Rattle.waveform.specs.Frames.{table_frames, beside_frames, frames_of}
use Rattle.waveform.proofs.FramesLaws.{frames_none}
use borrow.Author.Rules.{rules}
use Rattle.waveform.proofs.Waveform.transfer_first.Goals as goal

pub returns-then-lut-ge-LUTS : goal.returns-then-lut-ge-LUTS
returns-then-lut-ge-LUTS c =
    let s = c.before.before in
    let five : length s.args.self.tables ≡ 5 = search (rules, length_mapped) in
    rw (
      c.identity.ensures,
      frames_none s.args.self s.args.positive_drives_black s.args.lut (omega arith),
      take-nil {A = ℤ} s.args.n,
    ) (acts_identity s.args.swing)

module _ (w : Waveform) (black : Bool) (lut n swing : ℕ) (r : Transfer) where
  -- the frames of the tables ts by a rule
  abbrev frames_by : Bool → List (List Group) → List ℤ
  frames_by rule ts =
      pick rule (beside_frames w.levels w.frame_ns black (get_or ts lut []) (get_or ts 0 []))
      (table_frames w.levels w.frame_ns black (get_or ts lut []) (get_or ts 0 []))

  by-rule : (rule : Bool) (ts : List (List Group)) → w.vcom_by_frame ≡ rule → ts ≡ w.tables →
      Acts swing r (take n (frames_by rule ts)) → Acts swing r (take n (frames_of w black lut))
  by-rule rule ts e same h =
      subst (λ (b : Bool). Acts swing r (take n (frames_by b w.tables))) (sym e)
      (subst (λ (t : List (List Group)). Acts swing r (take n (frames_by rule t))) same h)

pub returns-then-self : goal.returns-then-self
returns-then-self c =
    let s = c.args in
    by-rule s.self s.positive_drives_black s.lut s.n s.swing _ true s.self.tables c.if-self.true refl c.drive_beside.ensures

pub returns-else-self : goal.returns-else-self
returns-else-self c =
    let s = c.args in
    by-rule s.self s.positive_drives_black s.lut s.n s.swing _ false s.self.tables c.if-self.false refl c.drive_table.ensures
