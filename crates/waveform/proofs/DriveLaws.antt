-- The parts of a frame's drive by the parts of its two levels.
use mathlib.Core.Path.{◌≡◌, ap, ◌∙◌}
use mathlib.Core.Bool.{true, false}
use Prim.Native.Nat.{ℕ, ◌+◌, ◌-◌, ◌*◌, min}
use native.Mathlib.Nat.{mul_comm}
use lib.IntN.{ℤ, pos, ◌-ℤ◌, ◌*ℤ◌, *ℤ_comm}
use Rattle.base.specs.Word.{top}
use Rattle.base.specs.Integer.{up, dn}
use Rattle.base.proofs.Integer.{up_neg, dn_neg, up_sub, dn_sub, up_times, dn_times}
use Rattle.waveform.specs.declared.Levels.{Levels}
use Rattle.waveform.specs.Levels.{level_of_code, floats}
use Rattle.waveform.specs.Frames.{drive_of}
use Rattle.waveform.specs.InnerProgress.{Drives}

module _ (a b : ℤ) (n : ℕ) where
  up_volts : up ((a -ℤ b) *ℤ pos n) ≡ (up a + dn b - (dn a + up b)) * n
  up_volts = ap up (*ℤ_comm (a -ℤ b) (pos n)) ∙ up_times n (a -ℤ b) ∙ mul_comm n (up (a -ℤ b)) ∙ ap (λ (m : ℕ). m * n) (up_sub a b)

  dn_volts : dn ((a -ℤ b) *ℤ pos n) ≡ (dn a + up b - (up a + dn b)) * n
  dn_volts = ap dn (*ℤ_comm (a -ℤ b) (pos n)) ∙ dn_times n (a -ℤ b) ∙ mul_comm n (dn (a -ℤ b)) ∙ ap (λ (m : ℕ). m * n) (dn_sub a b)

-- energies that a pixel's two levels give, the source's above and below and VCOM's
abbrev pub rise : ℤ → ℤ → ℕ → ℕ
rise a b n = min ((up a + dn b - (dn a + up b)) * n) top

abbrev pub fall : ℤ → ℤ → ℕ → ℕ
fall a b n = min ((dn a + up b - (up a + dn b)) * n) top

module _ (l : Levels) (n s v : ℕ) (h : floats v ≡ false) where
  abbrev a : ℤ
  a = level_of_code l s

  abbrev b : ℤ
  b = level_of_code l v

  pub drives_white : Drives (drive_of l n false s v) ≡ record { up = rise a b n; down = fall a b n }
  unfolding drive_of
  drives_white = rw h (λ i. record { up = min (up_volts a b n i) top; down = min (dn_volts a b n i) top })

  pub drives_black : Drives (drive_of l n true s v) ≡ record { up = fall a b n; down = rise a b n }
  unfolding drive_of
  drives_black =
      rw h (λ i. record {
        up = min ((up_neg ((a -ℤ b) *ℤ pos n) ∙ dn_volts a b n) i) top;
        down = min ((dn_neg ((a -ℤ b) *ℤ pos n) ∙ up_volts a b n) i) top;
      })
