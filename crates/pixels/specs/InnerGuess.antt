-- The thresholds between the greys, by which a guessed grey is told right or wrong, and what keeps a guess within 64 bits.
use Rattle.std.specs.Prelude.{◌≡◌, List, ℕ, ◌+◌, ◌*◌, ◌≤◌, ◌<◌, min, length, get_or}
use Rattle.base.specs.Word.{top}
use Rattle.glass.specs.Gray.{least_of}
use Rattle.pixels.specs.declared.Scale.{Scale}
use Rattle.pixels.specs.declared.Wide.{Wide}

-- the least state of grey q or a lighter one, held to 64 bits
abbrev pub threshold_of : ℕ → ℕ → ℕ
threshold_of q s = min (least_of q s) top

-- the first n of 257 entries are the thresholds of the greys 0, 1, 2 and so on
pub record Thresholds (s : ℕ) (from : List ℕ) (n : ℕ) : Type 0 where
  pub long : length from ≡ 257
  pub each : (q : ℕ) → q < n → get_or from q 0 ≡ threshold_of q s

-- 1 and 255 in units of 2^-54, and 1 in those of a picture at any top, 2^-46
abbrev pub unit : ℕ
unit = 0x40_0000_0000_0000

abbrev pub white : ℕ
white = 0x3fc0_0000_0000_0000

abbrev pub fine : ℕ
fine = 0x4000_0000_0000

-- a guess is at most the grey of white
pub record Scaled (c : Scale) (most : ℕ) : Type 0 where
  pub shifted : c.shift ≤ 32
  pub within : c.most * c.factor ≤ most

-- w is made ready for a swing and a top: it has both, the swing divided by twice the top, and how a grey is guessed
pub record Prepared (s t : ℕ) (w : Wide) : Type 0 where
  pub swing : w.swing ≡ s
  pub word : s ≤ top
  pub white : w.top ≡ t
  pub some : 0 < t
  pub fits : t < 65_536
  pub double : w.double ≡ 2 * t
  pub split : w.whole * (2 * t) + w.rest ≡ s
  pub left : w.rest < 2 * t
  pub scaled : Scaled w.scale (t * fine)
