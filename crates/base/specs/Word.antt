-- The range of a 64-bit number.
use Rattle.std.specs.Prelude.{ℕ}

-- 2^64 - 1
abbrev pub top : ℕ
top = 0xffff_ffff_ffff_ffff
