-- The definitions on small cases, computed.
use mathlib.Core.Path.{◌≡◌, refl}
use mathlib.Core.Bool.{Bool, true, false}
use mathlib.Core.List.{List, [], ◌∷◌}
use Prim.Native.Nat.{ℕ}
use Prim.Native.String.{String}
use Rattle.text.specs.Text.{ascii}
use Rattle.vcd_words.specs.Words.{closed, opened, words}
use Rattle.std.specs.Prelude.{Option, Some, None}
use Rattle.vcd_values.specs.declared.times.Width.TheVariants.{Bit, Wide}
use Rattle.vcd_values.specs.Numbers.{value_of, time_of, size_of, is_real}
use Rattle.vcd_values.specs.Levels.{level, vector_level}
use Rattle.vcd_values.specs.Names.{name_of, signal_of}

-- ---- times: the value counts, not the length
pub times : (time_of (ascii "0") ≡ Some 0)
    × (time_of (ascii "000") ≡ Some 0)
    × (time_of (ascii "0042") ≡ Some 42)
    × (time_of (ascii "18446744073709551615") ≡ Some 18_446_744_073_709_551_615)
    × (time_of (ascii "0000000018446744073709551615") ≡ Some 18_446_744_073_709_551_615)
unfolding time_of value_of
times = (refl, refl, refl, refl, refl)

pub no_times : (time_of [] ≡ None)
    × (time_of (ascii "18446744073709551616") ≡ None)
    × (time_of (ascii "0018446744073709551616") ≡ None)
    × (time_of (ascii "-1") ≡ None)
    × (time_of (ascii "1e3") ≡ None)
unfolding time_of value_of
no_times = (refl, refl, refl, refl, refl)

-- ---- sizes
pub sizes : (size_of (ascii "0") ≡ Some Bit)
    × (size_of (ascii "1") ≡ Some Bit)
    × (size_of (ascii "01") ≡ Some Bit)
    × (size_of (ascii "2") ≡ Some Wide)
    × (size_of (ascii "10") ≡ Some Wide)
    × (size_of (ascii "18446744073709551616") ≡ Some Wide)
    × (size_of [] ≡ None)
    × (size_of (ascii "1x") ≡ None)
unfolding size_of value_of
sizes = (refl, refl, refl, refl, refl, refl, refl, refl)

-- ---- real numbers
abbrev real : String → Bool
real s = is_real (ascii s)

pub reals : (real "5" ≡ true)
    × (real "+0.50" ≡ true)
    × (real "-1.5e+3" ≡ true)
    × (real "1E9" ≡ true)
    × (real "NaN" ≡ true)
    × (real "INF" ≡ true)
    × (real "-inf" ≡ true)
unfolding is_real
reals = (refl, refl, refl, refl, refl, refl, refl)

pub no_reals : (real "" ≡ false)
    × (real ".5" ≡ false)
    × (real "5." ≡ false)
    × (real "infinity" ≡ false)
    × (real "--1" ≡ false)
    × (real "1e" ≡ false)
    × (real "1e+" ≡ false)
    × (real "1.5.2" ≡ false)
    × (real "na" ≡ false)
unfolding is_real
no_reals = (refl, refl, refl, refl, refl, refl, refl, refl, refl)

-- ---- vectors, by the last digit
abbrev vector : String → Option ℕ
vector s = vector_level (ascii s)

pub vectors : (vector "x1" ≡ Some 1)
    × (vector "1x" ≡ Some 2)
    × (vector "z0" ≡ Some 0)
    × (vector "0Z" ≡ Some 2)
    × (vector "" ≡ None)
    × (vector "211" ≡ None)
unfolding vector_level level
vectors = (refl, refl, refl, refl, refl, refl)

-- ---- names: a word, and the bytes after it
abbrev name : List ℕ → String → List ℕ
name w after = name_of w (words (ascii after))

pub cut_off : (name (ascii "cs[0]") "" ≡ ascii "cs")
    × (name (ascii "m[1][2]") " " ≡ ascii "m[1]")
    × (name (ascii "m[-1]") "" ≡ ascii "m")
    × (name (ascii "m[7:-12]") "" ≡ ascii "m")
unfolding name_of words closed opened
cut_off = (refl, refl, refl, refl)

pub whole : (name (ascii "mem[3]") " [7:0]" ≡ ascii "mem[3]")
    × (name (ascii "m") " [ 7 : 0 ]" ≡ ascii "m")
    × (name (ascii "m") "[-1 2 : - 3]" ≡ ascii "m")
    × (name (ascii "m]") "" ≡ ascii "m]")
    × (name (ascii "m[0") "" ≡ ascii "m[0")
unfolding name_of words closed opened
whole = (refl, refl, refl, refl, refl)

pub no_name : (name (ascii "m[a]") "" ≡ [])
    × (name (ascii "[0]") "" ≡ [])
    × (name (ascii "m[]") "" ≡ [])
    × (name (ascii "m[1:]") "" ≡ [])
    × (name (ascii "m[--1]") "" ≡ [])
    × (name (ascii "m") " 7" ≡ [])
    × (name (ascii "m") " [1] [2]" ≡ [])
    × (name (92 ∷ []) "" ≡ [])
    × (name (92 ∷ []) "[0]" ≡ [])
unfolding name_of words closed opened
no_name = (refl, refl, refl, refl, refl, refl, refl, refl, refl)

pub escaped : (name (92 ∷ ascii "cs") "" ≡ ascii "cs")
    × (name (92 ∷ ascii "cs[0]") "" ≡ ascii "cs[0]")
    × (name (92 ∷ ascii "cs") " [0]" ≡ ascii "cs")
unfolding name_of words closed opened
escaped = (refl, refl, refl)

pub signals : (signal_of (ascii "cs") ≡ 0)
    × (signal_of (ascii "dc") ≡ 1)
    × (signal_of (ascii "clk") ≡ 2)
    × (signal_of (ascii "mosi") ≡ 3)
    × (signal_of (ascii "rst") ≡ 4)
    × (signal_of (ascii "CS") ≡ 5)
    × (signal_of (ascii "css") ≡ 5)
    × (signal_of [] ≡ 6)
unfolding signal_of
signals = (refl, refl, refl, refl, refl, refl, refl, refl)
