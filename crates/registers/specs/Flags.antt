-- Document 01, "A refresh": single bits of the first bytes of 00 and 50.
use Rattle.std.specs.Prelude.{Bool, false, ℕ, ◌/◌, ◌%◌, ◌^◌, eqb, get_or}
use Rattle.config.specs.declared.Variant.{Variant}
use Rattle.config.specs.declared.Variant.TheVariants.{Uc8253, Uc8279d}
use Rattle.registers.specs.declared.flags.PsrFlag.{PsrFlag}
use Rattle.registers.specs.declared.flags.PsrFlag.TheVariants.{RstN, ShdN, Shl, Ud, Kw, Reg}
use Rattle.registers.specs.declared.Registers.{Registers}

-- bit k of a byte is set
abbrev pub bit_set : ℕ → ℕ → Bool
bit_set b k = eqb (b / 2 ^ k % 2) 1

-- the bit of a flag of the first 00 byte
abbrev pub flag_bit : PsrFlag → ℕ
flag_bit RstN = 0
flag_bit ShdN = 1
flag_bit Shl = 2
flag_bit Ud = 3
flag_bit Kw = 4
flag_bit Reg = 5

-- white is the value of bit 0 (UC8253) or bit 4 (UC8279d) of the first 50 byte
abbrev pub one_is_white : Variant → Registers → Bool
one_is_white Uc8253 r = bit_set (get_or r.cdi 0 0) 0
one_is_white Uc8279d r = bit_set (get_or r.cdi 0 0) 4

-- UC8253 with bit 3 of the first 50 byte
abbrev pub copies_new_to_old : Variant → Registers → Bool
copies_new_to_old Uc8253 r = bit_set (get_or r.cdi 0 0) 3
copies_new_to_old Uc8279d r = false
