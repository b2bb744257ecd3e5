-- Document 01, "A command byte": the command byte sorted over its whole range 00 to FF, and the data bytes that each kind takes.
use Rattle.std.specs.Prelude.{Bool, true, false, [], ◌∷◌, ℕ, ltb}
use Rattle.base.specs.Pick.{pick, one_of, between}
use Rattle.config.specs.declared.Variant.{Variant}
use Rattle.config.specs.declared.Variant.TheVariants.{Uc8253, Uc8279d}
use Rattle.command.specs.declared.kinds.Params.{Params}
use Rattle.command.specs.declared.kinds.Params.TheVariants.{Exactly, Between, Stream}
use Rattle.command.specs.declared.kinds.Kind.{Kind}
use Rattle.command.specs.declared.kinds.Kind.TheVariants.{Write, Read, Unsupported, Unknown}

-- 50 takes 1 or 2 bytes on UC8253 and exactly 1 on UC8279d
abbrev pub cdi_kind : Variant → Kind
cdi_kind Uc8253 = Write (Between 1 2)
cdi_kind Uc8279d = Write (Exactly 1)

-- by the count of data bytes; then pixel bytes, the read commands, what is not supported, and what is unknown
unfoldable pub kind_of : ℕ → Variant → Kind
kind_of c v =
    pick (one_of (0x02 ∷ 0x04 ∷ 0x05 ∷ 0x12 ∷ 0x91 ∷ 0x92 ∷ []) c) (Write (Exactly 0))
    (pick (one_of (0x03 ∷ 0x07 ∷ 0x30 ∷ 0x41 ∷ 0x52 ∷ 0x60 ∷ 0x80 ∷ 0x82 ∷ 0xE0 ∷ 0xE1 ∷ 0xE3 ∷ 0xE4 ∷ 0xE5 ∷ 0xE7 ∷ []) c)
    (Write (Exactly 1))
    (pick (one_of (0x2A ∷ []) c) (Write (Exactly 2))
    (pick (one_of (0x2B ∷ 0x42 ∷ []) c) (Write (Exactly 3))
    (pick (one_of (0x61 ∷ 0x65 ∷ []) c) (Write (Exactly 4))
    (pick (one_of (0x90 ∷ []) c) (Write (Exactly 9))
    (pick (one_of (0x00 ∷ []) c) (Write (Between 1 2))
    (pick (one_of (0x06 ∷ []) c) (Write (Between 3 4))
    (pick (one_of (0x01 ∷ []) c) (Write (Between 4 5))
    (pick (between 0x20 0x25 c) (Write (Between 1 60))
    (pick (one_of (0x50 ∷ []) c) (cdi_kind v)
    (pick (one_of (0x10 ∷ 0x13 ∷ []) c) (Write Stream)
    (pick (one_of (0x11 ∷ 0x40 ∷ 0x43 ∷ 0x44 ∷ 0x51 ∷ 0x70 ∷ 0x71 ∷ 0x72 ∷ 0x81 ∷ 0xA2 ∷ []) c) Read
    (pick (one_of (0x15 ∷ 0x17 ∷ []) c) (Unsupported (Exactly 1))
    (pick (one_of (0xA0 ∷ 0xA1 ∷ []) c) (Unsupported (Exactly 0))
    Unknown))))))))))))))

-- a read command
abbrev pub is_read : Kind → Bool
is_read (Write p) = false
is_read Read = true
is_read (Unsupported p) = false
is_read Unknown = false

-- the data bytes that a command takes: none under a read command or an unknown one
abbrev pub params_of : Kind → Params
params_of (Write p) = p
params_of Read = Exactly 0
params_of (Unsupported p) = p
params_of Unknown = Exactly 0

-- the least count, below which kind 5 is stored
abbrev pub least : Params → ℕ
least (Exactly n) = n
least (Between n m) = n
least Stream = 0

abbrev pub least_count : Kind → ℕ
least_count k = least (params_of k)

-- data byte number i, from 0, is not beyond the largest count
abbrev pub takes_in : Params → ℕ → Bool
takes_in (Exactly n) i = ltb i n
takes_in (Between n m) i = ltb i m
takes_in Stream i = true

abbrev pub takes_byte : Kind → ℕ → Bool
takes_byte k i = takes_in (params_of k) i
