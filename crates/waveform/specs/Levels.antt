-- Document 01, "A refresh": the supply levels, in millivolts.
use Rattle.std.specs.Prelude.{ℕ, ◌%◌, List, Bool, eqb, get_or, ℤ, pos, neg_ℤ}
use Rattle.base.specs.Pick.{pick}
use Rattle.supply.specs.Supply.{supply_level}
use Rattle.waveform.specs.declared.Levels.{Levels}

-- the third byte of 01, the fourth, which is negated where it is used, and the fifth
abbrev pub levels_of : List ℕ → Levels
levels_of power = record { vdh = supply_level (get_or power 2 0); vdl = supply_level (get_or power 3 0); vdhr = supply_level (get_or power 4 0) }

-- the level of a 2-bit code: 0 is 0; codes 1, 2, 3 are the third byte of 01, the fourth negated and the fifth
unfoldable pub level_of_code : Levels → ℕ → ℤ
level_of_code l code =
    pick (eqb (code % 4) 1) (pos l.vdh)
    (pick (eqb (code % 4) 2) (neg_ℤ (pos l.vdl))
    (pick (eqb (code % 4) 3) (pos l.vdhr) (pos 0)))

-- code 3 of VCOM floats
unfoldable pub floats : ℕ → Bool
floats code = eqb (code % 4) 3
