-- Which test of refusals 8 and 9 a capture file fails first, in the order of `broken` and then `bad_event`.
use Rattle.std.specs.Prelude.{Option, Some, None, Bool, ◌||◌, not, List, ℕ, zero, suc, ◌+◌, ◌*◌, eqb, ltb, length}
use Rattle.base.specs.Pick.{pick, between}
use Rattle.capture.specs.Layout.{kind_at, value_at, variant_at, flags_at, offset_of, count_of}
use Rattle.capture.specs.Refused.{listed}
use Rattle.reasons.specs.declared.causes.Reason.{Reason}
use Rattle.reasons.specs.declared.causes.Reason.TheVariants as reason

-- the kinds that are listed: 1 command, 2 data, 3 read, 4 reset, 5 advance, 6 VCOM's rule
abbrev pub known : ℕ → Bool
known kind = between 1 6 kind

-- what is wrong with event i: its value, if its kind is listed
abbrev pub fault : ℕ → ℕ → ℕ → Reason
fault i kind value = pick (known kind) (reason.Value i kind value) (reason.Kind i kind)

-- the first that is not listed of n events, from event i on; events are counted from 0
abbrev pub first_fault : List ℕ → ℕ → ℕ → Option Reason
first_fault file i zero = None
first_fault file i (suc n) =
    pick (listed (kind_at file i) (value_at file i)) (first_fault file (suc i) n) (Some (fault i (kind_at file i) (value_at file i)))

-- 9: variant above 1, a flag bit above bit 3, or an event kind or value not listed
unfoldable pub bad_reason : List ℕ → ℕ → ℕ → Option Reason
bad_reason file offset count =
    pick (ltb 1 (variant_at file offset)) (Some (reason.Variant (variant_at file offset)))
    (pick (ltb 15 (flags_at file offset)) (Some (reason.Flags (flags_at file offset)))
    (first_fault file 0 count))

-- the lengths of a file by its trailer's offset: without a rate, and with one
abbrev pub length_fits : ℕ → ℕ → Bool
length_fits bytes offset = eqb bytes (offset + 320) || eqb bytes (offset + 328)

-- 8: file under 320 or over 65,536 bytes, trailer offset not 10 × its count, or file length neither offset + 320 nor offset + 328; then 9
unfoldable pub reason_of : List ℕ → Option Reason
reason_of file =
    pick (ltb (length file) 320) (Some (reason.Short (length file)))
    (pick (ltb 65536 (length file)) (Some (reason.Long (length file)))
    (pick (not (eqb (offset_of file) (10 * count_of file))) (Some (reason.Offset (offset_of file) (count_of file)))
    (pick (not (length_fits (length file) (offset_of file))) (Some (reason.Length (length file) (offset_of file)))
    (bad_reason file (offset_of file) (count_of file)))))

-- the refusal that a reason is of, 0 where there is none
abbrev pub refusal_of : Option Reason → ℕ
refusal_of (Some (reason.Short bytes)) = 8
refusal_of (Some (reason.Long bytes)) = 8
refusal_of (Some (reason.Offset offset count)) = 8
refusal_of (Some (reason.Length bytes offset)) = 8
refusal_of (Some (reason.Variant v)) = 9
refusal_of (Some (reason.Flags f)) = 9
refusal_of (Some (reason.Kind i kind)) = 9
refusal_of (Some (reason.Value i kind value)) = 9
refusal_of None = 0
