-- Request 2026-08: no call but event kind 6 changes VCOM's rule in force, and a kind 6 that ends nothing leaves the rule that the refresh
-- under way has noted.
use mathlib.Core.Path.{◌≡◌, refl, ap, ◌∙◌}
use mathlib.Core.Bool.{Bool, true, false}
use Prim.Native.Nat.{ℕ}
use lib.Dec.{eqb, leb}
use Rattle.base.proofs.Cases.{both}
use Rattle.controller.specs.declared.Uc8253.{Uc8253}
use Rattle.controller.specs.World.{World}
use Rattle.controller.specs.Counting.{own}
use Rattle.controller.specs.Arrives.{timed, ended, arrived}
use Rattle.controller.specs.Ask.{Ask, command, datum, reading, advance, reset, vcom_rule, taking, ask_busy, ask_deadline, ask_bit, ask_row, ask_picture}
use Rattle.controller.specs.Ask.{record_after, refused_by, did_by, did}
use Rattle.controller.proofs.Keeps.{kept_arrived, kept_command, kept_data, kept_reading, kept_edge}

-- rule 2 is in force
abbrev pub by_frame : Uc8253 → Bool
by_frame p = p.mode.vcom_by_frame

-- every call but kind 6
abbrev pub Other : Ask → Type 0
Other a = (t : ℕ) (x : Bool) → a ≡ vcom_rule t x → ⊥

record_rule : (a : Ask) (p : Uc8253) → Other a → by_frame (record_after own a p) ≡ by_frame p
unfolding record_after
record_rule (command t c) p o = (kept_command c (arrived t p)).rule ∙ (kept_arrived t p).rule
record_rule (datum t b) p o = (kept_data b (arrived t p)).rule ∙ (kept_arrived t p).rule
record_rule (reading t) p o = (kept_reading (arrived t p)).rule ∙ (kept_arrived t p).rule
record_rule (advance t) p o = (kept_arrived t p).rule
record_rule (reset t asserted) p o = (kept_edge asserted (arrived t p)).rule ∙ (kept_arrived t p).rule
record_rule (vcom_rule t x) p o = absurd (o t x refl)
record_rule taking p o = refl
record_rule (ask_busy t) p o = refl
record_rule ask_deadline p o = refl
record_rule (ask_bit older x y) p o = refl
record_rule (ask_row y) p o = refl
record_rule (ask_picture top wide) p o = refl

pub rule_stays : (a : Ask) (w : World) → Other a → by_frame (did a w).chip ≡ by_frame w.chip
unfolding did_by
rule_stays a w o = both (λ (v : World). by_frame v.chip ≡ by_frame w.chip) (eqb (refused_by a w) 0) (record_rule a w.chip o) refl

-- an accepted kind 6 sets it
pub rule_set : (t : ℕ) (x : Bool) (w : World) → eqb (refused_by (vcom_rule t x) w) 0 ≡ true → by_frame (did (vcom_rule t x) w).chip ≡ x
unfolding did_by record_after
rule_set t x w e = rw e

-- one that ends nothing leaves the operation under way and its noted waveform as they are
pub noted_stays : (t : ℕ) (x : Bool) (w : World) → leb w.chip.operation.until (timed t w.chip).now ≡ false
    → ((did (vcom_rule t x) w).chip.operation ≡ w.chip.operation) × ((did (vcom_rule t x) w).chip.waveform ≡ w.chip.waveform)
unfolding did_by record_after arrived ended
noted_stays t x w h =
    both (λ (v : World). (v.chip.operation ≡ w.chip.operation) × (v.chip.waveform ≡ w.chip.waveform))
    (eqb (refused_by (vcom_rule t x) w) 0) (rw h (refl, refl)) (refl, refl)
