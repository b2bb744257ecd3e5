-- What is written of a panel that a making gave and calls gave back is its picture: each pixel the grey of its state at the top.
use mathlib.Core.Path.{◌≡◌, refl, ap, sym, ◌∙◌}
use mathlib.Core.List.{List, [], ◌∷◌}
use Prim.Native.Nat.{ℕ, zero, suc, ◌*◌, ◌^◌, ◌<◌, ◌≤◌}
use native.Mathlib.Nat.{mul-le-mul}
use native.Mathlib.Omega.{arith}
use lib.IntN.{ℤ}
use lib.ListN.{length, replicate, take, length-replicate}
use Rattle.std.proofs.Common.{Result, Ok, Err}
use Rattle.std.specs.Result.{result_err}
use Rattle.base.specs.declared.refusals.Refusal.{Refusal}
use Rattle.base.specs.RefusalNumbers.{number_of, number_in}
use Rattle.config.proofs.RefusalLaws.{accepted}
use Rattle.glass.specs.Gray.{top_of}
use Rattle.outcome.specs.declared.Came.{Came}
use Rattle.outcome.specs.Came.{came_by}
use Rattle.output.specs.declared.Form.{Form}
use Rattle.output.specs.Units.{wide_by, wide_of}
use Rattle.pixels.specs.Draw.{drawn_at}
use Rattle.controller.specs.declared.Uc8253.{Uc8253}
use Rattle.controller.specs.World.{World, Buffers, buffers, world}
use Rattle.controller.specs.Setters.{with_states}
use Rattle.controller.specs.Ask.{Answer, nothing, byte, count, low, due, bit, part, wide, ask_picture, refused_by, answered}
use Rattle.controller.specs.Sound.{Sound}
use Rattle.controller.specs.Calls.{wide_refused, wide_answer}
use Rattle.controller.proofs.Wide.{wide_taken, wide_is}
use Rattle.shades.specs.Shades.{room, shades_of}

-- the number of what turned a call back
pub number_err : {A : Type 0} (r : Result A Refusal) → number_of (result_err r) ≡ number_in r
number_err (Ok x) = refl
number_err (Err e) = refl

-- two numbers of 16 bits
pub small : (w h : ℕ) → w < 65_536 → h < 65_536 → w * h < 2 ^ 32
small w h k l = omega (arith, mul-le-mul {n₁ = w} {m₁ = h} {n₂ = 65_535} {m₂ = 65_535} (omega arith) (omega arith))

-- no panel has more pixels than 800 by 600
room_whole : (w : World) → Sound w → room w.chip ≡ w.chip.config.panel.sources * w.chip.config.panel.gates
unfolding room
room_whole w s =
    let a = accepted w.chip.config s.chip.config in
    omega (arith, mul-le-mul {n₁ = w.chip.config.panel.sources} {m₁ = w.chip.config.panel.gates} {n₂ = 800} {m₂ = 600} a.sources_most a.gates_most)

pub shades_are : (f : Form) (top : ℕ) (w : World) → Sound w
    → shades_of f top w.chip w.lent.states
    ≡ wide_by f (top_of top) w.chip.image
    (drawn_at (top_of top) w.chip.config.optics.full_swing w.lent.states (replicate (room w.chip) 0))
unfolding shades_of wide_of
shades_are f top w s =
    let e = room_whole w s in
    rw (wide_taken w s (room w.chip) e)
    (ap (wide_by f (top_of top) w.chip.image)
    (wide_is w s top (replicate (room w.chip) 0) (length-replicate {A = ℕ} (room w.chip) 0 ∙ e)))

-- ---- the buffer, and what the question leaves in it
pub front_zeros : (n k : ℕ) → n ≤ k → take {A = ℕ} n (replicate k 0) ≡ replicate n 0
front_zeros zero k h = refl
front_zeros (suc n) zero h = absurd (omega arith)
front_zeros (suc n) (suc k) h = ap (λ (l : List ℕ). 0 ∷ l) (front_zeros n k (omega arith))

pub front_length : (n k : ℕ) → n ≤ k → n ≡ length (take {A = ℕ} n (replicate k 0))
front_length n k h = sym (ap length (front_zeros n k h) ∙ length-replicate {A = ℕ} n 0)

abbrev entries : Answer → List ℕ
entries nothing = []
entries (byte b) = []
entries (count n) = []
entries (low b) = []
entries (due d) = []
entries (bit f) = []
entries (part l) = []
entries (wide l) = l

abbrev pub none : Buffers
none = buffers [] [] [] [] []

pub shades_from : (f : Form) (top : ℕ) (p : Uc8253) (states : List ℤ) {first last : List ℕ} {n : ℕ} {c : Came}
    → first ≡ replicate (room p) 0 → c ≡ came_by n
    → n ≡ refused_by (ask_picture top first) (world p (with_states states none))
    → wide last ≡ answered (ask_picture top first) (world p (with_states states none))
    → wide_of f (top_of top) (record { came = c; log = p.log; image = p.image }) last ≡ shades_of f top p states
unfolding shades_of
shades_from f top p states {first} e h k a =
    let m = k ∙ ap (λ (l : List ℕ). wide_refused p states (length l)) e
    ∙ ap (wide_refused p states) (length-replicate {A = ℕ} (room p) 0) in
    let l = ap entries a ∙ ap (wide_answer p states top) e in
    λ i. wide_of f (top_of top) (record { came = (h ∙ ap came_by m) i; log = p.log; image = p.image }) (l i)
