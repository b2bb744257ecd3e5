-- Transfers that act as the frames of their tables move every state in range as its plain walk, frame by frame.
use mathlib.Core.Path.{◌≡◌, refl, sym, ap, ◌∙◌}
use mathlib.Core.Bool.{Bool, true, false, true≢false}
use mathlib.Core.List.{List, [], ◌∷◌}
use Prim.Native.Nat.{ℕ, ◌≤◌}
use lib.IntN.{ℤ, pos}
use Rattle.base.specs.Pick.{pick}
use Rattle.base.specs.Integer.{up}
use Rattle.glass.specs.declared.Transfer.{Transfer}
use Rattle.glass.specs.Transfer.{Acts}
use Rattle.glass.specs.Walk.{walk}
use Rattle.pixels.specs.States.{most, is_state, every_state}
use Rattle.pixels.specs.Drive.{driven, frames_for}
use Rattle.pixels.proofs.StateLaws.{state_in_range}
use Rattle.pixels.proofs.DriveLaws.{state_walk}
use Rattle.numbers.specs.declared.Mapping.{Mapping}
use Rattle.numbers.specs.Number.{panel_numbers}
use Rattle.controller.specs.declared.Uc8253.{Uc8253}
use Rattle.controller.specs.Refresh.{mapping_now}
use Rattle.controller.specs.Glass.{walked, numbers_now}

first_passes : (t r : Bool) → pick t r false ≡ true → (t ≡ true) × (r ≡ true)
first_passes true r e = (refl, e)
first_passes false r e = absurd (true≢false (sym e))

module _ (s : ℕ) (ww kw wk kk : Transfer) (f : ℕ → List ℤ) (b : s ≤ most)
    (a₁ : Acts s ww (f 1)) (a₂ : Acts s kw (f 2)) (a₃ : Acts s wk (f 3)) (a₄ : Acts s kk (f 4)) where
  pub driven_walked : (numbers : List ℕ) (states : List ℤ) → every_state s states ≡ true
      → driven ww kw wk kk numbers states ≡ walked s f numbers states
  unfolding walked
  driven_walked [] states e = refl
  driven_walked (n ∷ numbers) [] e = refl
  driven_walked (n ∷ numbers) (z ∷ states) e =
      let h = first_passes (is_state s z) (every_state s states) e in
      let z' : ℤ = pos (walk s (up z) (frames_for f n)) in
      (λ i. state_walk s ww kw wk kk f b a₁ a₂ a₃ a₄ n z (state_in_range s z h.0) i ∷ driven_walked numbers states h.1 i)

  -- the numbers as registers and planes give them
  pub driven_now : (p : Uc8253) (m : Mapping) (old new : List ℕ) (states : List ℤ) → m ≡ mapping_now p → every_state s states ≡ true
      → driven ww kw wk kk (panel_numbers m old new) states ≡ walked s f (numbers_now p old new) states
  unfolding numbers_now
  driven_now p m old new states e h =
      driven_walked (panel_numbers m old new) states h ∙ ap (λ (x : Mapping). walked s f (panel_numbers x old new) states) e
