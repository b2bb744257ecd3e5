-- An empty evening (2026-06): what is written of a file of zero bytes, and of one of 1 to 319. By computing the tests on its length.
use mathlib.Core.Path.{◌≡◌, refl}
use mathlib.Core.Bool.{false}
use mathlib.Core.List.{List, [], ◌∷◌}
use Prim.Native.Nat.{ℕ, ◌<◌}
use native.Mathlib.Omega.{arith}
use lib.ListN.{length}
use borrow.Author.Tests.{lt-ltb, ne_eqb}
use Rattle.base.proofs.Cases.{by_cases}
use Rattle.output.specs.declared.Form.{Form}
use Rattle.output.specs.declared.Form.TheVariants as form
use Rattle.output.specs.Lines.{no_events_line, refused_line}
use Rattle.output.proofs.UnitLaws.{units_none, units_refused}
use Rattle.capture.specs.Refused.{broken, file_refused}
use Rattle.controller.specs.World.{Buffers}
use Rattle.showing.specs.declared.Sizes.{Sizes}
use Rattle.showing.specs.Played.{is_panel, tested_by, play_refused}
use Rattle.showing.specs.Output.{output_of}

-- a file under 320 bytes is a broken capture for whoever reads one, the empty one too
pub short_broken : (file : List ℕ) → length file < 320 → file_refused file ≡ 8
unfolding file_refused broken
short_broken file h = rw (lt-ltb (length file) 320 h)

short_refused : (f : Form) (file : List ℕ) (b : Buffers) → length file < 320 → play_refused f file b ≡ 8
unfolding play_refused tested_by
short_refused f file b h = by_cases (is_panel f) (λ p. rw (short_broken file h, p)) (λ p. rw (short_broken file h, p))

-- `panel` prints `no events` alone for zero bytes
pub empty_evening : (s : Sizes) → output_of form.Panel [] s ≡ no_events_line ∷ []
unfolding output_of
empty_evening s = units_none form.Panel _ _ _ _ _ refl

-- and still refuses 1 to 319
pub short_panel : (file : List ℕ) (s : Sizes) → (length file ≡ 0 → ⊥) → length file < 320
    → output_of form.Panel file s ≡ refused_line 8 ∷ []
unfolding output_of
short_panel file s some h =
    units_refused form.Panel _ _ _ _ _ (rw (ne_eqb (length file) 0 some, short_refused form.Panel file _ h))

-- every other word refuses the empty one too
pub empty_refused : (f : Form) (s : Sizes) → is_panel f ≡ false → output_of f [] s ≡ refused_line 8 ∷ []
unfolding output_of
empty_refused f s other = units_refused f _ _ _ _ _ (rw (other, short_refused f [] _ (omega arith)))
