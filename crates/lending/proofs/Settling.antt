-- A refresh that a call ends: how the glass is driven tells that it ends, and what becomes of the old plane, by the two tests of
-- `driven_at`.
use mathlib.Core.Path.{◌≡◌, refl, sym, ap, ◌∙◌}
use mathlib.Core.Bool.{Bool, true, false, ◌&&◌, ◌||◌}
use mathlib.Core.List.{List}
use Prim.Native.Nat.{ℕ, max}
use native.Mathlib.Omega.{arith}
use lib.Dec.{leb}
use lib.IntN.{ℤ}
use Rattle.base.specs.Pick.{pick}
use Rattle.controller.specs.declared.Work.{Work}
use Rattle.controller.specs.declared.Work.TheVariants as work
use Rattle.controller.specs.declared.Uc8253.{Uc8253}
use Rattle.controller.specs.declared.drives.Drive.{Drive}
use Rattle.controller.specs.declared.drives.Drive.TheVariants as drive
use Rattle.controller.specs.Arrives.{timed}
use Rattle.controller.specs.Counting.{own}
use Rattle.controller.specs.Glass.{driven_at, states_by, picture_by}
use Rattle.controller.specs.Planes.{copied_by, old_arrived}
use Rattle.controller.specs.Refresh.{elapsed}
use Rattle.controller.specs.TurnedBack.{refresh_runs, cuts, ends_refresh}

-- the two tests of how the glass is driven
how_whole : (e l : Bool) (n : ℕ) → pick e (pick l drive.Whole (drive.First n)) drive.Nothing ≡ drive.Whole → (e ≡ true) × (l ≡ true)
how_whole true true n h = (refl, refl)
how_whole true false n h = let z : ◌≡◌ {A = ℕ} 0 1 = cc in absurd (omega arith)
how_whole false l n h = let z : ◌≡◌ {A = ℕ} 0 1 = cc in absurd (omega arith)

how_first : (e l : Bool) (n m : ℕ) → pick e (pick l drive.Whole (drive.First n)) drive.Nothing ≡ drive.First m → (e ≡ true) × (l ≡ false)
how_first true true n m h = let z : ◌≡◌ {A = ℕ} 0 1 = cc in absurd (omega arith)
how_first true false n m h = (refl, refl)
how_first false l n m h = let z : ◌≡◌ {A = ℕ} 0 1 = cc in absurd (omega arith)

how_not : (e l : Bool) (n : ℕ) → pick e (pick l drive.Whole (drive.First n)) drive.Nothing ≡ drive.Nothing → e ≡ false
how_not true true n h = let z : ◌≡◌ {A = ℕ} 0 1 = cc in absurd (omega arith)
how_not true false n h = let z : ◌≡◌ {A = ℕ} 0 1 = cc in absurd (omega arith)
how_not false l n h = refl

-- where no refresh ends, nothing is copied
not_copied : (x : Work) (l c : Bool) (p : Uc8253) (old new : List ℕ) → (refresh_runs x && (l || c)) ≡ false
    → pick l (copied_by x p old new) old ≡ old
not_copied x false c p old new e = refl
not_copied work.Nothing true c p old new e = refl
not_copied work.PowerOn true c p old new e = refl
not_copied work.PowerOff true c p old new e = refl
not_copied work.DeepSleep true c p old new e = refl
not_copied work.SoftReset true c p old new e = refl
not_copied work.HardwareReset true c p old new e = refl
not_copied (work.Refresh r) true c p old new e = let z : ◌≡◌ {A = ℕ} 0 1 = cc in absurd (omega arith)

-- what becomes of the old plane, by how the glass is driven
abbrev pub old_by : Drive → Uc8253 → List ℕ → List ℕ → List ℕ
old_by drive.Nothing p old new = old
old_by drive.Whole p old new = copied_by p.operation.work p old new
old_by (drive.First n) p old new = old

-- the copy, where a match has told what runs
pub by_copy : (x : Work) (p : Uc8253) (old new : List ℕ) {v : List ℕ} → p.operation.work ≡ x → v ≡ copied_by x p old new
    → v ≡ copied_by p.operation.work p old new
by_copy x p old new e h = h ∙ ap (λ (y : Work). copied_by y p old new) (sym e)

module _ (a : Bool) (t : ℕ) (p : Uc8253) where
  abbrev due : Bool
  due = leb p.operation.until (max p.now t)

  abbrev frames : ℕ
  frames = elapsed own (timed t p)

  pub whole_ends : driven_at own a t p ≡ drive.Whole → ends_refresh a t p ≡ true
  unfolding driven_at
  whole_ends h = (how_whole (ends_refresh a t p) due frames h).0

  pub first_ends : (n : ℕ) → driven_at own a t p ≡ drive.First n → ends_refresh a t p ≡ true
  unfolding driven_at
  first_ends n h = (how_first (ends_refresh a t p) due frames n h).0

  old_by_lem : (how : Drive) (old new : List ℕ) → driven_at own a t p ≡ how → old_arrived t p old new ≡ old_by how p old new
  unfolding driven_at old_arrived ends_refresh
  old_by_lem drive.Nothing old new h =
      not_copied p.operation.work due (cuts p.mode.power a) p old new (how_not (ends_refresh a t p) due frames h)
  old_by_lem drive.Whole old new h = rw (how_whole (ends_refresh a t p) due frames h).1
  old_by_lem (drive.First n) old new h = rw (how_first (ends_refresh a t p) due frames n h).1

  -- old plane, states and picture, each as its function left it
  pub settled_by : (how : Drive) (old new : List ℕ) (states : List ℤ) (picture : List ℕ)
      {old' : List ℕ} {states' : List ℤ} {picture' : List ℕ}
      → driven_at own a t p ≡ how
      → old' ≡ old_by how p old new
      → states' ≡ states_by how p old new states
      → picture' ≡ picture_by how p states' picture
      → (old' ≡ old_arrived t p old new)
      × ((states' ≡ states_by (driven_at own a t p) p old new states)
      × (picture' ≡ picture_by (driven_at own a t p) p states' picture))
  settled_by how old new states picture {states' = s} h eo es ep =
      let ds = ap (λ (d : Drive). states_by d p old new states) (sym h) in
      let dp = ap (λ (d : Drive). picture_by d p s picture) (sym h) in
      (eo ∙ sym (old_by_lem how old new h), (es ∙ ds, ep ∙ dp))
