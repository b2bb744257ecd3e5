-- Two sequences of codes driven side by side: what is driven and what is beside each other from the two places on make all frames.
use mathlib.Core.Path.{◌≡◌, refl, sym, subst, ap, ◌∙◌}
use mathlib.Core.List.{List, [], ◌++◌, append_assoc, append-nil}
use mathlib.Core.Bool.{false}
use Prim.Native.Nat.{ℕ, ◌+◌, ◌<◌, ◌≤◌, min}
use native.Mathlib.Omega.{arith}
use lib.Dec.{eqb}
use lib.ListN.{length, get_or, take, drop, replicate, length-append, length-replicate}
use lib.Seq.{take-append-le, drop-nil}
use lib.IntN.{ℤ}
use borrow.Author.Tests.{eqb-true, eqb-false}
use Rattle.base.proofs.Cases.{by_cases}
use Rattle.glass.specs.Transfer.{Acts}
use Rattle.waveform.specs.declared.Group.{Group}
use Rattle.waveform.specs.declared.Place.{Place}
use Rattle.waveform.specs.declared.Progress.{Progress}
use Rattle.waveform.specs.declared.Supply.{Supply}
use Rattle.waveform.specs.Frames.{drive_of, beside, codes_of}
use Rattle.waveform.specs.InnerProgress.{Driven, Extends}
use Rattle.waveform.specs.InnerPlaces.{codes_after, codes_from, Stands, common_run, beside_under}
use Rattle.waveform.proofs.BesideLaws.{beside_append, beside_run}
use Rattle.waveform.proofs.PlaceLaws.{split_run, run_at}

-- ---- the frames that two places have in common
module _ (p v : Place) where
  common_few : common_run p v ≤ p.left
  unfolding common_run
  common_few = by_cases (eqb v.left 0) (λ yes. rw yes (omega arith)) (λ no. rw no (omega arith))

  common_some : 0 < p.left → 0 < common_run p v
  unfolding common_run
  common_some h = by_cases (eqb v.left 0) (λ yes. rw yes h) (λ no. let some = eqb-false v.left 0 no in rw no (omega arith))

  common_second : eqb v.left 0 ≡ false → common_run p v ≤ v.left
  unfolding common_run
  common_second some = rw some (omega arith)

module _ (sup : Supply) where
  abbrev pub drive : ℕ → ℕ → ℤ
  drive c v = drive_of sup.levels sup.frame_ns sup.positive_drives_black c v

  abbrev pub meet : List ℕ → List ℕ → List ℤ
  meet codes vcom = beside sup.levels sup.frame_ns sup.positive_drives_black codes vcom

  module _ (table vcom : List Group) (p v : Place) (h : Stands vcom v (codes_from vcom v)) where
    -- VCOM's place goes on by as many frames, or stays at the end
    on_by : drop (min (common_run p v) v.left) (codes_from vcom v) ≡ drop (common_run p v) (codes_from vcom v)
    on_by =
        by_cases (eqb v.left 0)
        (λ yes.
        let none = (h.settled (eqb-true v.left 0 yes)).1 in
        rw none (drop-nil (min (common_run p v) v.left) ∙ sym (drop-nil (common_run p v))))
        (λ no.
        let all : min (common_run p v) v.left ≡ common_run p v = omega (arith, common_second p v no) in
        ap (λ (k : ℕ). drop k (codes_from vcom v)) all)

    one_code : (i : ℕ) → i < common_run p v → get_or (codes_from vcom v) i 0 ≡ v.code
    one_code i l =
        by_cases (eqb v.left 0)
        (λ yes. let end = h.settled (eqb-true v.left 0 yes) in rw end.1 (sym end.0))
        (λ no. run_at v.left v.code (codes_after vcom v) i (omega (arith, common_second p v no)))

    step : meet (codes_from table p) (codes_from vcom v) ≡
        replicate (common_run p v) (drive p.code v.code) ++
        meet (drop (common_run p v) (codes_from table p)) (drop (common_run p v) (codes_from vcom v))
    step =
        let k = common_run p v in
        ap (λ (codes : List ℕ). meet codes (codes_from vcom v)) (split_run p.left k p.code (codes_after table p) (common_few p v))
        ∙ beside_append sup.levels sup.frame_ns sup.positive_drives_black (replicate k p.code) (drop k (codes_from table p))
        (codes_from vcom v)
        ∙ (λ i. beside_run sup.levels sup.frame_ns sup.positive_drives_black k p.code v.code (codes_from vcom v) one_code i
        ++ meet (drop k (codes_from table p)) (drop (length-replicate k p.code i) (codes_from vcom v)))

-- ---- of n frames to drive, those up to the two places are driven
pub record Going (s n : ℕ) (sup : Supply) (table vcom : List Group) (q : Progress) (p v : Place) : Type 0 where
  pub done : List ℤ
  pub driven : Driven s n q done
  pub whole : done ++ meet sup (codes_from table p) (codes_from vcom v) ≡ beside_under sup table vcom
  pub pixel : Stands table p (codes_from table p)
  pub second : Stands vcom v (codes_from vcom v)

module _ (s n : ℕ) (sup : Supply) (table vcom : List Group) where
  pub going_start : (q : Progress) (p v : Place) → Driven s n q [] → Stands table p (codes_of table) → Stands vcom v (codes_of vcom) →
      Going s n sup table vcom q p v
  going_start q p v d a b = record {
    done = [];
    driven = d;
    whole = λ i. meet sup (a.codes i) (b.codes i);
    pixel = record { codes = refl; placed = a.placed; settled = a.settled };
    second = record { codes = refl; placed = b.placed; settled = b.settled };
  }

  module _ (q : Progress) (p v : Place) (g : Going s n sup table vcom q p v) where
    module _ (r : Progress) (e : Extends s q r (replicate (common_run p v) (drive sup p.code v.code))) where
      pub going_more : (p' v' : Place) → Stands table p' (drop (min (common_run p v) p.left) (codes_from table p)) →
          Stands vcom v' (drop (min (common_run p v) v.left) (codes_from vcom v)) → Going s n sup table vcom r p' v'
      going_more p' v' a b =
          let all : min (common_run p v) p.left ≡ common_run p v = omega (arith, common_few p v) in
          let frames = replicate (common_run p v) (drive sup p.code v.code) in
          record {
            done = g.done ++ frames;
            driven = e n g.done g.driven;
            whole =
                append_assoc g.done frames (meet sup (codes_from table p') (codes_from vcom v'))
                ∙ ap (λ (ds : List ℤ). g.done ++ ds)
                ((λ i. frames ++
                meet sup ((a.codes ∙ ap (λ (k : ℕ). drop k (codes_from table p)) all) i) ((b.codes ∙ on_by sup table vcom p v g.second) i))
                ∙ sym (step sup table vcom p v g.second))
                ∙ g.whole;
            pixel = record { codes = refl; placed = a.placed; settled = a.settled };
            second = record { codes = refl; placed = b.placed; settled = b.settled };
          }

      pub going_less : 0 < p.left → 0 < q.left → r.left < q.left
      going_less some left =
          let frames = replicate (common_run p v) (drive sup p.code v.code) in
          let count : length (g.done ++ frames) ≡ length g.done + common_run p v = simp (length-append, length-replicate) refl in
          omega (arith, g.driven.rest, (e n g.done g.driven).rest, count, common_some p v some)

    -- nothing is to come
    pub going_end : p.left ≡ 0 → Acts s q.run (take n (beside_under sup table vcom))
    going_end e =
        let none = (g.pixel.settled e).1 in
        let all : g.done ≡ beside_under sup table vcom =
        sym (append-nil g.done) ∙ ap (λ (codes : List ℕ). g.done ++ meet sup codes (codes_from vcom v)) (sym none) ∙ g.whole in
        subst (λ (ds : List ℤ). Acts s q.run (take n ds)) all g.driven.acts

    -- n frames are driven
    pub going_cut : q.left ≡ 0 → Acts s q.run (take n (beside_under sup table vcom))
    going_cut e =
        let rest = meet sup (codes_from table p) (codes_from vcom v) in
        let enough : n ≤ length g.done = omega (arith, g.driven.rest) in
        subst (λ (ds : List ℤ). Acts s q.run ds)
        (sym (take-append-le n g.done rest enough) ∙ ap (take n) g.whole) g.driven.acts
