-- A function that makes a struct of its four parameters: a walk of that MIR, once, for every struct of plain data.
use mathlib.Core.Path.{◌≡◌, refl}
use mathlib.Core.List.{[], ◌∷◌}
use seplogic.Ra.Ura.{Ura}
use mir.Syntax.{Ty, local, value_local, Fn, place, copy, aggregate, assign, seq, return}
use mir.Val.{Val, vstruct, vcons, vnil}
use base.Logic.{SProp, ent, emp, via, fst∗}
use base.Fml.{ftrue}
use prog.Wp.{Calls, Loops, WpFn, Tables}
use types.Logic.{Logic}
use contract.Monad.{fact}
use types.Kit.{‵, ◌$◌, ◌∵◌, !, qed, by, move, keep, fjoin, suffices, done}
use types.Run.{look, init, forget, stop, from, load, and_then, no_more, assigns}
use types.Run.{returns, enter, alloc1, alloc0, params1, pass1, pass0, free1, free0}
use types.Part.{agg}
use sound.WpLaws.{WpFn-mono}
use denote.RattleType.{RattleType, owns}
use denote.Laws.{Is}
use denote.Signature.{plain}
use denote.Steps.{owned, nothing}
use denote.Exit.{yes}
use denote.Struct.Declared.{Declared, fields, shape, row}
use denote.Struct.Laws as LL
use denote.Struct.Struct.{Plains, layout}
use denote.Triple.Entry.{Args, Vals, on_entry}
use denote.Triple.Spec.{Meets}
use denote.Triple.Clauses.{Ended, Clauses, closing}
use denote.Triple.Walked.{says, Stays, stay_dropped, walk_of, Goes-dropped, ends_at, walked, walk_Meets}
use Rattle.nested.proofs.Rows.{Data, last, silent, struct_data}

-- what such a function is in MIR
abbrev pub making : Ty → Ty → Ty → Ty → Ty → Fn
making σ τ₁ τ₂ τ₃ τ₄ = record {
  lifetimes = 0;
  outlives = [];
  ty_params = [];
  givens = 0;
  params = 4;
  locals = local σ value_local ∷ local τ₁ value_local ∷ local τ₂ value_local ∷ local τ₃ value_local ∷ local τ₄ value_local ∷ [];
  body =
      seq (assign (place 0 []) (aggregate (copy (place 1 []) ∷ copy (place 2 []) ∷ copy (place 3 []) ∷ copy (place 4 []) ∷ []))) return;
}

module _ (T : Declared) (L : LL.Laws T) (pl : Plains (fields T)) (cs : LL.Copyables T.parts) (R₁ R₂ R₃ R₄ : RattleType)
    (make : R₁.Denot → R₂.Denot → R₃.Denot → R₄.Denot → T.D) where
  abbrev pub ended : Ended
  ended = record {
    signature = record {
      lifetimes = 0;
      outlives = [];
      params = plain (λ _. R₁) ∷ plain (λ _. R₂) ∷ plain (λ _. R₃) ∷ plain (λ _. R₄) ∷ [];
      result = plain (λ _. row T);
    };
    kept = (yes, (yes, (yes, (yes, tt))));
  }

  abbrev stayed : Stays ended.signature.params ended.kept
  stayed = (stay_dropped (plain (λ _. R₁)) yes, (stay_dropped (plain (λ _. R₂)) yes, (stay_dropped (plain (λ _. R₃)) yes, (stay_dropped (plain (λ _. R₄)) yes, tt))))

  abbrev pub clauses : {M : Type 1} (𝓤 : Ura M) → Clauses 𝓤 ended
  clauses 𝓤 κs a = record { ghost = Unit {0}; requires = λ _. emp 𝓤; ensures = λ _ q _. fact 𝓤 (q ≡ make a.0 a.1.0 a.1.1.0 a.1.1.1.0) }

  s : Data (row T) (layout (shape T)) (LL.val T L)
  s = struct_data T L pl cs

  module _ (τ₁ τ₂ τ₃ τ₄ : Ty) (val₁ : R₁.Denot → Val) (val₂ : R₂.Denot → Val) (val₃ : R₃.Denot → Val) (val₄ : R₄.Denot → Val)
      (r₁ : Data R₁ τ₁ val₁) (r₂ : Data R₂ τ₂ val₂) (r₃ : Data R₃ τ₃ val₃) (r₄ : Data R₄ τ₄ val₄)
      (made : (x : R₁.Denot) (y : R₂.Denot) (z : R₃.Denot) (w : R₄.Denot) → Is R₁ x (val₁ x ∷ []) → Is R₂ y (val₂ y ∷ []) → Is R₃ z (val₃ z ∷ []) → Is R₄ w (val₄ w ∷ []) →
      Is (row T) (make x y z w) (vstruct (vcons (val₁ x) (vcons (val₂ y) (vcons (val₃ z) (vcons (val₄ w) vnil)))) ∷ [])) where
    abbrev f : Fn
    f = making (layout (shape T)) τ₁ τ₂ τ₃ τ₄

    module _ {M : Type 1} {𝓤 : Ura M} (𝓛 : Logic 𝓤) where
      open 𝓛 use {H}

      module _ (x : R₁.Denot) (y : R₂.Denot) (z : R₃.Denot) (w : R₄.Denot) (p : Is R₁ x (val₁ x ∷ [])) (q : Is R₂ y (val₂ y ∷ []))
          (t : Is R₃ z (val₃ z ∷ [])) (u : Is R₄ w (val₄ w ∷ [])) where
        abbrev a : Args ended.signature tt
        a = (x, (y, (z, (w, tt))))

        abbrev at : Vals ended.signature tt
        at = (val₁ x ∷ [], (val₂ y ∷ [], (val₃ z ∷ [], (val₄ w ∷ [], tt))))

        abbrev v : Val
        v = vstruct (vcons (val₁ x) (vcons (val₂ y) (vcons (val₃ z) (vcons (val₄ w) vnil))))

        abbrev Post : Val → SProp 𝓤
        Post = (walk_of 𝓛 ended stayed (clauses 𝓤)).post ((tt, tt, tt, a, at), tt)

        exits : ent 𝓤 (emp 𝓤) (Post v)
        exits =
            qed 𝓛 [] ∵
            suffices ! _ (ends_at 𝓛 ended stayed (clauses 𝓤) ((tt, tt, tt, a, at), tt) v (make x y z w)
            (last _ r₁.still x, (last _ r₂.still y, (last _ r₃.still z, (last _ r₄.still w, tt)))) (tt, (tt, (tt, (tt, tt))))) $ says ! refl $
            owned ! (row T) (Is (row T)) (s.makes 𝓛) (make x y z w) _ (made x y z w p q t u) $ nothing ! $ nothing ! $ fjoin ! $ nothing ! $ fjoin ! $ nothing ! $
            fjoin ! $ nothing ! $ fjoin ! $ nothing ! $ done !

        walk : (C : Calls 𝓤 H) (Λ : Loops 𝓤 H) →
            ent 𝓤 (on_entry 𝓛 ended.signature tt tt a at) (WpFn 𝓤 H C Λ f (val₁ x ∷ val₂ y ∷ val₃ z ∷ val₄ w ∷ []) Post)
        walk C Λ =
            qed 𝓛 (‵ ftrue ∷ ‵ (owns (R₁ ∷ R₂ ∷ R₃ ∷ R₄ ∷ []) a at) ∷ []) ∵ keep ! [] $ enter ! C Λ f (val₁ x ∷ val₂ y ∷ val₃ z ∷ val₄ w ∷ []) _ $
            alloc1 ! (λ l₀. alloc1 ! (λ l₁. alloc1 ! (λ l₂. alloc1 ! (λ l₃. alloc1 ! (λ l₄. alloc0 ! $ params1 ! $
            pass1 ! (init ! 6 refl (r₁.typed 𝓛 x _ p)) $ pass1 ! (init ! 4 refl (r₂.typed 𝓛 y _ q)) $
            pass1 ! (init ! 2 refl (r₃.typed 𝓛 z _ t)) $ pass1 ! (init ! 0 refl (r₄.typed 𝓛 w _ u)) $ pass0 ! $
            assigns ! (agg ! (and_then ! (load ! (from ! (stop !)) (look ! 6 refl)) (and_then ! (load ! (from ! (stop !)) (look ! 4 refl))
            (and_then ! (load ! (from ! (stop !)) (look ! 2 refl)) (and_then ! (load ! (from ! (stop !)) (look ! 0 refl)) (no_more !))))))
            (from ! (stop !)) (init ! 8 refl (s.typed 𝓛 (make x y z w) _ (made x y z w p q t u))) $
            returns ! (look ! 8 refl) $ forget ! 0 refl $ forget ! 2 refl $ forget ! 4 refl $ forget ! 6 refl $ forget ! 8 refl $
            move ! (8 ∷ 9 ∷ []) $ free1 ! $ move ! (6 ∷ 7 ∷ []) $ free1 ! $ move ! (4 ∷ 5 ∷ []) $ free1 ! $
            move ! (2 ∷ 3 ∷ []) $ free1 ! $ free1 ! $ free0 ! $ by ! exits)))))

      pub makes : (𝓣 : Tables 𝓤 H) → Meets 𝓛 ended.signature (WpFn 𝓤 H 𝓣.C 𝓣.Λ f) (closing 𝓛 ended (clauses 𝓤))
      makes 𝓣 =
          walk_Meets 𝓛 ended stayed (
            Goes-dropped 𝓛 0 (plain (λ _. R₁)) yes (λ κs. silent _ r₁.still),
            (
              Goes-dropped 𝓛 0 (plain (λ _. R₂)) yes (λ κs. silent _ r₂.still),
              (
                Goes-dropped 𝓛 0 (plain (λ _. R₃)) yes (λ κs. silent _ r₃.still),
                (Goes-dropped 𝓛 0 (plain (λ _. R₄)) yes (λ κs. silent _ r₄.still), tt),
              ),
            ),
          )
          (clauses 𝓤) (WpFn 𝓤 H 𝓣.C 𝓣.Λ f) (WpFn-mono 𝓤 H 𝓛.laws 𝓣 f)
          (walked 𝓛 ended stayed (clauses 𝓤) (WpFn 𝓤 H 𝓣.C 𝓣.Λ f)
          (λ κs. ((λ x. val₁ x ∷ []), ((λ y. val₂ y ∷ []), ((λ z. val₃ z ∷ []), ((λ w. val₄ w ∷ []), tt))))) (λ κs. (r₁.tells, (r₂.tells, (r₃.tells, (r₄.tells, tt)))))
          (λ κs qs bounds a g are. via 𝓤 _ (fst∗ 𝓤 _ (emp 𝓤))
          (walk a.0 a.1.0 a.1.1.0 a.1.1.1.0 are.0 are.1.0 are.1.1.0 are.1.1.1.0 𝓣.C 𝓣.Λ)))
