-- A function that makes a struct of its one parameter: a walk of that MIR, once, for every struct of plain data.
use mathlib.Core.Path.{◌≡◌, refl}
use mathlib.Core.List.{[], ◌∷◌}
use seplogic.Ra.Ura.{Ura}
use mir.Syntax.{Ty, local, value_local, Fn, place, copy, aggregate, assign, seq, return}
use mir.Val.{Val, vstruct, vcons, vnil}
use base.Logic.{SProp, ent, emp, via, fst∗}
use base.Fml.{ftrue}
use prog.Wp.{Calls, Loops, WpFn, Tables}
use types.Logic.{Logic}
use contract.Monad.{fact}
use types.Kit.{‵, ◌$◌, ◌∵◌, !, qed, by, move, keep, fjoin, suffices, done}
use types.Run.{look, init, forget, stop, from, load, and_then, no_more, assigns}
use types.Run.{returns, enter, alloc1, alloc0, params1, pass1, pass0, free1, free0}
use types.Part.{agg}
use sound.WpLaws.{WpFn-mono}
use denote.RattleType.{RattleType, owns}
use denote.Laws.{Is}
use denote.Signature.{plain}
use denote.Steps.{owned, nothing}
use denote.Exit.{yes}
use denote.Struct.Declared.{Declared, fields, shape, row}
use denote.Struct.Laws as LL
use denote.Struct.Struct.{Plains, layout}
use denote.Triple.Entry.{on_entry}
use denote.Triple.Spec.{Meets}
use denote.Triple.Clauses.{Ended, Clauses, closing}
use denote.Triple.Walked.{says, Stays, stay_dropped, walk_of, Goes-dropped, ends_at, walked, walk_Meets}
use Rattle.nested.proofs.Rows.{Data, last, silent, struct_data}

-- what such a function is in MIR
abbrev pub making : Ty → Ty → Fn
making σ τ = record {
  lifetimes = 0;
  outlives = [];
  ty_params = [];
  givens = 0;
  params = 1;
  locals = local σ value_local ∷ local τ value_local ∷ [];
  body = seq (assign (place 0 []) (aggregate (copy (place 1 []) ∷ []))) return;
}

module _ (T : Declared) (L : LL.Laws T) (pl : Plains (fields T)) (cs : LL.Copyables T.parts) (R : RattleType)
    (make : R.Denot → T.D) where
  abbrev pub ended : Ended
  ended = record {
    signature = record { lifetimes = 0; outlives = []; params = plain (λ _. R) ∷ []; result = plain (λ _. row T) };
    kept = (yes, tt);
  }

  abbrev stayed : Stays ended.signature.params ended.kept
  stayed = (stay_dropped (plain (λ _. R)) yes, tt)

  abbrev pub clauses : {M : Type 1} (𝓤 : Ura M) → Clauses 𝓤 ended
  clauses 𝓤 κs a = record { ghost = Unit {0}; requires = λ _. emp 𝓤; ensures = λ _ q _. fact 𝓤 (q ≡ make a.0) }

  s : Data (row T) (layout (shape T)) (LL.val T L)
  s = struct_data T L pl cs

  module _ (τ : Ty) (val : R.Denot → Val) (r : Data R τ val)
      (made : (x : R.Denot) → Is R x (val x ∷ []) → Is (row T) (make x) (vstruct (vcons (val x) vnil) ∷ [])) where
    abbrev f : Fn
    f = making (layout (shape T)) τ

    module _ {M : Type 1} {𝓤 : Ura M} (𝓛 : Logic 𝓤) where
      open 𝓛 use {H}

      module _ (x : R.Denot) (is : Is R x (val x ∷ [])) where
        abbrev Post : Val → SProp 𝓤
        Post = (walk_of 𝓛 ended stayed (clauses 𝓤)).post ((tt, tt, tt, (x, tt), (val x ∷ [], tt)), tt)

        exits : ent 𝓤 (emp 𝓤) (Post (vstruct (vcons (val x) vnil)))
        exits =
            qed 𝓛 [] ∵
            suffices ! _ (ends_at 𝓛 ended stayed (clauses 𝓤) ((tt, tt, tt, (x, tt), (val x ∷ [], tt)), tt)
            (vstruct (vcons (val x) vnil)) (make x) (last _ r.still x, tt) (tt, tt)) $ says ! refl $
            owned ! (row T) (Is (row T)) (s.makes 𝓛) (make x) _ (made x is) $ nothing ! $ nothing ! $ fjoin ! $ nothing ! $ done !

        walk : (C : Calls 𝓤 H) (Λ : Loops 𝓤 H) →
            ent 𝓤 (on_entry 𝓛 ended.signature tt tt (x, tt) (val x ∷ [], tt)) (WpFn 𝓤 H C Λ f (val x ∷ []) Post)
        walk C Λ =
            qed 𝓛 (‵ ftrue ∷ ‵ (owns (R ∷ []) (x, tt) (val x ∷ [], tt)) ∷ []) ∵ keep ! [] $ enter ! C Λ f (val x ∷ []) _ $
            alloc1 ! (λ l₀. alloc1 ! (λ l₁. alloc0 ! $ params1 ! $ pass1 ! (init ! 0 refl (r.typed 𝓛 x _ is)) $ pass0 ! $
            assigns ! (agg ! (and_then ! (load ! (from ! (stop !)) (look ! 0 refl)) (no_more !))) (from ! (stop !))
            (init ! 2 refl (s.typed 𝓛 (make x) _ (made x is))) $
            returns ! (look ! 2 refl) $ forget ! 0 refl $ forget ! 2 refl $ move ! (2 ∷ 3 ∷ []) $ free1 ! $ free1 ! $ free0 ! $ by ! exits))

      pub makes : (𝓣 : Tables 𝓤 H) → Meets 𝓛 ended.signature (WpFn 𝓤 H 𝓣.C 𝓣.Λ f) (closing 𝓛 ended (clauses 𝓤))
      makes 𝓣 =
          walk_Meets 𝓛 ended stayed (Goes-dropped 𝓛 0 (plain (λ _. R)) yes (λ κs. silent _ r.still), tt) (clauses 𝓤)
          (WpFn 𝓤 H 𝓣.C 𝓣.Λ f) (WpFn-mono 𝓤 H 𝓛.laws 𝓣 f)
          (walked 𝓛 ended stayed (clauses 𝓤) (WpFn 𝓤 H 𝓣.C 𝓣.Λ f) (λ κs. ((λ x. val x ∷ []), tt)) (λ κs. (r.tells, tt))
          (λ κs qs bounds a g are. via 𝓤 _ (fst∗ 𝓤 _ (emp 𝓤)) (walk a.0 are.0 𝓣.C 𝓣.Λ)))
