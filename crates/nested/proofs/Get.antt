-- A function that takes a struct of plain data and returns its field number k: a walk of that MIR, once, for every such struct.
use mathlib.Core.Path.{◌≡◌, refl}
use Prim.Native.Nat.{ℕ, zero}
use mathlib.Core.List.{[], ◌∷◌}
use mathlib.Core.Option.{some}
use seplogic.Ra.Ura.{Ura}
use mir.Syntax.{Ty, local, value_local, Fn, place, field, copy, rv_opd, assign, seq, return}
use mir.Val.{Val, Vals, vstruct, of_list}
use mir.Fields.{get_v}
use base.Logic.{SProp, ent, emp, via, fst∗}
use base.Fml.{ftrue}
use prog.Memory.{field_at}
use prog.Wp.{Calls, Loops, WpFn, Tables}
use types.Logic.{Logic}
use contract.Monad.{fact}
use types.Kit.{‵, ◌$◌, ◌∵◌, !, qed, by, move, keep, fjoin, suffices, done}
use types.Run.{look, init, forget, stop, fld, from, load, of_opd, assigns, returns}
use types.Run.{enter, alloc1, alloc0, params1, pass1, pass0, free1, free0}
use types.Part.{whole, sub, look_in}
use sound.WpLaws.{WpFn-mono}
use denote.RattleType.{RattleType, mirs, flat, owns}
use denote.Laws.{Is, valss}
use denote.Signature.{plain}
use denote.Steps.{owned, nothing}
use denote.Exit.{yes}
use denote.Struct.Declared.{Declared, fields, shape, row}
use denote.Struct.Laws as LL
use denote.Struct.Struct.{Plains, AreAll, to_tys, layout}
use denote.Triple.Entry.{on_entry}
use denote.Triple.Spec.{Meets}
use denote.Triple.Clauses.{Ended, Clauses, closing}
use denote.Triple.Walked.{says, Stays, stay_dropped, walk_of, Goes-dropped, ends_at, walked, walk_Meets}
use Rattle.nested.proofs.Rows.{Data, last, silent, struct_data}

-- what such a function is in MIR
abbrev pub reading : Ty → Ty → ℕ → Fn
reading τ σ k = record {
  lifetimes = 0;
  outlives = [];
  ty_params = [];
  givens = 0;
  params = 1;
  locals = local τ value_local ∷ local σ value_local ∷ [];
  body = seq (assign (place 0 []) (rv_opd (copy (place 1 (field k ∷ []))))) return;
}

module _ (T : Declared) (L : LL.Laws T) (pl : Plains (fields T)) (cs : LL.Copyables T.parts) (R : RattleType)
    (get : T.D → R.Denot) where
  abbrev pub ended : Ended
  ended = record {
    signature = record { lifetimes = 0; outlives = []; params = plain (λ _. row T) ∷ []; result = plain (λ _. R) };
    kept = (yes, tt);
  }

  abbrev stayed : Stays ended.signature.params ended.kept
  stayed = (stay_dropped (plain (λ _. row T)) yes, tt)

  abbrev pub clauses : {M : Type 1} (𝓤 : Ura M) → Clauses 𝓤 ended
  clauses 𝓤 κs a = record { ghost = Unit {0}; requires = λ _. emp 𝓤; ensures = λ _ r _. fact 𝓤 (r ≡ get a.0) }

  s : Data (row T) (layout (shape T)) (LL.val T L)
  s = struct_data T L pl cs

  -- the fields' machine values
  abbrev vs : T.D → Vals
  vs h = of_list (flat (fields T) (valss (fields T) (LL.spells T.parts L) (T.to h)))

  module _ (k : ℕ) (τ : Ty) (d : ℕ) (at : field_at zero (to_tys (mirs (fields T))) k ≡ some (τ, d)) (val : R.Denot → Val) (r : Data R τ val)
      (held : (h : T.D) → AreAll (fields T) (T.to h) (valss (fields T) (LL.spells T.parts L) (T.to h)) →
      Is R (get h) (get_v (vs h) k ∷ [])) where
    abbrev f : Fn
    f = reading τ (layout (shape T)) k

    module _ {M : Type 1} {𝓤 : Ura M} (𝓛 : Logic 𝓤) where
      open 𝓛 use {H}

      module _ (h : T.D) (is : Is (row T) h (vstruct (vs h) ∷ [])) where
        got : Is R (get h) (get_v (vs h) k ∷ [])
        got = held h (LL.owed T L h _ is)

        abbrev Post : Val → SProp 𝓤
        Post = (walk_of 𝓛 ended stayed (clauses 𝓤)).post ((tt, tt, tt, (h, tt), (vstruct (vs h) ∷ [], tt)), tt)

        exits : ent 𝓤 (emp 𝓤) (Post (get_v (vs h) k))
        exits =
            qed 𝓛 [] ∵
            suffices ! _ (ends_at 𝓛 ended stayed (clauses 𝓤) ((tt, tt, tt, (h, tt), (vstruct (vs h) ∷ [], tt)), tt) (get_v (vs h) k)
            (get h) (last _ s.still h, tt) (tt, tt)) $ says ! refl $
            owned ! R (Is R) (r.makes 𝓛) (get h) _ got $ nothing ! $ nothing ! $ fjoin ! $ nothing ! $ done !

        walk : (C : Calls 𝓤 H) (Λ : Loops 𝓤 H) →
            ent 𝓤 (on_entry 𝓛 ended.signature tt tt (h, tt) (vstruct (vs h) ∷ [], tt)) (WpFn 𝓤 H C Λ f (vstruct (vs h) ∷ []) Post)
        walk C Λ =
            qed 𝓛 (‵ ftrue ∷ ‵ (owns (row T ∷ []) (h, tt) (vstruct (vs h) ∷ [], tt)) ∷ []) ∵ keep ! [] $
            enter ! C Λ f (vstruct (vs h) ∷ []) _ $
            alloc1 ! (λ l₀. alloc1 ! (λ l₁. alloc0 ! $ params1 ! $ pass1 ! (init ! 0 refl (s.typed 𝓛 h _ is)) $ pass0 ! $
            assigns ! (of_opd ! (load ! (from ! (fld ! at (stop !))) (look_in ! 0 (sub ! k at (whole !))))) (from ! (stop !))
            (init ! 2 refl (r.typed 𝓛 (get h) _ got)) $
            returns ! (look ! 2 refl) $ forget ! 0 refl $ forget ! 2 refl $ move ! (2 ∷ 3 ∷ []) $ free1 ! $ free1 ! $ free0 ! $ by ! exits))

      pub gets : (𝓣 : Tables 𝓤 H) → Meets 𝓛 ended.signature (WpFn 𝓤 H 𝓣.C 𝓣.Λ f) (closing 𝓛 ended (clauses 𝓤))
      gets 𝓣 =
          walk_Meets 𝓛 ended stayed (Goes-dropped 𝓛 0 (plain (λ _. row T)) yes (λ κs. silent _ s.still), tt) (clauses 𝓤)
          (WpFn 𝓤 H 𝓣.C 𝓣.Λ f) (WpFn-mono 𝓤 H 𝓛.laws 𝓣 f)
          (walked 𝓛 ended stayed (clauses 𝓤) (WpFn 𝓤 H 𝓣.C 𝓣.Λ f) (λ κs. ((λ h. vstruct (vs h) ∷ []), tt)) (λ κs. (s.tells, tt))
          (λ κs qs bounds a g are. via 𝓤 _ (fst∗ 𝓤 _ (emp 𝓤)) (walk a.0 are.0 𝓣.C 𝓣.Λ)))
