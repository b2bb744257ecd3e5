-- What a walk by hand asks of a type that is plain data and passed by value, and that an array of arrays has it.
use mathlib.Core.Path.{◌≡◌, refl, sym, subst}
use Prim.Native.Nat.{ℕ}
use mathlib.Core.List.{List, [], ◌∷◌, map}
use lib.Dec.{T as Holds}
use lib.ListN.{length-map}
use seplogic.Ra.Ura.{Ura}
use mir.Syntax.{Ty, ty_int, ty_bool, ty_array, w64}
use mir.Val.{Val, WT, has_ty, vint, vbool}
use base.Fml.{Fml, ftrue, fex, fsep, feq}
use types.Logic.{Logic}
use denote.RattleType.{RattleType}
use denote.Shadow.{shadow, Pure, makes_shadow}
use denote.Laws.{Is, Tells, Makes}
use denote.Array.{Array, each, array_val, in_array}
use denote.Builtin.{u8, u64, bool}
use denote.Exit.{yes, Exit, unchanged, Last, left, each_of}
use denote.Memory.{lone}
use denote.Plain.{uint_Tells, uint_Lawful, bool_Tells, bool_Lawful}
use denote.Struct.Declared.{Declared, fields, shape, row, field}
use denote.Struct.Field.{Field, array_field, u8-field}
use denote.Struct.Laws as LL
use denote.Struct.Laws.{FLaws, Laws, Plain, Copyables, array_laws, array_plain}
use denote.Struct.Struct.{Plains, layout}

-- of the row R: its MIR type and its machine value
pub record Data (R : RattleType) (τ : Ty) (val : R.Denot → Val) : Type 2 where
  pub tells : Tells R (Is R) (λ x. val x ∷ [])
  pub typed : {M : Type 1} {𝓤 : Ura M} (𝓛 : Logic 𝓤) → (x : R.Denot) (u : Val) → Is R x (u ∷ []) →
      Holds (has_ty τ u) × WT u
  pub makes : {M : Type 1} {𝓤 : Ura M} (𝓛 : Logic 𝓤) → Makes 𝓛 R (Is R)
  pub still : R.exit yes ≡ unchanged

-- nothing is bound of it at exit, and nothing said
pub last : {D : Type 0} (e : Exit D) → e ≡ unchanged → (x : D) → Last e x
last e s = subst (λ (f : Exit _). (x : _) → Last f x) (sym s) (λ x. tt)

pub silent : {D : Type 0} (e : Exit D) → e ≡ unchanged → (x : D) (w : Last e x) → left e x w ≡ ftrue
silent e s = subst (λ (f : Exit _). (x : _) (w : Last f x) → left f x w ≡ ftrue) (sym s) (λ x w. refl)

-- a struct of plain data, by its generated modules
pub struct_data : (T : Declared) (L : Laws T) → Plains (fields T) → Copyables T.parts → Data (row T) (layout (shape T)) (LL.val T L)
struct_data T L pl cs = record {
  tells = LL.tells T L;
  typed = λ 𝓛 x u is. ((LL.lawful T L 𝓛).typed x (u ∷ []) is).0;
  makes = LL.makes T pl;
  still = LL.still T cs yes;
}

pub u64_data : Data u64 (ty_int w64) (vint w64)
u64_data = record {
  tells = uint_Tells w64;
  typed = λ 𝓛 x u is. ((uint_Lawful 𝓛 w64).typed x (u ∷ []) is).0;
  makes = λ 𝓛 x vs is. makes_shadow 𝓛 (u64.own_val x vs) (tt, tt) is;
  still = refl;
}

pub bool_data : Data bool ty_bool vbool
bool_data = record {
  tells = bool_Tells;
  typed = λ 𝓛 x u is. ((bool_Lawful 𝓛).typed x (u ∷ []) is).0;
  makes = λ 𝓛 x vs is. makes_shadow 𝓛 (bool.own_val x vs) tt is;
  still = refl;
}

-- an array as a field stands at `map into` of the author's list, and as a parameter at the list itself: the two own the same
module _ (X D : Type 0) (into : X → D) (f : X → List Val → Fml) (g : D → List Val → Fml)
    (e : (x : X) (vs : List Val) → f x vs ≡ g (into x) vs) where
  each_same : (xs : List X) (us : List Val) → each X f xs us ≡ each D g (map into xs) us
  each_same [] [] = refl
  each_same [] (u ∷ us) = refl
  each_same (x ∷ xs) [] = refl
  each_same (x ∷ xs) (u ∷ us) = λ i. fsep (e x (u ∷ []) i) (each_same xs us i)

  array_same : (n : ℕ) (xs : List X) (vs : List Val) → in_array X f n xs vs ≡ in_array D g n (map into xs) vs
  array_same n xs vs =
      λ i. fex (List Val) (λ us. fsep (fsep (feq (List Val) vs (array_val us ∷ [])) (feq ℕ (sym (length-map xs into) i) n))
      (each_same xs us i))

-- an element: its field, with the laws, and its row as a parameter, which owns the same
pub record Element : Type 2 where
  pub field : Field
  pub laws : FLaws field
  pub plain : Plain field
  pub own_row : RattleType
  pub into : own_row.Denot → field.row.Denot
  pub same : (x : own_row.Denot) (vs : List Val) → own_row.own_val x vs ≡ field.row.own_val (into x) vs
  pub still : own_row.exit yes ≡ unchanged

abbrev pub u8_element : Element
u8_element =
    record { field = u8-field; laws = LL.u8-laws; plain = LL.u8-plain; own_row = u8; into = λ v. v; same = λ x vs. refl; still = refl }

abbrev pub struct_element : (T : Declared) → FLaws (field T) → Plain (field T) → Copyables T.parts → Element
struct_element T L pl cs =
    record { field = field T; laws = L; plain = pl; own_row = row T; into = T.to; same = λ x vs. refl; still = LL.still T cs yes }

-- n arrays of m elements
module _ (E : Element) (m n : ℕ) where
  abbrev pub Nested : RattleType
  Nested = Array (Array E.own_row m) n

  abbrev Held : Field
  Held = array_field (array_field E.field m) n

  abbrev law : FLaws Held
  law = array_laws (array_field E.field m) (array_laws E.field E.laws m) n

  abbrev within : Nested.Denot → Held.row.Denot
  within = map (map E.into)

  nested_same : (x : Nested.Denot) (vs : List Val) → Nested.own_val x vs ≡ Held.row.own_val (within x) vs
  nested_same =
      array_same _ _ (map E.into) (Array E.own_row m).own_val (Array E.field.row m).own_val
      (array_same _ _ E.into E.own_row.own_val E.field.row.own_val E.same m) n

  -- from the list to the field, and back
  pub into_field : (x : Nested.Denot) (vs : List Val) → Is Nested x vs → Is Held.row (within x) vs
  into_field x vs = subst shadow (nested_same x vs)

  pub from_field : (x : Nested.Denot) (vs : List Val) → Is Held.row (within x) vs → Is Nested x vs
  from_field x vs = subst shadow (sym (nested_same x vs))

  pub nested_data : Data Nested (ty_array (ty_array (lone E.field.row.mir) m) n) (λ x. law.val (within x))
  nested_data = record {
    tells = λ x vs is. law.tells (within x) vs (into_field x vs is);
    typed = λ 𝓛 x u is. ((law.lawful 𝓛).typed (within x) (u ∷ []) (into_field x (u ∷ []) is)).0;
    makes =
        λ 𝓛 x vs is. makes_shadow 𝓛 (Nested.own_val x vs)
        (subst Pure (sym (nested_same x vs))
        (array_plain (array_field E.field m) (array_plain E.field E.plain m) n (within x) vs)) is;
    still = λ i. each_of (each_of (E.still i));
  }
