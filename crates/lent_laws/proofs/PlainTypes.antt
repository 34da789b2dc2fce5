-- Plain types, with what the check proves of them: numbers, bools, floats, structs and enums, with no reference inside.
--     PlainType        `of_struct`, `of_enum`, `of_u8`
--     Two, two_laws    a declared struct of two fields, and its laws from what the check proves of it
--     Answer, answer_laws    a declared enum of two variants with a field each, as Result<T, E> is, likewise
--     Five             a declared struct of five fields
use mathlib.Core.Path.{refl}
use mathlib.Core.Logic.{◌⊎◌, inl, inr}
use lib.Dec.{lit<}
use Prim.Native.Nat.{ℕ}
use mathlib.Core.List.{[], ◌∷◌, List}
use seplogic.Ra.Ura.{Ura}
use mir.Syntax.{Sym, Ty, ty_struct, ty_enum, tcons, tnil, ttcons, ttnil, Written, w8, ty_int}
use mir.Val.{Val, vint, vstruct, vcons, vnil}
use base.Fml.{Fml, Lft}
use base.Stored.{Coded}
use types.Logic.{Logic}
use types.Run.{first}
use types.Match.{live}
use denote.RattleType.{RattleType}
use denote.Laws.{Is, Typed, Tells, Makes, Lawful, Copy}
use denote.Exit.{unchanged}
use denote.Opens.{Opens}
use denote.Copied.{uint_Copied}
use denote.Builtin.{u8}
use denote.Plain.{uint_Tells, uint_Lawful, uint_Makes, uint_copy}
use denote.Struct.Struct.{Plains, layout}
use denote.Struct.Declared.{Declared, fields, shape, row as struct_row}
use denote.Struct.Laws as Struct
use denote.Enum.Enum.{Plainss, Few, layout as enum_layout}
use denote.Enum.Declared as enum
use denote.Enum.Laws as Enum

-- a plain type of one machine value: the row's fields but for `exit`, which says nothing
pub record Shape : Type 2 where
  pub X : Type 0
  pub τ : Ty
  pub written : Written
  pub reaches : List (Written × List Ty)
  pub lives : Lft
  pub own : X → List Val → Fml
  pub coded : Coded X
  pub shr_at : X → ℕ → ℕ → Lft → Fml

abbrev pub row_of : Shape → RattleType
row_of S = record { Denot = S.X; mir = S.τ ∷ []; written = S.written; reaches = S.reaches; lives = S.lives; own_val = S.own; exit = λ k. unchanged; coded = S.coded; shr_at = S.shr_at }

pub record PlainType : Type 2 where
  pub shape : Shape
  pub val : shape.X → Val
  pub tells : Tells (row_of shape) (Is (row_of shape)) (λ x. val x ∷ [])
  pub lawful : {M : Type 1} {𝓤 : Ura M} (𝓛 : Logic 𝓤) → Lawful 𝓛 (row_of shape)
  pub makes : {M : Type 1} {𝓤 : Ura M} (𝓛 : Logic 𝓤) → Makes 𝓛 (row_of shape) (Is (row_of shape))
  pub copies : {M : Type 1} {𝓤 : Ura M} (𝓛 : Logic 𝓤) → Copy 𝓛 (row_of shape)
  -- a `&` to it is looked into
  pub opens : {M : Type 1} {𝓤 : Ura M} (𝓛 : Logic 𝓤) → Opens 𝓛 (row_of shape)

-- a declared struct, from what the check makes of it: `of_struct S.the_type S'.the_laws S'.the_plain S'.the_copy`
abbrev pub of_struct : (T : Declared) → Struct.Laws T → Plains (fields T) → Struct.Copyables T.parts → PlainType
of_struct T L pl cs = record {
  shape = record { X = T.D; τ = layout (shape T); written = (struct_row T).written; reaches = (struct_row T).reaches; lives = (struct_row T).lives; own = (struct_row T).own_val; coded = (struct_row T).coded; shr_at = (struct_row T).shr_at };
  val = Struct.val T L;
  tells = Struct.tells T L;
  lawful = λ 𝓛. record { typed = (Struct.lawful T L 𝓛).typed };
  makes = λ 𝓛. Struct.makes T pl 𝓛;
  copies = λ 𝓛. record { twice = (Struct.copy T cs 𝓛).twice };
  opens = λ 𝓛. (Struct.copied T cs 𝓛).opens;
}

-- a declared enum, likewise
abbrev pub of_enum : (T : enum.Declared) → Enum.Laws T → Few (enum.shape T) → Plainss (enum.variants T) → Enum.Copyabless T.parts → PlainType
of_enum T L few pl cs = record {
  shape = record { X = T.D; τ = enum_layout (enum.shape T); written = (enum.row T).written; reaches = (enum.row T).reaches; lives = (enum.row T).lives; own = (enum.row T).own_val; coded = (enum.row T).coded; shr_at = (enum.row T).shr_at };
  val = Enum.val T L;
  tells = Enum.tells T L;
  lawful = λ 𝓛. record { typed = (Enum.lawful T L 𝓛 few).typed };
  makes = λ 𝓛. Enum.makes T pl 𝓛;
  copies = λ 𝓛. record { twice = (Enum.copy T cs 𝓛).twice };
  opens = λ 𝓛. (Enum.copied T cs 𝓛).opens;
}

abbrev pub of_u8 : PlainType
of_u8 = record {
  shape = record { X = ℕ; τ = ty_int w8; written = u8.written; reaches = u8.reaches; lives = u8.lives; own = u8.own_val; coded = u8.coded; shr_at = u8.shr_at };
  val = vint w8;
  tells = uint_Tells w8;
  lawful = λ 𝓛. uint_Lawful 𝓛 w8;
  makes = λ 𝓛. uint_Makes 𝓛 w8;
  copies = λ 𝓛. uint_copy 𝓛 w8;
  opens = λ 𝓛. (uint_Copied 𝓛 w8).opens;
}

abbrev pub row : PlainType → RattleType
row S = row_of S.shape

abbrev pub Data : PlainType → Type 0
Data S = S.shape.X

-- 0 is a u8
pub is_0 : Is (row of_u8) 0 (of_u8.val 0 ∷ [])
is_0 = (refl, lit< tt)

-- a declared struct of two plain fields
pub record Two (S N : PlainType) : Type 2 where
  pub name : Sym
  pub X : Type 0
  pub first : X → Data S
  pub second : X → Data N
  pub written : Written
  pub reaches : List (Written × List Ty)
  pub lives : Lft
  pub own : X → List Val → Fml
  pub coded : Coded X
  pub shr_at : X → ℕ → ℕ → Lft → Fml

-- of a declared struct T, by its two fields
abbrev pub two_of : (S N : PlainType) (T : Declared) → (T.D → Data S) → (T.D → Data N) → Two S N
two_of S N T first second = record { name = T.name; X = T.D; first = first; second = second; written = (struct_row T).written; reaches = (struct_row T).reaches; lives = (struct_row T).lives; own = (struct_row T).own_val; coded = (struct_row T).coded; shr_at = (struct_row T).shr_at }

module _ (S N : PlainType) (P : Two S N) where
  abbrev pub two_shape : Shape
  two_shape = record { X = P.X; τ = ty_struct P.name (tcons S.shape.τ (tcons N.shape.τ tnil)); written = P.written; reaches = P.reaches; lives = P.lives; own = P.own; coded = P.coded; shr_at = P.shr_at }

  abbrev pub two_val : P.X → Val
  two_val x = vstruct (vcons (S.val (P.first x)) (vcons (N.val (P.second x)) vnil))

  -- what is proved of it, with the relation of each field
  pub record TwoLaws : Type 2 where
    pub tells : Tells (row_of two_shape) (Is (row_of two_shape)) (λ x. two_val x ∷ [])
    pub lawful : {M : Type 1} {𝓤 : Ura M} (𝓛 : Logic 𝓤) → Lawful 𝓛 (row_of two_shape)
    pub is_first : (x : P.X) (vs : List Val) → Is (row_of two_shape) x vs → Is (row S) (P.first x) (S.val (P.first x) ∷ [])
    pub is_second : (x : P.X) (vs : List Val) → Is (row_of two_shape) x vs → Is (row N) (P.second x) (N.val (P.second x) ∷ [])

-- from what the check proves of a declared struct T: `two_laws S N T first second (Struct.tells T L) (λ M 𝓛. (Struct.lawful T L 𝓛).typed) (Struct.owed T L)`
module _ (S N : PlainType) (T : Declared) (first : T.D → Data S) (second : T.D → Data N) where
  abbrev of_two : RattleType
  of_two = row_of (two_shape S N (two_of S N T first second))

  abbrev pub two_laws : Tells of_two (Is of_two) (λ x. two_val S N (two_of S N T first second) x ∷ [])
      → ((M : Type 1) (𝓤 : Ura M) (𝓛 : Logic 𝓤) → (x : T.D) (vs : List Val) → Is of_two x vs → Typed of_two.mir vs)
      → ((x : T.D) (vs : List Val) → Is of_two x vs → Is (row S) (first x) (S.val (first x) ∷ []) × (Is (row N) (second x) (N.val (second x) ∷ []) × Unit {0}))
      → TwoLaws S N (two_of S N T first second)
  two_laws tells typed owed = record {
    tells = tells;
    lawful = λ {𝓤 = 𝓤} 𝓛. record { typed = typed _ 𝓤 𝓛 };
    is_first = λ x vs is. (owed x vs is).0;
    is_second = λ x vs is. (owed x vs is).1.0;
  }

-- a declared enum of two variants with one plain field each
pub record Answer (S N : PlainType) : Type 2 where
  pub name : Sym
  pub X : Type 0
  -- which variant a value is, with what that holds
  pub holds : X → Data S ⊎ Data N
  pub written : Written
  pub reaches : List (Written × List Ty)
  pub lives : Lft
  pub own : X → List Val → Fml
  pub coded : Coded X
  pub shr_at : X → ℕ → ℕ → Lft → Fml

-- of a declared enum T, by what its values hold
abbrev pub answer_of : (S N : PlainType) (T : enum.Declared) → (T.D → Data S ⊎ Data N) → Answer S N
answer_of S N T holds = record { name = T.name; X = T.D; holds = holds; written = (enum.row T).written; reaches = (enum.row T).reaches; lives = (enum.row T).lives; own = (enum.row T).own_val; coded = (enum.row T).coded; shr_at = (enum.row T).shr_at }

module _ (S N : PlainType) where
  abbrev pub answer_ty : Sym → Ty
  answer_ty ν = ty_enum ν (ttcons (tcons S.shape.τ tnil) (ttcons (tcons N.shape.τ tnil) ttnil))

  -- the machine value, by the variant: its number and its field
  abbrev pub held_val : Data S ⊎ Data N → Val
  held_val (inl a) = live 0 (vcons (S.val a) vnil)
  held_val (inr b) = live 1 (vcons (N.val b) vnil)

  -- the relation of the field, by the variant
  abbrev pub HeldIs : Data S ⊎ Data N → Type 0
  HeldIs (inl a) = Is (row S) a (S.val a ∷ [])
  HeldIs (inr b) = Is (row N) b (N.val b ∷ [])

module _ (S N : PlainType) (P : Answer S N) where
  abbrev pub answer_shape : Shape
  answer_shape = record { X = P.X; τ = answer_ty S N P.name; written = P.written; reaches = P.reaches; lives = P.lives; own = P.own; coded = P.coded; shr_at = P.shr_at }

  abbrev pub answer_val : P.X → Val
  answer_val x = held_val S N (P.holds x)

  -- what is proved of it, with the relation of the field
  pub record AnswerLaws : Type 2 where
    pub tells : Tells (row_of answer_shape) (Is (row_of answer_shape)) (λ x. answer_val x ∷ [])
    pub lawful : {M : Type 1} {𝓤 : Ura M} (𝓛 : Logic 𝓤) → Lawful 𝓛 (row_of answer_shape)
    pub is_held : (x : P.X) (vs : List Val) → Is (row_of answer_shape) x vs → HeldIs S N (P.holds x)

-- from what the check proves of a declared enum T: `answer_laws S N T holds tells (λ M 𝓤 𝓛. (Enum.lawful T L 𝓛 few).typed) owed`. Of these `holds`, an abbrev, `tells` and `owed` have a clause for each of its two
-- constructors: `tells` is there `Enum.tells T L x`, and `owed` is `λ vs is. (Enum.owed T L x vs is).0`
module _ (S N : PlainType) (T : enum.Declared) (holds : T.D → Data S ⊎ Data N) where
  abbrev of_answer : RattleType
  of_answer = row_of (answer_shape S N (answer_of S N T holds))

  abbrev pub answer_laws : Tells of_answer (Is of_answer) (λ x. answer_val S N (answer_of S N T holds) x ∷ [])
      → ((M : Type 1) (𝓤 : Ura M) (𝓛 : Logic 𝓤) → (x : T.D) (vs : List Val) → Is of_answer x vs → Typed of_answer.mir vs)
      → ((x : T.D) (vs : List Val) → Is of_answer x vs → HeldIs S N (holds x))
      → AnswerLaws S N (answer_of S N T holds)
  answer_laws tells typed owed = record {
    tells = tells;
    lawful = λ {𝓤 = 𝓤} 𝓛. record { typed = typed _ 𝓤 𝓛 };
    is_held = owed;
  }

-- a declared struct of five plain fields
pub record Five (P₀ P₁ P₂ P₃ L : PlainType) : Type 2 where
  pub name : Sym
  pub X : Type 0
  pub part₀ : X → Data P₀
  pub part₁ : X → Data P₁
  pub part₂ : X → Data P₂
  pub part₃ : X → Data P₃
  pub last : X → Data L
  pub make : Data P₀ → Data P₁ → Data P₂ → Data P₃ → Data L → X
  pub written : Written
  pub reaches : List (Written × List Ty)
  pub lives : Lft
  pub own : X → List Val → Fml
  pub coded : Coded X
  pub shr_at : X → ℕ → ℕ → Lft → Fml

module _ (P₀ P₁ P₂ P₃ L : PlainType) (F : Five P₀ P₁ P₂ P₃ L) where
  abbrev pub five_shape : Shape
  five_shape = record {
    X = F.X;
    τ = ty_struct F.name (tcons P₀.shape.τ (tcons P₁.shape.τ (tcons P₂.shape.τ (tcons P₃.shape.τ (tcons L.shape.τ tnil)))));
    written = F.written;
    reaches = F.reaches;
    lives = F.lives;
    own = F.own;
    coded = F.coded;
    shr_at = F.shr_at;
  }

  abbrev pub five_val : Data P₀ → Data P₁ → Data P₂ → Data P₃ → Data L → Val
  five_val a₀ a₁ a₂ a₃ e = vstruct (vcons (P₀.val a₀) (vcons (P₁.val a₁) (vcons (P₂.val a₂) (vcons (P₃.val a₃) (vcons (L.val e) vnil)))))

  -- what is proved of it, with the relation of each field
  pub record FiveLaws : Type 2 where
    pub tells : Tells (row_of five_shape) (Is (row_of five_shape)) (λ x. five_val (F.part₀ x) (F.part₁ x) (F.part₂ x) (F.part₃ x) (F.last x) ∷ [])
    pub makes : {M : Type 1} {𝓤 : Ura M} (𝓛 : Logic 𝓤) → Makes 𝓛 (row_of five_shape) (Is (row_of five_shape))
    pub is_part₀ : (x : F.X) (vs : List Val) → Is (row_of five_shape) x vs → Is (row P₀) (F.part₀ x) (P₀.val (F.part₀ x) ∷ [])
    pub is_part₁ : (x : F.X) (vs : List Val) → Is (row_of five_shape) x vs → Is (row P₁) (F.part₁ x) (P₁.val (F.part₁ x) ∷ [])
    pub is_part₂ : (x : F.X) (vs : List Val) → Is (row_of five_shape) x vs → Is (row P₂) (F.part₂ x) (P₂.val (F.part₂ x) ∷ [])
    pub is_part₃ : (x : F.X) (vs : List Val) → Is (row_of five_shape) x vs → Is (row P₃) (F.part₃ x) (P₃.val (F.part₃ x) ∷ [])
    pub is_last : (x : F.X) (vs : List Val) → Is (row_of five_shape) x vs → Is (row L) (F.last x) (L.val (F.last x) ∷ [])
    pub is_made : (a₀ : Data P₀) (a₁ : Data P₁) (a₂ : Data P₂) (a₃ : Data P₃) (e : Data L) → Is (row P₀) a₀ (P₀.val a₀ ∷ []) → Is (row P₁) a₁ (P₁.val a₁ ∷ []) → Is (row P₂) a₂ (P₂.val a₂ ∷ [])
        → Is (row P₃) a₃ (P₃.val a₃ ∷ []) → Is (row L) e (L.val e ∷ []) → Is (row_of five_shape) (F.make a₀ a₁ a₂ a₃ e) (five_val a₀ a₁ a₂ a₃ e ∷ [])
