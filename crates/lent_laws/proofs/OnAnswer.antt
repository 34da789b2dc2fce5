-- A `match` on a Result that stands in a local: where it is Ok an arm of the caller's runs; where it is an error, a function by value
-- tells its number (`on_answer`). Assumes nothing.
-- The marked part is written by tools/walks/write, from the names in OnAnswer.walk there.
use mathlib.Core.Path.{◌≡◌, refl, sym}
use mathlib.Core.Logic.{◌⊎◌, inl, inr}
use Prim.Native.Nat.{ℕ}
use native.Mathlib.Nat.{suc-ne-zero}
use mathlib.Core.List.{[], ◌∷◌, List}
use seplogic.Ra.Ura.{Ura}
use base.Fraction.{full_share}
use mir.Syntax.{Callee, Sym, Body as Code, w8, ty_int, place, field, variant, copy, rv_opd, seq, assign, call, switch, arm, no_default}
use mir.Val.{Val}
use base.Fml.{fat, froom}
use prog.Wp.{Env, next, spot_of, Calls, Loops}
use types.Logic.{Logic}
use types.Kit as Kit
use types.Kit.{Item, Sq, prop, runs, post, ‵, ◌$◌, !, move}
use types.Run.{look, init, stop, fld, load, and_then, no_more, of_opd, assigns, land_last}
use types.Part.{whole, look_in}
use types.Match.{vrt, in_variant, look_tag, by_variants}
use sound.WpLaws.{FmC}
use denote.Laws.{Is}
use denote.Triple.Statement.{Triple}
use Rattle.lent_laws.proofs.PlainTypes.{PlainType, of_u8, row, Data, HeldIs, answer_ty, held_val}
use Rattle.lent_laws.proofs.ByValue.{ByValue, calls_by_value_last}
use Rattle.lent_laws.proofs.RunPart.{at_local}

-- the Result stands in the local c. Its error is read into r, and what `tell` tells of it stands in n
abbrev tells_refusal : ℕ → ℕ → ℕ → Callee → Code
tells_refusal c r n tell = seq (assign (place r []) (rv_opd (copy (place c (variant 1 ∷ field 1 ∷ []))))) (call tell (copy (place r []) ∷ []) (place n []))

abbrev pub matches_answer : ℕ → ℕ → ℕ → Callee → Code → Code
matches_answer c r n tell ok = switch (copy (place c (variant 0 ∷ field 0 ∷ []))) (arm (0 ∷ []) ok (arm (1 ∷ []) (tells_refusal c r n tell) no_default))

module _ (S N : PlainType) {M : Type 1} {𝓤 : Ura M} (𝓛 : Logic 𝓤) {C : Calls 𝓤 𝓛.H} {Λ : Loops 𝓤 𝓛.H} (fm : FmC 𝓤 𝓛.H 𝓛.laws C) {E : Env 𝓤 𝓛.H} {q : Kit.Post 𝓤 𝓛.H}
    (Told : Data N → ℕ → Type 0) {tell : Callee} (known : Triple 𝓤 (C tell) (ByValue (N ∷ []) of_u8.shape (λ d. Told d.0) 𝓛)) {ν : Sym} {l lr ln : ℕ} {Γ : List (Item 𝓤)} where
  open 𝓛 use {H}

  -- [the Result; room for its error and for the number], and the same with both filled; the number is owned
  tell_refusal : (c r n : ℕ) → spot_of 𝓤 H E c ≡ (answer_ty S N ν, l, 0) → spot_of 𝓤 H E r ≡ (N.shape.τ, lr, 0) → spot_of 𝓤 H E n ≡ (ty_int w8, ln, 0) → (y : Data N) → Is (row N) y (N.val y ∷ [])
      → ((m : ℕ) (u : Val) → Told y m → Is (row of_u8) m (u ∷ []) → Sq 𝓛 (‵ ((row of_u8).own_val m (u ∷ [])) ∷ ‵ (fat full_share (answer_ty S N ν) l 0 (held_val S N (inr y))) ∷ ‵ (fat full_share N.shape.τ lr 0 (N.val y)) ∷ ‵ (fat full_share (ty_int w8) ln 0 u) ∷ Γ) (prop (post 𝓤 H q next)))
      → Sq 𝓛 (‵ (fat full_share (answer_ty S N ν) l 0 (held_val S N (inr y))) ∷ ‵ (froom N.shape.τ lr 0) ∷ ‵ (froom (ty_int w8) ln 0) ∷ Γ) (runs C Λ E (tells_refusal c r n tell) q)
  -- told: written by tools/walks/write
  tell_refusal c r n at_c at_r at_n y is_y then =
      assigns ! (of_opd ! (load ! (at_local at_c (vrt ! refl (fld ! refl (stop !)))) (look_in ! 0 (in_variant ! 1 0 refl refl (whole !))))) (at_local at_r (stop !))
      (init ! 1 refl ((N.lawful 𝓛).typed y _ is_y).0) $
      calls_by_value_last (N ∷ []) of_u8.shape (λ d. Told d.0) 𝓛 (y, tt) (is_y, tt) fm known (and_then ! (load ! (at_local at_r (stop !)) (look ! 2 refl)) (no_more !)) (λ m u told is.
      land_last ! (at_local at_n (stop !)) (init ! 3 refl ((of_u8.lawful 𝓛).typed m _ is).0) $
      then m u told is)

  -- told: end

  -- the variant's number is read, and the arm of that variant runs, knowing what the Result holds
  pub on_answer : {ok : Code} (c r n : ℕ) → spot_of 𝓤 H E c ≡ (answer_ty S N ν, l, 0) → spot_of 𝓤 H E r ≡ (N.shape.τ, lr, 0) → spot_of 𝓤 H E n ≡ (ty_int w8, ln, 0) → (s : Data S ⊎ Data N) → HeldIs S N s
      → ((x : Data S) → s ≡ inl x → Is (row S) x (S.val x ∷ []) → Sq 𝓛 (‵ (fat full_share (answer_ty S N ν) l 0 (held_val S N (inl x))) ∷ ‵ (froom N.shape.τ lr 0) ∷ ‵ (froom (ty_int w8) ln 0) ∷ Γ) (runs C Λ E ok q))
      → ((y : Data N) (m : ℕ) (u : Val) → s ≡ inr y → Told y m → Is (row of_u8) m (u ∷ []) → Sq 𝓛 (‵ ((row of_u8).own_val m (u ∷ [])) ∷ ‵ (fat full_share (answer_ty S N ν) l 0 (held_val S N (inr y))) ∷ ‵ (fat full_share N.shape.τ lr 0 (N.val y)) ∷ ‵ (fat full_share (ty_int w8) ln 0 u) ∷ Γ) (prop (post 𝓤 H q next)))
      → Sq 𝓛 (‵ (fat full_share (answer_ty S N ν) l 0 (held_val S N s)) ∷ ‵ (froom N.shape.τ lr 0) ∷ ‵ (froom (ty_int w8) ln 0) ∷ Γ) (runs C Λ E (matches_answer c r n tell ok) q)
  on_answer c r n at_c at_r at_n (inl x) is ok err = by_variants ! 0 (whole !) (load ! (at_local at_c (vrt ! refl (fld ! refl (stop !)))) (look_tag ! 0 (whole !))) tt ((λ _. ok x refl is), ((λ e. absurd (suc-ne-zero 0 (sym e))), tt))
  on_answer c r n at_c at_r at_n (inr y) is ok err = by_variants ! 0 (whole !) (load ! (at_local at_c (vrt ! refl (fld ! refl (stop !)))) (look_tag ! 0 (whole !))) tt
      ((λ e. absurd (suc-ne-zero 0 e)), ((λ _. tell_refusal c r n at_c at_r at_n y is (λ m u told is_m. err y m u refl told is_m)), tt))
