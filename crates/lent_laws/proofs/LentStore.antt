-- The law of a function that takes a record by `&mut`, calls a function by value and stores the record that it returned where the number
-- beside it is 0. The record that stood there is not read, and where the number is not 0 it is not written; a is a struct of two fields:
--     fn f(w: &mut S, i: I) -> u8 { let a = k(i); if a.0 == 0 { *w = a.1; } a.0 }
-- Where the function by value meets its contract, the lent one meets its own. Assumes nothing.
-- The marked parts are written by tools/walks/write, from the names in LentStore.walk there.
use mathlib.Core.Path.{refl}
use mathlib.Core.Bool.{not}
use lib.Dec.{T, eqb}
use Prim.Native.Nat.{ℕ}
use mathlib.Core.List.{[], ◌∷◌}
use seplogic.Ra.Ura.{Ura}
use base.Fraction.{full_share}
use mir.Syntax.{Callee, Fn, Body as Code, local, value_local, named, mut, w8, ty_bool, ty_int, ty_ref, place, deref, field, copy, int, eq, op2, rv_opd, seq, assign, call, cond, skip, return}
use mir.Val.{Val, vptr}
use base.Fml.{fat}
use prog.Wp.{Env, Tables}
use types.Logic.{Logic}
use types.Kit.{at_ret, ‵, ◌$◌, ◌∵◌, !, qed, by, move, keep, drop, split, fsplit, fsplit3, rewrite}
use types.Run.{lit, bin, look, init, store_raw, forget, stop, hop, fld, from, load, and_then, no_more, of_opd, assigns, assigns_last, first, branches, exec, skips, land, returns, enter, alloc1, alloc0, params1, pass1, pass0, free1, free0}
use types.Part.{whole, sub, look_in}
use sound.WpLaws.{FmC, fm_of}
use denote.Laws.{Is}
use denote.Memory.{pointee}
use denote.Steps.{owned}
use denote.Triple.Statement.{Triple}
use Rattle.lent_laws.proofs.PlainTypes.{Shape, PlainType, of_u8, row, Data, Two, two_shape, two_val, TwoLaws}
use Rattle.lent_laws.proofs.LentRecord.{function_of, opens_over, closes_at, lent_post, lent_entry, lent_exit, LentMeets, lent_meets}
use Rattle.lent_laws.proofs.ByValue.{ByValue, lone_is, calls_by_value}

module _ (S I : PlainType) (P : Two of_u8 S) (L : TwoLaws of_u8 S P) (Out : Data I → P.X → Type 0) (Fin : Data S → Data I → Data S → ℕ → Type 0)
    (law_taken : (h : Data S) (i : Data I) (a : P.X) → Out i a → T (eqb (P.first a) 0) → Fin h i (P.second a) (P.first a))
    (law_left : (h : Data S) (i : Data I) (a : P.X) → Out i a → T (not (eqb (P.first a) 0)) → Fin h i h (P.first a)) (k : Callee) where
  abbrev O : Shape
  O = two_shape of_u8 S P

  -- code: written by tools/walks/write
  -- the number is returned
  abbrev ends_store : Code
  ends_store = seq (assign (place 0 []) (rv_opd (copy (place 3 (field 0 ∷ []))))) return

  abbrev function_store : Fn
  function_store = function_of 1 2 (local (ty_int w8) value_local ∷ local (ty_ref (named 0) mut (pointee S.shape.written)) value_local ∷ local I.shape.τ value_local ∷ local O.τ value_local ∷ local ty_bool value_local ∷ local S.shape.τ value_local ∷ [])
      (seq (call k (copy (place 2 []) ∷ []) (place 3 []))
      (seq (assign (place 4 []) (op2 eq (copy (place 3 (field 0 ∷ []))) (int w8 0)))
      (seq (cond (copy (place 4 []))
      (seq (assign (place 5 []) (rv_opd (copy (place 3 (field 1 ∷ []))))) (assign (place 1 (deref S.shape.τ ∷ [])) (rv_opd (copy (place 5 [])))))
      skip)
      ends_store)))

  -- code: end

  module _ {M : Type 1} {𝓤 : Ura M} (𝓛 : Logic 𝓤) (𝓣 : Tables 𝓤 𝓛.H) (known : Triple 𝓤 (𝓣.C k) (ByValue (I ∷ []) O (λ d. Out d.0) 𝓛)) where
    open 𝓛 use {H}
    open 𝓣 use {C, Λ}

    fm : FmC 𝓤 H 𝓛.laws C
    fm = fm_of 𝓤 H 𝓛.laws 𝓣

    -- walk: written by tools/walks/write
    abbrev E : (l_result l_w l_i l_a l_none l_next : ℕ) → Env 𝓤 H
    E l_result l_w l_i l_a l_none l_next = (ty_int w8, l_result) ∷ (ty_ref (named 0) mut (pointee S.shape.written), l_w) ∷ (I.shape.τ, l_i) ∷ (O.τ, l_a) ∷ (ty_bool, l_none) ∷ (S.shape.τ, l_next) ∷ []

    pub lent_store_meets : LentMeets S I of_u8 Fin 𝓛 𝓣 function_store
    lent_store_meets = lent_meets S I of_u8 Fin 𝓛 𝓣 function_store (λ κ q b o γ h i is_i.
        qed 𝓛 (lent_entry S I of_u8 Fin 𝓛 κ q b o γ h i) ∵ enter ! C Λ function_store (vptr b o ∷ I.val i ∷ []) _ $
        alloc1 ! (λ l_result. alloc1 ! (λ l_w. alloc1 ! (λ l_i. alloc1 ! (λ l_a. alloc1 ! (λ l_none. alloc1 ! (λ l_next. alloc0 ! $ params1 ! $ pass1 ! (init ! 8 refl (tt, tt)) $ pass1 ! (init ! 6 refl ((I.lawful 𝓛).typed i _ is_i).0) $ pass0 ! $
        move ! (13 ∷ []) $ fsplit ! $ fsplit3 ! $ drop ! $ move ! (15 ∷ []) $ split ! $
        -- the function is called, and what it returned is written out by its fields
        calls_by_value (I ∷ []) O (λ d. Out d.0) 𝓛 (i, tt) (is_i, tt) fm known (and_then ! (load ! (from ! (stop !)) (look ! 12 refl)) (no_more !)) (λ a v e is.
        land ! (from ! (stop !)) (init ! 10 refl ((L.lawful 𝓛).typed a _ is).0) $
        rewrite ! 10 (λ (u : Val). ‵ (fat full_share O.τ l_a 0 u)) (lone_is v (two_val of_u8 S P a) (L.tells a (v ∷ []) is)) refl $ drop ! $
        -- the number's test
        assigns ! (bin ! (load ! (from ! (fld ! refl (stop !))) (look_in ! 9 (sub ! 0 refl (whole !)))) (lit ! tt) tt) (from ! (stop !)) (init ! 7 refl (tt, tt)) $
        first ! $ branches ! (load ! (from ! (stop !)) (look ! 7 refl))
        -- 0: the record is stored over what stood there, which is not read
        (λ none.
        move ! (2 ∷ 3 ∷ 0 ∷ []) $ opens_over S 𝓛 tt b o h $
        assigns ! (of_opd ! (load ! (from ! (fld ! refl (stop !))) (look_in ! 10 (sub ! 1 refl (whole !))))) (from ! (stop !))
        (init ! 6 refl ((S.lawful 𝓛).typed (P.second a) _ (L.is_second a _ is)).0) $
        assigns_last ! (of_opd ! (load ! (from ! (stop !)) (look ! 6 refl))) (from ! (hop ! (look ! 14 refl) (stop !)))
        (store_raw ! 0 refl ((S.lawful 𝓛).typed (P.second a) _ (L.is_second a _ is)).0) $
        -- the number is returned, and the borrow is closed
        exec ! C Λ (E l_result l_w l_i l_a l_none l_next) ends_store (at_ret (E l_result l_w l_i l_a l_none l_next) (lent_post S I of_u8 Fin 𝓛 κ q b o γ h i)) $
        assigns ! (of_opd ! (load ! (from ! (fld ! refl (stop !))) (look_in ! 10 (sub ! 0 refl (whole !))))) (from ! (stop !))
        (init ! 16 refl ((of_u8.lawful 𝓛).typed (P.first a) _ (L.is_first a _ is)).0) $
        move ! (0 ∷ 1 ∷ 2 ∷ 3 ∷ []) $ closes_at S 𝓛 tt b o (P.second a) _ (L.is_second a _ is) $
        owned ! (row of_u8) (Is (row of_u8)) (of_u8.makes 𝓛) (P.first a) (of_u8.val (P.first a) ∷ []) (L.is_first a _ is) $
        returns ! (look ! 16 refl) $ forget ! 16 refl $ forget ! 14 refl $ forget ! 12 refl $ forget ! 10 refl $ forget ! 8 refl $ forget ! 6 refl $
        move ! (16 ∷ 17 ∷ []) $ free1 ! $ move ! (14 ∷ 15 ∷ []) $ free1 ! $ move ! (12 ∷ 13 ∷ []) $ free1 ! $ move ! (10 ∷ 11 ∷ []) $ free1 ! $ move ! (8 ∷ 9 ∷ []) $ free1 ! $ move ! (6 ∷ 7 ∷ []) $ free1 ! $ free0 ! $
        keep ! (0 ∷ 1 ∷ 2 ∷ 3 ∷ []) $ by ! (lent_exit S I of_u8 Fin 𝓛 κ q b o γ h i is_i (P.second a) (P.first a) (of_u8.val (P.first a)) (law_taken h i a e none)))
        -- not 0: nothing is stored, and the number is returned
        (λ some_no. skips ! $
        exec ! C Λ (E l_result l_w l_i l_a l_none l_next) ends_store (at_ret (E l_result l_w l_i l_a l_none l_next) (lent_post S I of_u8 Fin 𝓛 κ q b o γ h i)) $
        assigns ! (of_opd ! (load ! (from ! (fld ! refl (stop !))) (look_in ! 9 (sub ! 0 refl (whole !))))) (from ! (stop !))
        (init ! 15 refl ((of_u8.lawful 𝓛).typed (P.first a) _ (L.is_first a _ is)).0) $
        owned ! (row of_u8) (Is (row of_u8)) (of_u8.makes 𝓛) (P.first a) (of_u8.val (P.first a) ∷ []) (L.is_first a _ is) $
        returns ! (look ! 16 refl) $ forget ! 16 refl $ forget ! 14 refl $ forget ! 12 refl $ forget ! 10 refl $ forget ! 8 refl $
        move ! (16 ∷ 17 ∷ []) $ free1 ! $ move ! (14 ∷ 15 ∷ []) $ free1 ! $ move ! (12 ∷ 13 ∷ []) $ free1 ! $ move ! (10 ∷ 11 ∷ []) $ free1 ! $ move ! (8 ∷ 9 ∷ []) $ free1 ! $ move ! (6 ∷ 7 ∷ []) $ free1 ! $ free0 ! $
        keep ! (0 ∷ 3 ∷ 4 ∷ 1 ∷ []) $ by ! (lent_exit S I of_u8 Fin 𝓛 κ q b o γ h i is_i h (P.first a) (of_u8.val (P.first a)) (law_left h i a e some_no)))))))))))
    -- walk: end
