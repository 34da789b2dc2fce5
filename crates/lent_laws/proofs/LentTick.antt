-- The law of a function that takes a record by `&mut`, calls a function by value and stores what it returned; r is a struct of two fields:
--     fn f(w: &mut S, i: I) -> N { let r = w.step(i); *w = r.0; r.1 }
-- Where the function by value meets its contract, the lent one meets its own. Assumes nothing.
-- The marked parts are written by tools/walks/write, from the names in LentTick.walk there.
use mathlib.Core.Path.{refl}
use mathlib.Core.List.{[], ◌∷◌}
use seplogic.Ra.Ura.{Ura}
use base.Fraction.{full_share}
use mir.Syntax.{Callee, Fn, local, value_local, named, mut, ty_ref, place, deref, field, copy, rv_opd, seq, assign, call, return}
use mir.Val.{Val, vptr}
use base.Fml.{fat}
use prog.Wp.{Tables}
use types.Logic.{Logic}
use types.Kit.{‵, ◌$◌, ◌∵◌, !, qed, by, move, keep, drop, split, fsplit, fsplit3, rewrite}
use types.Run.{look, look_raw, init, store_raw, forget, stop, hop, fld, from, load, and_then, no_more, of_opd, assigns, land, returns, enter, alloc1, alloc0, params1, pass1, pass0, free1, free0}
use types.Part.{whole, sub, look_in}
use sound.WpLaws.{FmC, fm_of}
use denote.Laws.{Is, shows}
use denote.Memory.{pointee}
use denote.Steps.{opens, owned, peeks}
use denote.Struct.Steps.{spelt}
use denote.Triple.Statement.{Triple}
use Rattle.lent_laws.proofs.PlainTypes.{Shape, PlainType, row, Data, Two, two_shape, two_val, TwoLaws}
use Rattle.lent_laws.proofs.LentRecord.{function_of, closes_at, lent_entry, lent_exit, LentMeets, lent_meets}
use Rattle.lent_laws.proofs.ByValue.{ByValue₂, lone_is, calls_by_value}

module _ (S I N : PlainType) (P : Two S N) (L : TwoLaws S N P) (Out : Data S → Data I → P.X → Type 0) (Fin : Data S → Data I → Data S → Data N → Type 0)
    (law : (h : Data S) (i : Data I) (r : P.X) → Out h i r → Fin h i (P.first r) (P.second r)) (k : Callee) where
  abbrev O : Shape
  O = two_shape S N P

  -- code: written by tools/walks/write
  abbrev function_tick : Fn
  function_tick = function_of 1 2 (local N.shape.τ value_local ∷ local (ty_ref (named 0) mut (pointee S.shape.written)) value_local ∷ local I.shape.τ value_local ∷ local O.τ value_local ∷ local S.shape.τ value_local ∷ local S.shape.τ value_local ∷ [])
      (seq (assign (place 4 []) (rv_opd (copy (place 1 (deref S.shape.τ ∷ [])))))
      (seq (call k (copy (place 4 []) ∷ copy (place 2 []) ∷ []) (place 3 []))
      (seq (assign (place 5 []) (rv_opd (copy (place 3 (field 0 ∷ [])))))
      (seq (assign (place 1 (deref S.shape.τ ∷ [])) (rv_opd (copy (place 5 []))))
      (seq (assign (place 0 []) (rv_opd (copy (place 3 (field 1 ∷ []))))) return)))))

  -- code: end

  module _ {M : Type 1} {𝓤 : Ura M} (𝓛 : Logic 𝓤) (𝓣 : Tables 𝓤 𝓛.H) (known : Triple 𝓤 (𝓣.C k) (ByValue₂ S I O Out 𝓛)) where
    open 𝓛 use {H}
    open 𝓣 use {C, Λ}

    fm : FmC 𝓤 H 𝓛.laws C
    fm = fm_of 𝓤 H 𝓛.laws 𝓣

    -- walk: written by tools/walks/write
    pub lent_tick_meets : LentMeets S I N Fin 𝓛 𝓣 function_tick
    lent_tick_meets = lent_meets S I N Fin 𝓛 𝓣 function_tick (λ κ q b o γ h i is_i.
        qed 𝓛 (lent_entry S I N Fin 𝓛 κ q b o γ h i) ∵ enter ! C Λ function_tick (vptr b o ∷ I.val i ∷ []) _ $
        alloc1 ! (λ l_result. alloc1 ! (λ l_w. alloc1 ! (λ l_i. alloc1 ! (λ l_r. alloc1 ! (λ l_old. alloc1 ! (λ l_next. alloc0 ! $ params1 ! $ pass1 ! (init ! 8 refl (tt, tt)) $ pass1 ! (init ! 6 refl ((I.lawful 𝓛).typed i _ is_i).0) $ pass0 ! $
        -- the borrow is opened
        move ! (13 ∷ []) $ fsplit ! $ fsplit3 ! $ drop ! $ move ! (15 ∷ []) $ split ! $ move ! (2 ∷ 3 ∷ 0 ∷ []) $
        opens ! tt (row S) {h = h} b o (λ vs. spelt ! (row S) (Is (row S)) (shows 𝓛 (row S)) (λ z. S.val z ∷ []) S.tells full_share h vs b o $
        move ! (1 ∷ []) $ peeks ! (row S) (Is (row S)) (shows 𝓛 (row S)) h (S.val h ∷ []) (λ was. drop ! $
        -- the record is copied, and the function called
        assigns ! (of_opd ! (load ! (from ! (hop ! (look ! 14 refl) (stop !))) (look_raw ! 0 refl))) (from ! (stop !)) (init ! 8 refl ((S.lawful 𝓛).typed h _ was).0) $
        calls_by_value (S ∷ I ∷ []) O (λ a. Out a.0 a.1.0) 𝓛 (h, (i, tt)) (was, (is_i, tt)) fm known (and_then ! (load ! (from ! (stop !)) (look ! 9 refl)) (and_then ! (load ! (from ! (stop !)) (look ! 13 refl)) (no_more !))) (λ r v e is.
        land ! (from ! (stop !)) (init ! 11 refl ((L.lawful 𝓛).typed r _ is).0) $
        -- what was returned is written out by its fields
        rewrite ! 11 (λ (u : Val). ‵ (fat full_share O.τ l_r 0 u)) (lone_is v (two_val S N P r) (L.tells r (v ∷ []) is)) refl $
        -- the first field is copied and stored, and the borrow is closed
        assigns ! (of_opd ! (load ! (from ! (fld ! refl (stop !))) (look_in ! 11 (sub ! 0 refl (whole !))))) (from ! (stop !))
        (init ! 7 refl ((S.lawful 𝓛).typed (P.first r) _ (L.is_first r _ is)).0) $
        assigns ! (of_opd ! (load ! (from ! (stop !)) (look ! 7 refl))) (from ! (hop ! (look ! 15 refl) (stop !)))
        (store_raw ! 1 refl ((S.lawful 𝓛).typed (P.first r) _ (L.is_first r _ is)).0) $
        assigns ! (of_opd ! (load ! (from ! (fld ! refl (stop !))) (look_in ! 11 (sub ! 1 refl (whole !))))) (from ! (stop !))
        (init ! 17 refl ((N.lawful 𝓛).typed (P.second r) _ (L.is_second r _ is)).0) $
        drop ! $ move ! (0 ∷ 1 ∷ 2 ∷ 3 ∷ []) $ closes_at S 𝓛 tt b o (P.first r) _ (L.is_first r _ is) $
        owned ! (row N) (Is (row N)) (N.makes 𝓛) (P.second r) (N.val (P.second r) ∷ []) (L.is_second r _ is) $
        returns ! (look ! 16 refl) $ forget ! 16 refl $ forget ! 14 refl $ forget ! 12 refl $ forget ! 10 refl $ forget ! 8 refl $ forget ! 6 refl $
        move ! (16 ∷ 17 ∷ []) $ free1 ! $ move ! (14 ∷ 15 ∷ []) $ free1 ! $ move ! (12 ∷ 13 ∷ []) $ free1 ! $ move ! (10 ∷ 11 ∷ []) $ free1 ! $ move ! (8 ∷ 9 ∷ []) $ free1 ! $ move ! (6 ∷ 7 ∷ []) $ free1 ! $ free0 ! $
        keep ! (0 ∷ 1 ∷ 2 ∷ 3 ∷ []) $ by ! (lent_exit S I N Fin 𝓛 κ q b o γ h i is_i (P.first r) (P.second r) (N.val (P.second r)) (law h i r e))))))))))))
    -- walk: end
