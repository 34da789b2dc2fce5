-- The law of a function that takes a record by `&mut` and asks a function by value for a Result. Where that is Ok, a record from another
-- function by value is stored, and 0 returned: the record that stood there is not read. Where it is an error, nothing is stored, and what
-- a third function by value tells of the error is returned:
--     fn f(w: &mut S, i: I) -> u8 { match k(i) { Ok(_) => { *w = fresh(i); 0 } Err(refusal) => refusal.into() } }
-- Where the functions by value meet their contracts, the lent one meets its own. Assumes nothing.
-- The marked parts are written by tools/walks/write, from the names in LentBuilt.walk there.
use mathlib.Core.Path.{◌≡◌, refl}
use mathlib.Core.Logic.{inl, inr}
use Prim.Native.Nat.{ℕ}
use mathlib.Core.List.{[], ◌∷◌}
use seplogic.Ra.Ura.{Ura}
use base.Fraction.{full_share}
use mir.Syntax.{Callee, Fn, Body as Code, local, value_local, named, mut, w8, ty_int, ty_ref, place, deref, copy, int, rv_opd, seq, assign, call, return}
use mir.Val.{Val, vptr}
use base.Fml.{fat}
use prog.Wp.{Env, Tables}
use types.Logic.{Logic}
use types.Kit.{at_ret, ‵, ◌$◌, ◌∵◌, !, qed, by, move, keep, drop, split, fsplit, fsplit3, rewrite}
use types.Run.{lit, look, init, store_raw, forget, stop, hop, from, load, and_then, no_more, of_opd, assigns, assigns_last, first, exec, land, returns, enter, alloc1, alloc0, params1, pass1, pass0, free1, free0}
use sound.WpLaws.{FmC, fm_of}
use denote.Laws.{Is}
use denote.Memory.{pointee}
use denote.Steps.{owned}
use denote.Triple.Statement.{Triple}
use Rattle.lent_laws.proofs.PlainTypes.{Shape, PlainType, of_u8, is_0, row, Data, Answer, answer_shape, answer_val, AnswerLaws}
use Rattle.lent_laws.proofs.LentRecord.{function_of, opens_over, closes_at, lent_post, lent_entry, lent_exit, LentMeets, lent_meets}
use Rattle.lent_laws.proofs.ByValue.{ByValue, lone_is, calls_by_value}
use Rattle.lent_laws.proofs.OnAnswer.{matches_answer, on_answer}

-- what Ok holds is B, and the refusal U
module _ (S I B U : PlainType) (P : Answer B U) (L : AnswerLaws B U P) (Out : Data I → P.X → Type 0) (Made : Data I → Data S → Type 0) (Told : Data U → ℕ → Type 0)
    (Fin : Data S → Data I → Data S → ℕ → Type 0)
    (law_taken : (h : Data S) (i : Data I) (a : P.X) (built : Data B) (h' : Data S) → Out i a → P.holds a ≡ inl built → Made i h' → Fin h i h' 0)
    (law_left : (h : Data S) (i : Data I) (a : P.X) (refused : Data U) (n : ℕ) → Out i a → P.holds a ≡ inr refused → Told refused n → Fin h i h n)
    (k fresh tell : Callee) where
  abbrev O : Shape
  O = answer_shape B U P

  -- code: written by tools/walks/write
  -- the number is returned
  abbrev ends_built : Code
  ends_built = seq (assign (place 0 []) (rv_opd (copy (place 5 [])))) return

  abbrev function_built : Fn
  function_built = function_of 1 2 (local (ty_int w8) value_local ∷ local (ty_ref (named 0) mut (pointee S.shape.written)) value_local ∷ local I.shape.τ value_local ∷ local U.shape.τ value_local ∷ local O.τ value_local ∷ local (ty_int w8) value_local ∷ local S.shape.τ value_local ∷ [])
      (seq (call k (copy (place 2 []) ∷ []) (place 4 []))
      (seq (matches_answer 4 3 5 tell
      (seq (call fresh (copy (place 2 []) ∷ []) (place 6 []))
      (seq (assign (place 1 (deref S.shape.τ ∷ [])) (rv_opd (copy (place 6 []))))
      (assign (place 5 []) (rv_opd (int w8 0))))))
      ends_built))

  -- code: end

  module _ {M : Type 1} {𝓤 : Ura M} (𝓛 : Logic 𝓤) (𝓣 : Tables 𝓤 𝓛.H) (known : Triple 𝓤 (𝓣.C k) (ByValue (I ∷ []) O (λ d. Out d.0) 𝓛))
      (known_fresh : Triple 𝓤 (𝓣.C fresh) (ByValue (I ∷ []) S.shape (λ d. Made d.0) 𝓛)) (known_tell : Triple 𝓤 (𝓣.C tell) (ByValue (U ∷ []) of_u8.shape (λ d. Told d.0) 𝓛)) where
    open 𝓛 use {H}
    open 𝓣 use {C, Λ}

    fm : FmC 𝓤 H 𝓛.laws C
    fm = fm_of 𝓤 H 𝓛.laws 𝓣

    -- walk: written by tools/walks/write
    abbrev E : (l_result l_w l_i l_refusal l_answer l_number l_next : ℕ) → Env 𝓤 H
    E l_result l_w l_i l_refusal l_answer l_number l_next = (ty_int w8, l_result) ∷ (ty_ref (named 0) mut (pointee S.shape.written), l_w) ∷ (I.shape.τ, l_i) ∷ (U.shape.τ, l_refusal) ∷ (O.τ, l_answer) ∷ (ty_int w8, l_number) ∷ (S.shape.τ, l_next) ∷ []

    pub lent_built_meets : LentMeets S I of_u8 Fin 𝓛 𝓣 function_built
    lent_built_meets = lent_meets S I of_u8 Fin 𝓛 𝓣 function_built (λ κ q b o γ h i is_i.
        qed 𝓛 (lent_entry S I of_u8 Fin 𝓛 κ q b o γ h i) ∵ enter ! C Λ function_built (vptr b o ∷ I.val i ∷ []) _ $
        alloc1 ! (λ l_result. alloc1 ! (λ l_w. alloc1 ! (λ l_i. alloc1 ! (λ l_refusal. alloc1 ! (λ l_answer. alloc1 ! (λ l_number. alloc1 ! (λ l_next. alloc0 ! $ params1 ! $ pass1 ! (init ! 10 refl (tt, tt)) $ pass1 ! (init ! 8 refl ((I.lawful 𝓛).typed i _ is_i).0) $ pass0 ! $
        move ! (15 ∷ []) $ fsplit ! $ fsplit3 ! $ drop ! $ move ! (17 ∷ []) $ split ! $
        -- the question is asked, and what it answers is written out by its variant
        calls_by_value (I ∷ []) O (λ d. Out d.0) 𝓛 (i, tt) (is_i, tt) fm known (and_then ! (load ! (from ! (stop !)) (look ! 14 refl)) (no_more !)) (λ a v asked is.
        land ! (from ! (stop !)) (init ! 10 refl ((L.lawful 𝓛).typed a _ is).0) $
        rewrite ! 10 (λ (u : Val). ‵ (fat full_share O.τ l_answer 0 u)) (lone_is v (answer_val B U P a) (L.tells a (v ∷ []) is)) refl $ drop ! $
        first ! $ move ! (9 ∷ 11 ∷ 7 ∷ []) $ on_answer B U 𝓛 fm Told known_tell 4 3 5 refl refl refl (P.holds a) (L.is_held a _ is)
        -- Ok: a fresh record is stored over what stood there, which is not read
        (λ built ok is_built.
        calls_by_value (I ∷ []) S.shape (λ d. Made d.0) 𝓛 (i, tt) (is_i, tt) fm known_fresh (and_then ! (load ! (from ! (stop !)) (look ! 14 refl)) (no_more !)) (λ h' u made is_made.
        land ! (from ! (stop !)) (init ! 9 refl ((S.lawful 𝓛).typed h' _ is_made).0) $
        move ! (6 ∷ 7 ∷ 4 ∷ []) $ opens_over S 𝓛 tt b o h $
        assigns ! (of_opd ! (load ! (from ! (stop !)) (look ! 10 refl))) (from ! (hop ! (look ! 17 refl) (stop !)))
        (store_raw ! 0 refl ((S.lawful 𝓛).typed h' _ is_made).0) $
        move ! (4 ∷ []) $ drop ! $ move ! (0 ∷ 1 ∷ 2 ∷ 3 ∷ []) $ closes_at S 𝓛 tt b o h' u is_made $
        assigns_last ! (of_opd ! (lit ! tt)) (from ! (stop !)) (init ! 5 refl ((of_u8.lawful 𝓛).typed 0 _ is_0).0) $
        -- 0 is returned
        exec ! C Λ (E l_result l_w l_i l_refusal l_answer l_number l_next) ends_built (at_ret (E l_result l_w l_i l_refusal l_answer l_number l_next) (lent_post S I of_u8 Fin 𝓛 κ q b o γ h i)) $
        assigns ! (of_opd ! (load ! (from ! (stop !)) (look ! 5 refl))) (from ! (stop !)) (init ! 17 refl ((of_u8.lawful 𝓛).typed 0 _ is_0).0) $
        owned ! (row of_u8) (Is (row of_u8)) (of_u8.makes 𝓛) 0 (of_u8.val 0 ∷ []) is_0 $
        returns ! (look ! 18 refl) $ forget ! 18 refl $ forget ! 16 refl $ forget ! 14 refl $ forget ! 4 refl $ forget ! 6 refl $ forget ! 9 refl $
        move ! (18 ∷ 19 ∷ []) $ free1 ! $ move ! (16 ∷ 17 ∷ []) $ free1 ! $ move ! (14 ∷ 15 ∷ []) $ free1 ! $ move ! (5 ∷ 13 ∷ []) $ free1 ! $ move ! (4 ∷ 11 ∷ []) $ free1 ! $ move ! (4 ∷ 9 ∷ []) $ free1 ! $ move ! (6 ∷ 7 ∷ []) $ free1 ! $ free0 ! $
        keep ! (0 ∷ 1 ∷ 2 ∷ 3 ∷ []) $ by ! (lent_exit S I of_u8 Fin 𝓛 κ q b o γ h i is_i h' 0 (of_u8.val 0) (law_taken h i a built h' asked ok made))))
        -- Err: nothing is stored, and the refusal's number is returned
        (λ refused n u err told is_n.
        exec ! C Λ (E l_result l_w l_i l_refusal l_answer l_number l_next) ends_built (at_ret (E l_result l_w l_i l_refusal l_answer l_number l_next) (lent_post S I of_u8 Fin 𝓛 κ q b o γ h i)) $
        assigns ! (of_opd ! (load ! (from ! (stop !)) (look ! 3 refl))) (from ! (stop !)) (init ! 18 refl ((of_u8.lawful 𝓛).typed n _ is_n).0) $
        returns ! (look ! 18 refl) $ forget ! 18 refl $ forget ! 16 refl $ forget ! 14 refl $ forget ! 2 refl $ forget ! 1 refl $ forget ! 3 refl $
        move ! (18 ∷ 19 ∷ []) $ free1 ! $ move ! (16 ∷ 17 ∷ []) $ free1 ! $ move ! (14 ∷ 15 ∷ []) $ free1 ! $ move ! (2 ∷ 13 ∷ []) $ free1 ! $ move ! (1 ∷ 11 ∷ []) $ free1 ! $ move ! (1 ∷ 9 ∷ []) $ free1 ! $ move ! (6 ∷ 7 ∷ []) $ free1 ! $ free0 ! $
        keep ! (0 ∷ 3 ∷ 4 ∷ 1 ∷ []) $ by ! (lent_exit S I of_u8 Fin 𝓛 κ q b o γ h i is_i h n u (law_left h i a refused n asked err told))))))))))))
    -- walk: end
