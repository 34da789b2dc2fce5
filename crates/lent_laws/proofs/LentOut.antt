-- The law of a function that takes a record of five parts by `&mut`. The last part decides by a number. Where it is 0, all parts are run
-- and stored in their places one after the other, and then an output is stored behind a second `&mut`; where it is not, nothing is stored:
--     fn f(w: &mut R, i: &I, out: &mut O) -> u8 {
--         let a = w.last.ask(*i);
--         if a.0 == 0 { let r = w.part0.step(a.1); w.part0 = r.0; ..; let r = w.last.step(r.1); w.last = r.0; *out = r.1; }
--         a.0
--     }
-- Where the functions by value meet their contracts, the lent one meets its own. Assumes nothing.
-- The marked parts are written by tools/walks/write, from the names in LentOut.walk there.
use mathlib.Core.Path.{refl}
use mathlib.Core.Bool.{not}
use lib.Dec.{T, eqb}
use Prim.Native.Nat.{ℕ}
use mathlib.Core.List.{[], ◌∷◌}
use seplogic.Ra.Ura.{Ura}
use mir.Syntax.{Fn, Body as Code, local, value_local, named, mut, imm, w8, ty_bool, ty_int, ty_ref, place, deref, field, copy, int, eq, op2, rv_opd, seq, assign, call, cond, skip, return}
use mir.Val.{vptr}
use prog.Wp.{Env, WpFn, Tables}
use types.Logic.{Logic}
use types.Kit.{at_ret, ◌$◌, ◌∵◌, !, qed, by, move, keep}
use types.Run.{lit, bin, look, init, store_raw, forget, stop, hop, fld, from, load, of_opd, assigns, assigns_last, first, branches, exec, skips, returns, enter, alloc1, alloc0, params1, pass1, pass0, free1, free0}
use types.Part.{whole, sub, look_in}
use sound.WpLaws.{FmC, fm_of}
use denote.Laws.{Is}
use denote.Memory.{pointee}
use denote.Signature.{Signature}
use denote.Steps.{owned}
use denote.Triple.Statement.{Triple}
use denote.Triple.Clauses.{Ended, Clauses, closing}
use denote.Triple.Spec.{Meets}
use Rattle.lent_laws.proofs.PlainTypes.{Shape, PlainType, of_u8, row, Data, two_shape, two_val, Five, five_shape, FiveLaws}
use Rattle.lent_laws.proofs.ByValue.{Stage, StageMeets}
use Rattle.lent_laws.proofs.LentRecord.{function_of, opens_over, closes_at}
use Rattle.lent_laws.proofs.FiveParts.{opens_entry, closes_record, ask_last}
use Rattle.lent_laws.proofs.OutRecord as Out
use Rattle.lent_laws.proofs.RunPart.{runs_part, run_part}

module _ (P₀ P₁ P₂ P₃ L I O X₀ X₁ X₂ X₃ X₄ : PlainType) (F : Five P₀ P₁ P₂ P₃ L) (FL : FiveLaws P₀ P₁ P₂ P₃ L F)
    (ask : Stage L I of_u8 X₀) (s₀ : Stage P₀ X₀ P₀ X₁) (s₁ : Stage P₁ X₁ P₁ X₂) (s₂ : Stage P₂ X₂ P₂ X₃) (s₃ : Stage P₃ X₃ P₃ X₄) (s₄ : Stage L X₄ L O)
    (Fin : F.X → Data I → Data O → F.X → Data O → ℕ → Type 0)
    (law_taken : (h : F.X) (i : Data I) (w : Data O) (a : ask.gives.X)
    (r₀ : s₀.gives.X) (r₁ : s₁.gives.X) (r₂ : s₂.gives.X) (r₃ : s₃.gives.X) (r₄ : s₄.gives.X)
    → ask.does (F.last h) i a → T (eqb (ask.gives.first a) 0)
    → s₀.does (F.part₀ h) (ask.gives.second a) r₀ → s₁.does (F.part₁ h) (s₀.gives.second r₀) r₁
    → s₂.does (F.part₂ h) (s₁.gives.second r₁) r₂ → s₃.does (F.part₃ h) (s₂.gives.second r₂) r₃
    → s₄.does (F.last h) (s₃.gives.second r₃) r₄
    → Fin h i w (F.make (s₀.gives.first r₀) (s₁.gives.first r₁) (s₂.gives.first r₂) (s₃.gives.first r₃) (s₄.gives.first r₄))
    (s₄.gives.second r₄) (ask.gives.first a))
    (law_left : (h : F.X) (i : Data I) (w : Data O) (a : ask.gives.X)
    → ask.does (F.last h) i a → T (not (eqb (ask.gives.first a) 0)) → Fin h i w h w (ask.gives.first a)) where
  abbrev R : Shape
  R = five_shape P₀ P₁ P₂ P₃ L F

  -- code: written by tools/walks/write
  -- the number is returned
  abbrev ends_out : Code
  ends_out = seq (assign (place 0 []) (rv_opd (copy (place 4 (field 0 ∷ []))))) return

  abbrev function_out : Fn
  function_out = function_of 3 3 (local (ty_int w8) value_local ∷ local (ty_ref (named 0) mut (pointee R.written)) value_local ∷ local (ty_ref (named 1) imm (pointee I.shape.written)) value_local ∷ local (ty_ref (named 2) mut (pointee O.shape.written)) value_local ∷ local (two_shape of_u8 X₀ ask.gives).τ value_local ∷ local (two_shape P₀ X₁ s₀.gives).τ value_local ∷ local (two_shape P₁ X₂ s₁.gives).τ value_local ∷ local (two_shape P₂ X₃ s₂.gives).τ value_local ∷ local (two_shape P₃ X₄ s₃.gives).τ value_local ∷ local (two_shape L O s₄.gives).τ value_local ∷ local L.shape.τ value_local ∷ local I.shape.τ value_local ∷ local ty_bool value_local ∷ local P₀.shape.τ value_local ∷ local X₀.shape.τ value_local ∷ local P₀.shape.τ value_local ∷ local P₁.shape.τ value_local ∷ local X₁.shape.τ value_local ∷ local P₁.shape.τ value_local ∷ local P₂.shape.τ value_local ∷ local X₂.shape.τ value_local ∷ local P₂.shape.τ value_local ∷ local P₃.shape.τ value_local ∷ local X₃.shape.τ value_local ∷ local P₃.shape.τ value_local ∷ local L.shape.τ value_local ∷ local X₄.shape.τ value_local ∷ local L.shape.τ value_local ∷ local O.shape.τ value_local ∷ [])
      (seq (assign (place 10 []) (rv_opd (copy (place 1 (deref R.τ ∷ field 4 ∷ [])))))
      (seq (assign (place 11 []) (rv_opd (copy (place 2 (deref I.shape.τ ∷ [])))))
      (seq (call ask.name (copy (place 10 []) ∷ copy (place 11 []) ∷ []) (place 4 []))
      (seq (assign (place 12 []) (op2 eq (copy (place 4 (field 0 ∷ []))) (int w8 0)))
      (seq (cond (copy (place 12 []))
      (runs_part R.τ 0 13 14 15 4 5 s₀.name
      (runs_part R.τ 1 16 17 18 5 6 s₁.name
      (runs_part R.τ 2 19 20 21 6 7 s₂.name
      (runs_part R.τ 3 22 23 24 7 8 s₃.name
      (runs_part R.τ 4 25 26 27 8 9 s₄.name
      (seq (assign (place 28 []) (rv_opd (copy (place 9 (field 1 ∷ []))))) (assign (place 3 (deref O.shape.τ ∷ [])) (rv_opd (copy (place 28 []))))))))))
      skip)
      ends_out)))))

  -- code: end

  -- the contract
  abbrev sig_out : Signature
  sig_out = Out.sig_out R I O Fin

  abbrev ended_out : Ended
  ended_out = Out.ended_out R I O Fin

  abbrev clauses_out : {M : Type 1} (𝓤 : Ura M) → Clauses 𝓤 ended_out
  clauses_out 𝓤 = Out.clauses_out R I O Fin 𝓤

  module _ {M : Type 1} {𝓤 : Ura M} (𝓛 : Logic 𝓤) (𝓣 : Tables 𝓤 𝓛.H)
      (known : Triple 𝓤 (𝓣.C ask.name) (StageMeets L I of_u8 X₀ ask 𝓛)) (known₀ : Triple 𝓤 (𝓣.C s₀.name) (StageMeets P₀ X₀ P₀ X₁ s₀ 𝓛))
      (known₁ : Triple 𝓤 (𝓣.C s₁.name) (StageMeets P₁ X₁ P₁ X₂ s₁ 𝓛)) (known₂ : Triple 𝓤 (𝓣.C s₂.name) (StageMeets P₂ X₂ P₂ X₃ s₂ 𝓛))
      (known₃ : Triple 𝓤 (𝓣.C s₃.name) (StageMeets P₃ X₃ P₃ X₄ s₃ 𝓛)) (known₄ : Triple 𝓤 (𝓣.C s₄.name) (StageMeets L X₄ L O s₄ 𝓛)) where
    open 𝓛 use {H}
    open 𝓣 use {C, Λ}

    fm : FmC 𝓤 H 𝓛.laws C
    fm = fm_of 𝓤 H 𝓛.laws 𝓣

    -- walk: written by tools/walks/write
    abbrev E : (l_result l_w l_i l_out l_a l_r₀ l_r₁ l_r₂ l_r₃ l_r₄ l_last l_input l_none l_part₀ l_handed₀ l_stored₀ l_part₁ l_handed₁ l_stored₁ l_part₂ l_handed₂ l_stored₂ l_part₃ l_handed₃ l_stored₃ l_part₄ l_handed₄ l_stored₄ l_output : ℕ) → Env 𝓤 H
    E l_result l_w l_i l_out l_a l_r₀ l_r₁ l_r₂ l_r₃ l_r₄ l_last l_input l_none l_part₀ l_handed₀ l_stored₀ l_part₁ l_handed₁ l_stored₁ l_part₂ l_handed₂ l_stored₂ l_part₃ l_handed₃ l_stored₃ l_part₄ l_handed₄ l_stored₄ l_output = (ty_int w8, l_result) ∷ (ty_ref (named 0) mut (pointee R.written), l_w) ∷ (ty_ref (named 1) imm (pointee I.shape.written), l_i) ∷ (ty_ref (named 2) mut (pointee O.shape.written), l_out) ∷ ((two_shape of_u8 X₀ ask.gives).τ, l_a) ∷ ((two_shape P₀ X₁ s₀.gives).τ, l_r₀) ∷ ((two_shape P₁ X₂ s₁.gives).τ, l_r₁) ∷ ((two_shape P₂ X₃ s₂.gives).τ, l_r₂) ∷ ((two_shape P₃ X₄ s₃.gives).τ, l_r₃) ∷ ((two_shape L O s₄.gives).τ, l_r₄) ∷ (L.shape.τ, l_last) ∷ (I.shape.τ, l_input) ∷ (ty_bool, l_none) ∷ (P₀.shape.τ, l_part₀) ∷ (X₀.shape.τ, l_handed₀) ∷ (P₀.shape.τ, l_stored₀) ∷ (P₁.shape.τ, l_part₁) ∷ (X₁.shape.τ, l_handed₁) ∷ (P₁.shape.τ, l_stored₁) ∷ (P₂.shape.τ, l_part₂) ∷ (X₂.shape.τ, l_handed₂) ∷ (P₂.shape.τ, l_stored₂) ∷ (P₃.shape.τ, l_part₃) ∷ (X₃.shape.τ, l_handed₃) ∷ (P₃.shape.τ, l_stored₃) ∷ (L.shape.τ, l_part₄) ∷ (X₄.shape.τ, l_handed₄) ∷ (L.shape.τ, l_stored₄) ∷ (O.shape.τ, l_output) ∷ []

    pub lent_out_meets : Meets 𝓛 sig_out (WpFn 𝓤 H C Λ function_out) (closing 𝓛 ended_out (clauses_out 𝓤))
    lent_out_meets = Out.out_meets R I O Fin 𝓛 𝓣 function_out (λ κ κ₁ κ₂ q q₁ q₂ b o γ h b₁ o₁ i b₂ o₂ γ₂ w.
        let Post = Out.Post_out R I O Fin 𝓛 κ κ₁ κ₂ q q₁ q₂ b o γ h b₁ o₁ i b₂ o₂ γ₂ w in
        let exits = Out.exits_out R I O Fin 𝓛 κ κ₁ κ₂ q q₁ q₂ b o γ h b₁ o₁ i b₂ o₂ γ₂ w in
        qed 𝓛 (Out.out_entry R I O Fin 𝓛 κ κ₁ κ₂ q q₁ q₂ b o γ h b₁ o₁ i b₂ o₂ γ₂ w) ∵
        enter ! C Λ function_out (vptr b o ∷ vptr b₁ o₁ ∷ vptr b₂ o₂ ∷ []) _ $
        alloc1 ! (λ l_result. alloc1 ! (λ l_w. alloc1 ! (λ l_i. alloc1 ! (λ l_out. alloc1 ! (λ l_a. alloc1 ! (λ l_r₀. alloc1 ! (λ l_r₁. alloc1 ! (λ l_r₂. alloc1 ! (λ l_r₃. alloc1 ! (λ l_r₄. alloc1 ! (λ l_last. alloc1 ! (λ l_input. alloc1 ! (λ l_none. alloc1 ! (λ l_part₀. alloc1 ! (λ l_handed₀. alloc1 ! (λ l_stored₀. alloc1 ! (λ l_part₁. alloc1 ! (λ l_handed₁. alloc1 ! (λ l_stored₁. alloc1 ! (λ l_part₂. alloc1 ! (λ l_handed₂. alloc1 ! (λ l_stored₂. alloc1 ! (λ l_part₃. alloc1 ! (λ l_handed₃. alloc1 ! (λ l_stored₃. alloc1 ! (λ l_part₄. alloc1 ! (λ l_handed₄. alloc1 ! (λ l_stored₄. alloc1 ! (λ l_output. alloc0 ! $
        params1 ! $ pass1 ! (init ! 54 refl (tt, tt)) $ pass1 ! (init ! 52 refl (tt, tt)) $ pass1 ! (init ! 50 refl (tt, tt)) $ pass0 ! $
        -- the borrow of the record is opened, and the last part is asked about the input
        move ! (59 ∷ 58 ∷ []) $ opens_entry P₀ P₁ P₂ P₃ L F FL 𝓛 I O Fin κ κ₁ κ₂ q q₁ q₂ b o γ h b₁ o₁ i b₂ o₂ γ₂ w tt (λ was.
        move ! (0 ∷ 63 ∷ 61 ∷ 45 ∷ 43 ∷ 57 ∷ 4 ∷ 5 ∷ []) $ ask_last P₀ P₁ P₂ P₃ L F FL 𝓛 fm I (two_shape of_u8 X₀ ask.gives) (two_val of_u8 X₀ ask.gives) ask.laws.tells (ask.laws.lawful 𝓛) ask.does known
        10 11 4 refl refl refl refl refl h was i (λ a v asked is_a.
        assigns ! (bin ! (load ! (from ! (fld ! refl (stop !))) (look_in ! 5 (sub ! 0 refl (whole !)))) (lit ! tt) tt) (from ! (stop !)) (init ! 46 refl (tt, tt)) $
        first ! $ branches ! (load ! (from ! (stop !)) (look ! 46 refl))
        -- 0: the parts in their order
        (λ none.
        move ! (0 ∷ 1 ∷ 44 ∷ 42 ∷ 40 ∷ 5 ∷ 58 ∷ []) $ run_part 𝓛 fm of_u8 P₀ X₀ X₁ ask.gives s₀ known₀ 0 13 14 15 4 5 refl refl refl refl refl refl refl
        (F.part₀ h) refl (FL.is_part₀ h _ was) a (ask.laws.is_second a _ is_a) (λ r₀ e₀ f₀ g₀.
        move ! (0 ∷ 1 ∷ 42 ∷ 40 ∷ 38 ∷ 6 ∷ 57 ∷ []) $ run_part 𝓛 fm P₀ P₁ X₁ X₂ s₀.gives s₁ known₁ 1 16 17 18 5 6 refl refl refl refl refl refl refl
        (F.part₁ h) refl (FL.is_part₁ h _ was) r₀ g₀ (λ r₁ e₁ f₁ g₁.
        move ! (0 ∷ 1 ∷ 40 ∷ 38 ∷ 36 ∷ 6 ∷ 56 ∷ []) $ run_part 𝓛 fm P₁ P₂ X₂ X₃ s₁.gives s₂ known₂ 2 19 20 21 6 7 refl refl refl refl refl refl refl
        (F.part₂ h) refl (FL.is_part₂ h _ was) r₁ g₁ (λ r₂ e₂ f₂ g₂.
        move ! (0 ∷ 1 ∷ 38 ∷ 36 ∷ 34 ∷ 6 ∷ 55 ∷ []) $ run_part 𝓛 fm P₂ P₃ X₃ X₄ s₂.gives s₃ known₃ 3 22 23 24 7 8 refl refl refl refl refl refl refl
        (F.part₃ h) refl (FL.is_part₃ h _ was) r₂ g₂ (λ r₃ e₃ f₃ g₃.
        move ! (0 ∷ 1 ∷ 36 ∷ 34 ∷ 32 ∷ 6 ∷ 54 ∷ []) $ run_part 𝓛 fm P₃ L X₄ O s₃.gives s₄ known₄ 4 25 26 27 8 9 refl refl refl refl refl refl refl
        (F.last h) refl (FL.is_last h _ was) r₃ g₃ (λ r₄ e₄ f₄ g₄.
        -- the output is stored
        move ! (31 ∷ 32 ∷ 33 ∷ []) $ opens_over O 𝓛 tt b₂ o₂ w $
        assigns ! (of_opd ! (load ! (from ! (fld ! refl (stop !))) (look_in ! 10 (sub ! 1 refl (whole !))))) (from ! (stop !))
        (init ! 35 refl ((O.lawful 𝓛).typed (s₄.gives.second r₄) _ g₄).0) $
        assigns_last ! (of_opd ! (load ! (from ! (stop !)) (look ! 35 refl))) (from ! (hop ! (look ! 62 refl) (stop !)))
        (store_raw ! 0 refl ((O.lawful 𝓛).typed (s₄.gives.second r₄) _ g₄).0) $
        -- the number is returned, and both borrows are closed
        exec ! C Λ (E l_result l_w l_i l_out l_a l_r₀ l_r₁ l_r₂ l_r₃ l_r₄ l_last l_input l_none l_part₀ l_handed₀ l_stored₀ l_part₁ l_handed₁ l_stored₁ l_part₂ l_handed₂ l_stored₂ l_part₃ l_handed₃ l_stored₃ l_part₄ l_handed₄ l_stored₄ l_output) ends_out (at_ret (E l_result l_w l_i l_out l_a l_r₀ l_r₁ l_r₂ l_r₃ l_r₄ l_last l_input l_none l_part₀ l_handed₀ l_stored₀ l_part₁ l_handed₁ l_stored₁ l_part₂ l_handed₂ l_stored₂ l_part₃ l_handed₃ l_stored₃ l_part₄ l_handed₄ l_stored₄ l_output) Post) $
        assigns ! (of_opd ! (load ! (from ! (fld ! refl (stop !))) (look_in ! 26 (sub ! 0 refl (whole !))))) (from ! (stop !))
        (init ! 66 refl ((of_u8.lawful 𝓛).typed (ask.gives.first a) _ (ask.laws.is_first a _ is_a)).0) $
        move ! (0 ∷ 1 ∷ 2 ∷ 3 ∷ []) $ closes_at O 𝓛 tt b₂ o₂ (s₄.gives.second r₄) _ g₄ $
        move ! (3 ∷ 31 ∷ 32 ∷ 33 ∷ []) $ closes_record P₀ P₁ P₂ P₃ L F FL 𝓛 tt _ _ (FL.is_made (s₀.gives.first r₀) (s₁.gives.first r₁) (s₂.gives.first r₂) (s₃.gives.first r₃) (s₄.gives.first r₄) f₀ f₁ f₂ f₃ f₄) $
        owned ! (row of_u8) (Is (row of_u8)) (of_u8.makes 𝓛) (ask.gives.first a) (of_u8.val (ask.gives.first a) ∷ []) (ask.laws.is_first a _ is_a) $
        returns ! (look ! 65 refl) $ forget ! 65 refl $ forget ! 7 refl $ forget ! 29 refl $ forget ! 61 refl $ forget ! 28 refl $ forget ! 24 refl $ forget ! 20 refl $ forget ! 16 refl $ forget ! 11 refl $ forget ! 12 refl $ forget ! 30 refl $ forget ! 31 refl $ forget ! 51 refl $ forget ! 25 refl $ forget ! 26 refl $ forget ! 27 refl $ forget ! 21 refl $ forget ! 22 refl $ forget ! 23 refl $ forget ! 17 refl $ forget ! 18 refl $ forget ! 19 refl $ forget ! 13 refl $ forget ! 14 refl $ forget ! 15 refl $ forget ! 8 refl $ forget ! 9 refl $ forget ! 10 refl $ forget ! 34 refl $
        move ! (65 ∷ 66 ∷ []) $ free1 ! $ move ! (7 ∷ 64 ∷ []) $ free1 ! $ move ! (28 ∷ 62 ∷ []) $ free1 ! $ move ! (59 ∷ 60 ∷ []) $ free1 ! $ move ! (27 ∷ 58 ∷ []) $ free1 ! $ move ! (23 ∷ 56 ∷ []) $ free1 ! $ move ! (19 ∷ 54 ∷ []) $ free1 ! $ move ! (15 ∷ 52 ∷ []) $ free1 ! $ move ! (10 ∷ 50 ∷ []) $ free1 ! $ move ! (10 ∷ 48 ∷ []) $ free1 ! $ move ! (22 ∷ 46 ∷ []) $ free1 ! $ move ! (22 ∷ 44 ∷ []) $ free1 ! $ move ! (41 ∷ 42 ∷ []) $ free1 ! $ move ! (19 ∷ 40 ∷ []) $ free1 ! $ move ! (19 ∷ 38 ∷ []) $ free1 ! $ move ! (19 ∷ 36 ∷ []) $ free1 ! $ move ! (16 ∷ 34 ∷ []) $ free1 ! $ move ! (16 ∷ 32 ∷ []) $ free1 ! $ move ! (16 ∷ 30 ∷ []) $ free1 ! $ move ! (13 ∷ 28 ∷ []) $ free1 ! $ move ! (13 ∷ 26 ∷ []) $ free1 ! $ move ! (13 ∷ 24 ∷ []) $ free1 ! $ move ! (10 ∷ 22 ∷ []) $ free1 ! $ move ! (10 ∷ 20 ∷ []) $ free1 ! $ move ! (10 ∷ 18 ∷ []) $ free1 ! $ move ! (7 ∷ 16 ∷ []) $ free1 ! $ move ! (7 ∷ 14 ∷ []) $ free1 ! $ move ! (7 ∷ 12 ∷ []) $ free1 ! $ move ! (9 ∷ 10 ∷ []) $ free1 ! $ free0 ! $
        keep ! (0 ∷ 1 ∷ 2 ∷ 4 ∷ 5 ∷ 3 ∷ 8 ∷ 6 ∷ 7 ∷ []) $ by ! (exits (F.make (s₀.gives.first r₀) (s₁.gives.first r₁) (s₂.gives.first r₂) (s₃.gives.first r₃) (s₄.gives.first r₄)) (s₄.gives.second r₄) (ask.gives.first a) (of_u8.val (ask.gives.first a))
        (law_taken h i w a r₀ r₁ r₂ r₃ r₄ asked none e₀ e₁ e₂ e₃ e₄))))))))
        -- not 0: nothing is stored; the number is returned, and the borrow of the record is closed
        (λ some_no. skips ! $
        exec ! C Λ (E l_result l_w l_i l_out l_a l_r₀ l_r₁ l_r₂ l_r₃ l_r₄ l_last l_input l_none l_part₀ l_handed₀ l_stored₀ l_part₁ l_handed₁ l_stored₁ l_part₂ l_handed₂ l_stored₂ l_part₃ l_handed₃ l_stored₃ l_part₄ l_handed₄ l_stored₄ l_output) ends_out (at_ret (E l_result l_w l_i l_out l_a l_r₀ l_r₁ l_r₂ l_r₃ l_r₄ l_last l_input l_none l_part₀ l_handed₀ l_stored₀ l_part₁ l_handed₁ l_stored₁ l_part₂ l_handed₂ l_stored₂ l_part₃ l_handed₃ l_stored₃ l_part₄ l_handed₄ l_stored₄ l_output) Post) $
        assigns ! (of_opd ! (load ! (from ! (fld ! refl (stop !))) (look_in ! 5 (sub ! 0 refl (whole !))))) (from ! (stop !))
        (init ! 65 refl ((of_u8.lawful 𝓛).typed (ask.gives.first a) _ (ask.laws.is_first a _ is_a)).0) $
        move ! (0 ∷ 8 ∷ 9 ∷ 10 ∷ []) $ closes_record P₀ P₁ P₂ P₃ L F FL 𝓛 tt h _ was $
        owned ! (row of_u8) (Is (row of_u8)) (of_u8.makes 𝓛) (ask.gives.first a) (of_u8.val (ask.gives.first a) ∷ []) (ask.laws.is_first a _ is_a) $
        returns ! (look ! 65 refl) $ forget ! 65 refl $ forget ! 4 refl $ forget ! 5 refl $ forget ! 61 refl $ forget ! 8 refl $ forget ! 6 refl $ forget ! 7 refl $ forget ! 46 refl $
        move ! (65 ∷ 66 ∷ []) $ free1 ! $ move ! (4 ∷ 64 ∷ []) $ free1 ! $ move ! (4 ∷ 62 ∷ []) $ free1 ! $ move ! (59 ∷ 60 ∷ []) $ free1 ! $ move ! (6 ∷ 58 ∷ []) $ free1 ! $ move ! (55 ∷ 56 ∷ []) $ free1 ! $ move ! (53 ∷ 54 ∷ []) $ free1 ! $ move ! (51 ∷ 52 ∷ []) $ free1 ! $ move ! (49 ∷ 50 ∷ []) $ free1 ! $ move ! (47 ∷ 48 ∷ []) $ free1 ! $ move ! (4 ∷ 46 ∷ []) $ free1 ! $ move ! (4 ∷ 44 ∷ []) $ free1 ! $ move ! (41 ∷ 42 ∷ []) $ free1 ! $ move ! (39 ∷ 40 ∷ []) $ free1 ! $ move ! (37 ∷ 38 ∷ []) $ free1 ! $ move ! (35 ∷ 36 ∷ []) $ free1 ! $ move ! (33 ∷ 34 ∷ []) $ free1 ! $ move ! (31 ∷ 32 ∷ []) $ free1 ! $ move ! (29 ∷ 30 ∷ []) $ free1 ! $ move ! (27 ∷ 28 ∷ []) $ free1 ! $ move ! (25 ∷ 26 ∷ []) $ free1 ! $ move ! (23 ∷ 24 ∷ []) $ free1 ! $ move ! (21 ∷ 22 ∷ []) $ free1 ! $ move ! (19 ∷ 20 ∷ []) $ free1 ! $ move ! (17 ∷ 18 ∷ []) $ free1 ! $ move ! (15 ∷ 16 ∷ []) $ free1 ! $ move ! (13 ∷ 14 ∷ []) $ free1 ! $ move ! (11 ∷ 12 ∷ []) $ free1 ! $ move ! (9 ∷ 10 ∷ []) $ free1 ! $ free0 ! $
        keep ! (0 ∷ 1 ∷ 2 ∷ 6 ∷ 7 ∷ 3 ∷ 5 ∷ 8 ∷ 4 ∷ []) $ by ! (exits h w (ask.gives.first a) (of_u8.val (ask.gives.first a)) (law_left h i w a asked some_no)))))))))))))))))))))))))))))))))))
    -- walk: end
