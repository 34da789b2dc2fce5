-- Functions that take a record by `&mut`, an input behind `&` and an output behind a second `&mut`, and return a number,
-- `fn f(w: &mut R, i: &I, out: &mut O) -> u8`: the contract of one as a relation of the record, the input and the output on entry, the
-- record and the output at exit and the number; and that a function whose code is walked meets it. Assumes nothing.
--     OutWalk      what a walk of the code shows, from `out_entry`; `exits_out` ends it
--     out_meets    the contract from the walk
-- The marked part is written by tools/walks/write, from the names in OutRecord.walk there.
use mathlib.Core.Path.{refl}
use Prim.Native.Nat.{ℕ}
use mathlib.Core.List.{[], ◌∷◌, List}
use seplogic.Ra.Ura.{Ura}
use mir.Syntax.{Fn, named}
use mir.Val.{Val, vptr}
use base.Logic.{SProp, ent, emp, via, fst∗}
use base.Fml.{GName, Lft, Share, ftrue, flft, fobs, fbor}
use prog.Wp.{Calls, Loops, WpFn, Tables}
use types.Logic.{Logic}
use contract.Monad.{fact}
use types.Kit.{Item, ‵, ◌⊛◌, ⋆, ◌$◌, ◌∵◌, !, qed, move, join, fjoin, fjoin3, feq_i, suffices, frame, done}
use types.SemTy.{Body}
use sound.WpLaws.{WpFn-mono}
use denote.RattleType.{owns}
use denote.Memory.{mem, hidden_shr}
use denote.Ref.{MutBor, Bor, MutRef, ShrRef, mut_vals, shr_vals, mut_Tells, shr_Tells}
use denote.Signature.{Signature, plain, mut_ref_to, shr_ref_to}
use denote.Steps.{nothing}
use denote.Triple.Clauses.{Ended, Clauses, closing}
use denote.Triple.Entry.{on_entry}
use denote.Triple.Spec.{Meets}
use denote.Triple.Walked.{says, Stays, stay_ref, stay_none_ref, walk_of, AllGo, Goes-none_ref, Goes-ref, ends_at, walked, walk_Meets}
use denote.Exit.{yes}
use Rattle.lent_laws.proofs.PlainTypes.{Shape, row_of, PlainType, of_u8, row, Data}

module _ (R : Shape) (I O : PlainType) (Fin : R.X → Data I → Data O → R.X → Data O → ℕ → Type 0) where
  abbrev pub sig_out : Signature
  sig_out = record {
    lifetimes = 3;
    outlives = [];
    params = mut_ref_to (0 ∷ []) tt (plain (λ _. row_of R)) ∷ shr_ref_to (1 ∷ []) tt (plain (λ _. row I)) ∷ mut_ref_to (2 ∷ []) tt (plain (λ _. row O)) ∷ [];
    result = plain (λ _. row of_u8);
  }

  abbrev pub ended_out : Ended
  ended_out = record { signature = sig_out; kept = (yes, (yes, (yes, tt))) }

  abbrev pub clauses_out : {M : Type 1} (𝓤 : Ura M) → Clauses 𝓤 ended_out
  clauses_out 𝓤 = λ κs a. record {
    ghost = Unit {0};
    requires = λ _. emp 𝓤;
    ensures = λ g r e. fact 𝓤 (Fin a.0.now a.1.0.now a.1.1.0.now e.0.now e.1.1.0.now r);
  }

  abbrev stayed_out : Stays sig_out.params ended_out.kept
  stayed_out = (stay_ref (0 ∷ []) tt (plain (λ _. row_of R)), (stay_none_ref (1 ∷ []) tt (plain (λ _. row I)) yes, (stay_ref (2 ∷ []) tt (plain (λ _. row O)), tt)))

  module _ {M : Type 1} {𝓤 : Ura M} (𝓛 : Logic 𝓤) (κ κ₁ κ₂ : Lft) (q q₁ q₂ : Share)
      (b o : ℕ) (γ : GName) (h : R.X) (b₁ o₁ : ℕ) (i : Data I) (b₂ o₂ : ℕ) (γ₂ : GName) (w : Data O) where
    open 𝓛 use {H}

    abbrev x_out : MutBor R.X × (Bor (Data I) × (MutBor (Data O) × Unit {0}))
    x_out = (record { ref_ptr = (b, o); ghost_name = γ; now = h }, (record { ref_ptr = (b₁, o₁); now = i }, (record { ref_ptr = (b₂, o₂); ghost_name = γ₂; now = w }, tt)))

    abbrev at_out : List Val × (List Val × (List Val × Unit {0}))
    at_out = (vptr b o ∷ [], (vptr b₁ o₁ ∷ [], (vptr b₂ o₂ ∷ [], tt)))

    abbrev given_out : (walk_of 𝓛 ended_out stayed_out (clauses_out 𝓤)).Ghost
    given_out = (((κ, (κ₁, (κ₂, tt))), (q, (q₁, (q₂, tt))), tt, x_out, at_out), tt)

    abbrev pub Post_out : Val → SProp 𝓤
    Post_out = (walk_of 𝓛 ended_out stayed_out (clauses_out 𝓤)).post given_out

    -- what there is on entry: the lifetimes' tokens, and what the parameters own
    abbrev pub tokens_out : Item 𝓤
    tokens_out = ‵ (flft κ q) ⊛ ‵ (flft κ₁ q₁) ⊛ ‵ (flft κ₂ q₂) ⊛ ‵ ftrue

    abbrev pub owned_out : Item 𝓤
    owned_out = ‵ (owns (MutRef (named 0) κ (row_of R) ∷ ShrRef (named 1) κ₁ (row I) ∷ MutRef (named 2) κ₂ (row O) ∷ []) x_out at_out)

    abbrev pub out_entry : List (Item 𝓤)
    out_entry = tokens_out ∷ owned_out ∷ []

    abbrev pub OutWalk : Fn → Calls 𝓤 H → Loops 𝓤 H → Type 1
    OutWalk function C Λ = ent 𝓤 (on_entry 𝓛 sig_out (κ, (κ₁, (κ₂, tt))) (q, (q₁, (q₂, tt))) x_out at_out) (WpFn 𝓤 H C Λ function (vptr b o ∷ vptr b₁ o₁ ∷ vptr b₂ o₂ ∷ []) Post_out)

    -- exit: written by tools/walks/write
    -- what is held at the end: the number, both records at their new values, and what came in
    abbrev held_out : R.X → Data O → ℕ → Val → List (Item 𝓤)
    held_out h' w' n v = ‵ ((row of_u8).own_val n (v ∷ []))
        ∷ ‵ (fobs γ (R.coded.code h')) ∷ ‵ (fbor κ (Body (mem (row_of R)) b o γ))
        ∷ ‵ (fobs γ₂ ((row O).coded.code w')) ∷ ‵ (fbor κ₂ (Body (mem (row O)) b₂ o₂ γ₂))
        ∷ ‵ (flft κ q) ∷ ‵ (flft κ₁ q₁) ∷ ‵ (flft κ₂ q₂)
        ∷ ‵ (hidden_shr (row I) κ₁ i b₁ o₁) ∷ []

    pub exits_out : (h' : R.X) (w' : Data O) (n : ℕ) (v : Val) → Fin h i w h' w' n → ent 𝓤 (⋆ 𝓛 (held_out h' w' n v)) (Post_out v)
    exits_out h' w' n v e =
        qed 𝓛 (held_out h' w' n v) ∵
        suffices ! _ (ends_at 𝓛 ended_out stayed_out (clauses_out 𝓤) given_out v n (h', (tt, (w', tt))) (tt, (tt, (tt, tt)))) $ says ! e $
        nothing ! $ move ! (8 ∷ 0 ∷ []) $ join ! $ move ! (7 ∷ 0 ∷ []) $ join ! $ move ! (6 ∷ 0 ∷ []) $ join ! $ frame ! $
        move ! (3 ∷ 4 ∷ []) $ feq_i ! (List Val) (vptr b₂ o₂ ∷ []) (vptr b₂ o₂ ∷ []) refl $ fjoin3 ! $
        nothing ! $ move ! (1 ∷ 0 ∷ []) $ fjoin ! $
        move ! (4 ∷ []) $ feq_i ! (List Val) (vptr b₁ o₁ ∷ []) (vptr b₁ o₁ ∷ []) refl $ fjoin ! $ fjoin ! $
        move ! (2 ∷ 3 ∷ []) $ feq_i ! (List Val) (vptr b o ∷ []) (vptr b o ∷ []) refl $ fjoin3 ! $ fjoin ! $ done !
    -- exit: end

  abbrev pub OutMeets : {M : Type 1} {𝓤 : Ura M} (𝓛 : Logic 𝓤) → Tables 𝓤 𝓛.H → Fn → Type 1
  OutMeets {𝓤 = 𝓤} 𝓛 𝓣 function = Meets 𝓛 sig_out (WpFn 𝓤 𝓛.H 𝓣.C 𝓣.Λ function) (closing 𝓛 ended_out (clauses_out 𝓤))

  module _ {M : Type 1} {𝓤 : Ura M} (𝓛 : Logic 𝓤) where
    open 𝓛 use {H}

    goes_out : AllGo 𝓛 3 sig_out.params ended_out.kept stayed_out
    goes_out = (Goes-ref 𝓛 3 0 tt (plain (λ _. row_of R)), (Goes-none_ref 𝓛 3 (1 ∷ []) tt (plain (λ _. row I)) yes, (Goes-ref 𝓛 3 2 tt (plain (λ _. row O)), tt)))

    -- the contract from a walk
    pub out_meets : (𝓣 : Tables 𝓤 H) (function : Fn)
        → ((κ κ₁ κ₂ : Lft) (q q₁ q₂ : Share) (b o : ℕ) (γ : GName) (h : R.X) (b₁ o₁ : ℕ) (i : Data I) (b₂ o₂ : ℕ) (γ₂ : GName) (w : Data O) → OutWalk 𝓛 κ κ₁ κ₂ q q₁ q₂ b o γ h b₁ o₁ i b₂ o₂ γ₂ w function 𝓣.C 𝓣.Λ)
        → OutMeets 𝓛 𝓣 function
    out_meets 𝓣 function walk = walk_Meets 𝓛 ended_out stayed_out goes_out (clauses_out 𝓤)
        (WpFn 𝓤 H 𝓣.C 𝓣.Λ function) (WpFn-mono 𝓤 H 𝓛.laws 𝓣 function)
        (walked 𝓛 ended_out stayed_out (clauses_out 𝓤) (WpFn 𝓤 H 𝓣.C 𝓣.Λ function)
        (λ κs. (mut_vals, (shr_vals, (mut_vals, tt))))
        (λ κs. (mut_Tells (named 0) κs.0 (row_of R), (shr_Tells (named 1) κs.1.0 (row I), (mut_Tells (named 2) κs.1.1.0 (row O), tt))))
        (λ κs qs bounds a _ are. via 𝓤 _ (fst∗ 𝓤 _ (emp 𝓤)) (walk κs.0 κs.1.0 κs.1.1.0 qs.0 qs.1.0 qs.1.1.0
        a.0.ref_ptr.0 a.0.ref_ptr.1 a.0.ghost_name a.0.now a.1.0.ref_ptr.0 a.1.0.ref_ptr.1 a.1.0.now
        a.1.1.0.ref_ptr.0 a.1.1.0.ref_ptr.1 a.1.1.0.ghost_name a.1.1.0.now)))
