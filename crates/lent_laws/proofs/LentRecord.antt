-- Functions that take a record by `&mut` and an input by value, `fn f(w: &mut S, i: I) -> N`: the contract of one as a relation of the
-- record and the input on entry, the record at exit and the result; and that a function whose code is walked meets it. Assumes nothing.
--     LentWalk     what a walk of the code shows, from `lent_entry`; `lent_exit` ends it
--     lent_meets   the contract from the walk
--     function_of  such a function's code
--     opens_over, closes_at    what a `&mut` to a plain type is opened for, when what stood there is written over, and closed again
-- The marked parts are written by tools/walks/write, from the names in LentRecord.walk there.
use mathlib.Core.Path.{refl}
use Prim.Native.Nat.{ℕ}
use mathlib.Core.List.{[], ◌∷◌, List}
use seplogic.Ra.Ura.{Ura}
use base.Fraction.{full_share}
use base.Stored.{Gv}
use mir.Syntax.{Fn, Local, Body as Code, named}
use mir.Val.{Val, vptr}
use base.Logic.{SProp, ent, emp, via, fst∗}
use base.Fml.{GName, Lft, Share, ftrue, flft, fobs, fauth, fbor, fobor}
use prog.Wp.{Calls, Loops, WpFn, Tables}
use types.Logic.{Logic}
use contract.Monad.{fact}
use types.Kit.{Go, Goal, Soaks, Step, step, Item, ‵, ◌⊛◌, ⋆, ◌$◌, ◌∵◌, !, qed, move, drop, join, fjoin, fjoin3, feq_i, suffices, frame, done}
use types.SemTy.{Body}
use sound.WpLaws.{WpFn-mono}
use denote.RattleType.{owns}
use denote.Laws.{Is, shows}
use denote.Memory.{cell_at, mem}
use denote.Ref.{MutBor, MutRef, mut_vals, mut_Tells}
use denote.Signature.{Signature, plain, mut_ref_to}
use denote.Steps.{opens, closes, owned, nothing}
use denote.Struct.Steps.{spelt}
use denote.Triple.Clauses.{Ended, Clauses, closing}
use denote.Triple.Entry.{on_entry}
use denote.Triple.Spec.{Meets}
use denote.Triple.Walked.{says, Stays, stay_ref, stay_none, walk_of, AllGo, Goes-none, Goes-ref, ends_at, walked, walk_Meets}
use denote.Exit.{yes}
use Rattle.lent_laws.proofs.PlainTypes.{PlainType, row, Data}

-- the code of a function with so many lifetimes and parameters, and no type parameter
abbrev pub function_of : ℕ → ℕ → List Local → Code → Fn
function_of k n ls code = record { lifetimes = k; outlives = []; ty_params = []; givens = 0; params = n; locals = ls; body = code }

module _ (S : PlainType) {M : Type 1} {𝓤 : Ura M} (𝓛 : Logic 𝓤) {Γ : List (Item 𝓤)} where
  open 𝓛 use {H}

  module _ {G : Goal 𝓤 H} (z : Soaks G) {κ : Lft} {q : Share} {γ : GName} (b o : ℕ) where
    -- [its cell; what closes it]
    pub opens_over : (h : Data S) → Step (Go {0}) 𝓛
        (‵ (cell_at full_share (row S).mir (S.val h ∷ []) b o) ∷ ‵ (fobor κ q (Body (mem (row S)) b o γ)) ∷ ‵ (fobs γ ((row S).coded.code h)) ∷ ‵ (fauth γ ((row S).coded.code h)) ∷ Γ) G
        (‵ (fobs γ ((row S).coded.code h)) ∷ ‵ (fbor κ (Body (mem (row S)) b o γ)) ∷ ‵ (flft κ q) ∷ Γ) G
    -- opened: written by tools/walks/write
    opens_over h = step (λ k. opens ! z (row S) {h = h} b o (λ vs.
        spelt ! (row S) (Is (row S)) (shows 𝓛 (row S)) (λ x. S.val x ∷ []) S.tells full_share h vs b o $ move ! (1 ∷ []) $ drop ! $ k))

    -- opened: end

    pub closes_at : {u u' : Gv} (h : Data S) (v : Val) → Is (row S) h (v ∷ []) → Step (Go {0}) 𝓛
        (‵ (fobs γ ((row S).coded.code h)) ∷ ‵ (fbor κ (Body (mem (row S)) b o γ)) ∷ ‵ (flft κ q) ∷ Γ) G
        (‵ (cell_at full_share (row S).mir (v ∷ []) b o) ∷ ‵ (fobor κ q (Body (mem (row S)) b o γ)) ∷ ‵ (fobs γ u) ∷ ‵ (fauth γ u') ∷ Γ) G
    -- closed: written by tools/walks/write
    closes_at h v is = step (λ k. owned ! (row S) (Is (row S)) (S.makes 𝓛) h (v ∷ []) is $
        move ! (1 ∷ 0 ∷ 2 ∷ 3 ∷ 4 ∷ []) $ closes ! z (row S) h (v ∷ []) b o $ k)
    -- closed: end

module _ (S I N : PlainType) (Fin : Data S → Data I → Data S → Data N → Type 0) where
  abbrev signature : Signature
  signature = record { lifetimes = 1; outlives = []; params = mut_ref_to (0 ∷ []) tt (plain (λ _. row S)) ∷ plain (λ _. row I) ∷ []; result = plain (λ _. row N) }

  abbrev ended : Ended
  ended = record { signature = signature; kept = (yes, (yes, tt)) }

  abbrev clauses : {M : Type 1} (𝓤 : Ura M) → Clauses 𝓤 ended
  clauses 𝓤 = λ κs a. record { ghost = Unit {0}; requires = λ _. emp 𝓤; ensures = λ g r e. fact 𝓤 (Fin a.0.now a.1.0 e.0.now r) }

  abbrev stayed : Stays signature.params ended.kept
  stayed = (stay_ref (0 ∷ []) tt (plain (λ _. row S)), (stay_none (λ _. row I) yes, tt))

  module _ {M : Type 1} {𝓤 : Ura M} (𝓛 : Logic 𝓤) (κ : Lft) (q : Share) (b o : ℕ) (γ : GName) (h : Data S) (i : Data I) where
    open 𝓛 use {H}

    abbrev given : MutBor (Data S) × (Data I × Unit {0})
    given = (record { ref_ptr = (b, o); ghost_name = γ; now = h }, (i, tt))

    abbrev at : List Val × (List Val × Unit {0})
    at = (vptr b o ∷ [], (I.val i ∷ [], tt))

    abbrev pub lent_post : Val → SProp 𝓤
    lent_post = (walk_of 𝓛 ended stayed (clauses 𝓤)).post (((κ, tt), (q, tt), tt, given, at), tt)

    -- what there is on entry: the lifetime's token, and what the parameters own
    abbrev pub lent_entry : List (Item 𝓤)
    lent_entry = (‵ (flft κ q) ⊛ ‵ ftrue) ∷ ‵ (owns (MutRef (named 0) κ (row S) ∷ row I ∷ []) given at) ∷ []

    abbrev pub LentWalk : Fn → Calls 𝓤 H → Loops 𝓤 H → Type 1
    LentWalk function C Λ = ent 𝓤 (on_entry 𝓛 signature (κ, tt) (q, tt) given at) (WpFn 𝓤 H C Λ function (vptr b o ∷ I.val i ∷ []) lent_post)

    -- exit: written by tools/walks/write
    -- what is held at the end: the result, the record at its new value, and what came in
    abbrev held : Data S → Data N → Val → List (Item 𝓤)
    held h' y v = ‵ ((row N).own_val y (v ∷ [])) ∷ ‵ (fobs γ ((row S).coded.code h')) ∷ ‵ (fbor κ (Body (mem (row S)) b o γ)) ∷ ‵ (flft κ q) ∷ []

    pub lent_exit : Is (row I) i (I.val i ∷ []) → (h' : Data S) (y : Data N) (v : Val) → Fin h i h' y → ent 𝓤 (⋆ 𝓛 (held h' y v)) (lent_post v)
    lent_exit is_i h' y v e =
        qed 𝓛 (held h' y v) ∵
        suffices ! _ (ends_at 𝓛 ended stayed (clauses 𝓤) (((κ, tt), (q, tt), tt, given, at), tt) v y (h', (tt, tt)) (tt, (tt, tt))) $ says ! e $
        nothing ! $ move ! (4 ∷ 0 ∷ []) $ join ! $ frame ! $
        move ! (1 ∷ 2 ∷ []) $ feq_i ! (List Val) (vptr b o ∷ []) (vptr b o ∷ []) refl $ fjoin3 ! $
        nothing ! $ owned ! (row I) (Is (row I)) (I.makes 𝓛) i (I.val i ∷ []) is_i $ fjoin ! $ move ! (1 ∷ 0 ∷ []) $ fjoin ! $ done !
    -- exit: end

  abbrev pub LentMeets : {M : Type 1} {𝓤 : Ura M} (𝓛 : Logic 𝓤) → Tables 𝓤 𝓛.H → Fn → Type 1
  LentMeets {𝓤 = 𝓤} 𝓛 𝓣 function = Meets 𝓛 signature (WpFn 𝓤 𝓛.H 𝓣.C 𝓣.Λ function) (closing 𝓛 ended (clauses 𝓤))

  module _ {M : Type 1} {𝓤 : Ura M} (𝓛 : Logic 𝓤) where
    open 𝓛 use {H}

    goes : AllGo 𝓛 1 signature.params ended.kept stayed
    goes = (Goes-ref 𝓛 1 0 tt (plain (λ _. row S)), (Goes-none 𝓛 1 (λ _. row I) yes (λ κs x f. refl), tt))

    pub lent_meets : (𝓣 : Tables 𝓤 H) (function : Fn)
        → ((κ : Lft) (q : Share) (b o : ℕ) (γ : GName) (h : Data S) (i : Data I) → Is (row I) i (I.val i ∷ []) → LentWalk 𝓛 κ q b o γ h i function 𝓣.C 𝓣.Λ)
        → LentMeets 𝓛 𝓣 function
    lent_meets 𝓣 function walk = walk_Meets 𝓛 ended stayed goes (clauses 𝓤) (WpFn 𝓤 H 𝓣.C 𝓣.Λ function) (WpFn-mono 𝓤 H 𝓛.laws 𝓣 function)
        (walked 𝓛 ended stayed (clauses 𝓤) (WpFn 𝓤 H 𝓣.C 𝓣.Λ function) (λ κs. (mut_vals, ((λ z. I.val z ∷ []), tt))) (λ κs. (mut_Tells (named 0) κs.0 (row S), (I.tells, tt)))
        (λ κs qs bounds a _ are. via 𝓤 _ (fst∗ 𝓤 _ (emp 𝓤)) (walk κs.0 qs.0 a.0.ref_ptr.0 a.0.ref_ptr.1 a.0.ghost_name a.0.now a.1.0 are.1.0)))
