-- A record of five parts that is lent by `&mut`, beside an input behind `&` and an output behind a second `&mut`: what the laws of
-- LentOut.antt and LentTicked.antt share. Assumes nothing.
--     opens_entry, closes_record    the record on entry, with its parts in view, and closed again
--     asks_last, ask_last           the last part and the input are copied, and a function by value is asked about both
-- The marked parts are written by tools/walks/write, from the names in FiveParts.walk there.
use mathlib.Core.Path.{◌≡◌, refl}
use Prim.Native.Nat.{ℕ}
use mathlib.Core.List.{[], ◌∷◌, List}
use seplogic.Ra.Ura.{Ura}
use base.Fraction.{full_share}
use base.Stored.{Gv}
use mir.Syntax.{Callee, Ty, Body as Code, place, deref, field, copy, rv_opd, seq, assign, call}
use mir.Raw.{raw as raw_ty}
use mir.Val.{Val, vptr}
use base.Fml.{GName, Lft, Share, flft, fobs, fauth, fbor, fobor, fat, froom}
use prog.Wp.{Env, spot_of, Calls, Loops}
use types.Logic.{Logic}
use types.Kit as Kit
use types.Kit.{Go, Goal, Soaks, Step, step, Item, Sq, runs, ‵, ◌$◌, !, move, drop, use1, split, fsplit, fsplit3, rewrite}
use types.Run.{look, look_raw, init, stop, hop, fld, load, and_then, no_more, of_opd, assigns, land}
use types.Part.{whole, sub, look_in}
use types.SemTy.{Body}
use sound.WpLaws.{FmC}
use denote.Laws.{Is, Tells, Lawful, shows}
use denote.Memory.{mem, hidden_shr}
use denote.Steps.{looks, shuts, opens, closes, owned, peeks}
use denote.Struct.Steps.{spelt}
use denote.Triple.Statement.{Triple}
use Rattle.lent_laws.proofs.PlainTypes.{Shape, row_of, PlainType, row, Data, Five, five_shape, five_val, FiveLaws}
use Rattle.lent_laws.proofs.ByValue.{ByValue₂, lone_is, calls_by_value}
use Rattle.lent_laws.proofs.OutRecord as Out
use Rattle.lent_laws.proofs.RunPart.{at_local}

module _ (P₀ P₁ P₂ P₃ L : PlainType) (F : Five P₀ P₁ P₂ P₃ L) where
  abbrev R : Shape
  R = five_shape P₀ P₁ P₂ P₃ L F

  -- a record's value by its parts
  abbrev pub parts_val : F.X → Val
  parts_val z = five_val P₀ P₁ P₂ P₃ L F (F.part₀ z) (F.part₁ z) (F.part₂ z) (F.part₃ z) (F.last z)

  module _ (FL : FiveLaws P₀ P₁ P₂ P₃ L F) {M : Type 1} {𝓤 : Ura M} (𝓛 : Logic 𝓤) where
    open 𝓛 use {H}

    -- the record is closed again, at what its parts are now
    pub closes_record : {Γ : List (Item 𝓤)} {G : Goal 𝓤 H} → Soaks G → {κ : Lft} {q : Share} {b o : ℕ} {γ : GName} {u u' : Gv} (h : F.X) (v : Val) → Is (row_of R) h (v ∷ [])
        → Step (Go {0}) 𝓛 (‵ (fobs γ (R.coded.code h)) ∷ ‵ (fbor κ (Body (mem (row_of R)) b o γ)) ∷ ‵ (flft κ q) ∷ Γ) G
        (‵ (fat full_share R.τ b o v) ∷ ‵ (fobor κ q (Body (mem (row_of R)) b o γ)) ∷ ‵ (fobs γ u) ∷ ‵ (fauth γ u') ∷ Γ) G
    -- closed: written by tools/walks/write
    closes_record z {b = b} {o = o} h v is = step (λ k.
        owned ! (row_of R) (Is (row_of R)) (FL.makes 𝓛) h (v ∷ []) is $
        move ! (1 ∷ []) $ use1 𝓛 (‵ (fat full_share (raw_ty R.τ) b o v)) (𝓛.laws.at_raw full_share R.τ b o v) $
        move ! (0 ∷ 1 ∷ 2 ∷ 3 ∷ 4 ∷ []) $ closes ! z (row_of R) h (v ∷ []) b o $ k)

    -- closed: end

    module _ (I O : PlainType) (Fin : F.X → Data I → Data O → F.X → Data O → ℕ → Type 0) (κ κ₁ κ₂ : Lft) (q q₁ q₂ : Share)
        (b o : ℕ) (γ : GName) (h : F.X) (b₁ o₁ : ℕ) (i : Data I) (b₂ o₂ : ℕ) (γ₂ : GName) (w : Data O) where
      -- what there is on entry, which `out_entry` lists, with the record opened: [its cell; what closes it; the input; the output]
      pub opens_entry : {Γ : List (Item 𝓤)} {G : Goal 𝓤 H} → Soaks G → (Is (row_of R) h (parts_val h ∷ []) → Sq 𝓛 (‵ (fat full_share R.τ b o (parts_val h))
          ∷ ‵ (fobor κ q (Body (mem (row_of R)) b o γ)) ∷ ‵ (fobs γ (R.coded.code h)) ∷ ‵ (fauth γ (R.coded.code h)) ∷ ‵ (hidden_shr (row I) κ₁ i b₁ o₁) ∷ ‵ (flft κ₁ q₁)
          ∷ ‵ (fobs γ₂ ((row O).coded.code w)) ∷ ‵ (fbor κ₂ (Body (mem (row O)) b₂ o₂ γ₂)) ∷ ‵ (flft κ₂ q₂) ∷ Γ) G)
          → Sq 𝓛 (Out.owned_out R I O Fin 𝓛 κ κ₁ κ₂ q q₁ q₂ b o γ h b₁ o₁ i b₂ o₂ γ₂ w ∷ Out.tokens_out R I O Fin 𝓛 κ κ₁ κ₂ q q₁ q₂ b o γ h b₁ o₁ i b₂ o₂ γ₂ w ∷ Γ) G
      -- entry: written by tools/walks/write
      opens_entry z k =
          fsplit ! $ fsplit3 ! $ drop ! $
          move ! (2 ∷ []) $ fsplit ! $ fsplit ! $ drop ! $
          move ! (1 ∷ []) $ fsplit ! $ fsplit3 ! $ drop ! $ move ! (2 ∷ []) $ drop ! $
          move ! (5 ∷ []) $ split ! $ move ! (1 ∷ []) $ split ! $ move ! (1 ∷ []) $ split ! $ move ! (1 ∷ []) $ drop ! $
          move ! (6 ∷ 7 ∷ 2 ∷ []) $ opens ! z (row_of R) {h = h} b o (λ vs.
          spelt ! (row_of R) (Is (row_of R)) (shows 𝓛 (row_of R)) (λ z. parts_val z ∷ []) FL.tells full_share h vs b o $
          move ! (1 ∷ []) $ peeks ! (row_of R) (Is (row_of R)) (shows 𝓛 (row_of R)) h (parts_val h ∷ []) (λ was. drop ! $
          move ! (0 ∷ []) $ use1 𝓛 (‵ (fat full_share R.τ b o (parts_val h))) (𝓛.laws.raw_at full_share R.τ b o (parts_val h)) $
          move ! (0 ∷ 1 ∷ 2 ∷ 3 ∷ 8 ∷ 5 ∷ 6 ∷ 7 ∷ 4 ∷ []) $ k was))
      -- entry: end

-- the last field of the record behind the local 1 is read into the local l, and what is behind the local 2 into n; the function k is asked about both, and its answer stands in a
abbrev pub asks_last : Ty → Ty → ℕ → ℕ → ℕ → Callee → Code → Code
asks_last τ σ l n a k then = seq (assign (place l []) (rv_opd (copy (place 1 (deref τ ∷ field 4 ∷ []))))) (seq (assign (place n []) (rv_opd (copy (place 2 (deref σ ∷ [])))))
    (seq (call k (copy (place l []) ∷ copy (place n []) ∷ []) (place a [])) then))

-- A is what it answers with, written out as a machine value by `val`
module _ (P₀ P₁ P₂ P₃ L : PlainType) (F : Five P₀ P₁ P₂ P₃ L) (FL : FiveLaws P₀ P₁ P₂ P₃ L F) {M : Type 1} {𝓤 : Ura M} (𝓛 : Logic 𝓤) {C : Calls 𝓤 𝓛.H} {Λ : Loops 𝓤 𝓛.H} (fm : FmC 𝓤 𝓛.H 𝓛.laws C)
    {E : Env 𝓤 𝓛.H} {q : Kit.Post 𝓤 𝓛.H} (I : PlainType) (A : Shape) (val : A.X → Val) (tells : Tells (row_of A) (Is (row_of A)) (λ y. val y ∷ [])) (lawful : Lawful 𝓛 (row_of A))
    (does : Data L → Data I → A.X → Type 0) {k : Callee} (known : Triple 𝓤 (C k) (ByValue₂ L I A does 𝓛)) where
  open 𝓛 use {H}

  -- [the record's cell; the reference; that to the input; room for the last part, the input and the answer; the input], and the same with the three filled
  pub ask_last : {ρ ρ' : Ty} {l₁ l₂ ll ln la b o b₁ o₁ : ℕ} {κ₁ : Lft} {q₁ : Share} {Γ : List (Item 𝓤)} {then : Code} (l n a : ℕ) → spot_of 𝓤 H E 1 ≡ (ρ, l₁, 0) → spot_of 𝓤 H E 2 ≡ (ρ', l₂, 0)
      → spot_of 𝓤 H E l ≡ (L.shape.τ, ll, 0) → spot_of 𝓤 H E n ≡ (I.shape.τ, ln, 0) → spot_of 𝓤 H E a ≡ (A.τ, la, 0) → (h : F.X) → Is (row_of (five_shape P₀ P₁ P₂ P₃ L F)) h (parts_val P₀ P₁ P₂ P₃ L F h ∷ []) → (i : Data I)
      → ((y : A.X) (v : Val) → does (F.last h) i y → Is (row_of A) y (v ∷ []) → Sq 𝓛 (‵ (fat full_share (five_shape P₀ P₁ P₂ P₃ L F).τ b o (parts_val P₀ P₁ P₂ P₃ L F h)) ∷ ‵ (fat full_share ρ l₁ 0 (vptr b o)) ∷ ‵ (fat full_share ρ' l₂ 0 (vptr b₁ o₁))
      ∷ ‵ (fat full_share L.shape.τ ll 0 (L.val (F.last h))) ∷ ‵ (fat full_share I.shape.τ ln 0 (I.val i)) ∷ ‵ (fat full_share A.τ la 0 (val y)) ∷ ‵ (hidden_shr (row I) κ₁ i b₁ o₁) ∷ ‵ (flft κ₁ q₁) ∷ Γ) (runs C Λ E then q))
      → Sq 𝓛 (‵ (fat full_share (five_shape P₀ P₁ P₂ P₃ L F).τ b o (parts_val P₀ P₁ P₂ P₃ L F h)) ∷ ‵ (fat full_share ρ l₁ 0 (vptr b o)) ∷ ‵ (fat full_share ρ' l₂ 0 (vptr b₁ o₁))
      ∷ ‵ (froom L.shape.τ ll 0) ∷ ‵ (froom I.shape.τ ln 0) ∷ ‵ (froom A.τ la 0) ∷ ‵ (hidden_shr (row I) κ₁ i b₁ o₁) ∷ ‵ (flft κ₁ q₁) ∷ Γ) (runs C Λ E (asks_last (five_shape P₀ P₁ P₂ P₃ L F).τ I.shape.τ l n a k then) q)
  -- asked: written by tools/walks/write
  ask_last {la = la} {b₁ = b₁} {o₁ = o₁} l n a at_1 at_2 at_l at_n at_a h was i then =
      assigns ! (of_opd ! (load ! (at_local at_1 (hop ! (look ! 1 refl) (fld ! refl (stop !)))) (look_in ! 0 (sub ! 4 refl (whole !))))) (at_local at_l (stop !))
      (init ! 3 refl ((L.lawful 𝓛).typed (F.last h) _ (FL.is_last h _ was)).0) $
      move ! (6 ∷ 7 ∷ []) $ looks ! tt (row I) (I.opens 𝓛) i b₁ o₁ (λ q' vs₁.
      spelt ! (row I) (Is (row I)) (shows 𝓛 (row I)) (λ z. I.val z ∷ []) I.tells q' i vs₁ b₁ o₁ $
      move ! (1 ∷ []) $ peeks ! (row I) (Is (row I)) (shows 𝓛 (row I)) i (I.val i ∷ []) (λ is_i. move ! (1 ∷ 0 ∷ []) $
      assigns ! (of_opd ! (load ! (at_local at_2 (hop ! (look ! 6 refl) (stop !))) (look_raw ! 0 refl))) (at_local at_n (stop !))
      (init ! 8 refl ((I.lawful 𝓛).typed i _ is_i).0) $
      shuts ! tt (row I) q' i (I.val i ∷ []) b₁ o₁ $
      calls_by_value (L ∷ I ∷ []) A (λ d. does d.0 d.1.0) 𝓛 (F.last h, (i, tt)) (FL.is_last h _ was, (is_i, tt)) fm known
      (and_then ! (load ! (at_local at_l (stop !)) (look ! 6 refl)) (and_then ! (load ! (at_local at_n (stop !)) (look ! 7 refl)) (no_more !))) (λ y v e is.
      land ! (at_local at_a (stop !)) (init ! 8 refl (lawful.typed y _ is).0) $
      rewrite ! 8 (λ (u : Val). ‵ (fat full_share A.τ la 0 u)) (lone_is v (val y) (tells y (v ∷ []) is)) refl $ drop ! $
      move ! (2 ∷ 3 ∷ 4 ∷ 5 ∷ 6 ∷ 7 ∷ 1 ∷ 0 ∷ []) $ then y v e is)))
  -- asked: end
