-- One part of a record behind a `&mut` is read, run by a function by value and stored in its place: on what stands in a local of its
-- own (`run_first`), or on the second field of what the part before returned (`run_part`). Assumes nothing.
-- The marked parts are written by tools/walks/write, from the names in RunPart.walk there.
use mathlib.Core.Path.{◌≡◌, refl, sym, subst}
use Prim.Native.Nat.{ℕ}
use mathlib.Core.List.{[], ◌∷◌, List}
use seplogic.Ra.Ura.{Ura}
use base.Fraction.{full_share}
use mathlib.Core.Option.{some}
use mir.Syntax.{Callee, Sym, Ty, Tys, Step, ty_struct, Body as Code, place, deref, field, copy, rv_opd, seq, assign, call}
use mir.Fields.{get_v, set_v}
use mir.Val.{Val, Vals, vptr, vstruct}
use base.Fml.{froom, fat}
use prog.Memory.{field_at}
use prog.Wp.{Env, Spot, spot_of, Calls, Loops}
use types.Logic.{Logic}
use types.Kit as Kit
use types.Kit.{Go, Item, Sq, runs, ‵, some, ◌$◌, !, move, drop, rewrite}
use types.Run.{Reads, Walks as Leads, Finds, look, init, stop, hop, fld, from, load, and_then, no_more, of_opd, assigns, land}
use types.Part.{whole, sub, look_in, store_in}
use sound.WpLaws.{FmC}
use denote.Laws.{Is}
use denote.Triple.Statement.{Triple}
use Rattle.lent_laws.proofs.PlainTypes.{PlainType, row, Data, Two, two_shape, two_val}
use Rattle.lent_laws.proofs.ByValue.{lone_is, calls_by_value, Stage, StageMeets}

-- a place of the local i, where the local's spot is known
module _ {M : Type 1} {𝓤 : Ura M} {𝓛 : Logic 𝓤} {Γ : List (Item 𝓤)} where
  open 𝓛 use {H}

  pub at_local : {E : Env 𝓤 H} {i : ℕ} {st : List Step} {sp sp' : Spot 𝓤 H} → spot_of 𝓤 H E i ≡ sp → Leads (Go {0}) 𝓛 Γ E sp st sp' → Finds (Go {0}) 𝓛 Γ E (place i st) sp'
  at_local {E} {st = st} {sp' = sp'} e w = from ! (subst (λ (z : Spot 𝓤 H). Leads (Go {0}) 𝓛 Γ E z st sp') (sym e) w)

  read_as : {τ : Ty} {b o : ℕ} {u v : Val} → u ≡ v → Reads (Go {0}) 𝓛 Γ τ b o u → Reads (Go {0}) 𝓛 Γ τ b o v
  read_as {τ} {b} {o} e r = subst (λ (z : Val). Reads (Go {0}) 𝓛 Γ τ b o z) e r

-- field j of the record behind the local 1 is read into the local t, and the second field of c into n; the function k runs the one on the other into r, and the first field of r is read into m and stored
abbrev pub runs_part : Ty → ℕ → ℕ → ℕ → ℕ → ℕ → ℕ → Callee → Code → Code
runs_part τ j t n m c r k then = seq (assign (place t []) (rv_opd (copy (place 1 (deref τ ∷ field j ∷ []))))) (seq (assign (place n []) (rv_opd (copy (place c (field 1 ∷ [])))))
    (seq (call k (copy (place t []) ∷ copy (place n []) ∷ []) (place r [])) (seq (assign (place m []) (rv_opd (copy (place r (field 0 ∷ [])))))
    (seq (assign (place 1 (deref τ ∷ field j ∷ [])) (rv_opd (copy (place m [])))) then))))

-- the same where the function k runs the field on what stands in the local n already
abbrev pub runs_first : Ty → ℕ → ℕ → ℕ → ℕ → ℕ → Callee → Code → Code
runs_first τ j t n m r k then = seq (assign (place t []) (rv_opd (copy (place 1 (deref τ ∷ field j ∷ []))))) (seq (call k (copy (place t []) ∷ copy (place n []) ∷ []) (place r []))
    (seq (assign (place m []) (rv_opd (copy (place r (field 0 ∷ []))))) (seq (assign (place 1 (deref τ ∷ field j ∷ [])) (rv_opd (copy (place m [])))) then)))

-- what is left of both where the field stands in t and what is handed to the function in n
abbrev runs_read : Ty → ℕ → ℕ → ℕ → ℕ → ℕ → Callee → Code → Code
runs_read τ j t n m r k then = seq (call k (copy (place t []) ∷ copy (place n []) ∷ []) (place r [])) (seq (assign (place m []) (rv_opd (copy (place r (field 0 ∷ [])))))
    (seq (assign (place 1 (deref τ ∷ field j ∷ [])) (rv_opd (copy (place m [])))) then))

module _ {M : Type 1} {𝓤 : Ura M} (𝓛 : Logic 𝓤) {C : Calls 𝓤 𝓛.H} {Λ : Loops 𝓤 𝓛.H} (fm : FmC 𝓤 𝓛.H 𝓛.laws C) {E : Env 𝓤 𝓛.H} {q : Kit.Post 𝓤 𝓛.H}
    (P X Y : PlainType) (s : Stage P X P Y) (known : Triple 𝓤 (C s.name) (StageMeets P X P Y s 𝓛)) where
  -- [the record's cell; the reference; the part; what is handed to it; room for what it becomes; room for what is returned], and the same with the part stored
  open 𝓛 use {H}

  run_read : {ν : Sym} {τs : Tys} {vs : Vals} {d b o : ℕ} {ρ : Ty} {l₁ lt ln lm lr : ℕ} {Γ : List (Item 𝓤)} {then : Code} (j t n m r : ℕ) → field_at 0 τs j ≡ some (P.shape.τ, d) → spot_of 𝓤 H E 1 ≡ (ρ, l₁, 0)
      → spot_of 𝓤 H E t ≡ (P.shape.τ, lt, 0) → spot_of 𝓤 H E n ≡ (X.shape.τ, ln, 0) → spot_of 𝓤 H E m ≡ (P.shape.τ, lm, 0) → spot_of 𝓤 H E r ≡ ((two_shape P Y s.gives).τ, lr, 0)
      → (x : Data P) → Is (row P) x (P.val x ∷ []) → (z : Data X) → Is (row X) z (X.val z ∷ [])
      → ((y : s.gives.X) → s.does x z y → Is (row P) (s.gives.first y) (P.val (s.gives.first y) ∷ []) → Is (row Y) (s.gives.second y) (Y.val (s.gives.second y) ∷ [])
      → Sq 𝓛 (‵ (fat full_share (ty_struct ν τs) b o (vstruct (set_v vs j (P.val (s.gives.first y))))) ∷ ‵ (fat full_share ρ l₁ 0 (vptr b o)) ∷ ‵ (fat full_share P.shape.τ lt 0 (P.val x)) ∷ ‵ (fat full_share X.shape.τ ln 0 (X.val z)) ∷ ‵ (fat full_share P.shape.τ lm 0 (P.val (s.gives.first y)))
      ∷ ‵ (fat full_share (two_shape P Y s.gives).τ lr 0 (two_val P Y s.gives y)) ∷ Γ) (runs C Λ E then q))
      → Sq 𝓛 (‵ (fat full_share (ty_struct ν τs) b o (vstruct vs)) ∷ ‵ (fat full_share ρ l₁ 0 (vptr b o)) ∷ ‵ (fat full_share P.shape.τ lt 0 (P.val x)) ∷ ‵ (fat full_share X.shape.τ ln 0 (X.val z)) ∷ ‵ (froom P.shape.τ lm 0)
      ∷ ‵ (froom (two_shape P Y s.gives).τ lr 0) ∷ Γ) (runs C Λ E (runs_read (ty_struct ν τs) j t n m r s.name then) q)
  -- read: written by tools/walks/write
  run_read {lr = lr} j t n m r at_j at_1 at_t at_n at_m at_r x is_x z is_z then =
      calls_by_value (P ∷ X ∷ []) (two_shape P Y s.gives) (λ d. s.does d.0 d.1.0) 𝓛 (x, (z, tt)) (is_x, (is_z, tt)) fm known (and_then ! (load ! (at_local at_t (stop !)) (look ! 3 refl))
      (and_then ! (load ! (at_local at_n (stop !)) (look ! 4 refl)) (no_more !))) (λ y v e is.
      land ! (at_local at_r (stop !)) (init ! 6 refl ((s.laws.lawful 𝓛).typed y _ is).0) $
      rewrite ! 6 (λ (u : Val). ‵ (fat full_share (two_shape P Y s.gives).τ lr 0 u)) (lone_is v (two_val P Y s.gives y) (s.laws.tells y (v ∷ []) is)) refl $
      drop ! $ assigns ! (of_opd ! (load ! (at_local at_r (fld ! refl (stop !))) (look_in ! 5 (sub ! 0 refl (whole !)))))
      (at_local at_m (stop !)) (init ! 4 refl ((P.lawful 𝓛).typed (s.gives.first y) _ (s.laws.is_first y _ is)).0) $
      assigns ! (of_opd ! (load ! (at_local at_m (stop !)) (look ! 4 refl)))
      (at_local at_1 (hop ! (look ! 1 refl) (fld ! at_j (stop !))))
      (store_in ! 0 (sub ! j at_j (whole !)) ((P.lawful 𝓛).typed (s.gives.first y) _ (s.laws.is_first y _ is)).0) $
      then y e (s.laws.is_first y _ is) (s.laws.is_second y _ is))

  -- read: end

  pub run_first : {ν : Sym} {τs : Tys} {vs : Vals} {d b o : ℕ} {ρ : Ty} {l₁ lt ln lm lr : ℕ} {Γ : List (Item 𝓤)} {then : Code} (j t n m r : ℕ) → field_at 0 τs j ≡ some (P.shape.τ, d) → spot_of 𝓤 H E 1 ≡ (ρ, l₁, 0)
      → spot_of 𝓤 H E t ≡ (P.shape.τ, lt, 0) → spot_of 𝓤 H E n ≡ (X.shape.τ, ln, 0) → spot_of 𝓤 H E m ≡ (P.shape.τ, lm, 0) → spot_of 𝓤 H E r ≡ ((two_shape P Y s.gives).τ, lr, 0)
      → (x : Data P) → get_v vs j ≡ P.val x → Is (row P) x (P.val x ∷ []) → (z : Data X) → Is (row X) z (X.val z ∷ [])
      → ((y : s.gives.X) → s.does x z y → Is (row P) (s.gives.first y) (P.val (s.gives.first y) ∷ []) → Is (row Y) (s.gives.second y) (Y.val (s.gives.second y) ∷ [])
      → Sq 𝓛 (‵ (fat full_share (ty_struct ν τs) b o (vstruct (set_v vs j (P.val (s.gives.first y))))) ∷ ‵ (fat full_share ρ l₁ 0 (vptr b o)) ∷ ‵ (fat full_share P.shape.τ lt 0 (P.val x)) ∷ ‵ (fat full_share X.shape.τ ln 0 (X.val z)) ∷ ‵ (fat full_share P.shape.τ lm 0 (P.val (s.gives.first y)))
      ∷ ‵ (fat full_share (two_shape P Y s.gives).τ lr 0 (two_val P Y s.gives y)) ∷ Γ) (runs C Λ E then q))
      → Sq 𝓛 (‵ (fat full_share (ty_struct ν τs) b o (vstruct vs)) ∷ ‵ (fat full_share ρ l₁ 0 (vptr b o)) ∷ ‵ (froom P.shape.τ lt 0) ∷ ‵ (fat full_share X.shape.τ ln 0 (X.val z)) ∷ ‵ (froom P.shape.τ lm 0)
      ∷ ‵ (froom (two_shape P Y s.gives).τ lr 0) ∷ Γ) (runs C Λ E (runs_first (ty_struct ν τs) j t n m r s.name then) q)
  -- first: written by tools/walks/write
  run_first j t n m r at_j at_1 at_t at_n at_m at_r x is_v is_x z is_z then =
      assigns ! (of_opd ! (load ! (at_local at_1 (hop ! (look ! 1 refl) (fld ! at_j (stop !)))) (read_as is_v (look_in ! 0 (sub ! j at_j (whole !))))))
      (at_local at_t (stop !)) (init ! 2 refl ((P.lawful 𝓛).typed x _ is_x).0) $
      run_read j t n m r at_j at_1 at_t at_n at_m at_r x is_x z is_z then
  -- first: end

module _ {M : Type 1} {𝓤 : Ura M} (𝓛 : Logic 𝓤) {C : Calls 𝓤 𝓛.H} {Λ : Loops 𝓤 𝓛.H} (fm : FmC 𝓤 𝓛.H 𝓛.laws C) {E : Env 𝓤 𝓛.H} {q : Kit.Post 𝓤 𝓛.H}
    (Q P X Y : PlainType) (g : Two Q X) (s : Stage P X P Y) (known : Triple 𝓤 (C s.name) (StageMeets P X P Y s 𝓛)) where
  -- [the record's cell; the reference; room for the part, for what is handed to it and for what it becomes; where what is handed on stands; room for what is returned], and the same with the part stored
  open 𝓛 use {H}

  pub run_part : {ν : Sym} {τs : Tys} {vs : Vals} {d b o : ℕ} {ρ : Ty} {l₁ lt ln lm lc lr : ℕ} {Γ : List (Item 𝓤)} {then : Code} (j t n m c r : ℕ) → field_at 0 τs j ≡ some (P.shape.τ, d) → spot_of 𝓤 H E 1 ≡ (ρ, l₁, 0)
      → spot_of 𝓤 H E t ≡ (P.shape.τ, lt, 0) → spot_of 𝓤 H E n ≡ (X.shape.τ, ln, 0) → spot_of 𝓤 H E m ≡ (P.shape.τ, lm, 0) → spot_of 𝓤 H E c ≡ ((two_shape Q X g).τ, lc, 0) → spot_of 𝓤 H E r ≡ ((two_shape P Y s.gives).τ, lr, 0)
      → (x : Data P) → get_v vs j ≡ P.val x → Is (row P) x (P.val x ∷ []) → (a : g.X) → Is (row X) (g.second a) (X.val (g.second a) ∷ [])
      → ((y : s.gives.X) → s.does x (g.second a) y → Is (row P) (s.gives.first y) (P.val (s.gives.first y) ∷ []) → Is (row Y) (s.gives.second y) (Y.val (s.gives.second y) ∷ [])
      → Sq 𝓛 (‵ (fat full_share (ty_struct ν τs) b o (vstruct (set_v vs j (P.val (s.gives.first y))))) ∷ ‵ (fat full_share ρ l₁ 0 (vptr b o)) ∷ ‵ (fat full_share P.shape.τ lt 0 (P.val x)) ∷ ‵ (fat full_share X.shape.τ ln 0 (X.val (g.second a))) ∷ ‵ (fat full_share P.shape.τ lm 0 (P.val (s.gives.first y))) ∷ ‵ (fat full_share (two_shape Q X g).τ lc 0 (two_val Q X g a))
      ∷ ‵ (fat full_share (two_shape P Y s.gives).τ lr 0 (two_val P Y s.gives y)) ∷ Γ) (runs C Λ E then q))
      → Sq 𝓛 (‵ (fat full_share (ty_struct ν τs) b o (vstruct vs)) ∷ ‵ (fat full_share ρ l₁ 0 (vptr b o)) ∷ ‵ (froom P.shape.τ lt 0) ∷ ‵ (froom X.shape.τ ln 0) ∷ ‵ (froom P.shape.τ lm 0) ∷ ‵ (fat full_share (two_shape Q X g).τ lc 0 (two_val Q X g a))
      ∷ ‵ (froom (two_shape P Y s.gives).τ lr 0) ∷ Γ) (runs C Λ E (runs_part (ty_struct ν τs) j t n m c r s.name then) q)
  -- walk: written by tools/walks/write
  run_part j t n m c r at_j at_1 at_t at_n at_m at_c at_r x is_v is_x a is_a then =
      assigns ! (of_opd ! (load ! (at_local at_1 (hop ! (look ! 1 refl) (fld ! at_j (stop !)))) (read_as is_v (look_in ! 0 (sub ! j at_j (whole !))))))
      (at_local at_t (stop !)) (init ! 2 refl ((P.lawful 𝓛).typed x _ is_x).0) $
      assigns ! (of_opd ! (load ! (at_local at_c (fld ! refl (stop !))) (look_in ! 5 (sub ! 1 refl (whole !))))) (at_local at_n (stop !)) (init ! 3 refl ((X.lawful 𝓛).typed (g.second a) _ is_a).0) $
      move ! (0 ∷ 1 ∷ 2 ∷ 3 ∷ 4 ∷ 6 ∷ []) $ run_read 𝓛 fm P X Y s known j t n m r at_j at_1 at_t at_n at_m at_r x is_x (g.second a) is_a (λ y e is_first is_second.
      move ! (0 ∷ 1 ∷ 2 ∷ 3 ∷ 4 ∷ 6 ∷ 5 ∷ []) $ then y e is_first is_second)
  -- walk: end
