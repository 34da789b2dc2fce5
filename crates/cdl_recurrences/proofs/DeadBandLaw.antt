-- The law of a dead band: its output is on exactly if some reading turned it on and every newer reading kept it on. Beside it the law of two histories, and both for the comparators of CdlRecurrences. Assumes nothing.
use mathlib.Core.Path.{◌≡◌, refl, sym, ap, subst}
use mathlib.Core.Logic.Iff
use mathlib.Core.Logic.{◌↔◌, ◌⊎◌, inl, inr, ⊎_elim}
use mathlib.Core.List.{List, [], ◌∷◌, ◌++◌}
use mathlib.Core.Bool.{Bool, true, false, or-false}
use lib.Dec.{T}
use lib.Ieee.{Float}
use Rattle.f64_helpers.specs.F64.{◌⊕◌, ◌⊖◌, ◌<ᶠ◌, ◌>ᶠ◌, ◌≤ᶠ◌, ◌≥ᶠ◌}
use Rattle.std.proofs.lemmas.Float.{le_of_lt, lt_of_le_of_lt, lt_of_lt_of_le}
use Rattle.cdl_recurrences.specs.CdlRecurrences.{hysteresis, less_hysteretic, greater_hysteretic}
use Rattle.cdl_recurrences.specs.DeadBand.{dead_band, dead_band_after, AllStay, Latched, Related, hysteresis_after, less_hysteretic_after, greater_hysteretic_after}

-- ---- any dead band
-- `Latched`, going back one reading at a time
abbrev pub OnSince : {A : Type 0} → (A → Bool) → (A → Bool) → List A → Type 0
OnSince on stay [] = ⊥
OnSince on stay (x ∷ h) = T (on x) ⊎ (T (stay x) × OnSince on stay h)

module _ {A : Type 0} (on stay : A → Bool) where
  latched : (h : List A) → OnSince on stay h → Latched on stay h
  latched [] o = absurd o
  latched (x ∷ h) (inl r) = record { newer = []; start = x; older = h; parts = refl; turned_on = r; stayed = tt }
  latched (x ∷ h) (inr o) =
      let l = latched h o.1 in
      record { newer = x ∷ l.newer; start = l.start; older = l.older; parts = ap (λ (z : List A). x ∷ z) l.parts; turned_on = l.turned_on; stayed = (o.0, l.stayed) }

  on_since : (newer : List A) (start : A) (older : List A) → T (on start) → AllStay stay newer → OnSince on stay (newer ++ (start ∷ older))
  on_since [] start older r a = inl r
  on_since (x ∷ newer) start older r a = inr (a.0, on_since newer start older r a.1)

  pub on_since_iff_latched : (h : List A) → OnSince on stay h ↔ Latched on stay h
  on_since_iff_latched h = (latched h, λ l. subst (OnSince on stay) (sym l.parts) (on_since l.newer l.start l.older l.turned_on l.stayed))

module _ {A : Type 0} (on stay : A → Bool) (on_stays : (x : A) → T (on x) → T (stay x)) where
  pub on_since_law : (h : List A) → T (dead_band_after on stay h) ↔ OnSince on stay h
  on_since_law [] = (λ q. q, λ c. c)
  on_since_law (x ∷ h) = go (dead_band_after on stay h) (on_since_law h)
    where
      go : (b : Bool) → (T b ↔ OnSince on stay h) → T (dead_band on stay b x) ↔ (T (on x) ⊎ (T (stay x) × OnSince on stay h))
      go true i = (λ q. inr (q, i.0 tt), λ c. ⊎_elim (on_stays x) (λ z. z.0) c)
      go false i = (λ q. inl (subst T (or-false (on x)) q), λ c. subst T (sym (or-false (on x))) (⊎_elim (λ z. z) (λ z. absurd (i.1 z.1)) c))

  pub dead_band_law : (h : List A) → T (dead_band_after on stay h) ↔ Latched on stay h
  dead_band_law h = Iff.trans (on_since_law h) (on_since_iff_latched on stay h)

  -- If readings related by R pass each test together, from the first to the second, then the output after the second history is on if that after the first is.
  module _ (R : A → A → Type 0) (on_kept : (x y : A) → R x y → T (on x) → T (on y)) (stay_kept : (x y : A) → R x y → T (stay x) → T (stay y)) where
    on_since_kept : (g h : List A) → Related R g h → OnSince on stay g → OnSince on stay h
    on_since_kept [] [] r o = o
    on_since_kept [] (y ∷ h) r o = absurd r
    on_since_kept (x ∷ g) [] r o = absurd r
    on_since_kept (x ∷ g) (y ∷ h) r o = ⊎_elim (λ p. inl (on_kept x y r.0 p)) (λ p. inr (stay_kept x y r.0 p.0, on_since_kept g h r.1 p.1)) o

    pub dead_band_two_histories : (g h : List A) → Related R g h → T (dead_band_after on stay g) → T (dead_band_after on stay h)
    dead_band_two_histories g h r t = (on_since_law h).1 (on_since_kept g h r ((on_since_law g).0 t))

-- ---- the comparators
pub hysteresis_is : (u_low u_high : Float) (previous : Bool) (u : Float) → hysteresis u u_low u_high previous ≡ dead_band (λ u. u >ᶠ u_high) (λ u. u ≥ᶠ u_low) previous u
unfolding hysteresis
hysteresis_is u_low u_high previous u = refl

pub less_hysteretic_is : (u2 h : Float) (previous : Bool) (u1 : Float) → less_hysteretic u1 u2 h previous ≡ dead_band (λ u1. u1 <ᶠ u2) (λ u1. u1 <ᶠ u2 ⊕ h) previous u1
unfolding less_hysteretic
less_hysteretic_is u2 h previous u1 = refl

pub greater_hysteretic_is : (u2 h : Float) (previous : Bool) (u1 : Float) → greater_hysteretic u1 u2 h previous ≡ dead_band (λ u1. u1 >ᶠ u2) (λ u1. u1 >ᶠ u2 ⊖ h) previous u1
unfolding greater_hysteretic
greater_hysteretic_is u2 h previous u1 = refl

pub hysteresis_law : (u_low u_high : Float) → T (u_low ≤ᶠ u_high) → (us : List Float) → T (hysteresis_after u_low u_high us) ↔ Latched (λ u. u >ᶠ u_high) (λ u. u ≥ᶠ u_low) us
unfolding hysteresis
hysteresis_law u_low u_high l = dead_band_law (λ u. u >ᶠ u_high) (λ u. u ≥ᶠ u_low) (λ u p. le_of_lt u_low u (lt_of_le_of_lt u_low u_high u l p))

pub less_hysteretic_law : (u2 h : Float) → T (u2 ≤ᶠ u2 ⊕ h) → (us : List Float) → T (less_hysteretic_after u2 h us) ↔ Latched (λ u1. u1 <ᶠ u2) (λ u1. u1 <ᶠ u2 ⊕ h) us
unfolding less_hysteretic
less_hysteretic_law u2 h l = dead_band_law (λ u1. u1 <ᶠ u2) (λ u1. u1 <ᶠ u2 ⊕ h) (λ u1 p. lt_of_lt_of_le u1 u2 (u2 ⊕ h) p l)

pub greater_hysteretic_law : (u2 h : Float) → T (u2 ⊖ h ≤ᶠ u2) → (us : List Float) → T (greater_hysteretic_after u2 h us) ↔ Latched (λ u1. u1 >ᶠ u2) (λ u1. u1 >ᶠ u2 ⊖ h) us
unfolding greater_hysteretic
greater_hysteretic_law u2 h l = dead_band_law (λ u1. u1 >ᶠ u2) (λ u1. u1 >ᶠ u2 ⊖ h) (λ u1 p. lt_of_le_of_lt (u2 ⊖ h) u2 u1 l p)

-- If no reading of the second history is lower than that of the first, then `greater_hysteretic` is on after the second if it is on after the first.
pub greater_hysteretic_two_histories : (u2 h : Float) → T (u2 ⊖ h ≤ᶠ u2) → (us vs : List Float) → Related (λ u v. T (u ≤ᶠ v)) us vs → T (greater_hysteretic_after u2 h us) → T (greater_hysteretic_after u2 h vs)
unfolding greater_hysteretic
greater_hysteretic_two_histories u2 h l =
    dead_band_two_histories (λ u1. u1 >ᶠ u2) (λ u1. u1 >ᶠ u2 ⊖ h) (λ u1 p. lt_of_le_of_lt (u2 ⊖ h) u2 u1 l p) (λ u v. T (u ≤ᶠ v)) (λ u v r p. lt_of_lt_of_le u2 u v p r) (λ u v r p. lt_of_lt_of_le (u2 ⊖ h) u v p r)
