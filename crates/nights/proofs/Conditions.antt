-- A true delay whose input is a condition over the accepted ticks: its output is true exactly if the condition has held for the delay. For any condition, any delay and both values of `delay_on_init`. Beside it the laws of three inputs over one history and of one input over two. Assumes nothing.
use mathlib.Core.Path.{◌≡◌, refl, sym, subst}
use mathlib.Core.Logic.Iff
use mathlib.Core.Logic.{◌↔◌, ◌⊎◌, inl, inr, ⊎_elim}
use mathlib.Core.List.{List, [], ◌∷◌, ◌++◌, append_assoc}
use Prim.Native.Nat.{ℕ, ◌+◌, ◌≤◌}
use mathlib.Core.Bool.{Bool}
use lib.Dec.{T}
use lib.Ieee.{Float}
use Rattle.f64_helpers.specs.Seconds.{seconds, IsTime}
use Rattle.f64_helpers.proofs.WholeSeconds.{Reach}
use Rattle.cdl_recurrences.specs.DeadBand.{Related}
use Rattle.cooling_only_controller_timing.specs.History.{Sample, true_delay_after, NotBefore, Timed, TrueIfTrue}
use Rattle.cooling_only_controller_timing.proofs.TrueDelayLaw.{TrueSince, true_since_law, true_delay_two_histories}
use Rattle.air_box.specs.declared.Tick.{Tick}
use Rattle.air_box.proofs.Demands.{accepted_time}
use Rattle.nights.specs.Nights.{HoldsAlong, HeldFor}
use Rattle.nights.proofs.Histories.{in_order, extended, in_order_extended, history_of_parts, newest_time}
use Rattle.nights.proofs.AcceptedTicks.{accepted_not_before, AllAccepted}

-- the delay's samples over a history: the condition as it is computed, tick by tick
abbrev pub samples : (List Tick → Bool) → List Tick → List Sample
samples input [] = []
samples input (k ∷ h) = record { time = k.t; input = input (k ∷ h) } ∷ samples input h

-- they stand in the order of their times
pub samples_timed : (input : List Tick → Bool) (h : List Tick) → AllAccepted h → Timed (samples input h)
samples_timed input [] a = tt
samples_timed input (k ∷ h) a = (accepted_time (newest_time h) k a.0, not_before h a, samples_timed input h a.1)
  where
    not_before : (h : List Tick) → AllAccepted (k ∷ h) → NotBefore k.t (samples input h)
    not_before [] a = tt
    not_before (j ∷ h) a = accepted_not_before j k (accepted_time (newest_time h) j a.1.0) a.0

-- ---- one history
module _ (delay_time : Float) (length : ℕ) (reach : Reach delay_time length) (delay_on_init : Bool) where
  abbrev held_after : (List Tick → Bool) → List Tick → Bool
  held_after input h = (true_delay_after delay_time delay_on_init (samples input h)).held

  abbrev Stood : (List Tick → Bool) → ℕ → List Tick → Type 0
  Stood input now h = TrueSince length delay_on_init now (samples input h)

  pub held_since_law : (input : List Tick → Bool) (h : List Tick) (k : Tick) → AllAccepted (k ∷ h) → T (held_after input (k ∷ h)) ↔ Stood input (seconds k.t) (k ∷ h)
  held_since_law input h k a = true_since_law delay_time length reach delay_on_init (record { time = k.t; input = input (k ∷ h) }) (samples input h) (samples_timed input (k ∷ h) a)

  -- Three inputs, of which c is true where both a and b are: where the delays of a and of b give true, so does that of c.
  module _ (a b c : List Tick → Bool) (both : (h : List Tick) (k : Tick) → AllAccepted (k ∷ h) → T (a (k ∷ h)) → T (b (k ∷ h)) → T (c (k ∷ h))) where
    stood_by_both : (now : ℕ) (h : List Tick) → AllAccepted h → Stood a now h → Stood b now h → Stood c now h
    stood_by_both now [] x o p = o
    stood_by_both now (k ∷ h) x o p =
        (both h k x o.0 p.0, ⊎_elim (λ l. inl l) (λ r. ⊎_elim (λ l. inl l) (λ q. inr (stood_by_both now h x.1 r q)) p.1) o.1)

    pub held_by_both : (h : List Tick) (k : Tick) → AllAccepted (k ∷ h) → T (held_after a (k ∷ h)) → T (held_after b (k ∷ h)) → T (held_after c (k ∷ h))
    held_by_both h k x o p =
        (held_since_law c h k x).1 (stood_by_both (seconds k.t) (k ∷ h) x ((held_since_law a h k x).0 o) ((held_since_law b h k x).0 p))

-- ---- one history: `input` computes the condition `Holds`
module _ (input : List Tick → Bool) (Holds : List Tick → Tick → Type 0) (means : (h : List Tick) (k : Tick) → T (input (k ∷ h)) ↔ Holds (in_order h) k) (length : ℕ) (delay_on_init : Bool) where
  module _ (now : Tick) where
    abbrev Since : List Tick → Type 0
    Since h = TrueSince length delay_on_init (seconds now.t) (samples input h)

    -- The tick `begin` is k or stands in h. The condition held at the ticks `since`.
    begin_found : (h : List Tick) (k : Tick) (since : List Tick) → T (input (k ∷ h)) → (seconds k.t + length ≤ seconds now.t) ⊎ Since h
        → HoldsAlong Holds (in_order (k ∷ h)) since → HeldFor Holds length delay_on_init (in_order h ++ (k ∷ since)) now
    begin_found [] k since u o a =
        record { earlier = []; begin = k; since = since; parts = refl; held = ((means [] k).0 u, a); long = ⊎_elim (λ l. inl l) (λ r. inr (refl, r)) o }
    begin_found (j ∷ h) k since u (inl l) a =
        record { earlier = in_order (j ∷ h); begin = k; since = since; parts = refl; held = ((means (j ∷ h) k).0 u, a); long = inl l }
    begin_found (j ∷ h) k since u (inr o) a = rw append_assoc (begin_found h j (k ∷ since) o.0 o.1 ((means (j ∷ h) k).0 u, a))

    stays_true : (h since : List Tick) → Since h → HoldsAlong Holds (in_order h) since → Since (extended h since)
    stays_true h [] o a = o
    stays_true h (k ∷ since) o a = stays_true (k ∷ h) since ((means h k).1 a.0, inr o) a.1

    since_law : (h : List Tick) (k : Tick) → Since (k ∷ h) ↔ HeldFor Holds length delay_on_init (in_order (k ∷ h)) now
    since_law h k = (λ o. begin_found h k [] o.0 o.1 tt, back)
      where
        back : HeldFor Holds length delay_on_init (in_order (k ∷ h)) now → Since (k ∷ h)
        back f =
            let older = extended [] f.earlier in
            let a : HoldsAlong Holds (in_order older) (f.begin ∷ f.since) = rw (in_order_extended [] f.earlier) f.held in
            let o : Since (f.begin ∷ older) = ((means older f.begin).1 a.0, ⊎_elim (λ l. inl l) (λ e. inr (subst (λ (b : List Tick). Since (extended [] b)) (sym e.0) e.1)) f.long) in
            subst Since (history_of_parts (k ∷ h) f.earlier f.begin f.since f.parts)
            (stays_true (f.begin ∷ older) f.since o a.1)

  pub held_for_law : (delay_time : Float) → Reach delay_time length → (h : List Tick) (k : Tick) → AllAccepted (k ∷ h)
      → T (true_delay_after delay_time delay_on_init (samples input (k ∷ h))).held ↔ HeldFor Holds length delay_on_init (in_order (k ∷ h)) k
  held_for_law delay_time reach h k a =
      Iff.trans (held_since_law delay_time length reach delay_on_init input h k a) (since_law k h k)

-- ---- two histories of accepted ticks, at equal times, tick by tick in the relation R, by which the condition of the first carries over to the second
module _ (input : List Tick → Bool) (R : Tick → Tick → Type 0) (same_seconds : (j k : Tick) → IsTime j.t → IsTime k.t → R j k → seconds j.t ≡ seconds k.t)
    (carried : (g h : List Tick) → Related R g h → T (input g) → T (input h)) where
  inputs_kept : (g h : List Tick) → AllAccepted g → AllAccepted h → Related R g h → Related TrueIfTrue (samples input g) (samples input h)
  inputs_kept [] [] a b r = tt
  inputs_kept [] (k ∷ h) a b r = absurd r
  inputs_kept (j ∷ g) [] a b r = absurd r
  inputs_kept (j ∷ g) (k ∷ h) a b r = (
    (same_seconds j k (accepted_time (newest_time g) j a.0) (accepted_time (newest_time h) k b.0) r.0, carried (j ∷ g) (k ∷ h) r),
    inputs_kept g h a.1 b.1 r.1,
  )

  pub held_kept : (delay_time : Float) (length : ℕ) → Reach delay_time length → (delay_on_init : Bool) (g h : List Tick) → AllAccepted g → AllAccepted h → Related R g h
      → T (true_delay_after delay_time delay_on_init (samples input g)).held → T (true_delay_after delay_time delay_on_init (samples input h)).held
  held_kept delay_time length reach delay_on_init g h a b r =
      true_delay_two_histories delay_time length reach delay_on_init (samples input g) (samples input h) (samples_timed input g a) (samples_timed input h b) (inputs_kept g h a b r)
