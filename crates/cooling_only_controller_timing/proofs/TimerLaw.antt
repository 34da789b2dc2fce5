-- The timer of a true delay over any history of samples, for any delay and both values of `delay_on_init`: where the input is true and the output is not yet, it is the time since the input last rose. Assumes nothing.
use Rattle.std.proofs.Common.{◌≡◌, ℕ, ◌+◌, ◌-◌, ◌<◌, ◌≤◌, Bool, true, false, cond, not, T, ◌⊎◌, List, [], ◌∷◌, Option, Some, None, inl, inr, sym, refl, subst, ⊎_elim, zero-le, arith}
use lib.Dec.{nleb→lt}
use lib.Ieee.{Float, lt, le, is_nan}
use Rattle.f64_helpers.specs.F64.{◌⊕◌, ◌⊖◌, zero}
use Rattle.f64_helpers.specs.Helpers.{max}
use Rattle.f64_helpers.specs.Seconds.{Whole, seconds, IsTime}
use Rattle.f64_helpers.proofs.WholeSeconds.{zero_whole, Reach}
use Rattle.f64_helpers.proofs.Order.{lt_is_not_le}
use Rattle.cdl_recurrences.specs.CdlRecurrences.{true_delay_output}
use Rattle.cdl_recurrences.specs.declared.TrueDelayOutput.{TrueDelayOutput}
use Rattle.cooling_only_controller_timing.specs.declared.TrueDelayState.{TrueDelayState}
use Rattle.cooling_only_controller_timing.specs.Timing.{true_delay}
use Rattle.cooling_only_controller_timing.specs.History.{Sample, true_delay_after, Timed}
use Rattle.cooling_only_controller_timing.proofs.TrueDelayLaw.{sample, number_if_reached, max_reached, next_whole}

-- ---- the input last rose n seconds before `now`
-- It was false at the sample before; or there was none, and delay_on_init counts that as a rise.
abbrev pub Fell : Bool → List Sample → Type 0
Fell delay_on_init [] = T delay_on_init
Fell delay_on_init (k ∷ h) = T (not k.input)

abbrev pub RoseFor : Bool → ℕ → ℕ → List Sample → Type 0
RoseFor delay_on_init n now [] = ⊥
RoseFor delay_on_init n now (k ∷ h) = T k.input × (((n + seconds k.time ≡ now) × Fell delay_on_init h) ⊎ RoseFor delay_on_init n now h)

-- and so, b seconds later, n + b seconds before
rose_for_later : (delay_on_init : Bool) (n now b : ℕ) (h : List Sample) → RoseFor delay_on_init n now h → RoseFor delay_on_init (n + b) (now + b) h
rose_for_later delay_on_init n now b [] o = o
rose_for_later delay_on_init n now b (k ∷ h) o =
    (o.0, ⊎_elim (λ e. inl (omega (arith, e.0), e.1)) (λ r. inr (rose_for_later delay_on_init n now b h r)) o.1)

-- ---- what holds of the state after a history, whose newest sample is at t with the input u
module _ (delay_time : Float) (d : ℕ) (reach : Reach delay_time d) (delay_on_init : Bool) where
  abbrev pub Counted : List Sample → Float → Bool → Bool → Float → Type 0
  Counted h t u held timer =
      T u → T (not held) → (n : ℕ) × Whole timer n × (n < d) × (n ≤ seconds t) × RoseFor delay_on_init n (seconds t) (sample t u ∷ h)

  abbrev CountedOutput : List Sample → Float → Bool → TrueDelayOutput → Type 0
  CountedOutput h t u o = Counted h t u o.output o.timer

  abbrev CountedState : List Sample → TrueDelayState → Type 0
  CountedState [] s = s.previous_time ≡ None
  CountedState (k ∷ h) s = (s.previous_time ≡ Some k.time) × (s.previous_input ≡ k.input) × Counted h k.time k.input s.held s.timer

  -- a timer that has not reached the delay
  short : (x : Float) (n : ℕ) → Whole x n → T (not (le (max delay_time zero) x)) → n < d
  short x n w q = nleb→lt d n (subst (λ (b : Bool). T (not b)) (max_reached delay_time d reach x n w) q)

  -- a run of true inputs that begins with the newest sample
  from_zero : (h : List Sample) (t : Float) → Fell delay_on_init h → 0 < d → (n : ℕ) × Whole zero n × (n < d) × (n ≤ seconds t) × RoseFor delay_on_init n (seconds t) (sample t true ∷ h)
  from_zero h t f l = (0, zero_whole, l, zero-le, (tt, inl (omega arith, f)))

  -- it is true at the very first sample
  first : (on_init : Bool) → on_init ≡ delay_on_init → (t : Float) (i b : Bool) (x : Float) → CountedOutput [] t true (true_delay_output t true delay_time on_init None i b x)
  unfolding true_delay_output is_nan
  first false e t i b x = λ q r. absurd r
  first true e t i b x = go (lt zero (max delay_time zero)) refl
    where
      above : T (lt zero (max delay_time zero)) → 0 < d
      above q =
          short zero 0 zero_whole
          (subst T (lt_is_not_le zero (max delay_time zero) tt (number_if_reached (max delay_time zero) d (max_reached delay_time d reach))) q)

      go : (c : Bool) → lt zero (max delay_time zero) ≡ c → CountedOutput [] t true (cond c (record { output = false; timer = zero }) (record { output = true; timer = max delay_time zero }))
      go true l = λ q r. from_zero [] t (subst T e tt) (above (subst T (sym l) tt))
      go false l = λ q r. absurd r

  -- it is true at a later sample, after one at p
  running : (h : List Sample) (t p : Float) (i b : Bool) (x : Float) → IsTime t → IsTime p → seconds p ≤ seconds t → Counted h p i b x
      → CountedOutput (sample p i ∷ h) t true (true_delay_output t true delay_time delay_on_init (Some p) i b x)
  unfolding true_delay_output
  running h t p i true x it ip l g = λ q r. absurd r
  running h t p false false x it ip l g = λ q r. from_zero (sample p false ∷ h) t tt (short zero 0 zero_whole r)
  running h t p true false x it ip l g =
      let c = g tt tt in
      let n = c.0 in
      let gap = seconds t - seconds p in
      let w : Whole (x ⊕ max (t ⊖ p) zero) (n + gap) = next_whole t p x n it ip l c.1 c.3 in
      let now : seconds p + gap ≡ seconds t = omega (arith, l) in
      λ q r. (
        n + gap,
        w,
        short (x ⊕ max (t ⊖ p) zero) (n + gap) w r,
        omega (arith, c.3, l),
        (tt, inr (subst (λ (s : ℕ). RoseFor delay_on_init (n + gap) s (sample p true ∷ h)) now (rose_for_later delay_on_init n (seconds p) gap (sample p true ∷ h) c.4))),
      )

  step : (h : List Sample) (s : TrueDelayState) (t : Float) (u : Bool) → Timed (sample t u ∷ h) → CountedState h s
      → CountedState (sample t u ∷ h) (true_delay s t u delay_time delay_on_init).state
  unfolding true_delay true_delay_output
  step h s t false m g = (refl, refl, λ q. absurd q)
  step [] s t true m g = (
    refl,
    refl,
    subst (λ (p : Option Float). CountedOutput [] t true (true_delay_output t true delay_time delay_on_init p s.previous_input s.held s.timer)) (sym g)
        (first delay_on_init refl t s.previous_input s.held s.timer),
  )
  step (k ∷ h) s t true m g = (
    refl,
    refl,
    subst (λ (p : Option Float). CountedOutput (k ∷ h) t true (true_delay_output t true delay_time delay_on_init p s.previous_input s.held s.timer)) (sym g.0)
        (subst (λ (i : Bool). CountedOutput (k ∷ h) t true (true_delay_output t true delay_time delay_on_init (Some k.time) i s.held s.timer)) (sym g.1)
        (running h t k.time k.input s.held s.timer m.0 m.2.0 m.1 g.2)),
  )

  counted : (h : List Sample) → Timed h → CountedState h (true_delay_after delay_time delay_on_init h)
  counted [] m = refl
  counted (k ∷ h) m = step h (true_delay_after delay_time delay_on_init h) k.time k.input m (counted h m.2)

  -- the law
  pub timer_law : (k : Sample) (h : List Sample) → Timed (k ∷ h)
      → Counted h k.time k.input (true_delay_after delay_time delay_on_init (k ∷ h)).held (true_delay_after delay_time delay_on_init (k ∷ h)).timer
  timer_law k h m = (counted (k ∷ h) m).2
