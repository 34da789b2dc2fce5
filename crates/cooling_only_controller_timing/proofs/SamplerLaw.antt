-- The sampler's law over any history of ticks at whole seconds, for a whole period of at most 2 ^ 20: it gives the input of the newest sampled tick. Assumes nothing.
use Rattle.std.proofs.Common.{◌≡◌, ℕ, ◌*◌, ◌/◌, ◌^◌, ◌<◌, ◌≤◌, Bool, true, false, cond, not, T, ltb, ◌↔◌, List, [], ◌∷◌, refl, ap, ◌∙◌, lt_of_lt_of_le, div-lt_iff_lt-mul, le-div_iff_mul-le, div-mul-le_self, nltb→le}
use lib.Ieee.{Float}
use Rattle.f64_helpers.specs.Seconds.{Whole, seconds, IsTime}
use Rattle.cdl_recurrences.specs.CdlRecurrences.{sampler_output, sample_due}
use Rattle.cdl_recurrences.proofs.SampleGrid.{OnGrid, grid_first, grid_due, grid_sampled, grid_kept}
use Rattle.cooling_only_controller_timing.specs.declared.SamplerState.{SamplerState}
use Rattle.cooling_only_controller_timing.specs.Timing.{fresh_sampler, sampler_sample}
use Rattle.cooling_only_controller_timing.specs.SamplerHistory.{SamplerTick, sampler_after, TimesInOrder, held_by_rule}

-- the rule's test, in words: a multiple of p lies after m and not after n
pub multiple_between : (m n p : ℕ) → 0 < p → (m / p < n / p) ↔ ((i : ℕ) × (m < i * p) × (i * p ≤ n))
multiple_between m n p P = (
  λ h. (n / p, (div-lt_iff_lt-mul P).0 h, div-mul-le_self n p),
  λ h. lt_of_lt_of_le ((div-lt_iff_lt-mul P).1 h.1) ((le-div_iff_mul-le P).1 h.2),
)

-- what the state s keeps after a tick at n seconds, at which the sampler gave v
record Kept (p : ℕ) (s : SamplerState) (n : ℕ) (v : Float) : Type 0 where
  started : s.initialized ≡ true
  place : OnGrid p s.t0 s.last_index n
  output : s.held ≡ v

-- a tick after the first, by its test b
abbrev state_by : Bool → SamplerState → Float → Float → Float → SamplerState
state_by true s t u period = record { initialized = true; t0 = s.t0; last_index = (sample_due t s.t0 period s.last_index).index; held = u }
state_by false s t u period = s

state_later : (s : SamplerState) (t u period : Float) (b : Bool) → s.initialized ≡ true → (sample_due t s.t0 period s.last_index).due ≡ b
    → (sampler_sample s t u period).state ≡ state_by b s t u period
unfolding sampler_sample
state_later s t u period true e d = rw (e, d)
state_later s t u period false e d = rw (e, d)

output_later : (s : SamplerState) (t u period : Float) (b : Bool) → s.initialized ≡ true → (sample_due t s.t0 period s.last_index).due ≡ b
    → (sampler_sample s t u period).output ≡ cond b u s.held
unfolding sampler_sample sampler_output
output_later s t u period b e d = rw (e, d)

module _ (period : Float) (p : ℕ) (w : Whole period p) (P : 0 < p) (Q : p ≤ 2 ^ 20) where
  first_tick : (t u : Float) → IsTime t → Kept p (sampler_sample fresh_sampler t u period).state (seconds t) u
  unfolding sampler_sample
  first_tick t u i = record { started = refl; place = grid_first period p w P Q t (seconds t) i.0 i.1; output = refl }

  module _ (s : SamplerState) (m : ℕ) (v t u : Float) (c : Kept p s m v) (i : IsTime t) (M : m ≤ seconds t) where
    due_is : (sample_due t s.t0 period s.last_index).due ≡ ltb (m / p) (seconds t / p)
    due_is = grid_due period p w P Q t (seconds t) i.0 i.1 s.t0 s.last_index m c.place M

    later_tick : Kept p (sampler_sample s t u period).state (seconds t) (cond (ltb (m / p) (seconds t / p)) u v)
    later_tick = rw (state_later s t u period (ltb (m / p) (seconds t / p)) c.started due_is) (go (ltb (m / p) (seconds t / p)) (nltb→le (m / p) (seconds t / p)))
      where
        go : (b : Bool) → (T (not b) → seconds t / p ≤ m / p) → Kept p (state_by b s t u period) (seconds t) (cond b u v)
        go true h = record { started = refl; place = grid_sampled period p w P Q t (seconds t) i.0 i.1 s.t0 s.last_index m c.place M; output = refl }
        go false h = record { started = c.started; place = grid_kept period p w P Q t (seconds t) i.0 i.1 s.t0 s.last_index m c.place M (h tt); output = c.output }

    later_output : (sampler_sample s t u period).output ≡ cond (ltb (m / p) (seconds t / p)) u v
    later_output = output_later s t u period (ltb (m / p) (seconds t / p)) c.started due_is ∙ ap (λ (x : Float). cond (ltb (m / p) (seconds t / p)) u x) c.output

  kept : (k : SamplerTick) (h : List SamplerTick) → TimesInOrder (k ∷ h) → Kept p (sampler_after period (k ∷ h)) (seconds k.time) (held_by_rule p (k ∷ h))
  kept k [] o = first_tick k.time k.input o.0
  kept k (j ∷ h) o = later_tick (sampler_after period (j ∷ h)) (seconds j.time) (held_by_rule p (j ∷ h)) k.time k.input (kept j h o.2) o.0 o.1

  -- at the newest tick the sampler gives what the rule says
  pub sampler_law : (k : SamplerTick) (h : List SamplerTick) → TimesInOrder (k ∷ h) → (sampler_sample (sampler_after period h) k.time k.input period).output ≡ held_by_rule p (k ∷ h)
  sampler_law k [] o = unfold sampler_sample sampler_output in refl
  sampler_law k (j ∷ h) o = later_output (sampler_after period (j ∷ h)) (seconds j.time) (held_by_rule p (j ∷ h)) k.time k.input (kept j h o.2) o.0 o.1
