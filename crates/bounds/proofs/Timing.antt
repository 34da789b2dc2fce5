-- The timing blocks keep their ranges over an accepted tick. Assumes nothing.
use Rattle.std.proofs.Common.{◌≡◌, refl, ℕ, ◌*◌, ◌/◌, le_trans, lit<, lit≤, div-mul-le_self, ◌≤◌, Bool, true, false, not, ◌&&◌, ◌||◌, T, sym, subst, true≢false, if◌then◌else◌, Some, None, Option}
use lib.Ieee.{Float, round, add, lt, eq, le, is_nan}
use Rattle.std.proofs.lemmas.Float.{le_refl, le_right}
use Rattle.f64_helpers.specs.F64.{◌⊕◌, ◌⊖◌, ◌⊘◌, ◌>ᶠ◌, ◌≤ᶠ◌, ◌≥ᶠ◌, decimal, zero}
use Rattle.f64_helpers.specs.Helpers.{abs, max, negative, as_f64}
use Rattle.f64_helpers.proofs.SignedZeros.{sum_clear}
use Rattle.f64_helpers.specs.Seconds.{Whole, IsTime, seconds}
use Rattle.f64_helpers.specs.Ranges.{Between, Finite}
use Rattle.f64_helpers.proofs.Intervals.{finite_between, not_at_least, add_in, wider, inside, ends}
use Rattle.cdl_recurrences.specs.CdlRecurrences.{true_delay_output, sampler_output, initial_sample_time, sample_index, sample_due}
use Rattle.cdl_recurrences.proofs.SampleGrid.{initial_sample_time_whole}
use Rattle.f64_helpers.proofs.WholeSeconds.{seconds_of}
use Rattle.f64_helpers.proofs.Times.{decimal_whole}
use Rattle.cooling_only_controller_conditioning.specs.Conditioning.{SAMPLE_PERIOD}
use Rattle.cdl_recurrences.specs.declared.TrueDelayOutput.{TrueDelayOutput}
use Rattle.cooling_only_controller_timing.specs.Timing.{true_delay, fresh_true_delay, sampler_sample, unit_delay_sample, timer_elapsed, seconds_since}
use Rattle.cooling_only_controller_timing.specs.declared.TimerState.{TimerState}
use Rattle.cooling_only_controller_timing.specs.declared.Step.{Step}
use Rattle.cooling_only_controller_timing.specs.declared.SamplerState.{SamplerState}
use Rattle.cooling_only_controller_timing.specs.declared.UnitDelayState.{UnitDelayState}
use Rattle.cooling_only_controller_timing.specs.declared.TrueDelayState.{TrueDelayState}
use Rattle.bounds.specs.Limits.{LONGEST_STEP}
use Rattle.bounds.specs.Kept.{TimeIfPresent, last_seconds, KeptGrid, KeptSampler, KeptUnitDelay, KeptTrueDelay}

-- ---- an accepted tick at t, after the last one

pub record Accepted (last : Option Float) (t : Float) : Type 0 where
  pub time : IsTime t
  pub not_before : last_seconds last ≤ seconds t
  pub step : (previous : Float) → last ≡ Some previous → Between zero (max (t ⊖ previous) zero) LONGEST_STEP

-- ---- true delays

-- what is asked of a length; of the controller's six it computes
pub record Length (delay : Float) : Type 0 where
  pub finite : Finite delay
  pub sum_finite : Finite (delay ⊕ LONGEST_STEP)
  pub from_zero : T (zero ≤ᶠ delay)
  pub larger : max delay zero ≡ delay
  pub sum_ends : T (ends zero delay && ends zero LONGEST_STEP && inside zero (zero ⊕ zero) (delay ⊕ LONGEST_STEP) (delay ⊕ LONGEST_STEP))
  pub within_sum : T (inside zero zero delay (delay ⊕ LONGEST_STEP))
  pub sign : negative delay ≡ false

abbrev KeptOutput : Float → TrueDelayOutput → Type 0
KeptOutput delay o = Between zero o.timer (delay ⊕ LONGEST_STEP) × (o.output ≡ false → T (o.timer ≤ᶠ delay)) × (negative o.timer ≡ false)

longest_finite : Finite LONGEST_STEP
unfolding round
longest_finite = tt

zero_itself : T (zero ≤ᶠ zero)
unfolding le lt eq
zero_itself = tt

module _ {delay : Float} (l : Length delay) where
  at_zero : (output : Bool) → KeptOutput delay (record { output = output; timer = zero })
  at_zero output = (wider (record { from_low = zero_itself; to_high = l.from_zero }) l.within_sum, λ off. l.from_zero, refl)

  at_end : KeptOutput delay (record { output = true; timer = delay })
  at_end = (wider (record { from_low = l.from_zero; to_high = le_refl delay (le_right zero delay l.from_zero) }) l.within_sum, λ off. absurd (true≢false off), l.sign)

  -- the timer ran from one that had not run out
  ran_on : (timer step : Float) → Between zero timer delay → negative timer ≡ false → Between zero step LONGEST_STEP
      → KeptOutput delay (record { output = timer ⊕ step ≥ᶠ delay; timer = timer ⊕ step })
  ran_on timer step r g s =
      let f = finite_between tt l.finite r in
      let h = finite_between tt longest_finite s in
      let sum : Between zero (timer ⊕ step) (delay ⊕ LONGEST_STEP) = add_in r s l.sum_ends in
      (sum, not_at_least (timer ⊕ step) delay (finite_between tt l.sum_finite sum) l.finite, sum_clear timer step g f h s.from_low)

  first_output : (delay_on_init : Bool) → KeptOutput delay (if delay_on_init then record { output = false; timer = zero } else record { output = true; timer = delay })
  first_output true = at_zero false
  first_output false = at_end

  module _ (timer step : Float) (t : Between zero timer (delay ⊕ LONGEST_STEP)) (g : negative timer ≡ false) (s : Between zero step LONGEST_STEP) where
    later_output : (held previous : Bool) → (held ≡ false → T (timer ≤ᶠ delay))
        → KeptOutput delay (if held then record { output = true; timer = delay }
        else (if not previous then record { output = delay ≤ᶠ zero; timer = zero } else record { output = timer ⊕ step ≥ᶠ delay; timer = timer ⊕ step }))
    later_output true previous r = at_end
    later_output false false r = at_zero (delay ≤ᶠ zero)
    later_output false true r = ran_on timer step (record { from_low = t.from_low; to_high = r refl }) g s

  module _ {last : Option Float} {t : Float} (a : Accepted last t) (delay_on_init previous_input held : Bool) (timer : Float)
      (r : Between zero timer (delay ⊕ LONGEST_STEP)) (runs : held ≡ false → T (timer ≤ᶠ delay)) (g : negative timer ≡ false) where
    output_in : (previous : Option Float) (input : Bool) → last ≡ previous → KeptOutput delay (true_delay_output t input delay delay_on_init previous previous_input held timer)
    unfolding true_delay_output
    output_in previous false e = at_zero false
    output_in None true e =
        subst (λ (d : Float). KeptOutput delay (if delay_on_init && (d >ᶠ zero) then record { output = false; timer = zero } else record { output = true; timer = d }))
        (sym l.larger) (first_output (delay_on_init && (delay >ᶠ zero)))
    output_in (Some p) true e =
        subst (λ (d : Float). KeptOutput delay (if held then record { output = true; timer = d }
        else (if not previous_input then record { output = d ≤ᶠ zero; timer = zero } else record { output = timer ⊕ max (t ⊖ p) zero ≥ᶠ d; timer = timer ⊕ max (t ⊖ p) zero })))
        (sym l.larger) (later_output timer (max (t ⊖ p) zero) r g (a.step p e) held previous_input runs)

  pub kept_true_delay : {last : Option Float} {t : Float} → Accepted last t → (s : TrueDelayState) → KeptTrueDelay last delay s → (input delay_on_init : Bool)
      → KeptTrueDelay (Some t) delay (true_delay s t input delay delay_on_init).state
  unfolding true_delay
  kept_true_delay a s k input delay_on_init =
      let o = output_in a delay_on_init s.previous_input s.held s.timer k.timer k.runs k.sign_clear s.previous_time input (sym k.previous_time) in
      record { previous_time = refl; timer = o.0; runs = o.1; sign_clear = o.2 }

pub fresh_kept : {delay : Float} → Length delay → KeptTrueDelay None delay fresh_true_delay
fresh_kept l = let z = at_zero l false in record { previous_time = refl; timer = z.0; runs = z.1; sign_clear = refl }

pub lengths : Length (decimal 30 1) × Length (decimal 60 1) × Length (decimal 120 1) × Length (decimal 300 1) × Length (decimal 600 1) × Length (decimal 1800 1)
unfolding round add lt eq le max is_nan
lengths = (
  record { finite = tt; sum_finite = tt; from_zero = tt; larger = refl; sum_ends = tt; within_sum = tt; sign = refl },
  record { finite = tt; sum_finite = tt; from_zero = tt; larger = refl; sum_ends = tt; within_sum = tt; sign = refl },
  record { finite = tt; sum_finite = tt; from_zero = tt; larger = refl; sum_ends = tt; within_sum = tt; sign = refl },
  record { finite = tt; sum_finite = tt; from_zero = tt; larger = refl; sum_ends = tt; within_sum = tt; sign = refl },
  record { finite = tt; sum_finite = tt; from_zero = tt; larger = refl; sum_ends = tt; within_sum = tt; sign = refl },
  record { finite = tt; sum_finite = tt; from_zero = tt; larger = refl; sum_ends = tt; within_sum = tt; sign = refl },
)

-- ---- grids

pub grid_goes_on : {last : Option Float} {t t0 : Float} → Accepted last t → KeptGrid last t0 → KeptGrid (Some t) t0
grid_goes_on a g = record { time = g.time; begun = le_trans g.begun a.not_before }

period_whole : Whole SAMPLE_PERIOD 120
period_whole = decimal_whole 120 (lit≤ tt)

grid_starts : {last : Option Float} {t : Float} → Accepted last t → KeptGrid (Some t) (initial_sample_time t SAMPLE_PERIOD)
grid_starts {last} {t} a =
    let w = initial_sample_time_whole t SAMPLE_PERIOD (seconds t) 120 a.time.0 a.time.1 period_whole (lit< tt) (lit≤ tt) in
    let s = seconds_of (initial_sample_time t SAMPLE_PERIOD) (seconds t / 120 * 120) w in
    let h : seconds t / 120 * 120 ≤ seconds t = div-mul-le_self (seconds t) 120 in
    let begun : seconds (initial_sample_time t SAMPLE_PERIOD) ≤ seconds t = subst (λ (n : ℕ). n ≤ seconds t) (sym s) h in
    record { time = (subst (Whole (initial_sample_time t SAMPLE_PERIOD)) (sym s) w, le_trans begun a.time.1); begun = begun }

-- ---- samplers

abbrev KeptDelayStep : Float → Float → Float → Step UnitDelayState Float → Type 0
KeptDelayStep t low high r = KeptUnitDelay (Some t) low high r.state × Between low r.output high

module _ {last : Option Float} {t : Float} (a : Accepted last t) {low high : Float} where
  pub kept_sampler : (s : SamplerState) → KeptSampler last low high s → (input : Float) → Between low input high
      → KeptSampler (Some t) low high (sampler_sample s t input SAMPLE_PERIOD).state × Between low (sampler_sample s t input SAMPLE_PERIOD).output high
  unfolding sampler_sample sampler_output
  kept_sampler s k input i = go s.initialized (sample_due t s.t0 SAMPLE_PERIOD s.last_index).due
    where
      go : (started due : Bool)
          → KeptSampler (Some t) low high (if not started then record {
            initialized = true;
            t0 = initial_sample_time t SAMPLE_PERIOD;
            last_index = sample_index t (initial_sample_time t SAMPLE_PERIOD) SAMPLE_PERIOD;
            held = input;
          }
          else (if due then record { initialized = true; t0 = s.t0; last_index = (sample_due t s.t0 SAMPLE_PERIOD s.last_index).index; held = input } else s))
          × Between low (if not started || due then input else s.held) high
      go false due = (record { grid = grid_starts a; held = i }, i)
      go true true = (record { grid = grid_goes_on a k.grid; held = i }, i)
      go true false = (record { grid = grid_goes_on a k.grid; held = k.held }, k.held)

  pub kept_unit_delay : (s : UnitDelayState) → KeptUnitDelay last low high s → (input : Float) → Between low input high
      → KeptUnitDelay (Some t) low high (unit_delay_sample s t input SAMPLE_PERIOD).state × Between low (unit_delay_sample s t input SAMPLE_PERIOD).output high
  unfolding unit_delay_sample
  kept_unit_delay s k input i =
      go s.initialized (sample_due t s.t0 SAMPLE_PERIOD s.last_index).due
      (abs ((t ⊖ initial_sample_time t SAMPLE_PERIOD) ⊘ SAMPLE_PERIOD ⊖ as_f64 (sample_index t (initial_sample_time t SAMPLE_PERIOD) SAMPLE_PERIOD)) ≤ᶠ decimal 1 1000000000)
    where
      go : (started due on_grid : Bool)
          → KeptDelayStep t low high (if not started then record {
            state = record {
              initialized = true;
              t0 = initial_sample_time t SAMPLE_PERIOD;
              last_index = sample_index t (initial_sample_time t SAMPLE_PERIOD) SAMPLE_PERIOD;
              held = s.held;
              staged = if on_grid then input else s.staged;
            };
            output = s.held;
          } else (if not due then record { state = s; output = s.held }
          else record { state = record { initialized = true; t0 = s.t0; last_index = (sample_due t s.t0 SAMPLE_PERIOD s.last_index).index; held = s.staged; staged = input }; output = s.staged }))
      go false due true = (record { grid = grid_starts a; held = k.held; staged = i }, k.held)
      go false due false = (record { grid = grid_starts a; held = k.held; staged = k.staged }, k.held)
      go true false on_grid = (record { grid = grid_goes_on a k.grid; held = k.held; staged = k.staged }, k.held)
      go true true on_grid = (record { grid = grid_goes_on a k.grid; held = k.staged; staged = i }, k.staged)

-- ---- the timer

abbrev KeptTimerStep : Step TimerState Float → Type 0
KeptTimerStep r = TimeIfPresent r.state.entry_time

pub kept_timer : (s : TimerState) (t : Float) (input : Bool) → IsTime t → TimeIfPresent s.entry_time → TimeIfPresent (timer_elapsed s t input).state.entry_time
unfolding timer_elapsed
kept_timer s t input i k = go input s.previous_input
  where
    go : (input previous : Bool)
        → KeptTimerStep (if input then record {
          state = record { entry_time = if input && not previous then Some t else s.entry_time; previous_input = input };
          output = seconds_since (if input && not previous then Some t else s.entry_time) t;
        }
        else record { state = record { entry_time = None; previous_input = input }; output = zero })
    go false previous = tt
    go true false = i
    go true true = k
