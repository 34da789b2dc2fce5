-- The two control loops keep their ranges over an accepted tick. Assumes nothing.
use Rattle.std.proofs.Common.{◌≡◌, refl, Bool, not, ◌&&◌, sym, Some, None, Option, if◌then◌else◌}
use lib.Ieee.{Float, round, neg, add, sub, mul, lt, eq, le}
use Rattle.f64_helpers.specs.F64.{◌⊕◌, ◌⊖◌, ◌⊗◌, decimal, zero}
use Rattle.f64_helpers.specs.Ranges.{Between, Finite}
use Rattle.f64_helpers.proofs.Intervals.{finite_between, sub_in, add_in, neg_in, mul_in, mul_in_turned, if_in, between}
use Rattle.cdl_recurrences.specs.CdlRecurrences.{less_hysteretic}
use Rattle.cdl_recurrences.proofs.Ranges.{clamp_unit, unit_zero, unit_one}
use Rattle.cooling_only_controller_timing.specs.Timing.{step_seconds}
use Rattle.cooling_only_controller_conditioning.specs.Conditioning.{loop_pi, control_loops, TEMPERATURE_HYSTERESIS}
use Rattle.cooling_only_controller_timing.specs.declared.Step.{Step}
use Rattle.cooling_only_controller_conditioning.specs.declared.ControlLoopOutput.{ControlLoopOutput}
use Rattle.cooling_only_controller_conditioning.specs.declared.LoopPiState.{LoopPiState}
use Rattle.cooling_only_controller_conditioning.specs.declared.ControlLoopsState.{ControlLoopsState}
use Rattle.bounds.specs.Limits.{LONGEST_STEP, COLDEST, HOTTEST, LOOP_GAIN, next_integrator}
use Rattle.bounds.specs.Kept.{KeptLoopPi, KeptControlLoops}
use Rattle.bounds.proofs.PiRange.{between_ends}
use Rattle.bounds.proofs.Pi.{loop_tables}
use Rattle.bounds.proofs.Timing.{Accepted, kept_true_delay, lengths}

-- the step of a PI that was last run at the last accepted tick
pub dt_in : {last : Option Float} {t : Float} → Accepted last t → (previous : Option Float) → previous ≡ last → Between zero (step_seconds previous t) LONGEST_STEP
unfolding round le lt eq
dt_in a None e = between tt
dt_in a (Some p) e = a.step p (sym e)

-- an error, the difference of two temperatures
pub error_in : {x y : Float} → Between COLDEST x HOTTEST → Between COLDEST y HOTTEST → Between (neg (HOTTEST ⊖ COLDEST)) (x ⊖ y) (HOTTEST ⊖ COLDEST)
unfolding round neg add sub le lt eq
error_in p q = sub_in p q tt

module _ {last : Option Float} {t : Float} (a : Accepted last t) (s : LoopPiState) (k : KeptLoopPi last s) (error : Float)
    (e : Between (neg (HOTTEST ⊖ COLDEST)) error (HOTTEST ⊖ COLDEST)) where
  proportional_in : Between (neg (decimal 31 1)) (LOOP_GAIN ⊗ error) (decimal 31 1)
  unfolding round neg add sub mul le lt eq
  proportional_in = let g : Between zero LOOP_GAIN LOOP_GAIN = between tt in mul_in_turned e g tt

  reset_in : Between (neg (decimal 64 1)) (neg (LOOP_GAIN ⊗ error)) (decimal 64 1)
  unfolding round neg add sub mul le lt eq
  reset_in = neg_in proportional_in tt

  -- the PI before its limits
  pub unlimited_finite : Finite (LOOP_GAIN ⊗ error ⊕ s.integrator)
  unfolding round neg add sub mul le lt eq
  unlimited_finite = let u : Between (neg (decimal 95 1)) (LOOP_GAIN ⊗ error ⊕ s.integrator) (decimal 95 1) = add_in proportional_in k.integrator tt in finite_between tt tt u

  pub kept_loop_pi : (trigger : Bool) → KeptLoopPi (Some t) (loop_pi s t error trigger).state × Between zero (loop_pi s t error trigger).output (decimal 1 1)
  unfolding loop_pi next_integrator
  kept_loop_pi trigger =
      let next = between_ends loop_tables s.integrator error (step_seconds s.previous_time t) e k.integrator (dt_in a s.previous_time k.previous_time) in (
        record { integrator = if_in (trigger && not s.previous_trigger) _ _ reset_in next; previous_time = refl },
        clamp_unit (LOOP_GAIN ⊗ error ⊕ s.integrator) unlimited_finite,
      )

-- a signal from 0 to 1, let through or not
gated_in : (signal : Float) (off : Bool) → Between zero signal (decimal 1 1) → Between zero (signal ⊗ (if off then zero else decimal 1 1)) (decimal 1 1)
unfolding round mul le lt eq
gated_in signal off s = mul_in s (if_in off zero (decimal 1 1) unit_zero unit_one) tt

module _ {last : Option Float} {t : Float} (a : Accepted last t) (s : ControlLoopsState) (k : KeptControlLoops last s) {setpoint zone heating : Float}
    (c : Between COLDEST setpoint HOTTEST) (z : Between COLDEST zone HOTTEST) (h : Between COLDEST heating HOTTEST) where
  abbrev loops : Step ControlLoopsState ControlLoopOutput
  loops = control_loops s t setpoint zone heating

  pub kept_control_loops : KeptControlLoops (Some t) loops.state × Between zero loops.output.cooling (decimal 1 1) × Between zero loops.output.heating (decimal 1 1)
  unfolding control_loops
  kept_control_loops =
      let cooling = kept_loop_pi a s.cooling_pi k.cooling_pi (zone ⊖ setpoint) (error_in z c) (less_hysteretic setpoint zone TEMPERATURE_HYSTERESIS s.cooling_enable) in
      let heating = kept_loop_pi a s.heating_pi k.heating_pi (heating ⊖ zone) (error_in h z) (less_hysteretic zone heating TEMPERATURE_HYSTERESIS s.heating_enable) in (
        record {
          cooling_pi = cooling.0;
          heating_pi = heating.0;
          cooling_delay = kept_true_delay lengths.0 a s.cooling_delay k.cooling_delay _ _;
          heating_delay = kept_true_delay lengths.0 a s.heating_delay k.heating_delay _ _;
        },
        gated_in _ _ cooling.1,
        gated_in _ _ heating.1,
      )
