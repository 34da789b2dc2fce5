-- How the pieces of ConditioningPieces.antt stand to the stages of Conditioning.antt. Assumes nothing.
use mathlib.Core.Path.{◌≡◌, refl}
use mathlib.Core.Bool.{Bool, not, ◌&&◌}
use lib.Ieee.{Float}
use Rattle.f64_helpers.specs.F64.{◌>ᶠ◌}
use Rattle.cooling_only_controller_timing.specs.Timing.{timer_elapsed}
use Rattle.cooling_only_controller_timing.specs.declared.Step.{Step}
use Rattle.cooling_only_controller_timing.specs.declared.TimerState.{TimerState}
use Rattle.cooling_only_controller_conditioning.specs.Conditioning.{
  latch,
  time_suppression,
  control_loops,
  zone_states,
}
use Rattle.cooling_only_controller_conditioning.specs.ConditioningPieces.{
  change_detected,
  suppression_window,
  control_loop,
  zone_state,
}
use Rattle.cooling_only_controller_conditioning.specs.declared.LatchState.{LatchState}
use Rattle.cooling_only_controller_conditioning.specs.declared.TimeSuppressionState.{
  TimeSuppressionState,
}
use Rattle.cooling_only_controller_conditioning.specs.declared.ControlLoopsState.{
  ControlLoopsState,
}
use Rattle.cooling_only_controller_conditioning.specs.declared.ControlLoopOutput.{ControlLoopOutput}
use Rattle.cooling_only_controller_conditioning.specs.declared.ZoneStatesState.{
  ZoneStatesState,
}

-- the latch and the timer that the code calls between the pieces
abbrev suppression : TimeSuppressionState → Float → Float → Step LatchState Bool
suppression s t setpoint_temperature =
    latch s.suppression_latch (change_detected s t setpoint_temperature).change_detected s.previous_passed

abbrev rising_active : TimeSuppressionState → Float → Float → Bool
rising_active s t setpoint_temperature = (suppression s t setpoint_temperature).output && not s.previous_active

abbrev elapsed : TimeSuppressionState → Float → Float → Step TimerState Float
elapsed s t setpoint_temperature = timer_elapsed s.timer t (suppression s t setpoint_temperature).output

pub suppression_window_by_pieces : (s : TimeSuppressionState) (t setpoint_temperature zone_temperature : Float)
    → let after = (time_suppression s t setpoint_temperature zone_temperature).state in
    ((elapsed s t setpoint_temperature).output >ᶠ suppression_window after.captured_setpoint after.captured_zone) ≡ after.previous_passed
unfolding time_suppression suppression_window
suppression_window_by_pieces s t setpoint_temperature zone_temperature = refl

pub time_suppression_by_pieces : (s : TimeSuppressionState) (t setpoint_temperature zone_temperature : Float)
    → let after = (time_suppression s t setpoint_temperature zone_temperature).state in
    let change = change_detected s t setpoint_temperature in
    let active = suppression s t setpoint_temperature in
    let passed_latched = latch s.passed_latch after.previous_passed (rising_active s t setpoint_temperature) in
    ◌≡◌ {A = TimeSuppressionState} (record {
      setpoint_sampler = change.setpoint_sampler;
      previous_sample = change.previous_sample;
      startup_delay = change.startup_delay;
      change_detected = change.change_detected;
      suppression_latch = active.state;
      passed_latch = passed_latched.state;
      timer = (elapsed s t setpoint_temperature).state;
      previous_active = active.output;
      previous_passed = after.previous_passed;
      captured_setpoint = after.captured_setpoint;
      captured_zone = after.captured_zone;
    }) after
unfolding time_suppression
time_suppression_by_pieces s t setpoint_temperature zone_temperature = refl

pub control_loops_by_pieces : (s : ControlLoopsState) (t cooling_setpoint zone_temperature heating_setpoint : Float)
    → let whole = control_loops s t cooling_setpoint zone_temperature heating_setpoint in
    let cooling = control_loop (record { enable = s.cooling_enable; pi = s.cooling_pi; near_zero = s.cooling_near_zero; delay = s.cooling_delay }) t cooling_setpoint zone_temperature in
    let heating = control_loop (record { enable = s.heating_enable; pi = s.heating_pi; near_zero = s.heating_near_zero; delay = s.heating_delay }) t zone_temperature heating_setpoint in
    ◌≡◌ {A = Step ControlLoopsState ControlLoopOutput} (record {
      state = record {
        cooling_enable = cooling.state.enable;
        heating_enable = heating.state.enable;
        cooling_pi = cooling.state.pi;
        heating_pi = heating.state.pi;
        cooling_near_zero = cooling.state.near_zero;
        heating_near_zero = heating.state.near_zero;
        cooling_delay = cooling.state.delay;
        heating_delay = heating.state.delay;
      };
      output = record { cooling = cooling.output; heating = heating.output };
    }) whole
unfolding control_loops control_loop
control_loops_by_pieces s t cooling_setpoint zone_temperature heating_setpoint = refl

pub zone_states_by_pieces : (s : ZoneStatesState) (heating cooling : Float)
    → let after = (zone_states s heating cooling).state in
    let is_heating = after.heating_signal && after.heating_tiebreak in
    zone_state is_heating (not is_heating && after.cooling_signal) ≡ (zone_states s heating cooling).output
unfolding zone_states
zone_states_by_pieces s heating cooling = refl
