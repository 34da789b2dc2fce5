-- What the stages of cooling_only_controller_conditioning.rs return: the next state beside the output, one definition for each function,
-- in that file's order and with its names.
-- A let holds the Rust's value of its name, with one exception: where the Rust calls a block that keeps a state (`sampler_sample`,
-- `unit_delay_sample`, `true_delay`, `timer_elapsed`, `latch`, `loop_pi`), the let holds the block's step. Its `.output` is the Rust's
-- value, its `.state` the block afterwards.
-- Comparators (`hysteresis`, `greater_hysteretic`, `less_hysteretic`), `buildings_line` and `clamp` give the value itself.
-- The Rust's constants DESIGN_MINIMUM_FLOW and DESIGN_COOLING_MAXIMUM_FLOW are fields of `choices` (document 02, N13).
use Rattle.std.specs.Prelude.{Some, None, Bool, true, false, not, ◌&&◌, ◌||◌, ℤ, pos, Float, if◌then◌else◌}
use Rattle.std.specs.Int.Signed.{le_z}
use Rattle.std.specs.Float.Ieee.{neg}
use Rattle.f64_helpers.specs.F64.{◌⊕◌, ◌⊖◌, ◌⊗◌, ◌⊘◌, ◌>ᶠ◌, decimal, zero}
use Rattle.f64_helpers.specs.Helpers.{abs, min}
use Rattle.f64_helpers.specs.Integers.{◌==ᶻ◌}
use Rattle.box_choices.specs.declared.Choices.{Choices}
use Rattle.cdl_recurrences.specs.CdlRecurrences.{buildings_line, clamp, greater_hysteretic, hysteresis, less_hysteretic}
use Rattle.cooling_only_controller_timing.specs.Timing.{sampler_sample, unit_delay_sample, true_delay, timer_elapsed, step_seconds}
use Rattle.cooling_only_controller_timing.specs.Timing.{fresh_sampler, fresh_unit_delay, fresh_true_delay, fresh_timer}
use Rattle.cooling_only_controller_conditioning.specs.declared.LatchState.{LatchState}
use Rattle.cooling_only_controller_timing.specs.declared.Step.{Step}
use Rattle.cooling_only_controller_conditioning.specs.declared.TimeSuppressionState.{TimeSuppressionState}
use Rattle.cooling_only_controller_conditioning.specs.declared.LoopPiState.{LoopPiState}
use Rattle.cooling_only_controller_conditioning.specs.declared.ControlLoopsState.{ControlLoopsState}
use Rattle.cooling_only_controller_conditioning.specs.declared.SetpointInput.{SetpointInput}
use Rattle.cooling_only_controller_conditioning.specs.declared.SetpointsState.{SetpointsState}
use Rattle.cooling_only_controller_conditioning.specs.declared.ActiveAirflowOutput.{ActiveAirflowOutput}
use Rattle.cooling_only_controller_conditioning.specs.declared.ControlLoopOutput.{ControlLoopOutput}
use Rattle.cooling_only_controller_conditioning.specs.declared.SetpointOutput.{SetpointOutput}
use Rattle.cooling_only_controller_conditioning.specs.declared.ZoneStatesState.{ZoneStatesState}

-- ---- the Rust's other constants

abbrev pub SAMPLE_PERIOD : Float
SAMPLE_PERIOD = decimal 120 1

abbrev pub TEMPERATURE_HYSTERESIS : Float
TEMPERATURE_HYSTERESIS = decimal 25 100

abbrev pub LOOP_THRESHOLD : Float
LOOP_THRESHOLD = decimal 1 100

abbrev pub LOOP_HYSTERESIS : Float
LOOP_HYSTERESIS = decimal 8 1000

abbrev pub CONTROL_DELAY : Float
CONTROL_DELAY = decimal 30 1

abbrev pub CONTROL_GAIN : Float
CONTROL_GAIN = decimal 1 10

abbrev pub CONTROL_INTEGRAL_TIME : Float
CONTROL_INTEGRAL_TIME = decimal 900 1

abbrev pub ANTI_WINDUP_NI : Float
ANTI_WINDUP_NI = decimal 9 10

abbrev pub AREA_BREATHING_FLOW : Float
AREA_BREATHING_FLOW = decimal 6 1000

abbrev pub POPULATION_BREATHING_FLOW : Float
POPULATION_BREATHING_FLOW = decimal 5 1000

abbrev pub COOLING_DISTRIBUTION_EFFECTIVENESS : Float
COOLING_DISTRIBUTION_EFFECTIVENESS = decimal 1 1

abbrev pub HEATING_DISTRIBUTION_EFFECTIVENESS : Float
HEATING_DISTRIBUTION_EFFECTIVENESS = decimal 8 10

-- ---- Rust `LatchState`; CDL.Logical.Latch

abbrev pub fresh_latch : LatchState
fresh_latch = record { held = false; previous_input = false }

-- Rust `LatchState::output`: set by a rising input, held until cleared; the clear wins. The `latch` of cdl_recurrences.rs is not taken.
unfoldable pub latch : LatchState → Bool → Bool → Step LatchState Bool
latch s input clear =
    let output = not clear && ((input && not s.previous_input) || s.held) in
    record { state = record { held = output; previous_input = input }; output = output }

-- ---- Rust `TimeSuppressionState`; G36.Generic.TimeSuppression

abbrev pub fresh_time_suppression : TimeSuppressionState
fresh_time_suppression =
    record {
      setpoint_sampler = fresh_sampler;
      previous_sample = fresh_unit_delay;
      startup_delay = fresh_true_delay;
      change_detected = false;
      suppression_latch = fresh_latch;
      passed_latch = fresh_latch;
      timer = fresh_timer;
      previous_active = false;
      previous_passed = false;
      captured_setpoint = zero;
      captured_zone = zero;
    }

-- Rust `TimeSuppressionState::output`
unfoldable pub time_suppression : TimeSuppressionState → Float → Float → Float → Step TimeSuppressionState Bool
time_suppression s t setpoint_temperature zone_temperature =
    let sampled_setpoint = sampler_sample s.setpoint_sampler t setpoint_temperature SAMPLE_PERIOD in
    let prior_sample = unit_delay_sample s.previous_sample t sampled_setpoint.output SAMPLE_PERIOD in
    let startup_complete = true_delay s.startup_delay t true SAMPLE_PERIOD true in
    let change_magnitude = if startup_complete.output then abs (sampled_setpoint.output ⊖ prior_sample.output) else zero in
    let change_detected = greater_hysteretic change_magnitude TEMPERATURE_HYSTERESIS
    (decimal 5 10 ⊗ TEMPERATURE_HYSTERESIS) s.change_detected in
    let active = latch s.suppression_latch change_detected s.previous_passed in
    let rising_active = active.output && not s.previous_active in
    let captured_setpoint = if rising_active then setpoint_temperature else s.captured_setpoint in
    let captured_zone = if rising_active then zone_temperature else s.captured_zone in
    let suppression_window = min (decimal 540 1 ⊗ abs (captured_setpoint ⊖ captured_zone)) (decimal 1800 1) in
    let elapsed = timer_elapsed s.timer t active.output in
    let passed = elapsed.output >ᶠ suppression_window in
    let passed_latched = latch s.passed_latch passed rising_active in
    let output = if active.output then passed_latched.output else true in
    record {
      state = record {
        setpoint_sampler = sampled_setpoint.state;
        previous_sample = prior_sample.state;
        startup_delay = startup_complete.state;
        change_detected = change_detected;
        suppression_latch = active.state;
        passed_latch = passed_latched.state;
        timer = elapsed.state;
        previous_active = active.output;
        previous_passed = passed;
        captured_setpoint = captured_setpoint;
        captured_zone = captured_zone;
      };
      output = output;
    }

-- ---- Rust `LoopPiState`; CDL.Reals.PIDWithReset as a PI

abbrev pub fresh_loop_pi : LoopPiState
fresh_loop_pi = record { integrator = zero; previous_time = None; previous_trigger = false }

-- Rust `LoopPiState::output`. The output is formed with the old integrator.
unfoldable pub loop_pi : LoopPiState → Float → Float → Bool → Step LoopPiState Float
loop_pi s t error trigger =
    let proportional = CONTROL_GAIN ⊗ error in
    let unlimited = proportional ⊕ s.integrator in
    let limited = clamp unlimited zero (decimal 1 1) in
    let dt = step_seconds s.previous_time t in
    let anti_windup = (unlimited ⊖ limited) ⊘ (CONTROL_GAIN ⊗ ANTI_WINDUP_NI) in
    let integrator = if trigger && not s.previous_trigger then neg proportional
    else s.integrator ⊕ (CONTROL_GAIN ⊘ CONTROL_INTEGRAL_TIME) ⊗ (error ⊖ anti_windup) ⊗ dt in
    record { state = record { integrator = integrator; previous_time = Some t; previous_trigger = trigger }; output = limited }

-- ---- Rust `ControlLoopsState`; G36.ThermalZones.ControlLoops

abbrev pub fresh_control_loops : ControlLoopsState
fresh_control_loops =
    record {
      cooling_enable = false;
      heating_enable = false;
      cooling_pi = fresh_loop_pi;
      heating_pi = fresh_loop_pi;
      cooling_near_zero = false;
      heating_near_zero = false;
      cooling_delay = fresh_true_delay;
      heating_delay = fresh_true_delay;
    }

-- Rust `ControlLoopsState::output`
unfoldable pub control_loops : ControlLoopsState → Float → Float → Float → Float → Step ControlLoopsState ControlLoopOutput
control_loops s t cooling_setpoint zone_temperature heating_setpoint =
    let cooling_enable = less_hysteretic cooling_setpoint zone_temperature TEMPERATURE_HYSTERESIS s.cooling_enable in
    let heating_enable = less_hysteretic zone_temperature heating_setpoint TEMPERATURE_HYSTERESIS s.heating_enable in
    let cooling_raw = loop_pi s.cooling_pi t (zone_temperature ⊖ cooling_setpoint) cooling_enable in
    let heating_raw = loop_pi s.heating_pi t (heating_setpoint ⊖ zone_temperature) heating_enable in
    let cooling_near_zero = less_hysteretic cooling_raw.output LOOP_THRESHOLD LOOP_HYSTERESIS s.cooling_near_zero in
    let heating_near_zero = less_hysteretic heating_raw.output LOOP_THRESHOLD LOOP_HYSTERESIS s.heating_near_zero in
    let cooling_delayed = true_delay s.cooling_delay t cooling_near_zero CONTROL_DELAY false in
    let heating_delayed = true_delay s.heating_delay t heating_near_zero CONTROL_DELAY false in
    record {
      state = record {
        cooling_enable = cooling_enable;
        heating_enable = heating_enable;
        cooling_pi = cooling_raw.state;
        heating_pi = heating_raw.state;
        cooling_near_zero = cooling_near_zero;
        heating_near_zero = heating_near_zero;
        cooling_delay = cooling_delayed.state;
        heating_delay = heating_delayed.state;
      };
      output = record {
        cooling = cooling_raw.output ⊗ (if cooling_delayed.output && not cooling_enable then zero else decimal 1 1);
        heating = heating_raw.output ⊗ (if heating_delayed.output && not heating_enable then zero else decimal 1 1);
      };
    }

-- ---- Rust `SetpointsState`; G36.VentilationZones.ASHRAE62_1.Setpoints

abbrev pub fresh_setpoints : SetpointsState
fresh_setpoints = record { cooling_supply = false }

-- Rust `SetpointsState::output`
unfoldable pub setpoints : SetpointsState → SetpointInput → Choices → Step SetpointsState SetpointOutput
setpoints s input choices =
    let cooling_supply = greater_hysteretic input.zone_temperature input.discharge_air_temperature
    TEMPERATURE_HYSTERESIS s.cooling_supply in
    let occupied_mode = input.operating_mode ==ᶻ 1 in
    let override_to_zero = not input.window_status || not occupied_mode in
    let co2_loop = buildings_line (input.co2_setpoint ⊖ decimal 200 1) zero input.co2_setpoint (decimal 1 1)
    input.co2_concentration in
    let corrected_co2 = if occupied_mode then co2_loop else zero in
    let occupied_minimum = buildings_line zero choices.design_minimum_flow (decimal 1 1) choices.design_cooling_maximum_flow
    corrected_co2 in
    let population = buildings_line zero zero (decimal 1 1) POPULATION_BREATHING_FLOW corrected_co2 in
    let not_occupied = not input.occupancy_status in
    let population = if not_occupied then zero else population in
    let area = if not_occupied then zero else AREA_BREATHING_FLOW in
    let occupied_minimum = if not_occupied then zero else occupied_minimum in
    let population = if override_to_zero then zero else population in
    let area = if override_to_zero then zero else area in
    let occupied_minimum = if override_to_zero then zero else occupied_minimum in
    let distribution_effectiveness = if cooling_supply then COOLING_DISTRIBUTION_EFFECTIVENESS else HEATING_DISTRIBUTION_EFFECTIVENESS in
    record {
      state = record { cooling_supply = cooling_supply };
      output = record {
        adjusted_population_flow = population;
        occupied_minimum_flow = occupied_minimum;
        adjusted_area_flow = area;
        minimum_outdoor_airflow = (population ⊕ area) ⊘ distribution_effectiveness;
      };
    }

-- ---- Rust `active_airflow`; G36.TerminalUnits.CoolingOnly.Subsequences.ActiveAirFlow

unfoldable pub active_airflow : ℤ → Float → Choices → ActiveAirflowOutput
active_airflow operating_mode occupied_minimum choices =
    record {
      cooling_maximum =
          if le_z (pos 1) operating_mode && le_z operating_mode (pos 3) then choices.design_cooling_maximum_flow else zero;
      minimum = if operating_mode ==ᶻ 1 then occupied_minimum else zero;
    }

-- ---- Rust `ZoneStatesState`; G36.ThermalZones.ZoneStates

abbrev pub fresh_zone_states : ZoneStatesState
fresh_zone_states = record { heating_signal = false; cooling_signal = false; heating_tiebreak = false }

-- Rust `ZoneStatesState::output`: 1 heating, 3 cooling, 2 neither
unfoldable pub zone_states : ZoneStatesState → Float → Float → Step ZoneStatesState ℤ
zone_states s heating cooling =
    let heating_signal = hysteresis heating (decimal 1 100) (decimal 5 100) s.heating_signal in
    let cooling_signal = hysteresis cooling (decimal 1 100) (decimal 5 100) s.cooling_signal in
    let heating_tiebreak = hysteresis (heating ⊖ cooling) (neg (decimal 1 100)) (decimal 1 100) s.heating_tiebreak in
    let is_heating = heating_signal && heating_tiebreak in
    let is_cooling = not is_heating && cooling_signal in
    record {
      state = record { heating_signal = heating_signal; cooling_signal = cooling_signal; heating_tiebreak = heating_tiebreak };
      output = if is_heating then pos 1 else (if is_cooling then pos 3 else pos 2);
    }
