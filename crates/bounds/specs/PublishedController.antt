-- The controller once more, with the five helpers of PublishedHelpers.antt as its first parameter, for the claim that both forms of them give the
-- same on what the controller hands them, and for nothing else: no code is proved to meet it.
-- The text is that of CdlRecurrences.antt, Timing.antt, Conditioning.antt, Airflow.antt and Controller.antt, which have the source's order and
-- names, word for word but for `h`, the helpers: each definition of theirs that reaches one of the five stands here with `_over` behind its name.
-- What reaches none is theirs: `less_hysteretic`, `greater_hysteretic`, `initial_sample_time`, `timer_elapsed`, `latch`, `active_airflow`,
-- `request_level`. Over document 01's helpers this is their `controller_output` (`same_text`). That every call of the five goes over `h` is seen
-- by reading: `same_text` would hold of a call that did not, too.
use Rattle.std.specs.Prelude.{Some, None, Option, Bool, true, false, not, ◌&&◌, ◌||◌, ℤ, pos, Float, if◌then◌else◌}
use Rattle.std.specs.Int.Signed.{lt_z}
use Rattle.std.specs.Float.Ieee.{neg}
use Rattle.f64_helpers.specs.F64.{◌⊕◌, ◌⊖◌, ◌⊗◌, ◌⊘◌, ◌>ᶠ◌, ◌≤ᶠ◌, ◌≥ᶠ◌, decimal, zero}
use Rattle.f64_helpers.specs.Helpers.{abs, as_f64}
use Rattle.f64_helpers.specs.Integers.{◌==ᶻ◌}
use Rattle.box_choices.specs.declared.Choices.{Choices}
use Rattle.cdl_recurrences.specs.CdlRecurrences.{greater_hysteretic, less_hysteretic, initial_sample_time}
use Rattle.cdl_recurrences.specs.declared.TrueDelayOutput.{TrueDelayOutput}
use Rattle.cdl_recurrences.specs.declared.SampleDue.{SampleDue}
use Rattle.cooling_only_controller_timing.specs.Timing.{timer_elapsed}
use Rattle.cooling_only_controller_timing.specs.declared.SamplerState.{SamplerState}
use Rattle.cooling_only_controller_timing.specs.declared.Step.{Step}
use Rattle.cooling_only_controller_timing.specs.declared.UnitDelayState.{UnitDelayState}
use Rattle.cooling_only_controller_timing.specs.declared.TrueDelayState.{TrueDelayState}
use Rattle.cooling_only_controller_conditioning.specs.Conditioning.{SAMPLE_PERIOD, TEMPERATURE_HYSTERESIS, LOOP_THRESHOLD, LOOP_HYSTERESIS}
use Rattle.cooling_only_controller_conditioning.specs.Conditioning.{CONTROL_DELAY, CONTROL_GAIN, CONTROL_INTEGRAL_TIME, ANTI_WINDUP_NI}
use Rattle.cooling_only_controller_conditioning.specs.Conditioning.{AREA_BREATHING_FLOW, POPULATION_BREATHING_FLOW}
use Rattle.cooling_only_controller_conditioning.specs.Conditioning.{COOLING_DISTRIBUTION_EFFECTIVENESS, HEATING_DISTRIBUTION_EFFECTIVENESS}
use Rattle.cooling_only_controller_conditioning.specs.Conditioning.{latch, active_airflow}
use Rattle.cooling_only_controller_conditioning.specs.declared.TimeSuppressionState.{TimeSuppressionState}
use Rattle.cooling_only_controller_conditioning.specs.declared.LoopPiState.{LoopPiState}
use Rattle.cooling_only_controller_conditioning.specs.declared.ControlLoopsState.{ControlLoopsState}
use Rattle.cooling_only_controller_conditioning.specs.declared.ControlLoopOutput.{ControlLoopOutput}
use Rattle.cooling_only_controller_conditioning.specs.declared.SetpointInput.{SetpointInput}
use Rattle.cooling_only_controller_conditioning.specs.declared.SetpointsState.{SetpointsState}
use Rattle.cooling_only_controller_conditioning.specs.declared.SetpointOutput.{SetpointOutput}
use Rattle.cooling_only_controller_conditioning.specs.declared.ZoneStatesState.{ZoneStatesState}
use Rattle.cooling_only_controller_airflow.specs.Airflow.{FLOW_HYSTERESIS, DAMPER_POSITION_HYSTERESIS, request_level}
use Rattle.cooling_only_controller_airflow.specs.declared.DamperInput.{DamperInput}
use Rattle.cooling_only_controller_airflow.specs.declared.DamperState.{DamperState}
use Rattle.cooling_only_controller_airflow.specs.declared.DamperOutput.{DamperOutput}
use Rattle.cooling_only_controller_airflow.specs.declared.SystemRequestInput.{SystemRequestInput}
use Rattle.cooling_only_controller_airflow.specs.declared.SystemRequestsState.{SystemRequestsState}
use Rattle.cooling_only_controller_airflow.specs.declared.SystemRequestOutput.{SystemRequestOutput}
use Rattle.cooling_only_controller_airflow.specs.declared.AlarmInput.{AlarmInput}
use Rattle.cooling_only_controller_airflow.specs.declared.AlarmsState.{AlarmsState}
use Rattle.cooling_only_controller_airflow.specs.declared.AlarmOutput.{AlarmOutput}
use Rattle.cooling_only_controller.specs.declared.ControllerInput.{ControllerInput}
use Rattle.cooling_only_controller.specs.declared.ControllerState.{ControllerState}
use Rattle.cooling_only_controller.specs.declared.ControllerOutput.{ControllerOutput}
use Rattle.bounds.specs.PublishedHelpers.{Helpers}

-- ---- cdl_recurrences.rs

-- Rust `buildings_line`; CDL.Reals.Line, with both limits: the line through (x1, f1) and (x2, f2) at u, which is first limited to x1 .. x2
unfoldable pub buildings_line_over : Helpers → Float → Float → Float → Float → Float → Float
buildings_line_over h x1 f1 x2 f2 u =
    let x_lim = h.clamp u x1 x2 in
    let slope = (f2 ⊖ f1) ⊘ (x2 ⊖ x1) in
    let intercept = f2 ⊖ slope ⊗ x2 in
    intercept ⊕ slope ⊗ x_lim

-- Rust `true_delay_output`; CDL.Logical.TrueDelay. A rising input is passed on once it has been true for the delay, a falling one at once.
-- A first input that is true is passed on at once, unless `delay_on_init` and the delay is above 0: then it counts as rising there.
unfoldable pub true_delay_output_over : Helpers → Float → Bool → Float → Bool → Option Float → Bool → Bool → Float → TrueDelayOutput
true_delay_output_over h t false delay_time delay_on_init prev_time prev_u held timer = record { output = false; timer = zero }
true_delay_output_over h t true delay_time delay_on_init None prev_u held timer =
    let delay = h.max delay_time zero in
    if delay_on_init && (delay >ᶠ zero) then record { output = false; timer = zero } else record { output = true; timer = delay }
true_delay_output_over h t true delay_time delay_on_init (Some previous_time) prev_u held timer =
    let delay = h.max delay_time zero in
    let next_timer = timer ⊕ h.max (t ⊖ previous_time) zero in
    if held then record { output = true; timer = delay }
    else (if not prev_u then record { output = delay ≤ᶠ zero; timer = zero }
    else record { output = next_timer ≥ᶠ delay; timer = next_timer })

-- Rust `sample_due`
unfoldable pub sample_due_over : Helpers → Float → Float → Float → ℤ → SampleDue
sample_due_over h t_now t0 period last_index =
    let index = h.sample_index t_now t0 period in
    record { due = lt_z last_index index; index = index }

-- Rust `sampler_output`; CDL.Discrete.Sampler: the input on the first tick and when a sample is due, else the held number
unfoldable pub sampler_output_over : Helpers → Float → Float → Float → Bool → Float → ℤ → Float → Float
sampler_output_over h t input period initialized t0 last_index held =
    if not initialized || (sample_due_over h t t0 period last_index).due then input else held

-- ---- cooling_only_controller_timing.rs

-- Rust `SamplerState::sample`. The first tick starts the grid and is sampled; a later one is sampled when due.
unfoldable pub sampler_sample_over : Helpers → SamplerState → Float → Float → Float → Step SamplerState Float
sampler_sample_over h s t input period =
    let output = sampler_output_over h t input period s.initialized s.t0 s.last_index s.held in
    let first_t0 = initial_sample_time t period in
    let next = sample_due_over h t s.t0 period s.last_index in
    let state =
    if not s.initialized then record { initialized = true; t0 = first_t0; last_index = h.sample_index t first_t0 period; held = input }
    else (if next.due then record { initialized = true; t0 = s.t0; last_index = next.index; held = input }
    else s) in
    record { state = state; output = output }

-- Rust `UnitDelayState::sample`. The first tick starts the grid, and its input is staged only if it is within 1e-9 periods of the grid.
unfoldable pub unit_delay_sample_over : Helpers → UnitDelayState → Float → Float → Float → Step UnitDelayState Float
unit_delay_sample_over h s t input period =
    let first_t0 = initial_sample_time t period in
    let first_index = h.sample_index t first_t0 period in
    let sample_position = (t ⊖ first_t0) ⊘ period in
    let on_grid = abs (sample_position ⊖ as_f64 first_index) ≤ᶠ decimal 1 1000000000 in
    let first_staged = if on_grid then input else s.staged in
    let next = sample_due_over h t s.t0 period s.last_index in
    if not s.initialized then record {
      state = record { initialized = true; t0 = first_t0; last_index = first_index; held = s.held; staged = first_staged };
      output = s.held;
    }
    else (if not next.due then record { state = s; output = s.held }
    else let output = s.staged in
    record { state = record { initialized = true; t0 = s.t0; last_index = next.index; held = output; staged = input }; output = output })

-- Rust `TrueDelayState::output`; not the `true_delay` of cdl_recurrences.rs, another recurrence, which the controller does not call
unfoldable pub true_delay_over : Helpers → TrueDelayState → Float → Bool → Float → Bool → Step TrueDelayState Bool
true_delay_over h s t input delay_time delay_on_init =
    let next = true_delay_output_over h t input delay_time delay_on_init s.previous_time s.previous_input s.held s.timer in
    record {
      state = record { previous_time = Some t; previous_input = input; held = next.output; timer = next.timer };
      output = next.output;
    }

-- Rust's `previous_time.map_or(0.0, |previous| (t - previous).max(0.0))`, in LoopPiState and DamperState
abbrev pub step_seconds_over : Helpers → Option Float → Float → Float
step_seconds_over h None t = zero
step_seconds_over h (Some previous) t = h.max (t ⊖ previous) zero

-- ---- cooling_only_controller_conditioning.rs

-- Rust `TimeSuppressionState::output`
unfoldable pub time_suppression_over : Helpers → TimeSuppressionState → Float → Float → Float → Step TimeSuppressionState Bool
time_suppression_over h s t setpoint_temperature zone_temperature =
    let sampled_setpoint = sampler_sample_over h s.setpoint_sampler t setpoint_temperature SAMPLE_PERIOD in
    let prior_sample = unit_delay_sample_over h s.previous_sample t sampled_setpoint.output SAMPLE_PERIOD in
    let startup_complete = true_delay_over h s.startup_delay t true SAMPLE_PERIOD true in
    let change_magnitude = if startup_complete.output then abs (sampled_setpoint.output ⊖ prior_sample.output) else zero in
    let change_detected = greater_hysteretic change_magnitude TEMPERATURE_HYSTERESIS
    (decimal 5 10 ⊗ TEMPERATURE_HYSTERESIS) s.change_detected in
    let active = latch s.suppression_latch change_detected s.previous_passed in
    let rising_active = active.output && not s.previous_active in
    let captured_setpoint = if rising_active then setpoint_temperature else s.captured_setpoint in
    let captured_zone = if rising_active then zone_temperature else s.captured_zone in
    let suppression_window = h.min (decimal 540 1 ⊗ abs (captured_setpoint ⊖ captured_zone)) (decimal 1800 1) in
    let elapsed = timer_elapsed s.timer t active.output in
    let passed = elapsed.output >ᶠ suppression_window in
    let passed_latched = latch s.passed_latch passed rising_active in
    let output = if active.output then passed_latched.output else true in
    record {
      state = record {
        setpoint_sampler = sampled_setpoint.state;
        previous_sample = prior_sample.state;
        startup_delay = startup_complete.state;
        change_detected = change_detected;
        suppression_latch = active.state;
        passed_latch = passed_latched.state;
        timer = elapsed.state;
        previous_active = active.output;
        previous_passed = passed;
        captured_setpoint = captured_setpoint;
        captured_zone = captured_zone;
      };
      output = output;
    }

-- Rust `LoopPiState::output`. The output is formed with the old integrator.
unfoldable pub loop_pi_over : Helpers → LoopPiState → Float → Float → Bool → Step LoopPiState Float
loop_pi_over h s t error trigger =
    let proportional = CONTROL_GAIN ⊗ error in
    let unlimited = proportional ⊕ s.integrator in
    let limited = h.clamp unlimited zero (decimal 1 1) in
    let dt = step_seconds_over h s.previous_time t in
    let anti_windup = (unlimited ⊖ limited) ⊘ (CONTROL_GAIN ⊗ ANTI_WINDUP_NI) in
    let integrator = if trigger && not s.previous_trigger then neg proportional
    else s.integrator ⊕ (CONTROL_GAIN ⊘ CONTROL_INTEGRAL_TIME) ⊗ (error ⊖ anti_windup) ⊗ dt in
    record { state = record { integrator = integrator; previous_time = Some t; previous_trigger = trigger }; output = limited }

-- Rust `ControlLoopsState::output`
unfoldable pub control_loops_over : Helpers → ControlLoopsState → Float → Float → Float → Float → Step ControlLoopsState ControlLoopOutput
control_loops_over h s t cooling_setpoint zone_temperature heating_setpoint =
    let cooling_enable = less_hysteretic cooling_setpoint zone_temperature TEMPERATURE_HYSTERESIS s.cooling_enable in
    let heating_enable = less_hysteretic zone_temperature heating_setpoint TEMPERATURE_HYSTERESIS s.heating_enable in
    let cooling_raw = loop_pi_over h s.cooling_pi t (zone_temperature ⊖ cooling_setpoint) cooling_enable in
    let heating_raw = loop_pi_over h s.heating_pi t (heating_setpoint ⊖ zone_temperature) heating_enable in
    let cooling_near_zero = less_hysteretic cooling_raw.output LOOP_THRESHOLD LOOP_HYSTERESIS s.cooling_near_zero in
    let heating_near_zero = less_hysteretic heating_raw.output LOOP_THRESHOLD LOOP_HYSTERESIS s.heating_near_zero in
    let cooling_delayed = true_delay_over h s.cooling_delay t cooling_near_zero CONTROL_DELAY false in
    let heating_delayed = true_delay_over h s.heating_delay t heating_near_zero CONTROL_DELAY false in
    record {
      state = record {
        cooling_enable = cooling_enable;
        heating_enable = heating_enable;
        cooling_pi = cooling_raw.state;
        heating_pi = heating_raw.state;
        cooling_near_zero = cooling_near_zero;
        heating_near_zero = heating_near_zero;
        cooling_delay = cooling_delayed.state;
        heating_delay = heating_delayed.state;
      };
      output = record {
        cooling = cooling_raw.output ⊗ (if cooling_delayed.output && not cooling_enable then zero else decimal 1 1);
        heating = heating_raw.output ⊗ (if heating_delayed.output && not heating_enable then zero else decimal 1 1);
      };
    }

-- Rust `SetpointsState::output`
unfoldable pub setpoints_over : Helpers → SetpointsState → SetpointInput → Choices → Step SetpointsState SetpointOutput
setpoints_over h s input choices =
    let cooling_supply = greater_hysteretic input.zone_temperature input.discharge_air_temperature
    TEMPERATURE_HYSTERESIS s.cooling_supply in
    let occupied_mode = input.operating_mode ==ᶻ 1 in
    let override_to_zero = not input.window_status || not occupied_mode in
    let co2_loop = buildings_line_over h (input.co2_setpoint ⊖ decimal 200 1) zero input.co2_setpoint (decimal 1 1)
    input.co2_concentration in
    let corrected_co2 = if occupied_mode then co2_loop else zero in
    let occupied_minimum = buildings_line_over h zero choices.design_minimum_flow (decimal 1 1) choices.design_cooling_maximum_flow
    corrected_co2 in
    let population = buildings_line_over h zero zero (decimal 1 1) POPULATION_BREATHING_FLOW corrected_co2 in
    let not_occupied = not input.occupancy_status in
    let population = if not_occupied then zero else population in
    let area = if not_occupied then zero else AREA_BREATHING_FLOW in
    let occupied_minimum = if not_occupied then zero else occupied_minimum in
    let population = if override_to_zero then zero else population in
    let area = if override_to_zero then zero else area in
    let occupied_minimum = if override_to_zero then zero else occupied_minimum in
    let distribution_effectiveness = if cooling_supply then COOLING_DISTRIBUTION_EFFECTIVENESS else HEATING_DISTRIBUTION_EFFECTIVENESS in
    record {
      state = record { cooling_supply = cooling_supply };
      output = record {
        adjusted_population_flow = population;
        occupied_minimum_flow = occupied_minimum;
        adjusted_area_flow = area;
        minimum_outdoor_airflow = (population ⊕ area) ⊘ distribution_effectiveness;
      };
    }

-- Rust `ZoneStatesState::output`: 1 heating, 3 cooling, 2 neither
unfoldable pub zone_states_over : Helpers → ZoneStatesState → Float → Float → Step ZoneStatesState ℤ
zone_states_over h s heating cooling =
    let heating_signal = h.hysteresis heating (decimal 1 100) (decimal 5 100) s.heating_signal in
    let cooling_signal = h.hysteresis cooling (decimal 1 100) (decimal 5 100) s.cooling_signal in
    let heating_tiebreak = h.hysteresis (heating ⊖ cooling) (neg (decimal 1 100)) (decimal 1 100) s.heating_tiebreak in
    let is_heating = heating_signal && heating_tiebreak in
    let is_cooling = not is_heating && cooling_signal in
    record {
      state = record { heating_signal = heating_signal; cooling_signal = cooling_signal; heating_tiebreak = heating_tiebreak };
      output = if is_heating then pos 1 else (if is_cooling then pos 3 else pos 2);
    }

-- ---- cooling_only_controller_airflow.rs

-- Rust `DamperState::output`. The command has the integrator from before this tick, which a fan that comes on resets.
unfoldable pub damper_over : Helpers → DamperState → Float → DamperInput → Choices → Step DamperState DamperOutput
damper_over h s t input choices =
    let supply_warm = greater_hysteretic input.supply_air_temperature input.zone_temperature
    TEMPERATURE_HYSTERESIS s.supply_warm in
    let mapped = buildings_line_over h zero input.active_minimum_flow (decimal 1 1) input.active_cooling_maximum_flow
    input.cooling_loop in
    let active = if supply_warm then input.active_minimum_flow else mapped in
    let base = if input.zone_state ==ᶻ 3 then active else input.active_minimum_flow in
    let airflow_setpoint = if input.airflow_override_index ==ᶻ 1 then zero
    else (if input.airflow_override_index ==ᶻ 2 then choices.design_cooling_maximum_flow
    else (if input.airflow_override_index ==ᶻ 3 then choices.design_minimum_flow
    else base)) in
    let normalized_setpoint = airflow_setpoint ⊘ choices.design_cooling_maximum_flow in
    let normalized_measurement = input.discharge_airflow ⊘ choices.design_cooling_maximum_flow in
    let error = normalized_setpoint ⊖ normalized_measurement in
    let proportional = decimal 5 10 ⊗ error in
    let unlimited = proportional ⊕ s.integrator in
    let pid_output = h.clamp unlimited zero (decimal 1 1) in
    let dt = step_seconds_over h s.previous_time t in
    let anti_windup = (unlimited ⊖ pid_output) ⊘ (decimal 5 10 ⊗ decimal 9 10) in
    let integrator = if input.supply_fan_status && not s.previous_fan then decimal 1 100 ⊖ proportional
    else s.integrator ⊕ (decimal 5 10 ⊘ decimal 300 1) ⊗ (error ⊖ anti_windup) ⊗ dt in
    record {
      state = record {
        supply_warm = supply_warm;
        integrator = integrator;
        previous_time = Some t;
        previous_fan = input.supply_fan_status;
      };
      output = record {
        airflow_setpoint = airflow_setpoint;
        damper_command =
            if input.damper_override_index ==ᶻ 1 then zero
            else (if input.damper_override_index ==ᶻ 2 then decimal 1 1
            else pid_output);
      };
    }

-- Rust `SystemRequestsState::output`
unfoldable pub system_requests_over : Helpers → SystemRequestsState → Float → SystemRequestInput → Choices
    → Step SystemRequestsState SystemRequestOutput
system_requests_over h s t input choices =
    let delay_on_init = choices.quiet in
    let temperature_difference = input.zone_temperature ⊖ input.cooling_setpoint in
    let hot_three = h.hysteresis temperature_difference (decimal 275 100) (decimal 3 1) s.hot_three in
    let hot_two = h.hysteresis temperature_difference (decimal 175 100) (decimal 2 1) s.hot_two in
    let hot_three_held = true_delay_over h s.hot_three_delay t hot_three (decimal 120 1) delay_on_init in
    let hot_two_held = true_delay_over h s.hot_two_delay t hot_two (decimal 120 1) delay_on_init in
    let sampled_cooling = sampler_sample_over h s.cooling_sampler t input.cooling_loop SAMPLE_PERIOD in
    let cooling_high = h.hysteresis sampled_cooling.output (decimal 94 100) (decimal 95 100) s.cooling_high in
    let temperature = request_level (input.after_suppression && hot_three_held.output)
    (input.after_suppression && hot_two_held.output) cooling_high in
    let sampled_setpoint = sampler_sample_over h s.setpoint_sampler t input.airflow_setpoint SAMPLE_PERIOD in
    let sampled_discharge = sampler_sample_over h s.discharge_sampler t input.discharge_airflow SAMPLE_PERIOD in
    let sampled_damper = sampler_sample_over h s.damper_sampler t input.damper_position SAMPLE_PERIOD in
    let setpoint_on = h.hysteresis sampled_setpoint.output (decimal 5 1000) (decimal 1 100) s.setpoint_on in
    let damper_high = h.hysteresis sampled_damper.output (decimal 94 100) (decimal 95 100) s.damper_high in
    let damper_held = true_delay_over h s.damper_delay t damper_high (decimal 60 1) delay_on_init in
    let starved_half = greater_hysteretic (decimal 5 10 ⊗ sampled_setpoint.output) sampled_discharge.output
    FLOW_HYSTERESIS s.starved_half in
    let starved_seventy = greater_hysteretic (decimal 7 10 ⊗ sampled_setpoint.output) sampled_discharge.output
    FLOW_HYSTERESIS s.starved_seventy in
    let gate = setpoint_on && damper_held.output in
    let pressure = request_level (gate && starved_half) (gate && starved_seventy) damper_high in
    record {
      state = record {
        hot_three = hot_three;
        hot_two = hot_two;
        hot_three_delay = hot_three_held.state;
        hot_two_delay = hot_two_held.state;
        cooling_sampler = sampled_cooling.state;
        setpoint_sampler = sampled_setpoint.state;
        discharge_sampler = sampled_discharge.state;
        damper_sampler = sampled_damper.state;
        cooling_high = cooling_high;
        setpoint_on = setpoint_on;
        damper_high = damper_high;
        damper_delay = damper_held.state;
        starved_half = starved_half;
        starved_seventy = starved_seventy;
      };
      output = record { temperature = temperature; pressure = pressure };
    }

-- Rust `AlarmsState::output`. Both low-flow memories are stored before the fan's arming enters.
-- Where the box has the second reading of the airflow sensor alarm, its delay runs on the fan alone, and flow is asked for at this tick.
unfoldable pub alarms_over : Helpers → AlarmsState → Float → AlarmInput → Choices → Step AlarmsState AlarmOutput
alarms_over h s t input choices =
    let delay_on_init = choices.quiet in
    let occupied = input.operation_mode ==ᶻ 1 in
    let fan_armed = true_delay_over h s.fan_armed t input.supply_fan_status (decimal 1800 1) false in
    let setpoint_nonzero = h.hysteresis input.active_airflow_setpoint (decimal 5 1000) (decimal 1 100) s.setpoint_nonzero in
    let setpoint_on = true_delay_over h s.setpoint_on t setpoint_nonzero (decimal 300 1) delay_on_init in
    let low_half = less_hysteretic input.discharge_airflow (decimal 5 10 ⊗ input.active_airflow_setpoint)
    FLOW_HYSTERESIS s.low_half in
    let low_seventy = greater_hysteretic (decimal 7 10 ⊗ input.active_airflow_setpoint) input.discharge_airflow
    FLOW_HYSTERESIS s.low_seventy in
    let low_half_held = true_delay_over h s.low_half_delay t (low_half && fan_armed.output) (decimal 300 1) delay_on_init in
    let low_seventy_held = true_delay_over h s.low_seventy_delay t (low_seventy && fan_armed.output) (decimal 300 1) delay_on_init in
    let level_two = low_half_held.output && setpoint_on.output && occupied in
    let level_three = low_seventy_held.output && setpoint_on.output && occupied in
    let low_airflow = if level_two then pos 2 else (if level_three then pos 3 else pos 0) in
    let flow_high = greater_hysteretic input.discharge_airflow (decimal 1 10 ⊗ choices.design_cooling_maximum_flow)
    FLOW_HYSTERESIS s.flow_high in
    let fan_off = not input.supply_fan_status in
    let sensor_input = if choices.second_reading then fan_off else flow_high && fan_off in
    let sensor_held = true_delay_over h s.sensor_delay t sensor_input (decimal 600 1) delay_on_init in
    let sensor_on = if choices.second_reading then sensor_held.output && flow_high else sensor_held.output in
    let airflow_sensor = if sensor_on && occupied then pos 3 else pos 0 in
    let damper_closed = less_hysteretic input.damper_position DAMPER_POSITION_HYSTERESIS
    (decimal 5 10 ⊗ DAMPER_POSITION_HYSTERESIS) s.damper_closed in
    let leak_held = true_delay_over h s.leak_delay t (input.supply_fan_status && damper_closed && flow_high)
    (decimal 600 1) delay_on_init in
    record {
      state = record {
        fan_armed = fan_armed.state;
        setpoint_nonzero = setpoint_nonzero;
        setpoint_on = setpoint_on.state;
        low_half = low_half;
        low_seventy = low_seventy;
        low_half_delay = low_half_held.state;
        low_seventy_delay = low_seventy_held.state;
        flow_high = flow_high;
        sensor_delay = sensor_held.state;
        damper_closed = damper_closed;
        leak_delay = leak_held.state;
      };
      output = record {
        low_airflow = low_airflow;
        airflow_sensor = airflow_sensor;
        leaking_damper = if leak_held.output then pos 4 else pos 0;
      };
    }

-- ---- cooling_only_controller.rs

-- Rust `ControllerState::output`; G36.TerminalUnits.CoolingOnly.Controller
-- `choices` goes to each stage that has a choice in it: the design flows, which are constants in the Rust, the start, which is plain there, and the
-- reading of the airflow sensor alarm, which is the first there.
-- In `let setpoints = setpoints ..` and the like the name on the right is the stage, and the one on the left its step, as in the Rust.
unfoldable pub controller_output_over : Helpers → ControllerState → Float → ControllerInput → Choices → Step ControllerState ControllerOutput
controller_output_over h s t input choices =
    let after_suppression = time_suppression_over h s.time_suppression t input.cooling_setpoint input.zone_temperature in
    let loops = control_loops_over h s.control_loops t input.cooling_setpoint input.zone_temperature input.heating_setpoint in
    let setpoints = setpoints_over h s.setpoints record {
      window_status = input.window_status;
      occupancy_status = input.occupancy_status;
      operating_mode = input.operating_mode;
      co2_setpoint = input.co2_setpoint;
      co2_concentration = input.co2_concentration;
      zone_temperature = input.zone_temperature;
      discharge_air_temperature = input.discharge_air_temperature;
    } choices in
    let active = active_airflow input.operating_mode setpoints.output.occupied_minimum_flow choices in
    let zone_state = zone_states_over h s.zone_states loops.output.heating loops.output.cooling in
    let damper = damper_over h s.dampers t record {
      active_minimum_flow = active.minimum;
      supply_air_temperature = input.supply_air_temperature;
      zone_temperature = input.zone_temperature;
      cooling_loop = loops.output.cooling;
      active_cooling_maximum_flow = active.cooling_maximum;
      zone_state = zone_state.output;
      airflow_override_index = input.airflow_override_index;
      supply_fan_status = input.supply_fan_status;
      discharge_airflow = input.discharge_airflow;
      damper_override_index = input.damper_override_index;
    } choices in
    let requests = system_requests_over h s.system_requests t record {
      after_suppression = after_suppression.output;
      cooling_setpoint = input.cooling_setpoint;
      zone_temperature = input.zone_temperature;
      cooling_loop = loops.output.cooling;
      airflow_setpoint = damper.output.airflow_setpoint;
      discharge_airflow = input.discharge_airflow;
      damper_position = damper.output.damper_command;
    } choices in
    let alarms = alarms_over h s.alarms t record {
      discharge_airflow = input.discharge_airflow;
      active_airflow_setpoint = damper.output.airflow_setpoint;
      supply_fan_status = input.supply_fan_status;
      operation_mode = input.operating_mode;
      damper_position = damper.output.damper_command;
    } choices in
    record {
      state = record {
        time_suppression = after_suppression.state;
        control_loops = loops.state;
        setpoints = setpoints.state;
        zone_states = zone_state.state;
        dampers = damper.state;
        system_requests = requests.state;
        alarms = alarms.state;
      };
      output = record {
        airflow_setpoint = damper.output.airflow_setpoint;
        damper_command = damper.output.damper_command;
        adjusted_population_flow = setpoints.output.adjusted_population_flow;
        adjusted_area_flow = setpoints.output.adjusted_area_flow;
        minimum_outdoor_airflow = setpoints.output.minimum_outdoor_airflow;
        zone_temperature_reset_request = requests.output.temperature;
        zone_pressure_reset_request = requests.output.pressure;
        low_airflow_alarm = alarms.output.low_airflow;
        airflow_sensor_alarm = alarms.output.airflow_sensor;
        leaking_damper_alarm = alarms.output.leaking_damper;
      };
    }
