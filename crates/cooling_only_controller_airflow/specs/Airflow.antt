-- What the stages of cooling_only_controller_airflow.rs return: the next state beside the output, one definition for each function,
-- in that file's order and with its names.
-- A let holds the Rust's value of its name, with one exception: where the Rust calls a block that keeps a state (`true_delay`,
-- `sampler_sample`), the let holds the block's step. Its `.output` is the Rust's value, its `.state` the block afterwards.
-- Comparators (`hysteresis`, `greater_hysteretic`, `less_hysteretic`), `buildings_line` and `clamp` give the value itself.
-- The Rust's constants DESIGN_MINIMUM_FLOW and DESIGN_COOLING_MAXIMUM_FLOW are fields of `choices` (document 02, N13).
-- `delay_on_init` is false in the Rust. A quiet start runs eight true delays with true: the three of system requests, and all of alarms
-- but the fan's arming, which starts alike in both (document 02, N4).
-- The airflow sensor alarm has two readings: the first is the Rust's, the second that of document 02, N12.
use Rattle.std.specs.Prelude.{Some, None, Bool, false, not, ◌&&◌, ℤ, pos, Float, if◌then◌else◌}
use Rattle.f64_helpers.specs.F64.{◌⊕◌, ◌⊖◌, ◌⊗◌, ◌⊘◌, decimal, zero}
use Rattle.f64_helpers.specs.Integers.{◌==ᶻ◌}
use Rattle.box_choices.specs.declared.Choices.{Choices}
use Rattle.cdl_recurrences.specs.CdlRecurrences.{buildings_line, clamp, greater_hysteretic, hysteresis, less_hysteretic}
use Rattle.cooling_only_controller_timing.specs.Timing.{sampler_sample, true_delay, step_seconds, fresh_sampler, fresh_true_delay}
use Rattle.cooling_only_controller_airflow.specs.declared.DamperInput.{DamperInput}
use Rattle.cooling_only_controller_airflow.specs.declared.DamperState.{DamperState}
use Rattle.cooling_only_controller_timing.specs.declared.Step.{Step}
use Rattle.cooling_only_controller_airflow.specs.declared.SystemRequestInput.{SystemRequestInput}
use Rattle.cooling_only_controller_airflow.specs.declared.SystemRequestsState.{SystemRequestsState}
use Rattle.cooling_only_controller_airflow.specs.declared.AlarmInput.{AlarmInput}
use Rattle.cooling_only_controller_airflow.specs.declared.DamperOutput.{DamperOutput}
use Rattle.cooling_only_controller_airflow.specs.declared.SystemRequestOutput.{SystemRequestOutput}
use Rattle.cooling_only_controller_airflow.specs.declared.AlarmOutput.{AlarmOutput}
use Rattle.cooling_only_controller_airflow.specs.declared.AlarmsState.{AlarmsState}

-- ---- the Rust's other constants

abbrev pub TEMPERATURE_HYSTERESIS : Float
TEMPERATURE_HYSTERESIS = decimal 25 100

abbrev pub FLOW_HYSTERESIS : Float
FLOW_HYSTERESIS = decimal 1 100

abbrev pub DAMPER_POSITION_HYSTERESIS : Float
DAMPER_POSITION_HYSTERESIS = decimal 1 100

abbrev pub SAMPLE_PERIOD : Float
SAMPLE_PERIOD = decimal 120 1

-- ---- Rust `DamperState`; G36.TerminalUnits.CoolingOnly.Subsequences.Dampers, with CDL.Reals.PIDWithReset as a PI

abbrev pub fresh_damper : DamperState
fresh_damper = record { supply_warm = false; integrator = zero; previous_time = None; previous_fan = false }

-- Rust `DamperState::output`. The command has the integrator from before this tick, which a fan that comes on resets.
unfoldable pub damper : DamperState → Float → DamperInput → Choices → Step DamperState DamperOutput
damper s t input choices =
    let supply_warm = greater_hysteretic input.supply_air_temperature input.zone_temperature
    TEMPERATURE_HYSTERESIS s.supply_warm in
    let mapped = buildings_line zero input.active_minimum_flow (decimal 1 1) input.active_cooling_maximum_flow
    input.cooling_loop in
    let active = if supply_warm then input.active_minimum_flow else mapped in
    let base = if input.zone_state ==ᶻ 3 then active else input.active_minimum_flow in
    let airflow_setpoint = if input.airflow_override_index ==ᶻ 1 then zero
    else (if input.airflow_override_index ==ᶻ 2 then choices.design_cooling_maximum_flow
    else (if input.airflow_override_index ==ᶻ 3 then choices.design_minimum_flow
    else base)) in
    let normalized_setpoint = airflow_setpoint ⊘ choices.design_cooling_maximum_flow in
    let normalized_measurement = input.discharge_airflow ⊘ choices.design_cooling_maximum_flow in
    let error = normalized_setpoint ⊖ normalized_measurement in
    let proportional = decimal 5 10 ⊗ error in
    let unlimited = proportional ⊕ s.integrator in
    let pid_output = clamp unlimited zero (decimal 1 1) in
    let dt = step_seconds s.previous_time t in
    let anti_windup = (unlimited ⊖ pid_output) ⊘ (decimal 5 10 ⊗ decimal 9 10) in
    let integrator = if input.supply_fan_status && not s.previous_fan then decimal 1 100 ⊖ proportional
    else s.integrator ⊕ (decimal 5 10 ⊘ decimal 300 1) ⊗ (error ⊖ anti_windup) ⊗ dt in
    record {
      state = record {
        supply_warm = supply_warm;
        integrator = integrator;
        previous_time = Some t;
        previous_fan = input.supply_fan_status;
      };
      output = record {
        airflow_setpoint = airflow_setpoint;
        damper_command =
            if input.damper_override_index ==ᶻ 1 then zero
            else (if input.damper_override_index ==ᶻ 2 then decimal 1 1
            else pid_output);
      };
    }

-- ---- Rust `SystemRequestsState`; G36.TerminalUnits.CoolingOnly.Subsequences.SystemRequests

abbrev pub fresh_system_requests : SystemRequestsState
fresh_system_requests =
    record {
      hot_three = false;
      hot_two = false;
      hot_three_delay = fresh_true_delay;
      hot_two_delay = fresh_true_delay;
      cooling_sampler = fresh_sampler;
      setpoint_sampler = fresh_sampler;
      discharge_sampler = fresh_sampler;
      damper_sampler = fresh_sampler;
      cooling_high = false;
      setpoint_on = false;
      damper_high = false;
      damper_delay = fresh_true_delay;
      starved_half = false;
      starved_seventy = false;
    }

-- Rust `request_level`
abbrev pub request_level : Bool → Bool → Bool → ℤ
request_level three two one = if three then pos 3 else (if two then pos 2 else (if one then pos 1 else pos 0))

-- Rust `SystemRequestsState::output`
unfoldable pub system_requests : SystemRequestsState → Float → SystemRequestInput → Choices → Step SystemRequestsState SystemRequestOutput
system_requests s t input choices =
    let delay_on_init = choices.quiet in
    let temperature_difference = input.zone_temperature ⊖ input.cooling_setpoint in
    let hot_three = hysteresis temperature_difference (decimal 275 100) (decimal 3 1) s.hot_three in
    let hot_two = hysteresis temperature_difference (decimal 175 100) (decimal 2 1) s.hot_two in
    let hot_three_held = true_delay s.hot_three_delay t hot_three (decimal 120 1) delay_on_init in
    let hot_two_held = true_delay s.hot_two_delay t hot_two (decimal 120 1) delay_on_init in
    let sampled_cooling = sampler_sample s.cooling_sampler t input.cooling_loop SAMPLE_PERIOD in
    let cooling_high = hysteresis sampled_cooling.output (decimal 94 100) (decimal 95 100) s.cooling_high in
    let temperature = request_level (input.after_suppression && hot_three_held.output)
    (input.after_suppression && hot_two_held.output) cooling_high in
    let sampled_setpoint = sampler_sample s.setpoint_sampler t input.airflow_setpoint SAMPLE_PERIOD in
    let sampled_discharge = sampler_sample s.discharge_sampler t input.discharge_airflow SAMPLE_PERIOD in
    let sampled_damper = sampler_sample s.damper_sampler t input.damper_position SAMPLE_PERIOD in
    let setpoint_on = hysteresis sampled_setpoint.output (decimal 5 1000) (decimal 1 100) s.setpoint_on in
    let damper_high = hysteresis sampled_damper.output (decimal 94 100) (decimal 95 100) s.damper_high in
    let damper_held = true_delay s.damper_delay t damper_high (decimal 60 1) delay_on_init in
    let starved_half = greater_hysteretic (decimal 5 10 ⊗ sampled_setpoint.output) sampled_discharge.output
    FLOW_HYSTERESIS s.starved_half in
    let starved_seventy = greater_hysteretic (decimal 7 10 ⊗ sampled_setpoint.output) sampled_discharge.output
    FLOW_HYSTERESIS s.starved_seventy in
    let gate = setpoint_on && damper_held.output in
    let pressure = request_level (gate && starved_half) (gate && starved_seventy) damper_high in
    record {
      state = record {
        hot_three = hot_three;
        hot_two = hot_two;
        hot_three_delay = hot_three_held.state;
        hot_two_delay = hot_two_held.state;
        cooling_sampler = sampled_cooling.state;
        setpoint_sampler = sampled_setpoint.state;
        discharge_sampler = sampled_discharge.state;
        damper_sampler = sampled_damper.state;
        cooling_high = cooling_high;
        setpoint_on = setpoint_on;
        damper_high = damper_high;
        damper_delay = damper_held.state;
        starved_half = starved_half;
        starved_seventy = starved_seventy;
      };
      output = record { temperature = temperature; pressure = pressure };
    }

-- ---- Rust `AlarmsState`; G36.TerminalUnits.CoolingOnly.Subsequences.Alarms

abbrev pub fresh_alarms : AlarmsState
fresh_alarms =
    record {
      fan_armed = fresh_true_delay;
      setpoint_nonzero = false;
      setpoint_on = fresh_true_delay;
      low_half = false;
      low_seventy = false;
      low_half_delay = fresh_true_delay;
      low_seventy_delay = fresh_true_delay;
      flow_high = false;
      sensor_delay = fresh_true_delay;
      damper_closed = false;
      leak_delay = fresh_true_delay;
    }

-- Rust `AlarmsState::output`. Both low-flow memories are stored before the fan's arming enters.
-- Where the box has the second reading of the airflow sensor alarm, its delay runs on the fan alone, and flow is asked for at this tick.
unfoldable pub alarms : AlarmsState → Float → AlarmInput → Choices → Step AlarmsState AlarmOutput
alarms s t input choices =
    let delay_on_init = choices.quiet in
    let occupied = input.operation_mode ==ᶻ 1 in
    let fan_armed = true_delay s.fan_armed t input.supply_fan_status (decimal 1800 1) false in
    let setpoint_nonzero = hysteresis input.active_airflow_setpoint (decimal 5 1000) (decimal 1 100) s.setpoint_nonzero in
    let setpoint_on = true_delay s.setpoint_on t setpoint_nonzero (decimal 300 1) delay_on_init in
    let low_half = less_hysteretic input.discharge_airflow (decimal 5 10 ⊗ input.active_airflow_setpoint)
    FLOW_HYSTERESIS s.low_half in
    let low_seventy = greater_hysteretic (decimal 7 10 ⊗ input.active_airflow_setpoint) input.discharge_airflow
    FLOW_HYSTERESIS s.low_seventy in
    let low_half_held = true_delay s.low_half_delay t (low_half && fan_armed.output) (decimal 300 1) delay_on_init in
    let low_seventy_held = true_delay s.low_seventy_delay t (low_seventy && fan_armed.output) (decimal 300 1) delay_on_init in
    let level_two = low_half_held.output && setpoint_on.output && occupied in
    let level_three = low_seventy_held.output && setpoint_on.output && occupied in
    let low_airflow = if level_two then pos 2 else (if level_three then pos 3 else pos 0) in
    let flow_high = greater_hysteretic input.discharge_airflow (decimal 1 10 ⊗ choices.design_cooling_maximum_flow)
    FLOW_HYSTERESIS s.flow_high in
    let fan_off = not input.supply_fan_status in
    let sensor_input = if choices.second_reading then fan_off else flow_high && fan_off in
    let sensor_held = true_delay s.sensor_delay t sensor_input (decimal 600 1) delay_on_init in
    let sensor_on = if choices.second_reading then sensor_held.output && flow_high else sensor_held.output in
    let airflow_sensor = if sensor_on && occupied then pos 3 else pos 0 in
    let damper_closed = less_hysteretic input.damper_position DAMPER_POSITION_HYSTERESIS
    (decimal 5 10 ⊗ DAMPER_POSITION_HYSTERESIS) s.damper_closed in
    let leak_held = true_delay s.leak_delay t (input.supply_fan_status && damper_closed && flow_high)
    (decimal 600 1) delay_on_init in
    record {
      state = record {
        fan_armed = fan_armed.state;
        setpoint_nonzero = setpoint_nonzero;
        setpoint_on = setpoint_on.state;
        low_half = low_half;
        low_seventy = low_seventy;
        low_half_delay = low_half_held.state;
        low_seventy_delay = low_seventy_held.state;
        flow_high = flow_high;
        sensor_delay = sensor_held.state;
        damper_closed = damper_closed;
        leak_delay = leak_held.state;
      };
      output = record {
        low_airflow = low_airflow;
        airflow_sensor = airflow_sensor;
        leaking_damper = if leak_held.output then pos 4 else pos 0;
      };
    }
