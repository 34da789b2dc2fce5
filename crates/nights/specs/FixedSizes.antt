-- The box as it was before document 02's N13: its design flows are fixed at 0.5 and 1.5. These are the definitions of then, word for word
-- but for the names, and they stand for the claim of OtherSizes.antt alone. What took neither a design flow nor the start is that of today:
-- `time_suppression`, `control_loops`, `zone_states` and the blocks below the stages.
use Rattle.std.specs.Prelude.{Some, None, Option, Bool, false, not, ◌&&◌, ◌||◌, List, [], ◌∷◌, ◌⊎◌, ℕ, ℤ, pos, Float, if◌then◌else◌, Result, Ok, Err, ⊤}
use Rattle.std.specs.Int.Signed.{le_z}
use Rattle.f64_helpers.specs.F64.{◌⊕◌, ◌⊖◌, ◌⊗◌, ◌⊘◌, decimal, zero}
use Rattle.f64_helpers.specs.Integers.{◌==ᶻ◌}
use Rattle.cdl_recurrences.specs.CdlRecurrences.{buildings_line, clamp, greater_hysteretic, hysteresis, less_hysteretic}
use Rattle.cooling_only_controller_timing.specs.Timing.{sampler_sample, true_delay, step_seconds}
use Rattle.cooling_only_controller_conditioning.specs.Conditioning.{TEMPERATURE_HYSTERESIS, AREA_BREATHING_FLOW, POPULATION_BREATHING_FLOW}
use Rattle.cooling_only_controller_conditioning.specs.Conditioning.{COOLING_DISTRIBUTION_EFFECTIVENESS, HEATING_DISTRIBUTION_EFFECTIVENESS}
use Rattle.cooling_only_controller_conditioning.specs.Conditioning.{time_suppression, control_loops, zone_states}
use Rattle.cooling_only_controller_conditioning.specs.declared.SetpointInput.{SetpointInput}
use Rattle.cooling_only_controller_conditioning.specs.declared.SetpointsState.{SetpointsState}
use Rattle.cooling_only_controller_timing.specs.declared.Step.{Step}
use Rattle.cooling_only_controller_conditioning.specs.declared.ActiveAirflowOutput.{ActiveAirflowOutput}
use Rattle.cooling_only_controller_airflow.specs.Airflow.{FLOW_HYSTERESIS, DAMPER_POSITION_HYSTERESIS, SAMPLE_PERIOD, request_level}
use Rattle.cooling_only_controller_airflow.specs.declared.DamperInput.{DamperInput}
use Rattle.cooling_only_controller_airflow.specs.declared.DamperState.{DamperState}
use Rattle.cooling_only_controller_airflow.specs.declared.SystemRequestInput.{SystemRequestInput}
use Rattle.cooling_only_controller_airflow.specs.declared.SystemRequestsState.{SystemRequestsState}
use Rattle.cooling_only_controller_airflow.specs.declared.AlarmInput.{AlarmInput}
use Rattle.cooling_only_controller_airflow.specs.declared.AlarmsState.{AlarmsState}
use Rattle.cooling_only_controller.specs.Controller.{fresh_controller}
use Rattle.cooling_only_controller.specs.declared.ControllerInput.{ControllerInput}
use Rattle.cooling_only_controller.specs.declared.ControllerOutput.{ControllerOutput}
use Rattle.cooling_only_controller.specs.declared.ControllerState.{ControllerState}
use Rattle.air_box.specs.AirBox.{delay_on_init, questions, outputs_or_number}
use Rattle.air_box.specs.declared.Tick.{Tick}
use Rattle.air_box.specs.declared.Refusal.{Refusal}
use Rattle.cooling_only_controller_conditioning.specs.declared.SetpointOutput.{SetpointOutput}
use Rattle.cooling_only_controller_airflow.specs.declared.DamperOutput.{DamperOutput}
use Rattle.cooling_only_controller_airflow.specs.declared.SystemRequestOutput.{SystemRequestOutput}
use Rattle.cooling_only_controller_airflow.specs.declared.AlarmOutput.{AlarmOutput}
use Rattle.air_box.specs.declared.Start.{Start}

-- ---- the two constants

abbrev pub DESIGN_MINIMUM_FLOW : Float
DESIGN_MINIMUM_FLOW = decimal 5 10

abbrev pub DESIGN_COOLING_MAXIMUM_FLOW : Float
DESIGN_COOLING_MAXIMUM_FLOW = decimal 15 10

-- ---- the stages that had one of them, or the start

-- `setpoints`
unfoldable pub fixed_setpoints : SetpointsState → SetpointInput → Step SetpointsState SetpointOutput
fixed_setpoints s input =
    let cooling_supply = greater_hysteretic input.zone_temperature input.discharge_air_temperature
    TEMPERATURE_HYSTERESIS s.cooling_supply in
    let occupied_mode = input.operating_mode ==ᶻ 1 in
    let override_to_zero = not input.window_status || not occupied_mode in
    let co2_loop = buildings_line (input.co2_setpoint ⊖ decimal 200 1) zero input.co2_setpoint (decimal 1 1)
    input.co2_concentration in
    let corrected_co2 = if occupied_mode then co2_loop else zero in
    let occupied_minimum = buildings_line zero DESIGN_MINIMUM_FLOW (decimal 1 1) DESIGN_COOLING_MAXIMUM_FLOW corrected_co2 in
    let population = buildings_line zero zero (decimal 1 1) POPULATION_BREATHING_FLOW corrected_co2 in
    let not_occupied = not input.occupancy_status in
    let population = if not_occupied then zero else population in
    let area = if not_occupied then zero else AREA_BREATHING_FLOW in
    let occupied_minimum = if not_occupied then zero else occupied_minimum in
    let population = if override_to_zero then zero else population in
    let area = if override_to_zero then zero else area in
    let occupied_minimum = if override_to_zero then zero else occupied_minimum in
    let distribution_effectiveness = if cooling_supply then COOLING_DISTRIBUTION_EFFECTIVENESS else HEATING_DISTRIBUTION_EFFECTIVENESS in
    record {
      state = record { cooling_supply = cooling_supply };
      output = record {
        adjusted_population_flow = population;
        occupied_minimum_flow = occupied_minimum;
        adjusted_area_flow = area;
        minimum_outdoor_airflow = (population ⊕ area) ⊘ distribution_effectiveness;
      };
    }

-- `active_airflow`
unfoldable pub fixed_active_airflow : ℤ → Float → ActiveAirflowOutput
fixed_active_airflow operating_mode occupied_minimum =
    record {
      cooling_maximum = if le_z (pos 1) operating_mode && le_z operating_mode (pos 3) then DESIGN_COOLING_MAXIMUM_FLOW else zero;
      minimum = if operating_mode ==ᶻ 1 then occupied_minimum else zero;
    }

-- `damper`
unfoldable pub fixed_damper : DamperState → Float → DamperInput → Step DamperState DamperOutput
fixed_damper s t input =
    let supply_warm = greater_hysteretic input.supply_air_temperature input.zone_temperature
    TEMPERATURE_HYSTERESIS s.supply_warm in
    let mapped = buildings_line zero input.active_minimum_flow (decimal 1 1) input.active_cooling_maximum_flow
    input.cooling_loop in
    let active = if supply_warm then input.active_minimum_flow else mapped in
    let base = if input.zone_state ==ᶻ 3 then active else input.active_minimum_flow in
    let airflow_setpoint = if input.airflow_override_index ==ᶻ 1 then zero
    else (if input.airflow_override_index ==ᶻ 2 then DESIGN_COOLING_MAXIMUM_FLOW
    else (if input.airflow_override_index ==ᶻ 3 then DESIGN_MINIMUM_FLOW
    else base)) in
    let normalized_setpoint = airflow_setpoint ⊘ DESIGN_COOLING_MAXIMUM_FLOW in
    let normalized_measurement = input.discharge_airflow ⊘ DESIGN_COOLING_MAXIMUM_FLOW in
    let error = normalized_setpoint ⊖ normalized_measurement in
    let proportional = decimal 5 10 ⊗ error in
    let unlimited = proportional ⊕ s.integrator in
    let pid_output = clamp unlimited zero (decimal 1 1) in
    let dt = step_seconds s.previous_time t in
    let anti_windup = (unlimited ⊖ pid_output) ⊘ (decimal 5 10 ⊗ decimal 9 10) in
    let integrator = if input.supply_fan_status && not s.previous_fan then decimal 1 100 ⊖ proportional
    else s.integrator ⊕ (decimal 5 10 ⊘ decimal 300 1) ⊗ (error ⊖ anti_windup) ⊗ dt in
    record {
      state = record {
        supply_warm = supply_warm;
        integrator = integrator;
        previous_time = Some t;
        previous_fan = input.supply_fan_status;
      };
      output = record {
        airflow_setpoint = airflow_setpoint;
        damper_command =
            if input.damper_override_index ==ᶻ 1 then zero
            else (if input.damper_override_index ==ᶻ 2 then decimal 1 1
            else pid_output);
      };
    }

-- `system_requests`, which has no design flow, and took the start by itself
unfoldable pub fixed_system_requests : SystemRequestsState → Float → SystemRequestInput → Bool → Step SystemRequestsState SystemRequestOutput
fixed_system_requests s t input delay_on_init =
    let temperature_difference = input.zone_temperature ⊖ input.cooling_setpoint in
    let hot_three = hysteresis temperature_difference (decimal 275 100) (decimal 3 1) s.hot_three in
    let hot_two = hysteresis temperature_difference (decimal 175 100) (decimal 2 1) s.hot_two in
    let hot_three_held = true_delay s.hot_three_delay t hot_three (decimal 120 1) delay_on_init in
    let hot_two_held = true_delay s.hot_two_delay t hot_two (decimal 120 1) delay_on_init in
    let sampled_cooling = sampler_sample s.cooling_sampler t input.cooling_loop SAMPLE_PERIOD in
    let cooling_high = hysteresis sampled_cooling.output (decimal 94 100) (decimal 95 100) s.cooling_high in
    let temperature = request_level (input.after_suppression && hot_three_held.output)
    (input.after_suppression && hot_two_held.output) cooling_high in
    let sampled_setpoint = sampler_sample s.setpoint_sampler t input.airflow_setpoint SAMPLE_PERIOD in
    let sampled_discharge = sampler_sample s.discharge_sampler t input.discharge_airflow SAMPLE_PERIOD in
    let sampled_damper = sampler_sample s.damper_sampler t input.damper_position SAMPLE_PERIOD in
    let setpoint_on = hysteresis sampled_setpoint.output (decimal 5 1000) (decimal 1 100) s.setpoint_on in
    let damper_high = hysteresis sampled_damper.output (decimal 94 100) (decimal 95 100) s.damper_high in
    let damper_held = true_delay s.damper_delay t damper_high (decimal 60 1) delay_on_init in
    let starved_half = greater_hysteretic (decimal 5 10 ⊗ sampled_setpoint.output) sampled_discharge.output
    FLOW_HYSTERESIS s.starved_half in
    let starved_seventy = greater_hysteretic (decimal 7 10 ⊗ sampled_setpoint.output) sampled_discharge.output
    FLOW_HYSTERESIS s.starved_seventy in
    let gate = setpoint_on && damper_held.output in
    let pressure = request_level (gate && starved_half) (gate && starved_seventy) damper_high in
    record {
      state = record {
        hot_three = hot_three;
        hot_two = hot_two;
        hot_three_delay = hot_three_held.state;
        hot_two_delay = hot_two_held.state;
        cooling_sampler = sampled_cooling.state;
        setpoint_sampler = sampled_setpoint.state;
        discharge_sampler = sampled_discharge.state;
        damper_sampler = sampled_damper.state;
        cooling_high = cooling_high;
        setpoint_on = setpoint_on;
        damper_high = damper_high;
        damper_delay = damper_held.state;
        starved_half = starved_half;
        starved_seventy = starved_seventy;
      };
      output = record { temperature = temperature; pressure = pressure };
    }

-- `alarms`
unfoldable pub fixed_alarms : AlarmsState → Float → AlarmInput → Bool → Step AlarmsState AlarmOutput
fixed_alarms s t input delay_on_init =
    let occupied = input.operation_mode ==ᶻ 1 in
    let fan_armed = true_delay s.fan_armed t input.supply_fan_status (decimal 1800 1) false in
    let setpoint_nonzero = hysteresis input.active_airflow_setpoint (decimal 5 1000) (decimal 1 100) s.setpoint_nonzero in
    let setpoint_on = true_delay s.setpoint_on t setpoint_nonzero (decimal 300 1) delay_on_init in
    let low_half = less_hysteretic input.discharge_airflow (decimal 5 10 ⊗ input.active_airflow_setpoint)
    FLOW_HYSTERESIS s.low_half in
    let low_seventy = greater_hysteretic (decimal 7 10 ⊗ input.active_airflow_setpoint) input.discharge_airflow
    FLOW_HYSTERESIS s.low_seventy in
    let low_half_held = true_delay s.low_half_delay t (low_half && fan_armed.output) (decimal 300 1) delay_on_init in
    let low_seventy_held = true_delay s.low_seventy_delay t (low_seventy && fan_armed.output) (decimal 300 1) delay_on_init in
    let level_two = low_half_held.output && setpoint_on.output && occupied in
    let level_three = low_seventy_held.output && setpoint_on.output && occupied in
    let low_airflow = if level_two then pos 2 else (if level_three then pos 3 else pos 0) in
    let flow_high = greater_hysteretic input.discharge_airflow (decimal 1 10 ⊗ DESIGN_COOLING_MAXIMUM_FLOW)
    FLOW_HYSTERESIS s.flow_high in
    let sensor_held = true_delay s.sensor_delay t (flow_high && not input.supply_fan_status) (decimal 600 1) delay_on_init in
    let airflow_sensor = if sensor_held.output && occupied then pos 3 else pos 0 in
    let damper_closed = less_hysteretic input.damper_position DAMPER_POSITION_HYSTERESIS
    (decimal 5 10 ⊗ DAMPER_POSITION_HYSTERESIS) s.damper_closed in
    let leak_held = true_delay s.leak_delay t (input.supply_fan_status && damper_closed && flow_high)
    (decimal 600 1) delay_on_init in
    record {
      state = record {
        fan_armed = fan_armed.state;
        setpoint_nonzero = setpoint_nonzero;
        setpoint_on = setpoint_on.state;
        low_half = low_half;
        low_seventy = low_seventy;
        low_half_delay = low_half_held.state;
        low_seventy_delay = low_seventy_held.state;
        flow_high = flow_high;
        sensor_delay = sensor_held.state;
        damper_closed = damper_closed;
        leak_delay = leak_held.state;
      };
      output = record {
        low_airflow = low_airflow;
        airflow_sensor = airflow_sensor;
        leaking_damper = if leak_held.output then pos 4 else pos 0;
      };
    }

-- ---- the controller

unfoldable pub fixed_controller_output : ControllerState → Float → ControllerInput → Bool → Step ControllerState ControllerOutput
fixed_controller_output s t input delay_on_init =
    let after_suppression = time_suppression s.time_suppression t input.cooling_setpoint input.zone_temperature in
    let loops = control_loops s.control_loops t input.cooling_setpoint input.zone_temperature input.heating_setpoint in
    let setpoints = fixed_setpoints s.setpoints record {
      window_status = input.window_status;
      occupancy_status = input.occupancy_status;
      operating_mode = input.operating_mode;
      co2_setpoint = input.co2_setpoint;
      co2_concentration = input.co2_concentration;
      zone_temperature = input.zone_temperature;
      discharge_air_temperature = input.discharge_air_temperature;
    } in
    let active = fixed_active_airflow input.operating_mode setpoints.output.occupied_minimum_flow in
    let zone_state = zone_states s.zone_states loops.output.heating loops.output.cooling in
    let damper = fixed_damper s.dampers t record {
      active_minimum_flow = active.minimum;
      supply_air_temperature = input.supply_air_temperature;
      zone_temperature = input.zone_temperature;
      cooling_loop = loops.output.cooling;
      active_cooling_maximum_flow = active.cooling_maximum;
      zone_state = zone_state.output;
      airflow_override_index = input.airflow_override_index;
      supply_fan_status = input.supply_fan_status;
      discharge_airflow = input.discharge_airflow;
      damper_override_index = input.damper_override_index;
    } in
    let requests = fixed_system_requests s.system_requests t record {
      after_suppression = after_suppression.output;
      cooling_setpoint = input.cooling_setpoint;
      zone_temperature = input.zone_temperature;
      cooling_loop = loops.output.cooling;
      airflow_setpoint = damper.output.airflow_setpoint;
      discharge_airflow = input.discharge_airflow;
      damper_position = damper.output.damper_command;
    } delay_on_init in
    let alarms = fixed_alarms s.alarms t record {
      discharge_airflow = input.discharge_airflow;
      active_airflow_setpoint = damper.output.airflow_setpoint;
      supply_fan_status = input.supply_fan_status;
      operation_mode = input.operating_mode;
      damper_position = damper.output.damper_command;
    } delay_on_init in
    record {
      state = record {
        time_suppression = after_suppression.state;
        control_loops = loops.state;
        setpoints = setpoints.state;
        zone_states = zone_state.state;
        dampers = damper.state;
        system_requests = requests.state;
        alarms = alarms.state;
      };
      output = record {
        airflow_setpoint = damper.output.airflow_setpoint;
        damper_command = damper.output.damper_command;
        adjusted_population_flow = setpoints.output.adjusted_population_flow;
        adjusted_area_flow = setpoints.output.adjusted_area_flow;
        minimum_outdoor_airflow = setpoints.output.minimum_outdoor_airflow;
        zone_temperature_reset_request = requests.output.temperature;
        zone_pressure_reset_request = requests.output.pressure;
        low_airflow_alarm = alarms.output.low_airflow;
        airflow_sensor_alarm = alarms.output.airflow_sensor;
        leaking_damper_alarm = alarms.output.leaking_damper;
      };
    }

-- ---- the box

pub record FixedBox : Type 0 where
  pub state : ControllerState
  pub last_time : Option Float
  pub start : Start

pub record FixedBoxStep : Type 0 where
  pub state : FixedBox
  pub answer : Result ControllerOutput Refusal

abbrev pub fixed_fresh_box : Start → FixedBox
fixed_fresh_box start = record { state = fresh_controller; last_time = None; start = start }

abbrev pub fixed_accepted_tick : FixedBox → Tick → FixedBoxStep
fixed_accepted_tick box k =
    let step = fixed_controller_output box.state k.t k.input (delay_on_init box.start) in
    record {
      state = record { state = step.state; last_time = Some k.t; start = box.start };
      answer = Ok step.output;
    }

abbrev pub fixed_decided : Result ⊤ Refusal → FixedBox → Tick → FixedBoxStep
fixed_decided (Ok _) box k = fixed_accepted_tick box k
fixed_decided (Err reason) box k = record { state = box; answer = Err reason }

abbrev pub fixed_tick : FixedBox → Tick → FixedBoxStep
fixed_tick box k = fixed_decided (questions box.last_time k) box k

-- what it gave along a night
abbrev pub fixed_given : FixedBox → List Tick → List (ControllerOutput ⊎ ℕ)
fixed_given box [] = []
fixed_given box (k ∷ ks) = outputs_or_number (fixed_tick box k).answer ∷ fixed_given (fixed_tick box k).state ks
