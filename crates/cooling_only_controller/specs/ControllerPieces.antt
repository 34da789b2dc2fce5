-- The pieces in which the code of this crate computes `controller_output` of Controller.antt. A piece has the name of its function in
-- src/lib.rt, and is a formula of its own. A law in proofs/ByPieces.antt says that together they are `controller_output`;
-- a reader of that need not open this file.
use Rattle.std.specs.Prelude.{Bool, ℤ, Float}
use Rattle.box_choices.specs.declared.Choices.{Choices}
use Rattle.cooling_only_controller_conditioning.specs.Conditioning.{control_loops, setpoints, active_airflow, zone_states}
use Rattle.cooling_only_controller_timing.specs.declared.Step.{Step}
use Rattle.cooling_only_controller_conditioning.specs.declared.ControlLoopOutput.{ControlLoopOutput}
use Rattle.cooling_only_controller_conditioning.specs.declared.ControlLoopsState.{ControlLoopsState}
use Rattle.cooling_only_controller_conditioning.specs.declared.SetpointsState.{SetpointsState}
use Rattle.cooling_only_controller_conditioning.specs.declared.ZoneStatesState.{ZoneStatesState}
use Rattle.cooling_only_controller_conditioning.specs.declared.SetpointInput.{SetpointInput}
use Rattle.cooling_only_controller_conditioning.specs.declared.SetpointOutput.{SetpointOutput}
use Rattle.cooling_only_controller_conditioning.specs.declared.ActiveAirflowOutput.{ActiveAirflowOutput}
use Rattle.cooling_only_controller_airflow.specs.Airflow.{damper}
use Rattle.cooling_only_controller_airflow.specs.declared.DamperInput.{DamperInput}
use Rattle.cooling_only_controller_airflow.specs.declared.DamperOutput.{DamperOutput}
use Rattle.cooling_only_controller_airflow.specs.declared.DamperState.{DamperState}
use Rattle.cooling_only_controller_airflow.specs.declared.SystemRequestInput.{SystemRequestInput}
use Rattle.cooling_only_controller_airflow.specs.declared.SystemRequestOutput.{SystemRequestOutput}
use Rattle.cooling_only_controller_airflow.specs.declared.AlarmInput.{AlarmInput}
use Rattle.cooling_only_controller_airflow.specs.declared.AlarmOutput.{AlarmOutput}
use Rattle.cooling_only_controller.specs.declared.AirflowSteps.{AirflowSteps}
use Rattle.cooling_only_controller.specs.declared.ControllerInput.{ControllerInput}
use Rattle.cooling_only_controller_conditioning.specs.declared.TimeSuppressionState.{TimeSuppressionState}
use Rattle.cooling_only_controller_airflow.specs.declared.SystemRequestsState.{SystemRequestsState}
use Rattle.cooling_only_controller_airflow.specs.declared.AlarmsState.{AlarmsState}
use Rattle.cooling_only_controller.specs.declared.ControllerState.{ControllerState}
use Rattle.cooling_only_controller.specs.declared.ControllerOutput.{ControllerOutput}

-- ---- what the controller hands to each stage

-- to the ventilation setpoints
abbrev pub setpoint_input : ControllerInput → SetpointInput
setpoint_input input =
    record {
      window_status = input.window_status;
      occupancy_status = input.occupancy_status;
      operating_mode = input.operating_mode;
      co2_setpoint = input.co2_setpoint;
      co2_concentration = input.co2_concentration;
      zone_temperature = input.zone_temperature;
      discharge_air_temperature = input.discharge_air_temperature;
    }

-- to the damper
abbrev pub damper_input : ControllerInput → ControlLoopOutput → ActiveAirflowOutput → ℤ → DamperInput
damper_input input loops active zone_state =
    record {
      active_minimum_flow = active.minimum;
      supply_air_temperature = input.supply_air_temperature;
      zone_temperature = input.zone_temperature;
      cooling_loop = loops.cooling;
      active_cooling_maximum_flow = active.cooling_maximum;
      zone_state = zone_state;
      airflow_override_index = input.airflow_override_index;
      supply_fan_status = input.supply_fan_status;
      discharge_airflow = input.discharge_airflow;
      damper_override_index = input.damper_override_index;
    }

-- to the system requests
abbrev pub request_input : ControllerInput → Bool → ControlLoopOutput → DamperOutput → SystemRequestInput
request_input input after_suppression loops damper =
    record {
      after_suppression = after_suppression;
      cooling_setpoint = input.cooling_setpoint;
      zone_temperature = input.zone_temperature;
      cooling_loop = loops.cooling;
      airflow_setpoint = damper.airflow_setpoint;
      discharge_airflow = input.discharge_airflow;
      damper_position = damper.damper_command;
    }

-- to the alarms
abbrev pub alarm_input : ControllerInput → DamperOutput → AlarmInput
alarm_input input damper =
    record {
      discharge_airflow = input.discharge_airflow;
      active_airflow_setpoint = damper.airflow_setpoint;
      supply_fan_status = input.supply_fan_status;
      operation_mode = input.operating_mode;
      damper_position = damper.damper_command;
    }

-- ---- the stages together

-- The stages from the control loops to the damper, on their parts of the state
unfoldable pub airflow_steps : Float → ControllerInput → Choices → ControlLoopsState → SetpointsState → ZoneStatesState → DamperState → AirflowSteps
airflow_steps t input choices control_loops_state setpoints_state zone_states_state dampers_state =
    let loops = control_loops control_loops_state t input.cooling_setpoint input.zone_temperature input.heating_setpoint in
    let setpoints_step = setpoints setpoints_state (setpoint_input input) choices in
    let active = active_airflow input.operating_mode setpoints_step.output.occupied_minimum_flow choices in
    let zone_state = zone_states zone_states_state loops.output.heating loops.output.cooling in
    let damper_step = damper dampers_state t (damper_input input loops.output active zone_state.output) choices in
    record { loops = loops; setpoints = setpoints_step; zone = zone_state; damper = damper_step }

-- The ten outputs
abbrev pub outputs : DamperOutput → SetpointOutput → SystemRequestOutput → AlarmOutput → ControllerOutput
outputs damper setpoints requests alarms =
    record {
      airflow_setpoint = damper.airflow_setpoint;
      damper_command = damper.damper_command;
      adjusted_population_flow = setpoints.adjusted_population_flow;
      adjusted_area_flow = setpoints.adjusted_area_flow;
      minimum_outdoor_airflow = setpoints.minimum_outdoor_airflow;
      zone_temperature_reset_request = requests.temperature;
      zone_pressure_reset_request = requests.pressure;
      low_airflow_alarm = alarms.low_airflow;
      airflow_sensor_alarm = alarms.airflow_sensor;
      leaking_damper_alarm = alarms.leaking_damper;
    }

-- The next state and the ten outputs, from the stages' steps
abbrev pub controller_step : Step TimeSuppressionState Bool → AirflowSteps → Step SystemRequestsState SystemRequestOutput → (Step AlarmsState AlarmOutput) → Step ControllerState ControllerOutput
controller_step after_suppression air requests alarms =
    record {
      state = record {
        time_suppression = after_suppression.state;
        control_loops = air.loops.state;
        setpoints = air.setpoints.state;
        zone_states = air.zone.state;
        dampers = air.damper.state;
        system_requests = requests.state;
        alarms = alarms.state;
      };
      output = outputs air.damper.output air.setpoints.output requests.output alarms.output;
    }
