-- What `ControllerState::output` of cooling_only_controller.rs returns: the next state beside the ten outputs, in that function's order and
-- with its names.
-- Each let but `active` holds a stage's step: its `.output` is the Rust's value of that name, its `.state` the stage afterwards.
-- `active` holds the value itself: `active_airflow` keeps nothing.
use Rattle.std.specs.Prelude.{Float}
use Rattle.box_choices.specs.declared.Choices.{Choices}
use Rattle.cooling_only_controller_conditioning.specs.Conditioning.{time_suppression, fresh_time_suppression}
use Rattle.cooling_only_controller_conditioning.specs.Conditioning.{control_loops, fresh_control_loops}
use Rattle.cooling_only_controller_conditioning.specs.Conditioning.{setpoints, active_airflow, fresh_setpoints}
use Rattle.cooling_only_controller_conditioning.specs.Conditioning.{zone_states, fresh_zone_states}
use Rattle.cooling_only_controller_airflow.specs.Airflow.{damper, system_requests, alarms}
use Rattle.cooling_only_controller_airflow.specs.Airflow.{fresh_damper, fresh_system_requests, fresh_alarms}
use Rattle.cooling_only_controller.specs.declared.ControllerInput.{ControllerInput}
use Rattle.cooling_only_controller.specs.declared.ControllerState.{ControllerState}
use Rattle.cooling_only_controller.specs.declared.ControllerOutput.{ControllerOutput}
use Rattle.cooling_only_controller_timing.specs.declared.Step.{Step}

-- Rust `ControllerState::default`: every flag false, every number 0, every time absent.
abbrev pub fresh_controller : ControllerState
fresh_controller =
    record {
      time_suppression = fresh_time_suppression;
      control_loops = fresh_control_loops;
      setpoints = fresh_setpoints;
      zone_states = fresh_zone_states;
      dampers = fresh_damper;
      system_requests = fresh_system_requests;
      alarms = fresh_alarms;
    }

-- Rust `ControllerState::output`; G36.TerminalUnits.CoolingOnly.Controller
-- `choices` goes to each stage that has a choice in it: the design flows, which are constants in the Rust, the start, which is plain there, and the
-- reading of the airflow sensor alarm, which is the first there.
-- In `let setpoints = setpoints ..` and the like the name on the right is the stage, and the one on the left its step, as in the Rust.
unfoldable pub controller_output : ControllerState → Float → ControllerInput → Choices → Step ControllerState ControllerOutput
controller_output s t input choices =
    let after_suppression = time_suppression s.time_suppression t input.cooling_setpoint input.zone_temperature in
    let loops = control_loops s.control_loops t input.cooling_setpoint input.zone_temperature input.heating_setpoint in
    let setpoints = setpoints s.setpoints record {
      window_status = input.window_status;
      occupancy_status = input.occupancy_status;
      operating_mode = input.operating_mode;
      co2_setpoint = input.co2_setpoint;
      co2_concentration = input.co2_concentration;
      zone_temperature = input.zone_temperature;
      discharge_air_temperature = input.discharge_air_temperature;
    } choices in
    let active = active_airflow input.operating_mode setpoints.output.occupied_minimum_flow choices in
    let zone_state = zone_states s.zone_states loops.output.heating loops.output.cooling in
    let damper = damper s.dampers t record {
      active_minimum_flow = active.minimum;
      supply_air_temperature = input.supply_air_temperature;
      zone_temperature = input.zone_temperature;
      cooling_loop = loops.output.cooling;
      active_cooling_maximum_flow = active.cooling_maximum;
      zone_state = zone_state.output;
      airflow_override_index = input.airflow_override_index;
      supply_fan_status = input.supply_fan_status;
      discharge_airflow = input.discharge_airflow;
      damper_override_index = input.damper_override_index;
    } choices in
    let requests = system_requests s.system_requests t record {
      after_suppression = after_suppression.output;
      cooling_setpoint = input.cooling_setpoint;
      zone_temperature = input.zone_temperature;
      cooling_loop = loops.output.cooling;
      airflow_setpoint = damper.output.airflow_setpoint;
      discharge_airflow = input.discharge_airflow;
      damper_position = damper.output.damper_command;
    } choices in
    let alarms = alarms s.alarms t record {
      discharge_airflow = input.discharge_airflow;
      active_airflow_setpoint = damper.output.airflow_setpoint;
      supply_fan_status = input.supply_fan_status;
      operation_mode = input.operating_mode;
      damper_position = damper.output.damper_command;
    } choices in
    record {
      state = record {
        time_suppression = after_suppression.state;
        control_loops = loops.state;
        setpoints = setpoints.state;
        zone_states = zone_state.state;
        dampers = damper.state;
        system_requests = requests.state;
        alarms = alarms.state;
      };
      output = record {
        airflow_setpoint = damper.output.airflow_setpoint;
        damper_command = damper.output.damper_command;
        adjusted_population_flow = setpoints.output.adjusted_population_flow;
        adjusted_area_flow = setpoints.output.adjusted_area_flow;
        minimum_outdoor_airflow = setpoints.output.minimum_outdoor_airflow;
        zone_temperature_reset_request = requests.output.temperature;
        zone_pressure_reset_request = requests.output.pressure;
        low_airflow_alarm = alarms.output.low_airflow;
        airflow_sensor_alarm = alarms.output.airflow_sensor;
        leaking_damper_alarm = alarms.output.leaking_damper;
      };
    }
