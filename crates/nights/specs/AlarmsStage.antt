-- The box with another alarms stage in place of its own, for claims that set an old stage beside that of today.
-- `OnePlace` of QuietStart.antt says that with `alarms` itself it is the controller of today.
use Rattle.std.specs.Prelude.{Float, Result, Ok, Err, ⊤}
use Rattle.box_choices.specs.declared.Choices.{Choices}
use Rattle.cooling_only_controller_airflow.specs.declared.AlarmInput.{AlarmInput}
use Rattle.cooling_only_controller_airflow.specs.declared.AlarmsState.{AlarmsState}
use Rattle.cooling_only_controller_timing.specs.declared.Step.{Step}
use Rattle.cooling_only_controller.specs.Controller.{controller_output}
use Rattle.cooling_only_controller.specs.declared.ControllerInput.{ControllerInput}
use Rattle.cooling_only_controller.specs.declared.ControllerState.{ControllerState}
use Rattle.air_box.specs.AirBox.{questions, stepped}
use Rattle.air_box.specs.declared.Tick.{Tick}
use Rattle.air_box.specs.declared.Refusal.{Refusal}
use Rattle.air_box.specs.declared.AirBox.{AirBox}
use Rattle.cooling_only_controller_airflow.specs.declared.AlarmOutput.{AlarmOutput}
use Rattle.cooling_only_controller.specs.declared.ControllerOutput.{ControllerOutput}
use Rattle.air_box.specs.declared.AirBoxStep.{AirBoxStep}

-- an alarms stage
abbrev pub AlarmsStage : Type 0
AlarmsStage = AlarmsState → Float → AlarmInput → Choices → Step AlarmsState AlarmOutput

-- The controller with it. The alarms stage is the last: what it gives is in the outputs and the state alone.
abbrev pub controller_with : AlarmsStage → ControllerState → Float → ControllerInput → Choices → Step ControllerState ControllerOutput
controller_with stage s t input choices =
    let before = controller_output s t input choices in
    let alarms = stage s.alarms t record {
      discharge_airflow = input.discharge_airflow;
      active_airflow_setpoint = before.output.airflow_setpoint;
      supply_fan_status = input.supply_fan_status;
      operation_mode = input.operating_mode;
      damper_position = before.output.damper_command;
    } choices in
    record {
      state = record {
        time_suppression = before.state.time_suppression;
        control_loops = before.state.control_loops;
        setpoints = before.state.setpoints;
        zone_states = before.state.zone_states;
        dampers = before.state.dampers;
        system_requests = before.state.system_requests;
        alarms = alarms.state;
      };
      output = record {
        airflow_setpoint = before.output.airflow_setpoint;
        damper_command = before.output.damper_command;
        adjusted_population_flow = before.output.adjusted_population_flow;
        adjusted_area_flow = before.output.adjusted_area_flow;
        minimum_outdoor_airflow = before.output.minimum_outdoor_airflow;
        zone_temperature_reset_request = before.output.zone_temperature_reset_request;
        zone_pressure_reset_request = before.output.zone_pressure_reset_request;
        low_airflow_alarm = alarms.output.low_airflow;
        airflow_sensor_alarm = alarms.output.airflow_sensor;
        leaking_damper_alarm = alarms.output.leaking_damper;
      };
    }

-- the box of AirBox.antt with that controller
unfoldable pub accepted_with : AlarmsStage → AirBox → Tick → AirBoxStep
accepted_with stage box k = stepped box k (controller_with stage box.state k.t k.input box.choices)

abbrev pub decided_with : AlarmsStage → Result ⊤ Refusal → AirBox → Tick → AirBoxStep
decided_with stage (Ok _) box k = accepted_with stage box k
decided_with stage (Err reason) box k = record { state = box; answer = Err reason }

unfoldable pub tick_with : AlarmsStage → AirBox → Tick → AirBoxStep
tick_with stage box k = decided_with stage (questions box.last_time k) box k
