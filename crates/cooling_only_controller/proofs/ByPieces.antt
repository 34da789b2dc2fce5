-- The pieces of ControllerPieces.antt, put together, are `controller_output`. Assumes nothing.
use mathlib.Core.Path.{◌≡◌, refl}
use lib.Ieee.{Float}
use Rattle.box_choices.specs.declared.Choices.{Choices}
use Rattle.cooling_only_controller_conditioning.specs.Conditioning.{time_suppression}
use Rattle.cooling_only_controller_airflow.specs.Airflow.{system_requests, alarms}
use Rattle.cooling_only_controller.specs.Controller.{controller_output}
use Rattle.cooling_only_controller.specs.ControllerPieces.{airflow_steps, request_input, alarm_input, controller_step}
use Rattle.cooling_only_controller.specs.declared.ControllerInput.{ControllerInput}
use Rattle.cooling_only_controller.specs.declared.ControllerState.{ControllerState}

pub controller_by_pieces : (s : ControllerState) (t : Float) (input : ControllerInput) (choices : Choices)
    → let after_suppression = time_suppression s.time_suppression t input.cooling_setpoint input.zone_temperature in
    let air = airflow_steps t input choices s.control_loops s.setpoints s.zone_states s.dampers in
    let wanted = request_input input after_suppression.output air.loops.output air.damper.output in
    let requests = system_requests s.system_requests t wanted choices in
    let alarms_step = alarms s.alarms t (alarm_input input air.damper.output) choices in
    controller_step after_suppression air requests alarms_step ≡ controller_output s t input choices
unfolding controller_output airflow_steps
controller_by_pieces s t input choices = refl
