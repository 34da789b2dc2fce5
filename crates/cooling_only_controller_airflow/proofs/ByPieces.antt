-- How the pieces of AirflowPieces.antt stand to the stages of Airflow.antt. Assumes nothing.
use mathlib.Core.Path.{◌≡◌, refl}
use mathlib.Core.Bool.{Bool, true, false, not, ◌&&◌, ◌||◌}
use lib.Ieee.{Float}
use Rattle.std.specs.Prelude.{if◌then◌else◌}
use Rattle.box_choices.specs.declared.Choices.{Choices}
use Rattle.cooling_only_controller_airflow.specs.Airflow.{damper, system_requests, alarms}
use Rattle.cooling_only_controller_airflow.specs.AirflowPieces.{
  airflow_override,
  airflow_setpoint,
  temperature_request,
  pressure_request,
  system_requests_step,
  low_airflow,
  sensor_leak,
  alarms_step,
}
use Rattle.cooling_only_controller_airflow.specs.declared.DamperInput.{DamperInput}
use Rattle.cooling_only_controller_airflow.specs.declared.DamperState.{DamperState}
use Rattle.cooling_only_controller_airflow.specs.declared.SystemRequestInput.{SystemRequestInput}
use Rattle.cooling_only_controller_airflow.specs.declared.SystemRequestsState.{SystemRequestsState}
use Rattle.cooling_only_controller_airflow.specs.declared.AlarmInput.{AlarmInput}
use Rattle.cooling_only_controller_airflow.specs.declared.AlarmsState.{AlarmsState}

-- the damper's airflow setpoint; `damper_override` has no more to it than the match that stands at the end of `damper`
pub damper_by_pieces : (s : DamperState) (t : Float) (input : DamperInput) (choices : Choices)
    → airflow_setpoint input (damper s t input choices).state.supply_warm choices ≡ (damper s t input choices).output.airflow_setpoint
unfolding damper airflow_setpoint airflow_override
damper_by_pieces s t input choices = refl

pub system_requests_by_pieces : (s : SystemRequestsState) (t : Float) (input : SystemRequestInput) (choices : Choices)
    → system_requests_step (temperature_request s t input choices) (pressure_request s t input choices)
    ≡ system_requests s t input choices
system_requests_by_pieces s t input choices = refl

pub alarms_by_pieces : (s : AlarmsState) (t : Float) (input : AlarmInput) (choices : Choices)
    → alarms_step (low_airflow s t input choices) (sensor_leak s t input choices)
    ≡ alarms s t input choices
alarms_by_pieces s t input choices = refl

-- the sensor delay's input, and whether the alarm is on by its output, as the code has them without a branch
pub sensor_input_by_code : (second high off : Bool) → (second || high) && off ≡ (if second then off else high && off)
sensor_input_by_code true high off = refl
sensor_input_by_code false high off = refl

pub sensor_on_by_code : (second high held : Bool) → held && (not second || high) ≡ (if second then held && high else held)
sensor_on_by_code true high held = refl
sensor_on_by_code false high true = refl
sensor_on_by_code false high false = refl
