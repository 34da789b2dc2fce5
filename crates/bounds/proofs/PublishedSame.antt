-- The controller text of PublishedController.antt over document 01's helpers is today's controller, definition by definition. Assumes nothing.
use mathlib.Core.Path.{◌≡◌, refl}
use Rattle.std.specs.Prelude.{Bool, true, false, ℤ, Float, Option, Some, None}
use Rattle.box_choices.specs.declared.Choices.{Choices}
use Rattle.cdl_recurrences.specs.CdlRecurrences.{buildings_line, true_delay_output, sample_due, sampler_output}
use Rattle.cooling_only_controller_timing.specs.Timing.{sampler_sample, unit_delay_sample, true_delay, step_seconds}
use Rattle.cooling_only_controller_timing.specs.declared.SamplerState.{SamplerState}
use Rattle.cooling_only_controller_timing.specs.declared.UnitDelayState.{UnitDelayState}
use Rattle.cooling_only_controller_timing.specs.declared.TrueDelayState.{TrueDelayState}
use Rattle.cooling_only_controller_conditioning.specs.Conditioning.{time_suppression, loop_pi, control_loops, setpoints, zone_states}
use Rattle.cooling_only_controller_conditioning.specs.declared.TimeSuppressionState.{TimeSuppressionState}
use Rattle.cooling_only_controller_conditioning.specs.declared.LoopPiState.{LoopPiState}
use Rattle.cooling_only_controller_conditioning.specs.declared.ControlLoopsState.{ControlLoopsState}
use Rattle.cooling_only_controller_conditioning.specs.declared.SetpointInput.{SetpointInput}
use Rattle.cooling_only_controller_conditioning.specs.declared.SetpointsState.{SetpointsState}
use Rattle.cooling_only_controller_conditioning.specs.declared.ZoneStatesState.{ZoneStatesState}
use Rattle.cooling_only_controller_airflow.specs.Airflow.{damper, system_requests, alarms}
use Rattle.cooling_only_controller_airflow.specs.declared.DamperInput.{DamperInput}
use Rattle.cooling_only_controller_airflow.specs.declared.DamperState.{DamperState}
use Rattle.cooling_only_controller_airflow.specs.declared.SystemRequestInput.{SystemRequestInput}
use Rattle.cooling_only_controller_airflow.specs.declared.SystemRequestsState.{SystemRequestsState}
use Rattle.cooling_only_controller_airflow.specs.declared.AlarmInput.{AlarmInput}
use Rattle.cooling_only_controller_airflow.specs.declared.AlarmsState.{AlarmsState}
use Rattle.cooling_only_controller.specs.Controller.{controller_output}
use Rattle.cooling_only_controller.specs.declared.ControllerInput.{ControllerInput}
use Rattle.cooling_only_controller.specs.declared.ControllerState.{ControllerState}
use Rattle.bounds.specs.PublishedHelpers.{document_01}
use Rattle.bounds.specs.PublishedController.{buildings_line_over, true_delay_output_over, sample_due_over, sampler_output_over}
use Rattle.bounds.specs.PublishedController.{sampler_sample_over, unit_delay_sample_over, true_delay_over, step_seconds_over}
use Rattle.bounds.specs.PublishedController.{time_suppression_over, loop_pi_over, control_loops_over, setpoints_over, zone_states_over}
use Rattle.bounds.specs.PublishedController.{damper_over, system_requests_over, alarms_over, controller_output_over}

-- ---- the recurrences
line_text : (x1 f1 x2 f2 u : Float) → buildings_line_over document_01 x1 f1 x2 f2 u ≡ buildings_line x1 f1 x2 f2 u
unfolding buildings_line_over buildings_line
line_text x1 f1 x2 f2 u = refl

delay_output_text : (t : Float) (u : Bool) (delay_time : Float) (delay_on_init : Bool) (prev_time : Option Float) (prev_u held : Bool) (timer : Float)
    → true_delay_output_over document_01 t u delay_time delay_on_init prev_time prev_u held timer ≡ true_delay_output t u delay_time delay_on_init prev_time prev_u held timer
unfolding true_delay_output_over true_delay_output
delay_output_text t false delay_time delay_on_init prev_time prev_u held timer = refl
delay_output_text t true delay_time delay_on_init None prev_u held timer = refl
delay_output_text t true delay_time delay_on_init (Some previous_time) prev_u held timer = refl

due_text : (t_now t0 period : Float) (last_index : ℤ) → sample_due_over document_01 t_now t0 period last_index ≡ sample_due t_now t0 period last_index
unfolding sample_due_over sample_due
due_text t_now t0 period last_index = refl

sampler_output_text : (t input period : Float) (initialized : Bool) (t0 : Float) (last_index : ℤ) (held : Float)
    → sampler_output_over document_01 t input period initialized t0 last_index held ≡ sampler_output t input period initialized t0 last_index held
unfolding sampler_output_over sampler_output
sampler_output_text t input period initialized t0 last_index held = rw due_text refl

-- ---- the timing blocks
sampler_text : (s : SamplerState) (t input period : Float) → sampler_sample_over document_01 s t input period ≡ sampler_sample s t input period
unfolding sampler_sample_over sampler_sample
sampler_text s t input period = rw (sampler_output_text, due_text) refl

unit_delay_text : (s : UnitDelayState) (t input period : Float) → unit_delay_sample_over document_01 s t input period ≡ unit_delay_sample s t input period
unfolding unit_delay_sample_over unit_delay_sample
unit_delay_text s t input period = rw due_text refl

true_delay_text : (s : TrueDelayState) (t : Float) (input : Bool) (delay_time : Float) (delay_on_init : Bool)
    → true_delay_over document_01 s t input delay_time delay_on_init ≡ true_delay s t input delay_time delay_on_init
unfolding true_delay_over true_delay
true_delay_text s t input delay_time delay_on_init = rw delay_output_text refl

step_text : (previous_time : Option Float) (t : Float) → step_seconds_over document_01 previous_time t ≡ step_seconds previous_time t
step_text None t = refl
step_text (Some previous) t = refl

-- ---- the stages
suppression_text : (s : TimeSuppressionState) (t setpoint_temperature zone_temperature : Float)
    → time_suppression_over document_01 s t setpoint_temperature zone_temperature ≡ time_suppression s t setpoint_temperature zone_temperature
unfolding time_suppression_over time_suppression
suppression_text s t setpoint_temperature zone_temperature = rw (sampler_text, unit_delay_text, true_delay_text) refl

loop_text : (s : LoopPiState) (t error : Float) (trigger : Bool) → loop_pi_over document_01 s t error trigger ≡ loop_pi s t error trigger
unfolding loop_pi_over loop_pi
loop_text s t error trigger = rw step_text refl

loops_text : (s : ControlLoopsState) (t cooling_setpoint zone_temperature heating_setpoint : Float)
    → control_loops_over document_01 s t cooling_setpoint zone_temperature heating_setpoint ≡ control_loops s t cooling_setpoint zone_temperature heating_setpoint
unfolding control_loops_over control_loops
loops_text s t cooling_setpoint zone_temperature heating_setpoint = simp (loop_text, true_delay_text) refl

setpoints_text : (s : SetpointsState) (input : SetpointInput) (choices : Choices) → setpoints_over document_01 s input choices ≡ setpoints s input choices
unfolding setpoints_over setpoints buildings_line_over buildings_line
setpoints_text s input choices = refl

zone_text : (s : ZoneStatesState) (heating cooling : Float) → zone_states_over document_01 s heating cooling ≡ zone_states s heating cooling
unfolding zone_states_over zone_states
zone_text s heating cooling = refl

damper_text : (s : DamperState) (t : Float) (input : DamperInput) (choices : Choices) → damper_over document_01 s t input choices ≡ damper s t input choices
unfolding damper_over damper
damper_text s t input choices = rw (line_text, step_text) refl

requests_text : (s : SystemRequestsState) (t : Float) (input : SystemRequestInput) (choices : Choices)
    → system_requests_over document_01 s t input choices ≡ system_requests s t input choices
unfolding system_requests_over system_requests
requests_text s t input choices = simp (true_delay_text, sampler_text) refl

alarms_text : (s : AlarmsState) (t : Float) (input : AlarmInput) (choices : Choices) → alarms_over document_01 s t input choices ≡ alarms s t input choices
unfolding alarms_over alarms
alarms_text s t input choices = simp true_delay_text refl

-- ---- the controller
pub same_text : (s : ControllerState) (t : Float) (input : ControllerInput) (choices : Choices)
    → controller_output_over document_01 s t input choices ≡ controller_output s t input choices
unfolding controller_output_over controller_output
same_text s t input choices = rw (suppression_text, loops_text, setpoints_text, zone_text, damper_text, requests_text, alarms_text) refl
