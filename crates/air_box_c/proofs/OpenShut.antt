-- The record of a box stands for that box, stage by stage. Assumes nothing.
use mathlib.Core.Path.{◌≡◌, refl}
use Rattle.std.specs.Prelude.{Float, Option, Some, None}
use Rattle.box_choices.specs.declared.Choices.{Choices}
use Rattle.cooling_only_controller_timing.specs.declared.TrueDelayState.{TrueDelayState}
use Rattle.cooling_only_controller_timing.specs.declared.TimerState.{TimerState}
use Rattle.cooling_only_controller_conditioning.specs.declared.TimeSuppressionState.{TimeSuppressionState}
use Rattle.cooling_only_controller_conditioning.specs.declared.LoopPiState.{LoopPiState}
use Rattle.cooling_only_controller_conditioning.specs.declared.ControlLoopsState.{ControlLoopsState}
use Rattle.cooling_only_controller_airflow.specs.declared.DamperState.{DamperState}
use Rattle.cooling_only_controller_airflow.specs.declared.SystemRequestsState.{SystemRequestsState}
use Rattle.cooling_only_controller_airflow.specs.declared.AlarmsState.{AlarmsState}
use Rattle.cooling_only_controller.specs.declared.ControllerState.{ControllerState}
use Rattle.air_box.specs.declared.LastTick.{LastTick}
use Rattle.air_box.specs.AirBox.{unticked}
use Rattle.air_box_c.specs.declared.records.LastTickC.{LastTickC}
use Rattle.air_box_c.specs.Records.{open_time, shut_time, open_true_delay, shut_true_delay, open_timer, shut_timer, open_time_suppression, shut_time_suppression, open_loop_pi, shut_loop_pi, open_control_loops, shut_control_loops, open_damper, shut_damper, open_system_requests, shut_system_requests, open_alarms, shut_alarms, open_last_tick, shut_last_tick, open_controller, shut_state, open_box, shut_box, fresh_record}
use Rattle.air_box_c.specs.Promises.{OpenShut}

open_shut_time : (s : Option Float) → open_time (shut_time s) ≡ s
unfolding open_time
open_shut_time None = refl
open_shut_time (Some t) = refl

open_shut_true_delay : (s : TrueDelayState) → open_true_delay (shut_true_delay s) ≡ s
unfolding open_true_delay shut_true_delay
open_shut_true_delay s = rw open_shut_time

open_shut_timer : (s : TimerState) → open_timer (shut_timer s) ≡ s
unfolding open_timer shut_timer
open_shut_timer s = rw open_shut_time

open_shut_time_suppression : (s : TimeSuppressionState) → open_time_suppression (shut_time_suppression s) ≡ s
unfolding open_time_suppression shut_time_suppression
open_shut_time_suppression s = rw (open_shut_true_delay, open_shut_timer)

open_shut_loop_pi : (s : LoopPiState) → open_loop_pi (shut_loop_pi s) ≡ s
unfolding open_loop_pi shut_loop_pi
open_shut_loop_pi s = rw open_shut_time

open_shut_control_loops : (s : ControlLoopsState) → open_control_loops (shut_control_loops s) ≡ s
unfolding open_control_loops shut_control_loops
open_shut_control_loops s = simp (open_shut_loop_pi, open_shut_true_delay)

open_shut_damper : (s : DamperState) → open_damper (shut_damper s) ≡ s
unfolding open_damper shut_damper
open_shut_damper s = rw open_shut_time

open_shut_system_requests : (s : SystemRequestsState) → open_system_requests (shut_system_requests s) ≡ s
unfolding open_system_requests shut_system_requests
open_shut_system_requests s = simp open_shut_true_delay

open_shut_alarms : (s : AlarmsState) → open_alarms (shut_alarms s) ≡ s
unfolding open_alarms shut_alarms
open_shut_alarms s = simp open_shut_true_delay

open_shut_last_tick : (s : Option LastTick) → open_last_tick (shut_last_tick s) ≡ s
unfolding open_last_tick
open_shut_last_tick None = refl
open_shut_last_tick (Some last) = refl

pub open_shut_controller : (s : ControllerState) (l : LastTickC) → open_controller (shut_state s l) ≡ s
open_shut_controller s l = rw (open_shut_time_suppression, open_shut_control_loops, open_shut_damper, open_shut_system_requests, open_shut_alarms)

pub open_shut : OpenShut
unfolding open_box shut_box
open_shut s = rw (open_shut_controller, open_shut_time, open_shut_last_tick)

pub fresh_opened : (choices : Choices) → open_box (fresh_record choices) ≡ unticked choices
unfolding shut_box
fresh_opened choices = open_shut (unticked choices)
