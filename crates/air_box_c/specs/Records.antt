-- The records of the C interface: what state each stands for (`open`), and the record of a state (`shut`), from the time to the box.
-- What is absent, a time or a last tick, is the flag `present` false; what stands beside it then has no meaning, and `shut` writes 0 and false there.
use Rattle.std.specs.Prelude.{true, false, pos, Float, Option, Some, None, Result, Ok, Err, if◌then◌else◌}
use Rattle.f64_helpers.specs.F64.{zero}
use Rattle.box_choices.specs.declared.Choices.{Choices}
use Rattle.cooling_only_controller_timing.specs.declared.TrueDelayState.{TrueDelayState}
use Rattle.cooling_only_controller_timing.specs.declared.TimerState.{TimerState}
use Rattle.cooling_only_controller_conditioning.specs.declared.TimeSuppressionState.{TimeSuppressionState}
use Rattle.cooling_only_controller_conditioning.specs.declared.LoopPiState.{LoopPiState}
use Rattle.cooling_only_controller_conditioning.specs.declared.ControlLoopsState.{ControlLoopsState}
use Rattle.cooling_only_controller_conditioning.specs.declared.SetpointsState.{SetpointsState}
use Rattle.cooling_only_controller_conditioning.specs.declared.ZoneStatesState.{ZoneStatesState}
use Rattle.cooling_only_controller_airflow.specs.declared.DamperState.{DamperState}
use Rattle.cooling_only_controller_airflow.specs.declared.SystemRequestsState.{SystemRequestsState}
use Rattle.cooling_only_controller_airflow.specs.declared.AlarmsState.{AlarmsState}
use Rattle.cooling_only_controller.specs.declared.ControllerState.{ControllerState}
use Rattle.cooling_only_controller.specs.Controller.{fresh_controller}
use Rattle.air_box.specs.NoAlarm.{reason_number, reason_seconds}
use Rattle.air_box.specs.declared.LastTick.{LastTick}
use Rattle.air_box.specs.declared.SensorReason.{SensorReason}
use Rattle.air_box.specs.declared.LeakReason.{LeakReason}
use Rattle.air_box.specs.declared.AirBox.{AirBox}
use Rattle.air_box.specs.declared.BuildRefusal.{BuildRefusal}
use Rattle.air_box_c.specs.declared.records.OptionalTimeC.{OptionalTimeC}
use Rattle.air_box_c.specs.declared.records.TrueDelayC.{TrueDelayC}
use Rattle.air_box_c.specs.declared.records.TimerC.{TimerC}
use Rattle.air_box_c.specs.declared.records.TimeSuppressionC.{TimeSuppressionC}
use Rattle.air_box_c.specs.declared.records.LoopPiC.{LoopPiC}
use Rattle.air_box_c.specs.declared.records.ControlLoopsC.{ControlLoopsC}
use Rattle.air_box_c.specs.declared.records.DamperC.{DamperC}
use Rattle.air_box_c.specs.declared.records.SystemRequestsC.{SystemRequestsC}
use Rattle.air_box_c.specs.declared.records.AlarmsC.{AlarmsC}
use Rattle.air_box_c.specs.declared.records.AirflowC.{AirflowC}
use Rattle.air_box_c.specs.declared.records.OptionalLastTickC.{OptionalLastTickC}
use Rattle.air_box_c.specs.declared.records.LastTickC.{LastTickC}
use Rattle.air_box_c.specs.declared.records.SensorReasonC.{SensorReasonC}
use Rattle.air_box_c.specs.declared.records.LeakReasonC.{LeakReasonC}
use Rattle.air_box_c.specs.declared.records.AirBoxC.{AirBoxC}

unfoldable pub open_time : OptionalTimeC → Option Float
open_time c = if c.present then Some c.time else None

abbrev pub shut_time : Option Float → OptionalTimeC
shut_time None = record { present = false; time = zero }
shut_time (Some t) = record { present = true; time = t }

unfoldable pub open_true_delay : TrueDelayC → TrueDelayState
open_true_delay c = record {
  previous_time = open_time c.previous_time;
  previous_input = c.previous_input;
  held = c.held;
  timer = c.timer;
}

unfoldable pub shut_true_delay : TrueDelayState → TrueDelayC
shut_true_delay s = record {
  previous_time = shut_time s.previous_time;
  previous_input = s.previous_input;
  held = s.held;
  timer = s.timer;
}

unfoldable pub open_timer : TimerC → TimerState
open_timer c = record {
  entry_time = open_time c.entry_time;
  previous_input = c.previous_input;
}

unfoldable pub shut_timer : TimerState → TimerC
shut_timer s = record {
  entry_time = shut_time s.entry_time;
  previous_input = s.previous_input;
}

unfoldable pub open_time_suppression : TimeSuppressionC → TimeSuppressionState
open_time_suppression c = record {
  setpoint_sampler = c.setpoint_sampler;
  previous_sample = c.previous_sample;
  startup_delay = open_true_delay c.startup_delay;
  change_detected = c.change_detected;
  suppression_latch = c.suppression_latch;
  passed_latch = c.passed_latch;
  timer = open_timer c.timer;
  previous_active = c.previous_active;
  previous_passed = c.previous_passed;
  captured_setpoint = c.captured_setpoint;
  captured_zone = c.captured_zone;
}

unfoldable pub shut_time_suppression : TimeSuppressionState → TimeSuppressionC
shut_time_suppression s = record {
  setpoint_sampler = s.setpoint_sampler;
  previous_sample = s.previous_sample;
  startup_delay = shut_true_delay s.startup_delay;
  change_detected = s.change_detected;
  suppression_latch = s.suppression_latch;
  passed_latch = s.passed_latch;
  timer = shut_timer s.timer;
  previous_active = s.previous_active;
  previous_passed = s.previous_passed;
  captured_setpoint = s.captured_setpoint;
  captured_zone = s.captured_zone;
}

unfoldable pub open_loop_pi : LoopPiC → LoopPiState
open_loop_pi c = record {
  integrator = c.integrator;
  previous_time = open_time c.previous_time;
  previous_trigger = c.previous_trigger;
}

unfoldable pub shut_loop_pi : LoopPiState → LoopPiC
shut_loop_pi s = record {
  integrator = s.integrator;
  previous_time = shut_time s.previous_time;
  previous_trigger = s.previous_trigger;
}

unfoldable pub open_control_loops : ControlLoopsC → ControlLoopsState
open_control_loops c = record {
  cooling_enable = c.cooling_enable;
  heating_enable = c.heating_enable;
  cooling_pi = open_loop_pi c.cooling_pi;
  heating_pi = open_loop_pi c.heating_pi;
  cooling_near_zero = c.cooling_near_zero;
  heating_near_zero = c.heating_near_zero;
  cooling_delay = open_true_delay c.cooling_delay;
  heating_delay = open_true_delay c.heating_delay;
}

unfoldable pub shut_control_loops : ControlLoopsState → ControlLoopsC
shut_control_loops s = record {
  cooling_enable = s.cooling_enable;
  heating_enable = s.heating_enable;
  cooling_pi = shut_loop_pi s.cooling_pi;
  heating_pi = shut_loop_pi s.heating_pi;
  cooling_near_zero = s.cooling_near_zero;
  heating_near_zero = s.heating_near_zero;
  cooling_delay = shut_true_delay s.cooling_delay;
  heating_delay = shut_true_delay s.heating_delay;
}

unfoldable pub open_damper : DamperC → DamperState
open_damper c = record {
  supply_warm = c.supply_warm;
  integrator = c.integrator;
  previous_time = open_time c.previous_time;
  previous_fan = c.previous_fan;
}

unfoldable pub shut_damper : DamperState → DamperC
shut_damper s = record {
  supply_warm = s.supply_warm;
  integrator = s.integrator;
  previous_time = shut_time s.previous_time;
  previous_fan = s.previous_fan;
}

unfoldable pub open_system_requests : SystemRequestsC → SystemRequestsState
open_system_requests c = record {
  hot_three = c.hot_three;
  hot_two = c.hot_two;
  hot_three_delay = open_true_delay c.hot_three_delay;
  hot_two_delay = open_true_delay c.hot_two_delay;
  cooling_sampler = c.cooling_sampler;
  setpoint_sampler = c.setpoint_sampler;
  discharge_sampler = c.discharge_sampler;
  damper_sampler = c.damper_sampler;
  cooling_high = c.cooling_high;
  setpoint_on = c.setpoint_on;
  damper_high = c.damper_high;
  damper_delay = open_true_delay c.damper_delay;
  starved_half = c.starved_half;
  starved_seventy = c.starved_seventy;
}

unfoldable pub shut_system_requests : SystemRequestsState → SystemRequestsC
shut_system_requests s = record {
  hot_three = s.hot_three;
  hot_two = s.hot_two;
  hot_three_delay = shut_true_delay s.hot_three_delay;
  hot_two_delay = shut_true_delay s.hot_two_delay;
  cooling_sampler = s.cooling_sampler;
  setpoint_sampler = s.setpoint_sampler;
  discharge_sampler = s.discharge_sampler;
  damper_sampler = s.damper_sampler;
  cooling_high = s.cooling_high;
  setpoint_on = s.setpoint_on;
  damper_high = s.damper_high;
  damper_delay = shut_true_delay s.damper_delay;
  starved_half = s.starved_half;
  starved_seventy = s.starved_seventy;
}

unfoldable pub open_alarms : AlarmsC → AlarmsState
open_alarms c = record {
  fan_armed = open_true_delay c.fan_armed;
  setpoint_nonzero = c.setpoint_nonzero;
  setpoint_on = open_true_delay c.setpoint_on;
  low_half = c.low_half;
  low_seventy = c.low_seventy;
  low_half_delay = open_true_delay c.low_half_delay;
  low_seventy_delay = open_true_delay c.low_seventy_delay;
  flow_high = c.flow_high;
  sensor_delay = open_true_delay c.sensor_delay;
  damper_closed = c.damper_closed;
  leak_delay = open_true_delay c.leak_delay;
}

unfoldable pub shut_alarms : AlarmsState → AlarmsC
shut_alarms s = record {
  fan_armed = shut_true_delay s.fan_armed;
  setpoint_nonzero = s.setpoint_nonzero;
  setpoint_on = shut_true_delay s.setpoint_on;
  low_half = s.low_half;
  low_seventy = s.low_seventy;
  low_half_delay = shut_true_delay s.low_half_delay;
  low_seventy_delay = shut_true_delay s.low_seventy_delay;
  flow_high = s.flow_high;
  sensor_delay = shut_true_delay s.sensor_delay;
  damper_closed = s.damper_closed;
  leak_delay = shut_true_delay s.leak_delay;
}

abbrev pub open_controller : AirBoxC → ControllerState
open_controller c = record {
  time_suppression = open_time_suppression c.time_suppression;
  control_loops = open_control_loops c.airflow.control_loops;
  setpoints = c.airflow.setpoints;
  zone_states = c.airflow.zone_states;
  dampers = open_damper c.airflow.dampers;
  system_requests = open_system_requests c.system_requests;
  alarms = open_alarms c.alarms;
}

-- the part of the states from the control loops to the damper
abbrev pub shut_airflow : ControlLoopsState → SetpointsState → ZoneStatesState → DamperState → AirflowC
shut_airflow loops setpoints zone_states damper = record {
  control_loops = shut_control_loops loops;
  setpoints = setpoints;
  zone_states = zone_states;
  dampers = shut_damper damper;
}

unfoldable pub open_last_tick : OptionalLastTickC → Option LastTick
open_last_tick c = if c.present
    then Some (record { mode = c.mode; fan = c.fan; flow_by_memory = c.flow_by_memory; damper_by_memory = c.damper_by_memory })
    else None

abbrev pub shut_last_tick : Option LastTick → OptionalLastTickC
shut_last_tick None = record { present = false; fan = false; flow_by_memory = false; damper_by_memory = false; mode = pos 0 }
shut_last_tick (Some last) = record {
  present = true;
  fan = last.fan;
  flow_by_memory = last.flow_by_memory;
  damper_by_memory = last.damper_by_memory;
  mode = last.mode;
}

-- ---- the box

unfoldable pub open_box : AirBoxC → AirBox
open_box c = record {
  state = open_controller c;
  last_time = open_time c.last.time;
  choices = c.last.choices;
  last_tick = open_last_tick c.last.tick;
}

-- the record of a state, with what stands beside it
abbrev pub shut_state : ControllerState → LastTickC → AirBoxC
shut_state s last_part = record {
  time_suppression = shut_time_suppression s.time_suppression;
  airflow = shut_airflow s.control_loops s.setpoints s.zone_states s.dampers;
  system_requests = shut_system_requests s.system_requests;
  alarms = shut_alarms s.alarms;
  last = last_part;
}

unfoldable pub shut_box : AirBox → AirBoxC
shut_box box = shut_state box.state (record { time = shut_time box.last_time; choices = box.choices; tick = shut_last_tick box.last_tick })

-- the record of a box that has had no tick
abbrev pub fresh_record : Choices → AirBoxC
fresh_record choices = shut_state fresh_controller (record { time = shut_time None; choices = choices; tick = shut_last_tick None })

-- what building leaves where the record c stood: that of the box, or c
abbrev pub built_record : Result AirBox BuildRefusal → AirBoxC → AirBoxC
built_record (Ok box) c = shut_box box
built_record (Err refusal) c = c

-- ---- the reasons why there is no alarm, by their numbers (document 02, N3)

abbrev pub shut_sensor_reason : SensorReason → SensorReasonC
shut_sensor_reason s = record {
  reason = reason_number s.reason;
  seconds_lacking = reason_seconds s.reason;
  flow_by_memory = s.flow_by_memory;
}

abbrev pub shut_leak_reason : LeakReason → LeakReasonC
shut_leak_reason s = record {
  reason = reason_number s.reason;
  seconds_lacking = reason_seconds s.reason;
  damper_by_memory = s.damper_by_memory;
  flow_by_memory = s.flow_by_memory;
}
