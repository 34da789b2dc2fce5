-- What is left of outputs, of a state, of a box, of a step and of a night without the airflow sensor alarm, its delay and the choice of its
-- reading: each has a fixed value in their place, and every other field as it is. They stand for the claim of SecondReading.antt alone.
use Rattle.std.specs.Prelude.{◌⊎◌, ℕ, false, pos, Result, Ok, Err}
use Rattle.std.proofs.Common.{inl, inr}
use Rattle.box_choices.specs.BoxChoices.{chosen}
use Rattle.cooling_only_controller_timing.specs.Timing.{fresh_true_delay}
use Rattle.cooling_only_controller_airflow.specs.declared.AlarmsState.{AlarmsState}
use Rattle.cooling_only_controller.specs.declared.ControllerOutput.{ControllerOutput}
use Rattle.cooling_only_controller.specs.declared.ControllerState.{ControllerState}
use Rattle.air_box.specs.declared.AirBox.{AirBox}
use Rattle.air_box.specs.declared.Refusal.{Refusal}
use Rattle.air_box.specs.declared.AirBoxStep.{AirBoxStep}
use Rattle.nights.specs.Nights.{NightStep}

abbrev pub output_but : ControllerOutput → ControllerOutput
output_but output =
    record {
      airflow_setpoint = output.airflow_setpoint;
      damper_command = output.damper_command;
      adjusted_population_flow = output.adjusted_population_flow;
      adjusted_area_flow = output.adjusted_area_flow;
      minimum_outdoor_airflow = output.minimum_outdoor_airflow;
      zone_temperature_reset_request = output.zone_temperature_reset_request;
      zone_pressure_reset_request = output.zone_pressure_reset_request;
      low_airflow_alarm = output.low_airflow_alarm;
      airflow_sensor_alarm = pos 0;
      leaking_damper_alarm = output.leaking_damper_alarm;
    }

abbrev pub alarms_but : AlarmsState → AlarmsState
alarms_but s =
    record {
      fan_armed = s.fan_armed;
      setpoint_nonzero = s.setpoint_nonzero;
      setpoint_on = s.setpoint_on;
      low_half = s.low_half;
      low_seventy = s.low_seventy;
      low_half_delay = s.low_half_delay;
      low_seventy_delay = s.low_seventy_delay;
      flow_high = s.flow_high;
      sensor_delay = fresh_true_delay;
      damper_closed = s.damper_closed;
      leak_delay = s.leak_delay;
    }

abbrev pub state_but : ControllerState → ControllerState
state_but s =
    record {
      time_suppression = s.time_suppression;
      control_loops = s.control_loops;
      setpoints = s.setpoints;
      zone_states = s.zone_states;
      dampers = s.dampers;
      system_requests = s.system_requests;
      alarms = alarms_but s.alarms;
    }

abbrev pub box_but : AirBox → AirBox
box_but box =
    let c = box.choices in
    record {
      state = state_but box.state;
      last_time = box.last_time;
      choices = chosen c.quiet c.design_minimum_flow c.design_cooling_maximum_flow false;
      last_tick = box.last_tick;
    }

abbrev pub answer_but : Result ControllerOutput Refusal → Result ControllerOutput Refusal
answer_but (Ok output) = Ok (output_but output)
answer_but (Err reason) = Err reason

abbrev pub step_but : AirBoxStep → AirBoxStep
step_but s = record { state = box_but s.state; answer = answer_but s.answer }

abbrev pub given_but : ControllerOutput ⊎ ℕ → ControllerOutput ⊎ ℕ
given_but (inl output) = inl (output_but output)
given_but (inr number) = inr number

abbrev pub night_step_but : NightStep → NightStep
night_step_but s = record { ticked = s.ticked; given = given_but s.given; box = box_but s.box }
