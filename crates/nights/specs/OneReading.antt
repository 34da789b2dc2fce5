-- The alarms stage as it was before document 02's N12: the airflow sensor alarm has one reading. This is the definition of then, word for
-- word but for its name, and it stands for the claim of SecondReading.antt alone.
use Rattle.std.specs.Prelude.{false, not, ◌&&◌, pos, Float, if◌then◌else◌}
use Rattle.f64_helpers.specs.F64.{◌⊗◌, decimal}
use Rattle.f64_helpers.specs.Integers.{◌==ᶻ◌}
use Rattle.box_choices.specs.declared.Choices.{Choices}
use Rattle.cdl_recurrences.specs.CdlRecurrences.{greater_hysteretic, hysteresis, less_hysteretic}
use Rattle.cooling_only_controller_timing.specs.Timing.{true_delay}
use Rattle.cooling_only_controller_airflow.specs.Airflow.{FLOW_HYSTERESIS, DAMPER_POSITION_HYSTERESIS}
use Rattle.cooling_only_controller_airflow.specs.declared.AlarmInput.{AlarmInput}
use Rattle.cooling_only_controller_airflow.specs.declared.AlarmsState.{AlarmsState}
use Rattle.cooling_only_controller_airflow.specs.declared.AlarmOutput.{AlarmOutput}
use Rattle.cooling_only_controller_timing.specs.declared.Step.{Step}

unfoldable pub one_reading_alarms : AlarmsState → Float → AlarmInput → Choices → Step AlarmsState AlarmOutput
one_reading_alarms s t input choices =
    let delay_on_init = choices.quiet in
    let occupied = input.operation_mode ==ᶻ 1 in
    let fan_armed = true_delay s.fan_armed t input.supply_fan_status (decimal 1800 1) false in
    let setpoint_nonzero = hysteresis input.active_airflow_setpoint (decimal 5 1000) (decimal 1 100) s.setpoint_nonzero in
    let setpoint_on = true_delay s.setpoint_on t setpoint_nonzero (decimal 300 1) delay_on_init in
    let low_half = less_hysteretic input.discharge_airflow (decimal 5 10 ⊗ input.active_airflow_setpoint)
    FLOW_HYSTERESIS s.low_half in
    let low_seventy = greater_hysteretic (decimal 7 10 ⊗ input.active_airflow_setpoint) input.discharge_airflow
    FLOW_HYSTERESIS s.low_seventy in
    let low_half_held = true_delay s.low_half_delay t (low_half && fan_armed.output) (decimal 300 1) delay_on_init in
    let low_seventy_held = true_delay s.low_seventy_delay t (low_seventy && fan_armed.output) (decimal 300 1) delay_on_init in
    let level_two = low_half_held.output && setpoint_on.output && occupied in
    let level_three = low_seventy_held.output && setpoint_on.output && occupied in
    let low_airflow = if level_two then pos 2 else (if level_three then pos 3 else pos 0) in
    let flow_high = greater_hysteretic input.discharge_airflow (decimal 1 10 ⊗ choices.design_cooling_maximum_flow)
    FLOW_HYSTERESIS s.flow_high in
    let sensor_held = true_delay s.sensor_delay t (flow_high && not input.supply_fan_status) (decimal 600 1) delay_on_init in
    let airflow_sensor = if sensor_held.output && occupied then pos 3 else pos 0 in
    let damper_closed = less_hysteretic input.damper_position DAMPER_POSITION_HYSTERESIS
    (decimal 5 10 ⊗ DAMPER_POSITION_HYSTERESIS) s.damper_closed in
    let leak_held = true_delay s.leak_delay t (input.supply_fan_status && damper_closed && flow_high)
    (decimal 600 1) delay_on_init in
    record {
      state = record {
        fan_armed = fan_armed.state;
        setpoint_nonzero = setpoint_nonzero;
        setpoint_on = setpoint_on.state;
        low_half = low_half;
        low_seventy = low_seventy;
        low_half_delay = low_half_held.state;
        low_seventy_delay = low_seventy_held.state;
        flow_high = flow_high;
        sensor_delay = sensor_held.state;
        damper_closed = damper_closed;
        leak_delay = leak_held.state;
      };
      output = record {
        low_airflow = low_airflow;
        airflow_sensor = airflow_sensor;
        leaking_damper = if leak_held.output then pos 4 else pos 0;
      };
    }
