-- The pieces in which the code of this crate computes the stages of Airflow.antt. A piece has the name of its function in src/lib.rt.
-- It is what the stage says of some of its fields, or a formula of its own,
-- which a law (proofs/ByPieces.antt) or a proof of the code ties to it.
-- A reader of the stages need not open this file.
use Rattle.std.specs.Prelude.{Bool, ◌&&◌, ℤ, pos, Float, if◌then◌else◌}
use Rattle.f64_helpers.specs.F64.{◌⊗◌, decimal, zero}
use Rattle.f64_helpers.specs.Integers.{◌==ᶻ◌}
use Rattle.cdl_recurrences.specs.CdlRecurrences.{buildings_line, greater_hysteretic, less_hysteretic, dead_band_output}
use Rattle.cdl_recurrences.specs.declared.DeadBandOutput.{DeadBandOutput}
use Rattle.box_choices.specs.declared.Choices.{Choices}
use Rattle.cooling_only_controller_airflow.specs.Airflow.{FLOW_HYSTERESIS, DAMPER_POSITION_HYSTERESIS, system_requests, alarms}
use Rattle.cooling_only_controller_airflow.specs.declared.DamperInput.{DamperInput}
use Rattle.cooling_only_controller_airflow.specs.declared.SystemRequestInput.{SystemRequestInput}
use Rattle.cooling_only_controller_airflow.specs.declared.SystemRequestsState.{SystemRequestsState}
use Rattle.cooling_only_controller_timing.specs.declared.Step.{Step}
use Rattle.cooling_only_controller_airflow.specs.declared.TemperatureRequestStep.{TemperatureRequestStep}
use Rattle.cooling_only_controller_airflow.specs.declared.PressureRequestStep.{PressureRequestStep}
use Rattle.cooling_only_controller_airflow.specs.declared.AlarmInput.{AlarmInput}
use Rattle.cooling_only_controller_airflow.specs.declared.AlarmsState.{AlarmsState}
use Rattle.cooling_only_controller_airflow.specs.declared.LowAirflowStep.{LowAirflowStep}
use Rattle.cooling_only_controller_airflow.specs.declared.SystemRequestOutput.{SystemRequestOutput}
use Rattle.cooling_only_controller_airflow.specs.declared.AlarmOutput.{AlarmOutput}
use Rattle.cooling_only_controller_airflow.specs.declared.SensorLeakStep.{SensorLeakStep}

-- ---- pieces of `damper`

-- The match on `airflow_override_index`
unfoldable pub airflow_override : ℤ → Float → Choices → Float
airflow_override index base choices =
    if index ==ᶻ 1 then zero
    else (if index ==ᶻ 2 then choices.design_cooling_maximum_flow
    else (if index ==ᶻ 3 then choices.design_minimum_flow
    else base))

-- The match on `damper_override_index`
unfoldable pub damper_override : ℤ → Float → Float
damper_override index pid_output =
    if index ==ᶻ 1 then zero
    else (if index ==ᶻ 2 then decimal 1 1
    else pid_output)

-- The damper's airflow setpoint, by whether the supply is warm
unfoldable pub airflow_setpoint : DamperInput → Bool → Choices → Float
airflow_setpoint input supply_warm choices =
    let mapped = buildings_line zero input.active_minimum_flow (decimal 1 1) input.active_cooling_maximum_flow
    input.cooling_loop in
    let active = if supply_warm then input.active_minimum_flow else mapped in
    let base = if input.zone_state ==ᶻ 3 then active else input.active_minimum_flow in
    airflow_override input.airflow_override_index base choices

-- ---- pieces of `system_requests`

-- What `system_requests` says of the temperature request: its memories afterwards and its level
abbrev pub temperature_request : SystemRequestsState → Float → SystemRequestInput → Choices → TemperatureRequestStep
temperature_request s t input choices =
    let whole = system_requests s t input choices in
    record {
      hot_three = whole.state.hot_three;
      hot_two = whole.state.hot_two;
      hot_three_delay = whole.state.hot_three_delay;
      hot_two_delay = whole.state.hot_two_delay;
      cooling_sampler = whole.state.cooling_sampler;
      cooling_high = whole.state.cooling_high;
      temperature = whole.output.temperature;
    }

-- Whether the flow falls short of a share of the setpoint: `starved_half`, `starved_seventy` and the alarms' `low_seventy`
abbrev pub starved : Float → Float → Float → Bool → Bool
starved share setpoint discharge previous = greater_hysteretic (share ⊗ setpoint) discharge FLOW_HYSTERESIS previous

-- What `system_requests` says of the pressure request: its memories afterwards and its level
abbrev pub pressure_request : SystemRequestsState → Float → SystemRequestInput → Choices → PressureRequestStep
pressure_request s t input choices =
    let whole = system_requests s t input choices in
    record {
      setpoint_sampler = whole.state.setpoint_sampler;
      discharge_sampler = whole.state.discharge_sampler;
      damper_sampler = whole.state.damper_sampler;
      setpoint_on = whole.state.setpoint_on;
      damper_high = whole.state.damper_high;
      damper_delay = whole.state.damper_delay;
      starved_half = whole.state.starved_half;
      starved_seventy = whole.state.starved_seventy;
      pressure = whole.output.pressure;
    }

-- The two requests put together
abbrev pub system_requests_step : TemperatureRequestStep → PressureRequestStep → Step SystemRequestsState SystemRequestOutput
system_requests_step temperature pressure =
    record {
      state = record {
        hot_three = temperature.hot_three;
        hot_two = temperature.hot_two;
        hot_three_delay = temperature.hot_three_delay;
        hot_two_delay = temperature.hot_two_delay;
        cooling_sampler = temperature.cooling_sampler;
        setpoint_sampler = pressure.setpoint_sampler;
        discharge_sampler = pressure.discharge_sampler;
        damper_sampler = pressure.damper_sampler;
        cooling_high = temperature.cooling_high;
        setpoint_on = pressure.setpoint_on;
        damper_high = pressure.damper_high;
        damper_delay = pressure.damper_delay;
        starved_half = pressure.starved_half;
        starved_seventy = pressure.starved_seventy;
      };
      output = record { temperature = temperature.temperature; pressure = pressure.pressure };
    }

-- ---- pieces of `alarms`

-- `low_airflow`, from the two delayed low flows, the delayed setpoint and the mode
abbrev pub low_airflow_level : Bool → Bool → Bool → ℤ → ℤ
low_airflow_level low_half_held low_seventy_held setpoint_on operation_mode =
    let occupied = operation_mode ==ᶻ 1 in
    let level_two = low_half_held && setpoint_on && occupied in
    let level_three = low_seventy_held && setpoint_on && occupied in
    if level_two then pos 2 else (if level_three then pos 3 else pos 0)

-- What `alarms` says of the low airflow alarm: its memories afterwards and its level
abbrev pub low_airflow : AlarmsState → Float → AlarmInput → Choices → LowAirflowStep
low_airflow s t input choices =
    let whole = alarms s t input choices in
    record {
      fan_armed = whole.state.fan_armed;
      setpoint_nonzero = whole.state.setpoint_nonzero;
      setpoint_on = whole.state.setpoint_on;
      low_half = whole.state.low_half;
      low_seventy = whole.state.low_seventy;
      low_half_delay = whole.state.low_half_delay;
      low_seventy_delay = whole.state.low_seventy_delay;
      low_airflow = whole.output.low_airflow;
    }

-- What `alarms` says of the airflow sensor alarm and the leaking damper alarm: their memories afterwards and their levels
abbrev pub sensor_leak : AlarmsState → Float → AlarmInput → Choices → SensorLeakStep
sensor_leak s t input choices =
    let whole = alarms s t input choices in
    record {
      flow_high = whole.state.flow_high;
      sensor_delay = whole.state.sensor_delay;
      airflow_sensor = whole.output.airflow_sensor;
      damper_closed = whole.state.damper_closed;
      leak_delay = whole.state.leak_delay;
      leaking_damper = whole.output.leaking_damper;
    }

-- `flow_high` and `damper_closed` of `alarms`, each with whether memory decided it
abbrev pub flow_high : Float → Choices → Bool → DeadBandOutput
flow_high discharge_airflow choices =
    dead_band_output (greater_hysteretic discharge_airflow (decimal 1 10 ⊗ choices.design_cooling_maximum_flow) FLOW_HYSTERESIS)

abbrev pub damper_closed : Float → Bool → DeadBandOutput
damper_closed damper_position =
    dead_band_output (less_hysteretic damper_position DAMPER_POSITION_HYSTERESIS (decimal 5 10 ⊗ DAMPER_POSITION_HYSTERESIS))

-- The alarms put together
abbrev pub alarms_step : LowAirflowStep → SensorLeakStep → Step AlarmsState AlarmOutput
alarms_step low sensor_leak =
    record {
      state = record {
        fan_armed = low.fan_armed;
        setpoint_nonzero = low.setpoint_nonzero;
        setpoint_on = low.setpoint_on;
        low_half = low.low_half;
        low_seventy = low.low_seventy;
        low_half_delay = low.low_half_delay;
        low_seventy_delay = low.low_seventy_delay;
        flow_high = sensor_leak.flow_high;
        sensor_delay = sensor_leak.sensor_delay;
        damper_closed = sensor_leak.damper_closed;
        leak_delay = sensor_leak.leak_delay;
      };
      output = record {
        low_airflow = low.low_airflow;
        airflow_sensor = sensor_leak.airflow_sensor;
        leaking_damper = sensor_leak.leaking_damper;
      };
    }
