-- Document 02, N4: under the quiet start the fan's arming delay starts as in a plain start. What moves by that, and what does not.
-- The method `AirBox::tick` is proved to return `tick`, by which every night here is run; beside it stands the box as it was before N4.
-- Both have what landed since, any design flows (N13) and either reading of the airflow sensor alarm (N12), so that they differ by N4 alone.
use Rattle.std.specs.Prelude.{◌≡◌, ◌⊎◌, List, [], ◌∷◌, ℕ, zero, suc, ◌+◌, Bool, true, false, not, ◌&&◌, pos, Float, if◌then◌else◌}
use Rattle.std.proofs.Common.{inl, inr}
use Rattle.std.proofs.Math.Option.{Option, none, some}
use Rattle.f64_helpers.specs.F64.{◌⊗◌, decimal, zero as no_flow}
use Rattle.f64_helpers.specs.Integers.{◌==ᶻ◌}
use Rattle.f64_helpers.specs.Seconds.{seconds}
use Rattle.box_choices.specs.BoxChoices.{usual}
use Rattle.box_choices.specs.declared.Choices.{Choices}
use Rattle.cdl_recurrences.specs.CdlRecurrences.{greater_hysteretic, hysteresis, less_hysteretic}
use Rattle.cdl_recurrences.specs.DeadBand.{Related}
use Rattle.cooling_only_controller_timing.specs.Timing.{true_delay}
use Rattle.cooling_only_controller_airflow.specs.Airflow.{FLOW_HYSTERESIS, DAMPER_POSITION_HYSTERESIS, alarms}
use Rattle.cooling_only_controller_airflow.specs.declared.AlarmInput.{AlarmInput}
use Rattle.cooling_only_controller_airflow.specs.declared.AlarmsState.{AlarmsState}
use Rattle.cooling_only_controller_timing.specs.declared.Step.{Step}
use Rattle.cooling_only_controller.specs.Controller.{controller_output}
use Rattle.cooling_only_controller.specs.declared.ControllerInput.{ControllerInput}
use Rattle.cooling_only_controller.specs.declared.ControllerOutput.{ControllerOutput}
use Rattle.cooling_only_controller.specs.declared.ControllerState.{ControllerState}
use Rattle.air_box.specs.AirBox.{unticked, tick}
use Rattle.air_box.specs.BenchTick.{bench_tick}
use Rattle.air_box.specs.Demand1.{AllYes}
use Rattle.air_box.specs.declared.Tick.{Tick}
use Rattle.air_box.specs.declared.AirBox.{AirBox}
use Rattle.air_box.specs.declared.AirBoxStep.{AirBoxStep}
use Rattle.nights.specs.Nights.{NightStep, steps_by, steps, night_of, box_after, fan}
use Rattle.cooling_only_controller_airflow.specs.declared.AlarmOutput.{AlarmOutput}
use Rattle.nights.specs.AlarmsStage.{controller_with, tick_with}

-- ---- the box before N4

-- The alarms stage, `alarms` of Airflow.antt, for any delay_on_init of the arming delay: `arming`.
unfoldable pub alarms_armed : Bool → AlarmsState → Float → AlarmInput → Choices → Step AlarmsState AlarmOutput
alarms_armed arming s t input choices =
    let delay_on_init = choices.quiet in
    let occupied = input.operation_mode ==ᶻ 1 in
    let fan_armed = true_delay s.fan_armed t input.supply_fan_status (decimal 1800 1) arming in
    let setpoint_nonzero = hysteresis input.active_airflow_setpoint (decimal 5 1000) (decimal 1 100) s.setpoint_nonzero in
    let setpoint_on = true_delay s.setpoint_on t setpoint_nonzero (decimal 300 1) delay_on_init in
    let low_half = less_hysteretic input.discharge_airflow (decimal 5 10 ⊗ input.active_airflow_setpoint)
    FLOW_HYSTERESIS s.low_half in
    let low_seventy = greater_hysteretic (decimal 7 10 ⊗ input.active_airflow_setpoint) input.discharge_airflow
    FLOW_HYSTERESIS s.low_seventy in
    let low_half_held = true_delay s.low_half_delay t (low_half && fan_armed.output) (decimal 300 1) delay_on_init in
    let low_seventy_held = true_delay s.low_seventy_delay t (low_seventy && fan_armed.output) (decimal 300 1) delay_on_init in
    let level_two = low_half_held.output && setpoint_on.output && occupied in
    let level_three = low_seventy_held.output && setpoint_on.output && occupied in
    let low_airflow = if level_two then pos 2 else (if level_three then pos 3 else pos 0) in
    let flow_high = greater_hysteretic input.discharge_airflow (decimal 1 10 ⊗ choices.design_cooling_maximum_flow)
    FLOW_HYSTERESIS s.flow_high in
    let fan_off = not input.supply_fan_status in
    let sensor_input = if choices.second_reading then fan_off else flow_high && fan_off in
    let sensor_held = true_delay s.sensor_delay t sensor_input (decimal 600 1) delay_on_init in
    let sensor_on = if choices.second_reading then sensor_held.output && flow_high else sensor_held.output in
    let airflow_sensor = if sensor_on && occupied then pos 3 else pos 0 in
    let damper_closed = less_hysteretic input.damper_position DAMPER_POSITION_HYSTERESIS
    (decimal 5 10 ⊗ DAMPER_POSITION_HYSTERESIS) s.damper_closed in
    let leak_held = true_delay s.leak_delay t (input.supply_fan_status && damper_closed && flow_high)
    (decimal 600 1) delay_on_init in
    record {
      state = record {
        fan_armed = fan_armed.state;
        setpoint_nonzero = setpoint_nonzero;
        setpoint_on = setpoint_on.state;
        low_half = low_half;
        low_seventy = low_seventy;
        low_half_delay = low_half_held.state;
        low_seventy_delay = low_seventy_held.state;
        flow_high = flow_high;
        sensor_delay = sensor_held.state;
        damper_closed = damper_closed;
        leak_delay = leak_held.state;
      };
      output = record {
        low_airflow = low_airflow;
        airflow_sensor = airflow_sensor;
        leaking_damper = if leak_held.output then pos 4 else pos 0;
      };
    }

-- as it was: the arming delay runs with the delay_on_init of the others
abbrev pub old_alarms : AlarmsState → Float → AlarmInput → Choices → Step AlarmsState AlarmOutput
old_alarms s t input choices = alarms_armed choices.quiet s t input choices

-- the box with that stage
abbrev pub old_tick : AirBox → Tick → AirBoxStep
old_tick box k = tick_with old_alarms box k

abbrev pub old_steps : AirBox → List Tick → List NightStep
old_steps box ticks = steps_by old_tick box ticks

-- ---- the definition changed in one place

-- `alarms` is that text with false in the arming delay, and `controller_with` puts that stage where the controller has it.
pub record OnePlace : Type 0 where
  pub stage : (s : AlarmsState) (t : Float) (input : AlarmInput) (choices : Choices)
      → alarms s t input choices ≡ alarms_armed false s t input choices
  pub controller : (s : ControllerState) (t : Float) (input : ControllerInput) (choices : Choices)
      → controller_output s t input choices ≡ controller_with alarms s t input choices

-- ---- a plain start is untouched: every tick, whatever the box holds

abbrev pub PlainUntouched : Type 0
PlainUntouched = (box : AirBox) (k : Tick) → box.choices.quiet ≡ false → tick box k ≡ old_tick box k

-- ---- every night, from either start, tick by tick

-- nine of the ten outputs are the old ones
pub record NineOutputs (new old : ControllerOutput) : Type 0 where
  pub airflow_setpoint : new.airflow_setpoint ≡ old.airflow_setpoint
  pub damper_command : new.damper_command ≡ old.damper_command
  pub adjusted_population_flow : new.adjusted_population_flow ≡ old.adjusted_population_flow
  pub adjusted_area_flow : new.adjusted_area_flow ≡ old.adjusted_area_flow
  pub minimum_outdoor_airflow : new.minimum_outdoor_airflow ≡ old.minimum_outdoor_airflow
  pub temperature_request : new.zone_temperature_reset_request ≡ old.zone_temperature_reset_request
  pub pressure_request : new.zone_pressure_reset_request ≡ old.zone_pressure_reset_request
  pub airflow_sensor_alarm : new.airflow_sensor_alarm ≡ old.airflow_sensor_alarm
  pub leaking_damper_alarm : new.leaking_damper_alarm ≡ old.leaking_damper_alarm

-- The tenth comes earlier, never later: where the old low airflow alarm stands, at 2 or 3, the new one stands at the same level.
abbrev pub NeverLater : ControllerOutput → ControllerOutput → Type 0
NeverLater new old = (old.low_airflow_alarm ≡ pos 0) ⊎ (new.low_airflow_alarm ≡ old.low_airflow_alarm)

-- a tick gets its outputs from both, or the same number
abbrev pub SameGiven : ControllerOutput ⊎ ℕ → ControllerOutput ⊎ ℕ → Type 0
SameGiven (inl new) (inl old) = NineOutputs new old × NeverLater new old
SameGiven (inl new) (inr number) = ⊥
SameGiven (inr number) (inl old) = ⊥
SameGiven (inr number) (inr old_number) = number ≡ old_number

-- the boxes hold the same in every field but the arming delay and the two low-flow delays
pub record SameFields (new old : AirBox) : Type 0 where
  pub time_suppression : new.state.time_suppression ≡ old.state.time_suppression
  pub control_loops : new.state.control_loops ≡ old.state.control_loops
  pub setpoints : new.state.setpoints ≡ old.state.setpoints
  pub zone_states : new.state.zone_states ≡ old.state.zone_states
  pub dampers : new.state.dampers ≡ old.state.dampers
  pub system_requests : new.state.system_requests ≡ old.state.system_requests
  pub setpoint_nonzero : new.state.alarms.setpoint_nonzero ≡ old.state.alarms.setpoint_nonzero
  pub setpoint_on : new.state.alarms.setpoint_on ≡ old.state.alarms.setpoint_on
  pub low_half : new.state.alarms.low_half ≡ old.state.alarms.low_half
  pub low_seventy : new.state.alarms.low_seventy ≡ old.state.alarms.low_seventy
  pub flow_high : new.state.alarms.flow_high ≡ old.state.alarms.flow_high
  pub sensor_delay : new.state.alarms.sensor_delay ≡ old.state.alarms.sensor_delay
  pub damper_closed : new.state.alarms.damper_closed ≡ old.state.alarms.damper_closed
  pub leak_delay : new.state.alarms.leak_delay ≡ old.state.alarms.leak_delay
  pub last_time : new.last_time ≡ old.last_time
  pub choices : new.choices ≡ old.choices
  pub last_tick : new.last_tick ≡ old.last_tick

pub record SameButLowAirflow (new old : NightStep) : Type 0 where
  pub ticked : new.ticked ≡ old.ticked
  pub given : SameGiven new.given old.given
  pub fields : SameFields new.box old.box

abbrev pub EveryNight : Type 0
EveryNight =
    (choices : Choices) (night : List Tick) → Related SameButLowAirflow (night_of choices night) (old_steps (unticked choices) night)

-- ---- from the fan's first stop on everything is the old: all ten outputs and every field

-- The night comes to an accepted tick k with the fan off, after the ticks `before`. From k on nothing differs.
abbrev pub SameFromAStop : Type 0
SameFromAStop =
    (choices : Choices) (before : List Tick) (k : Tick) (rest : List Tick)
    → let new = box_after tick (unticked choices) before in
    let old = box_after old_tick (unticked choices) before in
    AllYes new.last_time k → fan k ≡ false → steps new (k ∷ rest) ≡ old_steps old (k ∷ rest)

-- ---- document 02's bench case

-- ticks each 60 seconds, n of them, from the time `from` on: the fan on, airflow override 2, flow 0.0, mode 1
abbrev pub bench_night : ℕ → ℕ → List Tick
bench_night zero from = []
bench_night (suc n) from =
    record { t = decimal from 1; input = (bench_tick no_flow (pos 2) (pos 0) true).input } ∷ bench_night n (from + 60)

-- the time of the first tick at which it holds
abbrev pub first_time : (NightStep → Bool) → List NightStep → Option ℕ
first_time holds [] = none
first_time holds (s ∷ rest) = if holds s then some (seconds s.ticked.t) else first_time holds rest

abbrev pub fan_armed : NightStep → Bool
fan_armed s = s.box.state.alarms.fan_armed.held

abbrev pub low_alarm : NightStep → Bool
low_alarm s = low_of s.given
  where
    low_of : ControllerOutput ⊎ ℕ → Bool
    low_of (inl output) = not (output.low_airflow_alarm ==ᶻ 0)
    low_of (inr number) = false

-- of a quiet start with the usual design flows: armed at 0 and the low alarm at 300; they were at 1800 and 2100
pub record BenchCase : Type 0 where
  pub armed : first_time fan_armed (night_of (usual true) (bench_night 36 0)) ≡ some 0
  pub low : first_time low_alarm (night_of (usual true) (bench_night 36 0)) ≡ some 300
  pub armed_before : first_time fan_armed (old_steps (unticked (usual true)) (bench_night 36 0)) ≡ some 1800
  pub low_before : first_time low_alarm (old_steps (unticked (usual true)) (bench_night 36 0)) ≡ some 2100

-- ---- N4
pub record QuietStart : Type 0 where
  pub one_place : OnePlace
  pub plain_untouched : PlainUntouched
  pub every_night : EveryNight
  pub same_from_a_stop : SameFromAStop
  pub bench_case : BenchCase
