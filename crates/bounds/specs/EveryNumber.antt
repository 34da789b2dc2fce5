-- Every f64 of a box and of its outputs, by name: it is finite, neither infinite nor a NaN. Of a time that may be absent this is asked where
-- it is present. The stages that are not named here, `setpoints` and `zone_states`, and the latches hold flags alone.
use Rattle.std.specs.Prelude.{Float, Option, Some, None}
use Rattle.f64_helpers.specs.Ranges.{Finite}
use Rattle.cooling_only_controller_timing.specs.declared.SamplerState.{SamplerState}
use Rattle.cooling_only_controller_timing.specs.declared.UnitDelayState.{UnitDelayState}
use Rattle.cooling_only_controller_timing.specs.declared.TrueDelayState.{TrueDelayState}
use Rattle.cooling_only_controller_conditioning.specs.declared.TimeSuppressionState.{TimeSuppressionState}
use Rattle.cooling_only_controller_conditioning.specs.declared.LoopPiState.{LoopPiState}
use Rattle.cooling_only_controller_conditioning.specs.declared.ControlLoopsState.{ControlLoopsState}
use Rattle.cooling_only_controller_airflow.specs.declared.DamperState.{DamperState}
use Rattle.cooling_only_controller_airflow.specs.declared.SystemRequestsState.{SystemRequestsState}
use Rattle.cooling_only_controller_airflow.specs.declared.AlarmsState.{AlarmsState}
use Rattle.cooling_only_controller.specs.declared.ControllerOutput.{ControllerOutput}
use Rattle.air_box.specs.declared.AirBox.{AirBox}

abbrev pub FiniteIfPresent : Option Float → Type 0
FiniteIfPresent None = Unit
FiniteIfPresent (Some t) = Finite t

-- ---- the blocks

pub record SamplerNumbers (s : SamplerState) : Type 0 where
  pub t0 : Finite s.t0
  pub held : Finite s.held

pub record UnitDelayNumbers (s : UnitDelayState) : Type 0 where
  pub t0 : Finite s.t0
  pub held : Finite s.held
  pub staged : Finite s.staged

pub record TrueDelayNumbers (s : TrueDelayState) : Type 0 where
  pub previous_time : FiniteIfPresent s.previous_time
  pub timer : Finite s.timer

pub record LoopPiNumbers (s : LoopPiState) : Type 0 where
  pub integrator : Finite s.integrator
  pub previous_time : FiniteIfPresent s.previous_time

-- ---- the stages

pub record TimeSuppressionNumbers (s : TimeSuppressionState) : Type 0 where
  pub setpoint_sampler : SamplerNumbers s.setpoint_sampler
  pub previous_sample : UnitDelayNumbers s.previous_sample
  pub startup_delay : TrueDelayNumbers s.startup_delay
  pub timer_entry_time : FiniteIfPresent s.timer.entry_time
  pub captured_setpoint : Finite s.captured_setpoint
  pub captured_zone : Finite s.captured_zone

pub record ControlLoopsNumbers (s : ControlLoopsState) : Type 0 where
  pub cooling_pi : LoopPiNumbers s.cooling_pi
  pub heating_pi : LoopPiNumbers s.heating_pi
  pub cooling_delay : TrueDelayNumbers s.cooling_delay
  pub heating_delay : TrueDelayNumbers s.heating_delay

pub record DamperNumbers (s : DamperState) : Type 0 where
  pub integrator : Finite s.integrator
  pub previous_time : FiniteIfPresent s.previous_time

pub record SystemRequestsNumbers (s : SystemRequestsState) : Type 0 where
  pub hot_three_delay : TrueDelayNumbers s.hot_three_delay
  pub hot_two_delay : TrueDelayNumbers s.hot_two_delay
  pub cooling_sampler : SamplerNumbers s.cooling_sampler
  pub setpoint_sampler : SamplerNumbers s.setpoint_sampler
  pub discharge_sampler : SamplerNumbers s.discharge_sampler
  pub damper_sampler : SamplerNumbers s.damper_sampler
  pub damper_delay : TrueDelayNumbers s.damper_delay

pub record AlarmsNumbers (s : AlarmsState) : Type 0 where
  pub fan_armed : TrueDelayNumbers s.fan_armed
  pub setpoint_on : TrueDelayNumbers s.setpoint_on
  pub low_half_delay : TrueDelayNumbers s.low_half_delay
  pub low_seventy_delay : TrueDelayNumbers s.low_seventy_delay
  pub sensor_delay : TrueDelayNumbers s.sensor_delay
  pub leak_delay : TrueDelayNumbers s.leak_delay

-- ---- the box and the outputs

pub record BoxNumbers (box : AirBox) : Type 0 where
  pub time_suppression : TimeSuppressionNumbers box.state.time_suppression
  pub control_loops : ControlLoopsNumbers box.state.control_loops
  pub dampers : DamperNumbers box.state.dampers
  pub system_requests : SystemRequestsNumbers box.state.system_requests
  pub alarms : AlarmsNumbers box.state.alarms
  pub last_time : FiniteIfPresent box.last_time
  pub design_minimum_flow : Finite box.choices.design_minimum_flow
  pub design_cooling_maximum_flow : Finite box.choices.design_cooling_maximum_flow

-- the five real outputs; the other five are whole numbers
pub record OutputNumbers (output : ControllerOutput) : Type 0 where
  pub airflow_setpoint : Finite output.airflow_setpoint
  pub damper_command : Finite output.damper_command
  pub adjusted_population_flow : Finite output.adjusted_population_flow
  pub adjusted_area_flow : Finite output.adjusted_area_flow
  pub minimum_outdoor_airflow : Finite output.minimum_outdoor_airflow
