-- What a box keeps is finite, each f64 by its name. Assumes nothing.
use Rattle.std.proofs.Common.{◌≡◌, sym, subst, Some, None, Option}
use lib.Ieee.{Float, round, neg}
use Rattle.f64_helpers.specs.Ranges.{Finite}
use Rattle.f64_helpers.proofs.Intervals.{finite_between}
use Rattle.f64_helpers.proofs.WholeSeconds.{whole_finite}
use Rattle.cooling_only_controller.specs.declared.ControllerOutput.{ControllerOutput}
use Rattle.cooling_only_controller_timing.specs.declared.SamplerState.{SamplerState}
use Rattle.cooling_only_controller_timing.specs.declared.UnitDelayState.{UnitDelayState}
use Rattle.cooling_only_controller_timing.specs.declared.TrueDelayState.{TrueDelayState}
use Rattle.cooling_only_controller_conditioning.specs.declared.LoopPiState.{LoopPiState}
use Rattle.air_box.specs.declared.AirBox.{AirBox}
use Rattle.bounds.specs.Kept.{TimeIfPresent, KeptSampler, KeptUnitDelay, KeptTrueDelay, KeptLoopPi, KeptBox}
use Rattle.bounds.specs.EveryNumber.{FiniteIfPresent, SamplerNumbers, UnitDelayNumbers, TrueDelayNumbers, LoopPiNumbers, BoxNumbers, OutputNumbers}
use Rattle.bounds.specs.Bounds.{OutputsInBounds}
use Rattle.bounds.proofs.Flows.{FlowsIn, maximum_finite}
use Rattle.bounds.proofs.Timing.{Length, lengths}

finite_if_present : (t : Option Float) → TimeIfPresent t → FiniteIfPresent t
finite_if_present None i = tt
finite_if_present (Some t) i = whole_finite t _ i.0

module _ {last : Option Float} (i : TimeIfPresent last) where
  sampler : {low high : Float} → Finite low → Finite high → {s : SamplerState} → KeptSampler last low high s → SamplerNumbers s
  sampler f g k = record { t0 = whole_finite _ _ k.grid.time.0; held = finite_between f g k.held }

  unit_delay : {low high : Float} → Finite low → Finite high → {s : UnitDelayState} → KeptUnitDelay last low high s → UnitDelayNumbers s
  unit_delay f g k = record { t0 = whole_finite _ _ k.grid.time.0; held = finite_between f g k.held; staged = finite_between f g k.staged }

  previous : {t : Option Float} → t ≡ last → FiniteIfPresent t
  previous e = subst FiniteIfPresent (sym e) (finite_if_present last i)

  true_delay : {delay : Float} → Length delay → {s : TrueDelayState} → KeptTrueDelay last delay s → TrueDelayNumbers s
  true_delay l k = record { previous_time = previous k.previous_time; timer = finite_between tt l.sum_finite k.timer }

  loop_pi : {s : LoopPiState} → KeptLoopPi last s → LoopPiNumbers s
  unfolding round neg
  loop_pi k = record { integrator = finite_between tt tt k.integrator; previous_time = previous k.previous_time }

pub box_numbers : (box : AirBox) → FlowsIn box.choices → {end : Float} → Finite (neg end) → Finite end → KeptBox end box → BoxNumbers box
unfolding round neg
box_numbers box f {end} g h k =
    let i = k.last_time in
    let p = k.time_suppression in
    let r = k.system_requests in
    let M = maximum_finite box.choices f in
    record {
      time_suppression = record {
        setpoint_sampler = sampler i tt tt p.setpoint_sampler;
        previous_sample = unit_delay i tt tt p.previous_sample;
        startup_delay = true_delay i lengths.2 p.startup_delay;
        timer_entry_time = finite_if_present _ p.entry_time;
        captured_setpoint = finite_between tt tt p.captured_setpoint;
        captured_zone = finite_between tt tt p.captured_zone;
      };
      control_loops = record {
        cooling_pi = loop_pi i k.control_loops.cooling_pi;
        heating_pi = loop_pi i k.control_loops.heating_pi;
        cooling_delay = true_delay i lengths.0 k.control_loops.cooling_delay;
        heating_delay = true_delay i lengths.0 k.control_loops.heating_delay;
      };
      dampers = record { integrator = finite_between g h k.dampers.integrator; previous_time = previous i k.dampers.previous_time };
      system_requests = record {
        hot_three_delay = true_delay i lengths.2 r.hot_three_delay;
        hot_two_delay = true_delay i lengths.2 r.hot_two_delay;
        cooling_sampler = sampler i tt tt r.cooling_sampler;
        setpoint_sampler = sampler i tt M r.setpoint_sampler;
        discharge_sampler = sampler i tt tt r.discharge_sampler;
        damper_sampler = sampler i tt tt r.damper_sampler;
        damper_delay = true_delay i lengths.1 r.damper_delay;
      };
      alarms = record {
        fan_armed = true_delay i lengths.5 k.alarms.fan_armed;
        setpoint_on = true_delay i lengths.3 k.alarms.setpoint_on;
        low_half_delay = true_delay i lengths.3 k.alarms.low_half_delay;
        low_seventy_delay = true_delay i lengths.3 k.alarms.low_seventy_delay;
        sensor_delay = true_delay i lengths.4 k.alarms.sensor_delay;
        leak_delay = true_delay i lengths.4 k.alarms.leak_delay;
      };
      last_time = finite_if_present box.last_time i;
      design_minimum_flow = finite_between tt M f.minimum;
      design_cooling_maximum_flow = M;
    }

pub output_numbers : (maximum : Float) → Finite maximum → (output : ControllerOutput) → OutputsInBounds maximum output → OutputNumbers output
unfolding round
output_numbers maximum f output o = record {
  airflow_setpoint = finite_between tt f o.airflow_setpoint;
  damper_command = finite_between tt tt o.damper_command;
  adjusted_population_flow = finite_between tt tt o.adjusted_population_flow;
  adjusted_area_flow = finite_between tt tt o.adjusted_area_flow;
  minimum_outdoor_airflow = finite_between tt tt o.minimum_outdoor_airflow;
}
