-- What the agreement with the published helpers asks for (`Handed`) holds at every accepted tick of a box that keeps its ranges and signs. Assumes nothing.
use Rattle.std.proofs.Common.{sym, subst, Option, le_trans}
use lib.Ieee.{Float, round, neg, add, sub, mul, lt, eq, le}
use Rattle.std.proofs.lemmas.Float.{le_of_lt}
use Rattle.f64_helpers.specs.F64.{decimal}
use Rattle.f64_helpers.specs.Ranges.{Between, NotMinusZero}
use Rattle.f64_helpers.proofs.Intervals.{finite_between, sub_in}
use Rattle.f64_helpers.proofs.Monotone.{above_zero}
use Rattle.f64_helpers.proofs.SignedZeros.{clear_not_minus_zero}
use Rattle.air_box.specs.Demand1.{AllYes}
use Rattle.air_box.specs.declared.Tick.{Tick}
use Rattle.air_box.specs.declared.AirBox.{AirBox}
use Rattle.bounds.specs.Kept.{KeptGrid, KeptTrueDelay, KeptBox, KeptSigns}
use Rattle.cooling_only_controller_timing.specs.declared.TrueDelayState.{TrueDelayState}
use Rattle.bounds.proofs.Accepted.{Readings, readings_in, accepted}
use Rattle.bounds.proofs.Timing.{Accepted}
use Rattle.bounds.proofs.Co2Line.{band, co2_loop_in}
use Rattle.bounds.proofs.Flows.{FlowsIn, maximum_finite, maximum_above_zero}
use Rattle.bounds.proofs.Damper.{Size}
use Rattle.bounds.proofs.Loops.{error_in, unlimited_finite}
use Rattle.bounds.proofs.KeptBox.{loops_kept, outputs_in, damper_unlimited_finite}
use Rattle.bounds.proofs.PublishedBlocks.{Started}
use Rattle.bounds.proofs.PublishedStages.{Ventilation, MemoriesKept, Signals, Handed}
use Rattle.cooling_only_controller.specs.ControllerPieces.{setpoint_input}

timer_sign : {last : Option Float} {delay : Float} {s : TrueDelayState} → KeptTrueDelay last delay s → NotMinusZero s.timer
timer_sign {last} {delay} {s} k = clear_not_minus_zero s.timer k.sign_clear

module _ (box : AirBox) (f : FlowsIn box.choices) {smallest error end : Float} (z : Size smallest error end) (large : Between smallest box.choices.design_cooling_maximum_flow (decimal 10 1))
    (kept : KeptBox end box) (signs : KeptSigns box.state) (k : Tick) (all : AllYes box.last_time k) where
  step_of : Accepted box.last_time k.t
  step_of = accepted box.last_time k kept.last_time all

  inputs : Readings k.input
  inputs = readings_in box.last_time k all

  abbrev M : Float
  M = box.choices.design_cooling_maximum_flow

  maximum_sign : NotMinusZero M
  maximum_sign = let a = above_zero M (maximum_finite box.choices f) (maximum_above_zero box.choices f) in subst NotMinusZero (sym a.is) tt

  ventilation : Ventilation (setpoint_input k.input) M
  unfolding round neg
  ventilation = record {
    co2_concentration = finite_between tt tt inputs.co2_concentration;
    co2_band = le_of_lt _ _ (band k.input.co2_setpoint inputs.co2_setpoint);
    co2_loop = finite_between tt tt (co2_loop_in k.input.co2_setpoint k.input.co2_concentration inputs.co2_setpoint inputs.co2_concentration);
    cooling_maximum = record { is_f64 = f.maximum_is_f64; not_minus_zero = maximum_sign };
  }

  started : {t0 : Float} → KeptGrid box.last_time t0 → Started t0 k.t
  started g = record { whole = g.time.0; begun = le_trans g.begun step_of.not_before }

  memories : MemoriesKept box.state k.t
  unfolding round
  memories =
      let p = kept.time_suppression in
      let l = kept.control_loops in
      let r = kept.system_requests in
      let a = kept.alarms in
      record {
        suppression = record { setpoint_grid = started p.setpoint_sampler.grid; previous_grid = started p.previous_sample.grid; startup_timer = timer_sign p.startup_delay };
        loops = record {
          cooling_integrator = record { is_f64 = signs.cooling.is_f64; not_minus_zero = signs.cooling.sign };
          heating_integrator = record { is_f64 = signs.heating.is_f64; not_minus_zero = signs.heating.sign };
          cooling_timer = timer_sign l.cooling_delay;
          heating_timer = timer_sign l.heating_delay;
        };
        damper_integrator = record { is_f64 = signs.damper_is_f64; not_minus_zero = signs.damper_sign };
        requests = record {
          hot_three_timer = timer_sign r.hot_three_delay;
          hot_two_timer = timer_sign r.hot_two_delay;
          damper_timer = timer_sign r.damper_delay;
          cooling_grid = started r.cooling_sampler.grid;
          setpoint_grid = started r.setpoint_sampler.grid;
          discharge_grid = started r.discharge_sampler.grid;
          damper_grid = started r.damper_sampler.grid;
          cooling_held = finite_between tt tt r.cooling_sampler.held;
          setpoint_held = finite_between tt (maximum_finite box.choices f) r.setpoint_sampler.held;
          damper_held = finite_between tt tt r.damper_sampler.held;
        };
        alarms = record {
          fan_timer = timer_sign a.fan_armed;
          setpoint_timer = timer_sign a.setpoint_on;
          low_half_timer = timer_sign a.low_half_delay;
          low_seventy_timer = timer_sign a.low_seventy_delay;
          sensor_timer = timer_sign a.sensor_delay;
          leak_timer = timer_sign a.leak_delay;
        };
      }

  signals : Signals box.state k.t k.input box.choices
  unfolding round neg add sub mul le lt eq
  signals =
      let loops = loops_kept box f z large kept k all in
      let out = outputs_in box f z large kept k all in
      let cooling_error = error_in inputs.zone_temperature inputs.cooling_setpoint in
      let heating_error = error_in inputs.heating_setpoint inputs.zone_temperature in
      let difference : Between (neg (decimal 1 1)) _ (decimal 1 1) = sub_in loops.2 loops.1 tt in
      record {
        loops = record {
          cooling_error = finite_between tt tt cooling_error;
          cooling_unlimited = unlimited_finite step_of box.state.control_loops.cooling_pi kept.control_loops.cooling_pi _ cooling_error;
          heating_unlimited = unlimited_finite step_of box.state.control_loops.heating_pi kept.control_loops.heating_pi _ heating_error;
          cooling = finite_between tt tt loops.1;
          heating = finite_between tt tt loops.2;
          difference = finite_between tt tt difference;
        };
        damper = damper_unlimited_finite box f z large kept k all;
        airflow_setpoint = finite_between tt (maximum_finite box.choices f) out.airflow_setpoint;
        damper_command = finite_between tt tt out.damper_command;
      }

  pub handed : Handed box k
  handed = record { time = step_of.time; ventilation = ventilation; memories = memories; signals = signals }
