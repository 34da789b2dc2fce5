-- What a box keeps (Kept.antt): a fresh box has it, an accepted tick keeps it, and with it the outputs lie in their ranges. Assumes nothing.
use Rattle.std.proofs.Common.{refl, T, Some, None, lit≤}
use lib.Ieee.{Float, round, neg, lt, eq, le}
use Rattle.f64_helpers.specs.F64.{◌⊘◌, ◌≤ᶠ◌, decimal, zero, ◌⊕◌, ◌⊖◌, ◌⊗◌}
use Rattle.f64_helpers.specs.Ranges.{Between, Finite}
use Rattle.f64_helpers.proofs.WholeSeconds.{zero_whole}
use Rattle.box_choices.specs.declared.Choices.{Choices}
use Rattle.cooling_only_controller_conditioning.specs.Conditioning.{active_airflow, setpoints, control_loops, zone_states}
use Rattle.cooling_only_controller_airflow.specs.Airflow.{damper}
use Rattle.cooling_only_controller_timing.specs.declared.Step.{Step}
use Rattle.cooling_only_controller_conditioning.specs.declared.ControlLoopsState.{ControlLoopsState}
use Rattle.cooling_only_controller_conditioning.specs.declared.ControlLoopOutput.{ControlLoopOutput}
use Rattle.cooling_only_controller_airflow.specs.declared.DamperState.{DamperState}
use Rattle.cooling_only_controller_airflow.specs.declared.DamperOutput.{DamperOutput}
use Rattle.cooling_only_controller.specs.declared.ControllerState.{ControllerState}
use Rattle.cooling_only_controller.specs.Controller.{controller_output}
use Rattle.cooling_only_controller_conditioning.specs.declared.SetpointInput.{SetpointInput}
use Rattle.cooling_only_controller.specs.declared.ControllerInput.{ControllerInput}
use Rattle.cooling_only_controller_airflow.specs.declared.DamperInput.{DamperInput}
use Rattle.air_box.specs.AirBox.{unticked, accepted_tick}
use Rattle.air_box.specs.Demand1.{AllYes}
use Rattle.air_box.specs.Demand2.{controller_step_of}
use Rattle.air_box.specs.declared.Tick.{Tick}
use Rattle.air_box.specs.declared.AirBox.{AirBox}
use Rattle.bounds.specs.Limits.{HOTTEST, HIGHEST_FLOW, DAMPER_GAIN}
use Rattle.bounds.specs.Kept.{KeptGrid, KeptControlLoops, KeptDamper, KeptBox}
use Rattle.bounds.specs.Bounds.{OutputsInBounds}
use Rattle.bounds.proofs.Accepted.{Readings, readings_in, accepted}
use Rattle.bounds.proofs.Timing.{Accepted, fresh_kept, lengths}
use Rattle.bounds.proofs.Suppression.{kept_time_suppression}
use Rattle.bounds.proofs.Loops.{kept_control_loops}
use Rattle.bounds.proofs.Flows.{FlowsIn, Flow, maximum_from_zero, occupied_minimum_in, population_in, area_in, minimum_outdoor_in}
use Rattle.bounds.proofs.Damper.{Size, active_in, active_maximum_in, active_order, airflow_setpoint_in, damper_command_in, kept_damper, unlimited_finite}
use Rattle.bounds.proofs.Requests.{kept_system_requests, kept_alarms}
use Rattle.f64_helpers.proofs.Intervals.{between}
use Rattle.cooling_only_controller.specs.ControllerPieces.{setpoint_input, damper_input}
use Rattle.cdl_recurrences.proofs.Ranges.{unit_zero}

-- ---- a fresh box

grid_fresh : KeptGrid None zero
grid_fresh = record { time = (zero_whole, lit≤ tt); begun = lit≤ tt }

module _ (choices : Choices) (f : FlowsIn choices) {smallest error end : Float} (z : Size smallest error end) where
  pub fresh_box_kept : KeptBox end (unticked choices)
  unfolding round neg le lt eq
  fresh_box_kept =
      let hot : Between zero zero HOTTEST = between tt in
      let flow : Between (neg HIGHEST_FLOW) zero HIGHEST_FLOW = between tt in
      let setpoint : Between zero zero choices.design_cooling_maximum_flow = record { from_low = tt; to_high = (maximum_from_zero choices f).from_low } in
      let loop : Between (neg (decimal 64 1)) zero (decimal 64 1) = between tt in
      record {
        last_time = tt;
        time_suppression = record {
          setpoint_sampler = record { grid = grid_fresh; held = hot };
          previous_sample = record { grid = grid_fresh; held = hot; staged = hot };
          startup_delay = fresh_kept lengths.2;
          entry_time = tt;
          captured_setpoint = hot;
          captured_zone = hot;
        };
        control_loops = record {
          cooling_pi = record { integrator = loop; previous_time = refl };
          heating_pi = record { integrator = loop; previous_time = refl };
          cooling_delay = fresh_kept lengths.0;
          heating_delay = fresh_kept lengths.0;
        };
        dampers = record { integrator = z.end_from_zero; previous_time = refl };
        system_requests = record {
          hot_three_delay = fresh_kept lengths.2;
          hot_two_delay = fresh_kept lengths.2;
          damper_delay = fresh_kept lengths.1;
          cooling_sampler = record { grid = grid_fresh; held = unit_zero };
          setpoint_sampler = record { grid = grid_fresh; held = setpoint };
          discharge_sampler = record { grid = grid_fresh; held = flow };
          damper_sampler = record { grid = grid_fresh; held = unit_zero };
        };
        alarms = record {
          fan_armed = fresh_kept lengths.5;
          setpoint_on = fresh_kept lengths.3;
          low_half_delay = fresh_kept lengths.3;
          low_seventy_delay = fresh_kept lengths.3;
          sensor_delay = fresh_kept lengths.4;
          leak_delay = fresh_kept lengths.4;
        };
      }

-- ---- an accepted tick

module _ (box : AirBox) (f : FlowsIn box.choices) {smallest error end : Float} (z : Size smallest error end) (large : Between smallest box.choices.design_cooling_maximum_flow (decimal 10 1))
    (kept : KeptBox end box) (k : Tick) (all : AllYes box.last_time k) where
  abbrev step_of : Accepted box.last_time k.t
  step_of = accepted box.last_time k kept.last_time all

  abbrev s : ControllerState
  s = box.state

  abbrev i : ControllerInput
  i = k.input

  abbrev loops : Step ControlLoopsState ControlLoopOutput
  loops = control_loops s.control_loops k.t i.cooling_setpoint i.zone_temperature i.heating_setpoint

  -- what the stages are handed
  abbrev to_setpoints : SetpointInput
  to_setpoints = setpoint_input i

  abbrev occupied_minimum : Float
  occupied_minimum = (setpoints s.setpoints to_setpoints box.choices).output.occupied_minimum_flow

  abbrev to_damper : DamperInput
  to_damper =
      damper_input i loops.output (active_airflow i.operating_mode occupied_minimum box.choices) (zone_states s.zone_states loops.output.heating loops.output.cooling).output

  readings : Readings i
  readings = readings_in box.last_time k all

  pub loops_kept : KeptControlLoops (Some k.t) loops.state × Between zero loops.output.cooling (decimal 1 1) × Between zero loops.output.heating (decimal 1 1)
  loops_kept = kept_control_loops step_of s.control_loops kept.control_loops readings.cooling_setpoint readings.zone_temperature readings.heating_setpoint

  occupied_in : Flow box.choices.design_cooling_maximum_flow occupied_minimum
  occupied_in = occupied_minimum_in box.choices f s.setpoints to_setpoints readings.co2_setpoint readings.co2_concentration

  abbrev dampers : Step DamperState DamperOutput
  dampers = damper s.dampers k.t to_damper box.choices

  minimum_in : Flow box.choices.design_cooling_maximum_flow to_damper.active_minimum_flow
  minimum_in = active_in box.choices f occupied_in i.operating_mode

  maximum_in : Flow box.choices.design_cooling_maximum_flow to_damper.active_cooling_maximum_flow
  maximum_in = active_maximum_in box.choices f occupied_in i.operating_mode

  order : T (to_damper.active_minimum_flow ≤ᶠ to_damper.active_cooling_maximum_flow)
  order = active_order box.choices f occupied_in i.operating_mode

  setpoint_in : Flow box.choices.design_cooling_maximum_flow dampers.output.airflow_setpoint
  setpoint_in = airflow_setpoint_in box.choices f s.dampers to_damper minimum_in maximum_in order loops_kept.1 readings.discharge_airflow step_of z large kept.dampers

  command_in : Between zero dampers.output.damper_command (decimal 1 1)
  command_in = damper_command_in box.choices f s.dampers to_damper minimum_in maximum_in order loops_kept.1 readings.discharge_airflow step_of z large kept.dampers

  -- the damper's PI before its limits
  pub damper_unlimited_finite :
      let M = box.choices.design_cooling_maximum_flow in Finite (DAMPER_GAIN ⊗ ((controller_step_of box k).output.airflow_setpoint ⊘ M ⊖ i.discharge_airflow ⊘ M) ⊕ s.dampers.integrator)
  unfolding controller_output
  damper_unlimited_finite = unlimited_finite box.choices f s.dampers to_damper minimum_in maximum_in order loops_kept.1 readings.discharge_airflow step_of z large kept.dampers

  dampers_kept : KeptDamper (Some k.t) end dampers.state
  dampers_kept = kept_damper box.choices f s.dampers to_damper minimum_in maximum_in order loops_kept.1 readings.discharge_airflow step_of z large kept.dampers

  pub next_box_kept : KeptBox end (accepted_tick box k).state
  unfolding accepted_tick controller_output
  next_box_kept = record {
    last_time = step_of.time;
    time_suppression = kept_time_suppression step_of s.time_suppression kept.time_suppression readings.cooling_setpoint readings.zone_temperature;
    control_loops = loops_kept.0;
    dampers = dampers_kept;
    system_requests = kept_system_requests step_of box.choices s.system_requests kept.system_requests _ loops_kept.1 setpoint_in.range readings.discharge_airflow command_in;
    alarms = kept_alarms step_of box.choices s.alarms kept.alarms _;
  }

  pub outputs_in : OutputsInBounds box.choices.design_cooling_maximum_flow (controller_step_of box k).output
  unfolding controller_output
  outputs_in = record {
    airflow_setpoint = setpoint_in.range;
    damper_command = command_in;
    adjusted_population_flow = population_in box.choices f s.setpoints to_setpoints readings.co2_setpoint readings.co2_concentration;
    adjusted_area_flow = area_in box.choices f s.setpoints to_setpoints readings.co2_setpoint readings.co2_concentration;
    minimum_outdoor_airflow = minimum_outdoor_in box.choices f s.setpoints to_setpoints readings.co2_setpoint readings.co2_concentration;
  }
