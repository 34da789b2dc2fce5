-- Document 02, N8: integrators that stay in bounds, and outputs that are always numbers.
-- A box that has had no tick is given any ticks, refused ones among them. Each is run by `tick`, which the method `AirBox::tick` is proved
-- to return. Nothing else is asked: not how many they are, and of the state only that it grew from a start.
use Rattle.std.specs.Prelude.{◌≡◌, List, Bool, T, Float}
use Rattle.std.proofs.Common.{inl}
use Rattle.std.specs.Float.{binary64}
use Rattle.std.specs.Float.Ieee.{fits, neg}
use Rattle.f64_helpers.specs.F64.{decimal, zero}
use Rattle.f64_helpers.specs.Ranges.{Between}
use Rattle.box_choices.specs.BoxChoices.{chosen}
use Rattle.box_choices.specs.declared.Choices.{Choices}
use Rattle.cooling_only_controller.specs.declared.ControllerOutput.{ControllerOutput}
use Rattle.air_box.specs.AirBox.{unticked, tick, given_for, delay_on_init, design_flows_within}
use Rattle.air_box.specs.declared.Tick.{Tick}
use Rattle.air_box.specs.declared.Start.{Start}
use Rattle.air_box.specs.declared.AirBox.{AirBox}
use Rattle.nights.specs.Nights.{box_after}
use Rattle.bounds.specs.EveryNumber.{BoxNumbers, OutputNumbers}

-- the box that was built with these choices, after these ticks
abbrev pub grown : Choices → List Tick → AirBox
grown choices ticks = box_after tick (unticked choices) ticks

-- ---- a box of 0.5 and 1.5, from either start, with either reading of the airflow sensor alarm

abbrev pub usual_size : Start → Bool → Choices
usual_size start second_reading = chosen (delay_on_init start) (decimal 5 10) (decimal 15 10) second_reading

-- the damper's lies from -`end` to `end`
pub record IntegratorsInBounds (end : Float) (box : AirBox) : Type 0 where
  pub cooling_loop : Between (neg (decimal 64 1)) box.state.control_loops.cooling_pi.integrator (decimal 64 1)
  pub heating_loop : Between (neg (decimal 64 1)) box.state.control_loops.heating_pi.integrator (decimal 64 1)
  pub damper : Between (neg end) box.state.dampers.integrator end

-- The five real outputs, of a box with this cooling maximum. 0.01375 is (0.005 + 0.006) / 0.8.
pub record OutputsInBounds (maximum : Float) (output : ControllerOutput) : Type 0 where
  pub airflow_setpoint : Between zero output.airflow_setpoint maximum
  pub damper_command : Between zero output.damper_command (decimal 1 1)
  pub adjusted_population_flow : Between zero output.adjusted_population_flow (decimal 5 1000)
  pub adjusted_area_flow : Between zero output.adjusted_area_flow (decimal 6 1000)
  pub minimum_outdoor_airflow : Between zero output.minimum_outdoor_airflow (decimal 1375 100000)

-- What is asked of a box of another size: that building takes its design flows, and that these are f64, as every argument of the code is.
-- The second has to be said, since definitions speak of other numbers too.
pub record Built (choices : Choices) : Type 0 where
  pub within : T (design_flows_within choices)
  pub minimum_is_f64 : T (fits binary64 choices.design_minimum_flow)
  pub maximum_is_f64 : T (fits binary64 choices.design_cooling_maximum_flow)

-- ---- N8
pub record Bounds : Type 0 where
  -- after any ticks both loop integrators lie from -64 to 64 and the damper's from -16 to 16
  pub integrators : (start : Start) (second_reading : Bool) (ticks : List Tick)
      → IntegratorsInBounds (decimal 16 1) (grown (usual_size start second_reading) ticks)
  -- the outputs that any further tick is given lie in their ranges
  pub outputs : (start : Start) (second_reading : Bool) (ticks : List Tick) (k : Tick) (output : ControllerOutput)
      → given_for (grown (usual_size start second_reading) ticks) k ≡ inl output → OutputsInBounds (decimal 15 10) output
  -- No NaN and no infinity stands in a box grown from a start, and none is given: no f64 of its state after any ticks is one, and none of the
  -- outputs that any further tick is given. Numbers on the way that reach neither are not named.
  pub every_number : (start : Start) (second_reading : Bool) (ticks : List Tick) → BoxNumbers (grown (usual_size start second_reading) ticks)
  pub every_output : (start : Start) (second_reading : Bool) (ticks : List Tick) (k : Tick) (output : ControllerOutput)
      → given_for (grown (usual_size start second_reading) ticks) k ≡ inl output → OutputNumbers output
  -- The same of a box of any size that building takes, with its own cooling maximum. 512 is wide: the damper's reset reaches -50.49.
  pub other_integrators : (choices : Choices) → Built choices → (ticks : List Tick) → IntegratorsInBounds (decimal 512 1) (grown choices ticks)
  pub other_outputs : (choices : Choices) → Built choices → (ticks : List Tick) (k : Tick) (output : ControllerOutput)
      → given_for (grown choices ticks) k ≡ inl output → OutputsInBounds choices.design_cooling_maximum_flow output
  pub other_every_number : (choices : Choices) → Built choices → (ticks : List Tick) → BoxNumbers (grown choices ticks)
  pub other_every_output : (choices : Choices) → Built choices → (ticks : List Tick) (k : Tick) (output : ControllerOutput)
      → given_for (grown choices ticks) k ≡ inl output → OutputNumbers output
  -- a box of 0.5 and 1.5 is one of these
  pub usual_built : (start : Start) (second_reading : Bool) → Built (usual_size start second_reading)
