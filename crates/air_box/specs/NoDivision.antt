-- Document 02, N5: no division by 1,000,000 at a box's start. No definition moves. This says for which numbers the code of
-- `buildings_round_six` takes the shorter way, what that gives, and that what an accepted tick hands to it is among them.
-- That code asks `is_time`. Its one function that multiplies or divides by 1,000,000, `round_six_by_division`, requires that `is_time`
-- says no, so that the check of its caller shows that it is called for no other number.
use Rattle.std.specs.Prelude.{None, ◌≡◌, ◌↔◌, T, Float, if◌then◌else◌}
use Rattle.std.specs.Float.{binary64}
use Rattle.std.specs.Float.Ieee.{fits, neg}
use Rattle.f64_helpers.specs.F64.{◌⊗◌, ◌⊘◌, ◌>ᶠ◌, zero}
use Rattle.f64_helpers.specs.Helpers.{floor}
use Rattle.f64_helpers.specs.Seconds.{IsTime, is_time}
use Rattle.box_choices.specs.declared.Choices.{Choices}
use Rattle.cdl_recurrences.specs.CdlRecurrences.{buildings_round_six, initial_sample_time}
use Rattle.cooling_only_controller_conditioning.specs.Conditioning.{SAMPLE_PERIOD}
use Rattle.cooling_only_controller.specs.declared.ControllerState.{ControllerState}
use Rattle.air_box.specs.AirBox.{unticked, tick}
use Rattle.air_box.specs.Demand1.{AllYes}
use Rattle.air_box.specs.declared.Tick.{Tick}
use Rattle.air_box.specs.declared.AirBox.{AirBox}

-- what the shorter way gives: the number as it came, and -0.0 for a zero of either sign
abbrev pub as_it_came : Float → Float
as_it_came x = if x >ᶠ zero then x else neg zero

-- the multiple of the period, 120, at or before t
abbrev pub multiple_before : Float → Float
multiple_before t = floor (t ⊘ SAMPLE_PERIOD) ⊗ SAMPLE_PERIOD

-- The six grids of a box, of five samplers and a unit delay, start at x. Nothing else in a box calls `initial_sample_time`.
pub record GridsStartAt (x : Float) (state : ControllerState) : Type 0 where
  pub suppression_sampler : state.time_suppression.setpoint_sampler.t0 ≡ x
  pub previous_sample : state.time_suppression.previous_sample.t0 ≡ x
  pub cooling_sampler : state.system_requests.cooling_sampler.t0 ≡ x
  pub setpoint_sampler : state.system_requests.setpoint_sampler.t0 ≡ x
  pub discharge_sampler : state.system_requests.discharge_sampler.t0 ≡ x
  pub damper_sampler : state.system_requests.damper_sampler.t0 ≡ x

-- ---- N5
pub record NoDivision : Type 0 where
  -- the shorter way is taken for the whole numbers from 0 to 2,147,483,648, a zero of either sign among them, and for nothing else
  pub taken : (x : Float) → T (is_time x) ↔ IsTime x
  pub zeros_among_them : T (is_time zero) × T (is_time (neg zero))
  -- for each of them that is an f64 it gives what the rounding to six decimals is
  pub same : (x : Float) → T (fits binary64 x) → T (is_time x) → buildings_round_six x ≡ as_it_came x
  -- a tick at t that starts a grid hands the multiple to the rounding
  pub handed_on : (t : Float) → initial_sample_time t SAMPLE_PERIOD ≡ buildings_round_six (multiple_before t)
  -- of every accepted tick, whatever the box holds, that multiple is among the numbers of the shorter way
  pub accepted : (box : AirBox) (k : Tick) → AllYes box.last_time k → T (is_time (multiple_before k.t))
  -- so all six grids of a box start, at its first accepted tick, at that multiple as it came
  pub first_tick : (choices : Choices) (k : Tick) → AllYes None k
      → GridsStartAt (as_it_came (multiple_before k.t)) (tick (unticked choices) k).state.state
