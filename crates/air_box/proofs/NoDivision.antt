-- N5. What questions 1 and 2 let pass is a time, a multiple of the period at or before a time is one again, and a time is rounded to itself. Assumes nothing.
use mathlib.Core.Path.{◌≡◌, refl, sym}
use native.Mathlib.Omega.{arith}
use lib.Dec.{T, lit<, lit≤}
use lib.Ieee.{Float, binary64, neg}
use lib.Ieee.Fits.{mul-fits}
use Rattle.f64_helpers.specs.F64.{◌⊘◌, zero}
use Rattle.f64_helpers.specs.Helpers.{floor}
use Rattle.f64_helpers.specs.Seconds.{IsTime, seconds, is_time}
use Rattle.f64_helpers.proofs.WholeSeconds.{zero_whole}
use Rattle.f64_helpers.proofs.Times.{decimal_whole, is_time_of, is_time_means}
use Rattle.box_choices.specs.declared.Choices.{Choices}
use Rattle.cdl_recurrences.specs.CdlRecurrences.{buildings_round_six, initial_sample_time}
use Rattle.cdl_recurrences.proofs.SampleGrid.{round_six_time, multiple_is_time}
use Rattle.cooling_only_controller_timing.specs.Timing.{sampler_sample, unit_delay_sample}
use Rattle.cooling_only_controller_conditioning.specs.Conditioning.{SAMPLE_PERIOD, time_suppression}
use Rattle.cooling_only_controller_airflow.specs.Airflow.{system_requests}
use Rattle.cooling_only_controller.specs.Controller.{controller_output}
use Rattle.air_box.specs.AirBox.{unticked}
use Rattle.air_box.specs.Demand2.{controller_step_of}
use Rattle.air_box.specs.NoDivision.{as_it_came, multiple_before, GridsStartAt, NoDivision}
use Rattle.air_box.specs.declared.Tick.{Tick}
use Rattle.std.proofs.Common.{None}
use Rattle.air_box.proofs.Demands.{accepted_time, demand_2}

multiple_among : (t : Float) → IsTime t → T (is_time (multiple_before t))
multiple_among t i = multiple_is_time t SAMPLE_PERIOD (seconds t) 120 i.0 i.1 (decimal_whole 120 (omega arith)) (lit< tt) (lit≤ tt)

rounded : (t : Float) → initial_sample_time t SAMPLE_PERIOD ≡ buildings_round_six (multiple_before t)
unfolding initial_sample_time
rounded t = refl

first_as_it_came : (t : Float) → IsTime t → initial_sample_time t SAMPLE_PERIOD ≡ as_it_came (multiple_before t)
first_as_it_came t i = rw (rounded t) (round_six_time (multiple_before t) (mul-fits binary64 (floor (t ⊘ SAMPLE_PERIOD)) SAMPLE_PERIOD) (multiple_among t i))

-- each grid of a fresh box starts by `initial_sample_time`
grids_start : (choices : Choices) (k : Tick) → GridsStartAt (initial_sample_time k.t SAMPLE_PERIOD) (controller_step_of (unticked choices) k).state
unfolding controller_output time_suppression system_requests sampler_sample unit_delay_sample
grids_start choices k = record { suppression_sampler = refl; previous_sample = refl; cooling_sampler = refl; setpoint_sampler = refl; discharge_sampler = refl; damper_sampler = refl }

pub no_division : NoDivision
no_division =
    record {
      taken = is_time_means;
      zeros_among_them = (is_time_of zero 0 zero_whole (lit≤ tt), is_time_of (neg zero) 0 (unfold neg in (refl, λ q. refl)) (lit≤ tt));
      same = round_six_time;
      handed_on = rounded;
      accepted = λ box k all. multiple_among k.t (accepted_time box.last_time k all);
      first_tick = λ choices k all. rw ((demand_2 (unticked choices) k all).next_state, sym (first_as_it_came k.t (accepted_time None k all))) (grids_start choices k);
    }
