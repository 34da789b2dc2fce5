-- Time suppression keeps its ranges over an accepted tick. Assumes nothing.
use Rattle.std.proofs.Common.{Some, Option}
use lib.Ieee.{Float, round, lt, eq, le}
use Rattle.f64_helpers.specs.F64.{zero}
use Rattle.f64_helpers.specs.Ranges.{Between}
use Rattle.f64_helpers.proofs.Intervals.{wider, if_in}
use Rattle.cooling_only_controller_conditioning.specs.Conditioning.{time_suppression}
use Rattle.cooling_only_controller_conditioning.specs.declared.TimeSuppressionState.{TimeSuppressionState}
use Rattle.bounds.specs.Limits.{COLDEST, HOTTEST}
use Rattle.bounds.specs.Kept.{KeptTimeSuppression}
use Rattle.bounds.proofs.Timing.{Accepted, kept_true_delay, kept_sampler, kept_unit_delay, kept_timer, lengths}

-- what was never written is 0
from_zero : {x : Float} → Between COLDEST x HOTTEST → Between zero x HOTTEST
unfolding round le lt eq
from_zero b = wider b tt

module _ {last : Option Float} {t : Float} (a : Accepted last t) (s : TimeSuppressionState) (k : KeptTimeSuppression last s) {setpoint zone : Float}
    (c : Between COLDEST setpoint HOTTEST) (z : Between COLDEST zone HOTTEST) where
  pub kept_time_suppression : KeptTimeSuppression (Some t) (time_suppression s t setpoint zone).state
  unfolding time_suppression
  kept_time_suppression =
      let sampled = kept_sampler a s.setpoint_sampler k.setpoint_sampler setpoint (from_zero c) in
      let prior = kept_unit_delay a s.previous_sample k.previous_sample _ sampled.1 in
      record {
        setpoint_sampler = sampled.0;
        previous_sample = prior.0;
        startup_delay = kept_true_delay lengths.2 a s.startup_delay k.startup_delay _ _;
        entry_time = kept_timer s.timer t _ a.time k.entry_time;
        captured_setpoint = if_in _ setpoint s.captured_setpoint (from_zero c) k.captured_setpoint;
        captured_zone = if_in _ zone s.captured_zone (from_zero z) k.captured_zone;
      }
