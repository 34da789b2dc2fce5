-- At every threshold of the list the answer turns where it should: both sides compute. Assumes nothing.
use mathlib.Core.Path.{refl}
use lib.Ieee.{of_bits, of_int, round, add, sub, mul, div, lt, le, eq, is_nan, to_signed}
use Rattle.f64_helpers.specs.Helpers.{floor, ceil, max, min}
use Rattle.cdl_recurrences.specs.CdlRecurrences.{clamp, hysteresis, less_hysteretic, greater_hysteretic, true_delay_output, buildings_round_six, initial_sample_time, sample_index, sample_due, sampler_output}
use Rattle.cooling_only_controller_timing.specs.Timing.{sampler_sample, true_delay}
use Rattle.cooling_only_controller_conditioning.specs.Conditioning.{loop_pi, control_loops, zone_states}
use Rattle.cooling_only_controller_airflow.specs.Airflow.{system_requests}
use Rattle.bench_cases.specs.Thresholds.{ThresholdsHold}

pub thresholds_hold : ThresholdsHold
unfolding of_bits round add sub mul div lt le eq is_nan to_signed of_int floor ceil max min
    clamp hysteresis less_hysteretic greater_hysteretic true_delay_output buildings_round_six initial_sample_time sample_index sample_due sampler_output
    sampler_sample true_delay loop_pi control_loops zone_states system_requests
thresholds_hold = (refl, refl, (refl, refl, (refl, refl, (refl, refl, (refl, refl, (refl, refl, (refl, refl, (refl, refl, (refl, refl, (refl, refl, (refl, refl, (refl, refl, (refl, refl, (refl, refl, (refl, refl, (refl, refl, tt))))))))))))))))
