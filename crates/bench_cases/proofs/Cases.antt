-- Every bench case of the list holds: both sides compute to the same value. Assumes nothing.
use mathlib.Core.Path.{refl}
use lib.Ieee.{of_int, round, neg, add, sub, mul, div, lt, le, eq, is_nan, to_signed}
use Rattle.f64_helpers.specs.Helpers.{floor, ceil, abs, max, min}
use Rattle.cdl_recurrences.specs.CdlRecurrences.{buildings_line, clamp, hysteresis, less_hysteretic, greater_hysteretic, true_delay_output, buildings_round_six, initial_sample_time, sample_index, sample_due, sampler_output}
use Rattle.cooling_only_controller_timing.specs.Timing.{sampler_sample, unit_delay_sample, true_delay, timer_elapsed}
use Rattle.cooling_only_controller_conditioning.specs.Conditioning.{latch, time_suppression, loop_pi, control_loops, setpoints, active_airflow, zone_states}
use Rattle.cooling_only_controller_conditioning.specs.ConditioningPieces.{suppression_window}
use Rattle.cooling_only_controller_airflow.specs.Airflow.{damper, system_requests, alarms}
use Rattle.cooling_only_controller.specs.Controller.{controller_output}
use Rattle.air_box.specs.AirBox.{questions, accepted_tick, tick}
use Rattle.bench_cases.specs.BenchCases.{BenchCasesHold}

pub bench_cases_hold : BenchCasesHold
unfolding round neg add sub mul div lt le eq is_nan to_signed of_int floor ceil abs max min
    buildings_line clamp hysteresis less_hysteretic greater_hysteretic true_delay_output buildings_round_six initial_sample_time sample_index sample_due sampler_output
    sampler_sample unit_delay_sample true_delay timer_elapsed
    latch suppression_window time_suppression loop_pi control_loops setpoints active_airflow zone_states
    damper system_requests alarms controller_output questions accepted_tick tick
bench_cases_hold = (refl, (refl, (refl, (refl, (refl, (refl, (refl, (refl, (refl, (refl, (refl, (refl, (refl, (refl, (refl, (refl, (refl, (refl, (refl, (refl, (refl, (refl, (refl, (refl, (refl, (refl, (refl, (refl, (refl, (refl, (refl, (refl, (refl, (refl, (refl, (refl, (refl, (refl, (refl, (refl, (refl, (refl, (refl, (refl, (refl, (refl, (refl, (refl, (refl, (refl, (refl, (refl, (refl, (refl, tt))))))))))))))))))))))))))))))))))))))))))))))))))))))
