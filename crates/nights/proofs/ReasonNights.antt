-- The small nights of N3 and the odd timers, computed. Assumes nothing.
use mathlib.Core.Path.{refl}
use mathlib.Core.Bool.{xor}
use lib.Ieee.{round, neg, sub, add, mul, div, lt, le, eq, is_nan, to_unsigned}
use Rattle.f64_helpers.specs.Helpers.{max}
use Rattle.cdl_recurrences.specs.CdlRecurrences.{buildings_line, clamp, hysteresis, less_hysteretic, greater_hysteretic, decided_by_memory, true_delay_output}
use Rattle.cooling_only_controller_timing.specs.Timing.{true_delay}
use Rattle.cooling_only_controller_conditioning.specs.Conditioning.{loop_pi, control_loops, setpoints, active_airflow, zone_states}
use Rattle.cooling_only_controller_airflow.specs.Airflow.{damper, alarms}
use Rattle.cooling_only_controller.specs.Controller.{controller_output}
use Rattle.air_box.specs.AirBox.{questions, accepted_tick, tick}
use Rattle.air_box.specs.NoAlarm.{sensor_reason, leak_reason}
use Rattle.nights.specs.ReasonNights.{ReasonNights, AnyTimer}

pub reason_nights : ReasonNights
unfolding questions accepted_tick tick controller_output control_loops loop_pi setpoints active_airflow zone_states damper alarms buildings_line clamp hysteresis true_delay true_delay_output greater_hysteretic less_hysteretic decided_by_memory xor max round neg sub add mul div lt le eq is_nan to_unsigned sensor_reason leak_reason
reason_nights = record {
  mode_left_aside = refl;
  same_second = refl;
  plain_first_tick = refl;
  refused_is_no_fall = refl;
  fan_in_the_rise = refl;
  from_the_last_stop = refl;
  plain_second = refl;
  leak_in_mode_2 = refl;
  first_told = refl;
  damper_open = refl;
}

pub any_timer : AnyTimer
unfolding sub add neg round to_unsigned
any_timer = record {
  of_nan = refl;
  of_infinity = refl;
  of_minus_infinity = refl;
  of_600 = refl;
  of_huge = refl;
  of_negative = refl;
  of_huge_negative = refl;
  of_fraction = refl;
}
