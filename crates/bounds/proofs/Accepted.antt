-- What the seven questions leave of an accepted tick: its readings lie in their ranges, and its time after the last one at most the longest step. Assumes nothing.
use Rattle.std.proofs.Common.{◌≡◌, Bool, true, false, ◌&&◌, T, subst, Some, None, Option, lit≤, zero-le}
use lib.Ieee.{Float, round, neg, add, sub, lt, eq, le}
use lib.Ieee.Fits.{and_l, and_r}
use Rattle.f64_helpers.specs.F64.{◌⊖◌, decimal, zero}
use Rattle.f64_helpers.specs.Helpers.{max}
use Rattle.f64_helpers.specs.Seconds.{IsTime, seconds}
use Rattle.f64_helpers.specs.Ranges.{Between}
use Rattle.f64_helpers.proofs.Intervals.{between, wider, inside, sub_in, max_zero_in}
use Rattle.f64_helpers.proofs.WholeSeconds.{zero_whole}
use Rattle.f64_helpers.proofs.Times.{at_most_whole, at_most_by, decimal_whole}
use Rattle.cooling_only_controller.specs.declared.ControllerInput.{ControllerInput}
use Rattle.air_box.specs.AirBox.{within, soon_after}
use Rattle.air_box.specs.Demand1.{AllYes}
use Rattle.air_box.specs.declared.Tick.{Tick}
use Rattle.air_box.specs.declared.Refusal.TheVariants.{BeforeLast, TooLongAfterLast, TemperatureOutOfRange, Co2OutOfRange, AirflowOutOfRange}
use Rattle.air_box.proofs.Demands.{accepted_time}
use Rattle.bounds.specs.Limits.{LONGEST_STEP, COLDEST, HOTTEST, HIGHEST_CO2, HIGHEST_FLOW}
use Rattle.bounds.specs.Kept.{TimeIfPresent}
use Rattle.bounds.proofs.Timing.{Accepted}

pub record Readings (input : ControllerInput) : Type 0 where
  pub zone_temperature : Between COLDEST input.zone_temperature HOTTEST
  pub cooling_setpoint : Between COLDEST input.cooling_setpoint HOTTEST
  pub heating_setpoint : Between COLDEST input.heating_setpoint HOTTEST
  pub co2_setpoint : Between zero input.co2_setpoint HIGHEST_CO2
  pub co2_concentration : Between zero input.co2_concentration HIGHEST_CO2
  pub discharge_airflow : Between (neg HIGHEST_FLOW) input.discharge_airflow HIGHEST_FLOW

-- x lies within the ends of a question, and these within those that are wanted
asked : {low high : Float} (x a b : Float) → T (within x a b) → T (inside low a b high) → Between low x high
asked x a b h i = wider {a = a} {b = b} (between h) i

-- the first three of the five temperatures
three : (a b c d e : Bool) → T (a && b && c && d && e) → T a × T b × T c
three true true true d e h = (tt, tt, tt)
three false b c d e h = absurd h
three true false c d e h = absurd h
three true true false d e h = absurd h

pub readings_in : (last : Option Float) (k : Tick) → AllYes last k → Readings k.input
unfolding round neg le lt eq
readings_in last k all =
    let i = k.input in
    let t = three (within i.zone_temperature (decimal 150 1) (decimal 450 1)) (within i.cooling_setpoint (decimal 150 1) (decimal 450 1)) (within i.heating_setpoint (decimal 150 1) (decimal 450 1))
    (within i.discharge_air_temperature (decimal 150 1) (decimal 450 1)) (within i.supply_air_temperature (decimal 150 1) (decimal 450 1)) (all TemperatureOutOfRange) in
    let c = all Co2OutOfRange in
    record {
      zone_temperature = asked i.zone_temperature (decimal 150 1) (decimal 450 1) t.0 tt;
      cooling_setpoint = asked i.cooling_setpoint (decimal 150 1) (decimal 450 1) t.1 tt;
      heating_setpoint = asked i.heating_setpoint (decimal 150 1) (decimal 450 1) t.2 tt;
      co2_setpoint = asked i.co2_setpoint zero (decimal 10000 1) (and_l (within i.co2_setpoint zero (decimal 10000 1)) (within i.co2_concentration zero (decimal 10000 1)) c) tt;
      co2_concentration = asked i.co2_concentration zero (decimal 10000 1) (and_r (within i.co2_setpoint zero (decimal 10000 1)) (within i.co2_concentration zero (decimal 10000 1)) c) tt;
      discharge_airflow = asked i.discharge_airflow (neg (decimal 10 1)) (decimal 10 1) (all AirflowOutOfRange) tt;
    }

-- ---- times

time_in : {t : Float} → IsTime t → Between zero t (decimal 2147483648 1)
time_in {t} i = record {
  from_low = at_most_by zero t 0 (seconds t) zero_whole i.0 zero-le;
  to_high = at_most_by t (decimal 2147483648 1) (seconds t) 2147483648 i.0 (decimal_whole 2147483648 (lit≤ tt)) i.1;
}

-- a time less an earlier one, by questions 3 and 4
step_in : (previous t : Float) → IsTime previous → IsTime t → T (soon_after (Some previous) t) → Between zero (max (t ⊖ previous) zero) LONGEST_STEP
unfolding round sub neg add le lt eq
step_in previous t p i soon =
    let d : Between (neg (decimal 2147483648 1)) (t ⊖ previous) (decimal 2147483648 1) = sub_in (time_in i) (time_in p) tt in
    let e : Between (neg (decimal 2147483648 1)) (t ⊖ previous) (decimal 240 1) = record { from_low = d.from_low; to_high = soon } in
    max_zero_in e tt

none_is_some : {p : Float} → ◌≡◌ {A = Option Float} None (Some p) → ⊥
none_is_some e = cc

pub accepted : (last : Option Float) (k : Tick) → TimeIfPresent last → AllYes last k → Accepted last k.t
accepted None k i all = record { time = accepted_time None k all; not_before = zero-le; step = λ previous e. absurd (none_is_some e) }
accepted (Some previous) k i all =
    let time = accepted_time (Some previous) k all in
    record {
      time = time;
      not_before = at_most_whole previous k.t (seconds previous) (seconds k.t) i.0 time.0 (all BeforeLast);
      step = λ p e. subst (λ (q : Float). Between zero (max (k.t ⊖ q) zero) LONGEST_STEP) (same e) (step_in previous k.t i time (all TooLongAfterLast));
    }
  where
    same : {p q : Float} → ◌≡◌ {A = Option Float} (Some p) (Some q) → p ≡ q
    same e = cc
