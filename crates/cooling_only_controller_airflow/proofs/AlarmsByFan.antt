-- Which alarms the stage can give, from any state: the levels of each, and that the fan lets either the sensor alarm stand or the two others. Assumes nothing.
use mathlib.Core.Path.{◌≡◌, refl}
use mathlib.Core.Logic.{◌⊎◌, inl, inr}
use Prim.Native.Nat.{ℕ}
use mathlib.Core.Bool.{Bool, true, false, ◌&&◌}
use lib.IntN.{ℤ, pos}
use lib.Ieee.{Float}
use Rattle.std.specs.Prelude.{if◌then◌else◌}
use Rattle.f64_helpers.specs.Integers.{◌==ᶻ◌}
use Rattle.f64_helpers.proofs.Tests.{and_false}
use Rattle.box_choices.specs.declared.Choices.{Choices}
use Rattle.cooling_only_controller_timing.specs.Timing.{true_delay}
use Rattle.cooling_only_controller_timing.proofs.TrueDelayLaw.{false_gives_false}
use Rattle.cooling_only_controller_airflow.specs.Airflow.{alarms}
use Rattle.cooling_only_controller_airflow.specs.declared.AlarmInput.{AlarmInput}
use Rattle.cooling_only_controller_airflow.specs.declared.AlarmOutput.{AlarmOutput}
use Rattle.cooling_only_controller_airflow.specs.declared.AlarmsState.{AlarmsState}

-- an alarm is at its level, or none
pub level_or_none : (level : ℕ) (b : Bool) → ((if b then pos level else pos 0) ≡ pos level) ⊎ ((if b then pos level else pos 0) ≡ pos 0)
level_or_none level true = inl refl
level_or_none level false = inr refl

-- false in both readings
false_either_way : (b : Bool) → (if b then false else false) ≡ false
false_either_way true = refl
false_either_way false = refl

two_three_or_none : (a b : Bool) → let low : ℤ = if a then pos 2 else (if b then pos 3 else pos 0) in (low ≡ pos 2) ⊎ ((low ≡ pos 3) ⊎ (low ≡ pos 0))
two_three_or_none true b = inl refl
two_three_or_none false true = inr (inl refl)
two_three_or_none false false = inr (inr refl)

module _ (s : AlarmsState) (t : Float) (input : AlarmInput) (choices : Choices) where
  abbrev next : AlarmsState
  next = (alarms s t input choices).state

  abbrev given : AlarmOutput
  given = (alarms s t input choices).output

  abbrev occupied : Bool
  occupied = input.operation_mode ==ᶻ 1

  pub low_levels : (given.low_airflow ≡ pos 2) ⊎ ((given.low_airflow ≡ pos 3) ⊎ (given.low_airflow ≡ pos 0))
  unfolding alarms true_delay
  low_levels = two_three_or_none (next.low_half_delay.held && next.setpoint_on.held && occupied) (next.low_seventy_delay.held && next.setpoint_on.held && occupied)

  pub sensor_levels : (given.airflow_sensor ≡ pos 3) ⊎ (given.airflow_sensor ≡ pos 0)
  unfolding alarms true_delay
  sensor_levels = level_or_none 3 ((if choices.second_reading then next.sensor_delay.held && next.flow_high else next.sensor_delay.held) && occupied)

  pub leak_levels : (given.leaking_damper ≡ pos 4) ⊎ (given.leaking_damper ≡ pos 0)
  unfolding alarms true_delay
  leak_levels = level_or_none 4 next.leak_delay.held

  -- A delay whose input is false gives false, whatever it holds: with the fan on that is the sensor's, with the fan off the others'.
  pub sensor_with_fan_on : input.supply_fan_status ≡ true → given.airflow_sensor ≡ pos 0
  unfolding alarms
  sensor_with_fan_on e = rw (e, and_false, false_either_way, false_gives_false, false_either_way)

  pub low_with_fan_off : input.supply_fan_status ≡ false → given.low_airflow ≡ pos 0
  unfolding alarms
  low_with_fan_off e = rw (e, false_gives_false, and_false, false_gives_false, and_false, false_gives_false)

  pub leak_with_fan_off : input.supply_fan_status ≡ false → given.leaking_damper ≡ pos 0
  unfolding alarms
  leak_with_fan_off e = rw (e, false_gives_false)
