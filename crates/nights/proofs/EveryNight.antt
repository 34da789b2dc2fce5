-- Every night, exactly, in either reading and from either start: what is given for each tick is right. By the induction along a night and the law of a condition that has held for a delay. Assumes nothing.
use mathlib.Core.Path.{◌≡◌, refl}
use mathlib.Core.Logic.Iff
use mathlib.Core.Logic.{◌↔◌, ◌⊎◌}
use mathlib.Core.List.{List, [], ◌∷◌}
use mathlib.Core.Bool.{Bool, true, false, ◌&&◌}
use lib.IntN.{ℤ, pos}
use lib.Dec.{T}
use lib.Ieee.Fits.{and_i, and_l, and_r}
use Rattle.f64_helpers.specs.F64.{decimal}
use Rattle.box_choices.specs.declared.Choices.{Choices}
use Rattle.air_box.specs.declared.Tick.{Tick}
use Rattle.nights.specs.Nights.{NightStep, mode, night_of, Along, FlowHigh, HighFanOff, HeldFor}
use Rattle.nights.specs.Demand3.{H}
use Rattle.nights.specs.SecondReading.{FanOff, ExactAlarmBy, ExactGivenBy}
use Rattle.nights.proofs.Histories.{in_order, last_in_order}
use Rattle.nights.proofs.AcceptedTicks.{AllAccepted}
use Rattle.nights.proofs.Grown.{along}
use Rattle.nights.proofs.FlowHighRule.{high_after, high_law, H_held}
use Rattle.nights.proofs.Conditions.{held_for_law}
use Rattle.nights.proofs.SensorAlarm.{high_fan_off, high_fan_off_means, fan_off, sensor_held, on_after, delay_reached, alarm_is_three, alarm_three_or_none}

both : (a b : Bool) → T (a && b) ↔ (T b × T a)
both a b = (λ t. (and_r a b t, and_l a b t), λ p. and_i a b p.1 p.0)

-- by the reading: what makes the alarm 3 is its exact condition
module _ (choices : Choices) (h : List Tick) (k : Tick) (a : AllAccepted (k ∷ h)) where
  abbrev held : (List Tick → Bool) → Bool
  held input = sensor_held choices.quiet input (k ∷ h)

  first_held : T (held (high_fan_off (H choices))) ↔ HeldFor (HighFanOff (H choices)) 600 choices.quiet (in_order (k ∷ h)) k
  first_held = held_for_law (high_fan_off (H choices)) (HighFanOff (H choices)) (high_fan_off_means (H choices) (H_held choices)) 600 choices.quiet (decimal 600 1) delay_reached h k a

  second_held : T (held fan_off) ↔ HeldFor FanOff 600 choices.quiet (in_order (k ∷ h)) k
  second_held = held_for_law fan_off FanOff (λ h k. Iff.rfl) 600 choices.quiet (decimal 600 1) delay_reached h k a

  second_on : T (held fan_off && high_after (H choices) (k ∷ h)) ↔ (FlowHigh (H choices) (in_order (k ∷ h)) × HeldFor FanOff 600 choices.quiet (in_order (k ∷ h)) k)
  second_on = Iff.trans (both (held fan_off) (high_after (H choices) (k ∷ h))) (Iff.and (high_law (H choices) (H_held choices) (k ∷ h)) second_held)

  exact_by : (second : Bool) (alarm : ℤ) → (alarm ≡ pos 3) ↔ ((mode k ≡ pos 1) × T (on_after second choices.quiet (H choices) (k ∷ h)))
      → (alarm ≡ pos 3) ⊎ (alarm ≡ pos 0) → ExactAlarmBy second choices (in_order h) k alarm
  exact_by false alarm three none = record { three = Iff.trans three (Iff.and Iff.rfl first_held); else_none = none }
  exact_by true alarm three none =
      record {
        three = Iff.trans three (
          λ p. let on = second_on.0 p.1 in (p.0, on.0, on.1),
          λ p. (p.0, second_on.1 (p.1, p.2)),
        );
        else_none = none;
      }

pub every_night_exactly : (choices : Choices) (night : List Tick)
    → Along (λ (earlier : List Tick) (s : NightStep). ExactGivenBy choices earlier s.ticked s.given) [] (night_of choices night)
every_night_exactly choices night =
    along choices (λ (earlier : List Tick) (s : NightStep). ExactGivenBy choices earlier s.ticked s.given)
    (λ h k a. (rw (last_in_order h) a.0, exact_by choices h k a choices.second_reading _ (alarm_is_three choices h k) (alarm_three_or_none choices h k)))
    (λ h k reason a first. (reason, rw (last_in_order h) first, refl))
    [] night tt
