-- N12. The first reading is the definition of before; the two readings differ in the alarm, its delay and the choice alone; where flow has been high with the fan off for the delay, the fan has been off for it and flow is high. Assumes nothing.
use mathlib.Core.Path.{◌≡◌, refl, sym, ap, ◌∙◌}
use mathlib.Core.List.{List, [], ◌∷◌, map}
use mathlib.Core.Bool.{Bool, true, false}
use lib.Dec.{T}
use lib.Ieee.{Float, round, neg, sub, add, mul, lt, le, eq, is_nan}
use lib.Ieee.Fits.{and_i, and_l, and_r}
use Rattle.std.specs.Prelude.{Result, Ok, Err, ⊤}
use Rattle.f64_helpers.specs.F64.{decimal}
use Rattle.f64_helpers.specs.Helpers.{max}
use Rattle.box_choices.specs.BoxChoices.{chosen}
use Rattle.box_choices.specs.declared.Choices.{Choices}
use Rattle.cdl_recurrences.specs.CdlRecurrences.{true_delay_output, greater_hysteretic}
use Rattle.cdl_recurrences.specs.DeadBand.{Related}
use Rattle.cooling_only_controller_timing.specs.Timing.{true_delay}
use Rattle.cooling_only_controller_conditioning.specs.Conditioning.{setpoints, active_airflow}
use Rattle.cooling_only_controller_airflow.specs.Airflow.{damper, system_requests, alarms}
use Rattle.cooling_only_controller_airflow.specs.declared.AlarmInput.{AlarmInput}
use Rattle.cooling_only_controller_airflow.specs.declared.AlarmsState.{AlarmsState}
use Rattle.cooling_only_controller.specs.Controller.{controller_output}
use Rattle.cooling_only_controller.specs.declared.ControllerOutput.{ControllerOutput}
use Rattle.air_box.specs.AirBox.{questions, unticked, decided, accepted_tick, tick, outputs_or_number}
use Rattle.air_box.specs.declared.Tick.{Tick}
use Rattle.air_box.specs.declared.AirBox.{AirBox}
use Rattle.air_box.specs.declared.AirBoxStep.{AirBoxStep}
use Rattle.air_box.specs.declared.Refusal.{Refusal}
use Rattle.nights.specs.Nights.{NightStep, steps}
use Rattle.nights.specs.Demand3.{H}
use Rattle.nights.specs.AlarmsStage.{accepted_with, decided_with, tick_with}
use Rattle.nights.specs.OneReading.{one_reading_alarms}
use Rattle.nights.specs.ButThatAlarm.{box_but, answer_but, step_but, given_but, night_step_but}
use Rattle.nights.specs.SecondReading.{FirstUntouched, EqualButThatAlarm, SecondToo, FirstImpliesSecond, Apart, SecondReading}
use Rattle.nights.proofs.AcceptedTicks.{AllAccepted}
use Rattle.nights.proofs.Conditions.{held_since_law, held_by_both}
use Rattle.nights.proofs.Grown.{grown, step_by, grows, along_two}
use Rattle.nights.proofs.FlowHighRule.{high_after}
use Rattle.nights.proofs.SensorAlarm.{high_fan_off, fan_off, sensor_held, sensor_on_after, delay_reached, alarm_is_three}
use Rattle.nights.proofs.Demand3.{either_reading, demand_3_is_a_case}

-- ---- the first reading is untouched

stage_untouched : (s : AlarmsState) (t : Float) (input : AlarmInput) (choices : Choices) → choices.second_reading ≡ false → alarms s t input choices ≡ one_reading_alarms s t input choices
unfolding alarms one_reading_alarms
stage_untouched s t input choices first = rw first

decided_untouched : (v : Result ⊤ Refusal) (box : AirBox) (k : Tick) → box.choices.second_reading ≡ false → decided v box k ≡ decided_with one_reading_alarms v box k
unfolding accepted_tick accepted_with controller_output
decided_untouched (Ok _) box k first = rw (stage_untouched _ k.t _ box.choices first)
decided_untouched (Err reason) box k first = refl

first_untouched : FirstUntouched
unfolding tick tick_with
first_untouched = record { stage = stage_untouched; every_tick = λ box k. decided_untouched (questions box.last_time k) box k }

-- ---- the second is equal but for the alarm and its delay

-- a tick of what is left of a box leaves the same
decided_but : (v : Result ⊤ Refusal) (box : AirBox) (k : Tick) → step_but (decided v (box_but box) k) ≡ step_but (decided v box k)
unfolding accepted_tick controller_output setpoints active_airflow damper system_requests alarms
decided_but (Ok _) box k = refl
decided_but (Err reason) box k = refl

tick_but : (box : AirBox) (k : Tick) → step_but (tick (box_but box) k) ≡ step_but (tick box k)
unfolding tick
tick_but box k = decided_but (questions box.last_time k) box k

every_tick : (second first : AirBox) (k : Tick) → box_but second ≡ box_but first → step_but (tick second k) ≡ step_but (tick first k)
every_tick second first k same = sym (tick_but second k) ∙ ap (λ (box : AirBox). step_but (tick box k)) same ∙ tick_but first k

-- ---- and so along a night

given_is : (a : Result ControllerOutput Refusal) → given_but (outputs_or_number a) ≡ outputs_or_number (answer_but a)
given_is (Ok output) = refl
given_is (Err reason) = refl

nights_but : (second first : AirBox) (ks : List Tick) → box_but second ≡ box_but first → map night_step_but (steps second ks) ≡ map night_step_but (steps first ks)
nights_but second first [] same = refl
nights_but second first (k ∷ ks) same =
    let alike = every_tick second first k same in
    let after : List NightStep = map night_step_but (steps (tick first k).state ks) in
    rw (given_is, given_is)
    (ap (λ (l : List NightStep). step_by k (step_but (tick second k)) ∷ l) (nights_but (tick second k).state (tick first k).state ks (ap (λ (s : AirBoxStep). s.state) alike))
    ∙ ap (λ (s : AirBoxStep). step_by k s ∷ after) alike)

equal_but_that_alarm : EqualButThatAlarm
equal_but_that_alarm = record {
  every_tick = every_tick;
  built_alike = λ quiet minimum maximum. refl;
  every_night = λ quiet minimum maximum night. nights_but (unticked (chosen quiet minimum maximum true)) (unticked (chosen quiet minimum maximum false)) night refl;
}

-- ---- wherever the first raises the alarm, the second does

module _ (quiet : Bool) (minimum maximum : Float) where
  abbrev one : Choices
  one = chosen quiet minimum maximum false

  abbrev other : Choices
  other = chosen quiet minimum maximum true

  on_too : (h : List Tick) (k : Tick) → AllAccepted (k ∷ h) → T (sensor_on_after one (k ∷ h)) → T (sensor_on_after other (k ∷ h))
  on_too h k a t =
      let limit = H one in
      let high = high_after limit (k ∷ h) in
      let off : (h : List Tick) (k : Tick) → AllAccepted (k ∷ h) → T (high_fan_off limit (k ∷ h)) → T (high_fan_off limit (k ∷ h)) → T (fan_off (k ∷ h)) =
      λ h k a u v. and_r (high_after limit (k ∷ h)) (fan_off (k ∷ h)) u in
      and_i (sensor_held quiet fan_off (k ∷ h)) high
      (held_by_both (decimal 600 1) 600 delay_reached quiet (high_fan_off limit) (high_fan_off limit) fan_off off h k a t t)
      (and_l high (fan_off (k ∷ h)) ((held_since_law (decimal 600 1) 600 delay_reached quiet (high_fan_off limit) h k a).0 t).0)

  abbrev Too : NightStep → NightStep → Type 0
  Too a b = SecondToo a.given b.given

  second_too : (night : List Tick) → Related Too (steps (grown one []) night) (steps (grown other []) night)
  unfolding accepted_tick
  second_too night =
      along_two tick tick (grown one) (grown other) (λ h k. accepted_tick (grown one h) k) (λ h k. accepted_tick (grown other h) k) (grows one) (grows other) Too
      (λ h k a e. let f = (alarm_is_three one h k).0 e in (alarm_is_three other h k).1 (f.0, on_too h k a f.1))
      (λ h k reason. refl)
      [] night tt

first_implies_second : FirstImpliesSecond
first_implies_second quiet minimum maximum night = second_too quiet minimum maximum night

-- ---- two ticks tell them apart

apart : Apart
unfolding questions accepted_tick tick controller_output alarms true_delay true_delay_output greater_hysteretic max round neg sub add mul lt le eq is_nan
apart = record { first = refl; second = refl; quiet_second = refl }

pub second_reading : SecondReading
second_reading = record {
  first_untouched = first_untouched;
  equal_but_that_alarm = equal_but_that_alarm;
  either_reading = either_reading;
  demand_3_is_a_case = demand_3_is_a_case;
  first_implies_second = first_implies_second;
  apart = apart;
}
