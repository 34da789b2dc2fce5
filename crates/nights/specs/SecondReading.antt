-- Document 02, N12: the guideline's own sensor alarm, as a second reading that is chosen when a box is built. The first reading is the Rust's.
-- The method `AirBox::tick` is proved to return `tick`, by which every night here is run. That the choice is taken as it comes and stays with the
-- box is said of all choices in OtherSizes.antt (`built`, `without_naming`, `Kept`), and that the sensor alarm stands with neither of the others of
-- every box, so of both readings, in LeakFirst.antt (`sensor_alone`).
use Rattle.std.specs.Prelude.{◌≡◌, ◌↔◌, ◌⊎◌, List, [], ◌∷◌, ◌++◌, map, ℕ, Bool, true, false, not, ℤ, pos, T, Float}
use Rattle.std.proofs.Common.{inl, inr}
use Rattle.f64_helpers.specs.F64.{decimal, zero}
use Rattle.box_choices.specs.BoxChoices.{chosen}
use Rattle.box_choices.specs.declared.Choices.{Choices}
use Rattle.cdl_recurrences.specs.DeadBand.{Related}
use Rattle.cooling_only_controller_airflow.specs.Airflow.{alarms}
use Rattle.cooling_only_controller_airflow.specs.declared.AlarmInput.{AlarmInput}
use Rattle.cooling_only_controller_airflow.specs.declared.AlarmsState.{AlarmsState}
use Rattle.cooling_only_controller.specs.declared.ControllerOutput.{ControllerOutput}
use Rattle.air_box.specs.AirBox.{unticked, tick}
use Rattle.air_box.specs.BenchTick.{bench_tick}
use Rattle.air_box.specs.Demand1.{AllYes}
use Rattle.air_box.specs.declared.Tick.{Tick}
use Rattle.air_box.specs.declared.AirBox.{AirBox}
use Rattle.nights.specs.Nights.{NightStep, night_of, Along, last_time, Shown, shown, fan, mode, FlowHigh, HeldFor}
use Rattle.nights.specs.Demand3.{H, FlowHighRule, ExactAlarm, ExactGiven, ThreeIfThree, TwoNights, plain}
use Rattle.nights.specs.AlarmsStage.{tick_with}
use Rattle.nights.specs.OneReading.{one_reading_alarms}
use Rattle.nights.specs.ButThatAlarm.{box_but, step_but, night_step_but}

-- ---- the first reading is untouched: every tick of such a box, whatever it holds, is what it was

pub record FirstUntouched : Type 0 where
  pub stage : (s : AlarmsState) (t : Float) (input : AlarmInput) (choices : Choices) → choices.second_reading ≡ false
      → alarms s t input choices ≡ one_reading_alarms s t input choices
  pub every_tick : (box : AirBox) (k : Tick) → box.choices.second_reading ≡ false → tick box k ≡ tick_with one_reading_alarms box k

-- ---- the second reading is equal to the first but for that alarm and its delay

-- What `step_but`, `box_but` and `night_step_but` (ButThatAlarm.antt) leave out: the alarm, its delay and the choice of its reading, and nothing else.
pub record EqualButThatAlarm : Type 0 where
  -- Of any two boxes that agree but there, as one with the second reading and one with the first may: every tick gives both the same answer, nine
  -- outputs or the reason, and leaves them agreeing.
  pub every_tick : (second first : AirBox) (k : Tick) → box_but second ≡ box_but first → step_but (tick second k) ≡ step_but (tick first k)
  -- two that are built alike but for the reading agree
  pub built_alike : (quiet : Bool) (minimum maximum : Float)
      → box_but (unticked (chosen quiet minimum maximum true)) ≡ box_but (unticked (chosen quiet minimum maximum false))
  -- so over every night all else is the same
  pub every_night : (quiet : Bool) (minimum maximum : Float) (night : List Tick)
      → map night_step_but (night_of (chosen quiet minimum maximum true) night)
      ≡ map night_step_but (night_of (chosen quiet minimum maximum false) night)

-- ---- demand 3 for either reading, from either start

-- at the accepted tick k, before which those of `earlier` were accepted, the fan is off
abbrev pub FanOff : List Tick → Tick → Type 0
FanOff earlier k = T (not (fan k))

-- The second reading: the alarm at k is 3 exactly if the mode there is 1, flow is high there, and the fan has been off at every accepted tick
-- from one at least 600 seconds back, or, in a plain start, from the very first, up to k. Else it is 0.
pub record SecondExactAlarm (choices : Choices) (earlier : List Tick) (k : Tick) (alarm : ℤ) : Type 0 where
  pub three : (alarm ≡ pos 3)
      ↔ ((mode k ≡ pos 1) × FlowHigh (H choices) (earlier ++ (k ∷ [])) × HeldFor FanOff 600 choices.quiet (earlier ++ (k ∷ [])) k)
  pub else_none : (alarm ≡ pos 3) ⊎ (alarm ≡ pos 0)

-- the exact condition, by whether the reading is the second; that of the first stands in Demand3.antt
abbrev pub ExactAlarmBy : Bool → Choices → List Tick → Tick → ℤ → Type 0
ExactAlarmBy false choices earlier k alarm = ExactAlarm choices earlier k alarm
ExactAlarmBy true choices earlier k alarm = SecondExactAlarm choices earlier k alarm

-- as `ExactGiven`, with the condition of the box's reading
abbrev pub ExactGivenBy : Choices → List Tick → Tick → ControllerOutput ⊎ ℕ → Type 0
ExactGivenBy choices earlier k (inl output) =
    AllYes (last_time earlier) k × ExactAlarmBy choices.second_reading choices earlier k output.airflow_sensor_alarm
ExactGivenBy choices earlier k (inr number) = ExactGiven choices earlier k (inr number)

pub record EitherReading : Type 0 where
  pub flow_high_rule : (choices : Choices) → FlowHighRule choices
  -- at every tick of every night of every box what is given is right
  pub every_night_exactly : (choices : Choices) (night : List Tick)
      → Along (λ (earlier : List Tick) (s : NightStep). ExactGivenBy choices earlier s.ticked s.given) [] (night_of choices night)
  -- two nights of boxes with one reading, one start and equal cooling maxima
  pub two_nights : (quiet second_reading : Bool) (minimum other_minimum maximum : Float)
      → TwoNights (chosen quiet minimum maximum second_reading) (chosen quiet other_minimum maximum second_reading)

-- ---- wherever the first reading raises the alarm, the second does as well

-- both accept the tick, and the second shows alarm 3 if the first does; or both give the same number
abbrev pub SecondToo : ControllerOutput ⊎ ℕ → ControllerOutput ⊎ ℕ → Type 0
SecondToo (inl first) (inl second) = ThreeIfThree first second
SecondToo (inl first) (inr number) = ⊥
SecondToo (inr number) (inl second) = ⊥
SecondToo (inr number) (inr second_number) = number ≡ second_number

-- at every tick of every night, refused ones among them, of two boxes that are built alike but for the reading
abbrev pub FirstImpliesSecond : Type 0
FirstImpliesSecond = (quiet : Bool) (minimum maximum : Float) (night : List Tick)
    → Related (λ (a b : NightStep). SecondToo a.given b.given)
    (night_of (chosen quiet minimum maximum false) night) (night_of (chosen quiet minimum maximum true) night)

-- ---- the smallest night that tells the two apart: two ticks with the fan off, and flow at the second alone

abbrev pub flow_comes : List Tick
flow_comes = bench_tick zero (pos 0) (pos 0) false ∷ bench_tick (decimal 2 10) (pos 0) (pos 0) false ∷ []

-- the sensor alarm at each accepted tick of a box of the usual design flows
abbrev pub alarms_along : Bool → Bool → List Tick → List ℤ
alarms_along quiet second_reading night =
    map (λ (s : Shown). s.output.airflow_sensor_alarm)
    (shown (night_of (chosen quiet (decimal 5 10) (decimal 15 10) second_reading) night))

pub record Apart : Type 0 where
  pub first : alarms_along false false flow_comes ≡ pos 0 ∷ pos 0 ∷ []
  pub second : alarms_along false true flow_comes ≡ pos 0 ∷ pos 3 ∷ []
  -- with a quiet start the second waits too
  pub quiet_second : alarms_along true true flow_comes ≡ pos 0 ∷ pos 0 ∷ []

-- ---- N12
pub record SecondReading : Type 0 where
  pub first_untouched : FirstUntouched
  pub equal_but_that_alarm : EqualButThatAlarm
  pub either_reading : EitherReading
  -- Demand 3, as it stands in Demand3.antt, is the case of a plain start and the first reading: what is given is right by the one exactly if it is
  -- by the other, and its two nights are those of `either_reading` there.
  pub demand_3_is_a_case : (minimum maximum : Float) (earlier : List Tick) (k : Tick) (given : ControllerOutput ⊎ ℕ)
      → ExactGivenBy (plain minimum maximum) earlier k given ↔ ExactGiven (plain minimum maximum) earlier k given
  pub first_implies_second : FirstImpliesSecond
  pub apart : Apart
