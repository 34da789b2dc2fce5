-- Demand 3: the claim about whole nights, on a box freshly built with a plain start, of any design flows (document 02, N13), with the first
-- reading of the alarm, which is the Rust's. SecondReading.antt has the same for either reading, of which this is a case.
-- No number is asked to lie in a range here: it holds of every two numbers that stand in a box as its design flows.
-- A night is any list of ticks, and each of its ticks stands beside what the box gave for it: outputs, if it was accepted, or a number.
use Rattle.std.specs.Prelude.{◌≡◌, ◌↔◌, ◌⊎◌, List, [], ◌∷◌, ◌++◌, ℕ, false, ℤ, pos, T, Float}
use Rattle.std.proofs.Common.{inl, inr}
use Rattle.std.specs.Float.Ieee.{eq}
use Rattle.f64_helpers.specs.F64.{◌⊗◌, ◌≤ᶠ◌, decimal}
use Rattle.box_choices.specs.BoxChoices.{chosen}
use Rattle.box_choices.specs.declared.Choices.{Choices}
use Rattle.cdl_recurrences.specs.DeadBand.{Related}
use Rattle.cooling_only_controller.specs.declared.ControllerOutput.{ControllerOutput}
use Rattle.air_box.specs.AirBox.{refusal_number}
use Rattle.air_box.specs.Demand1.{AllYes, FirstNo}
use Rattle.air_box.specs.declared.Tick.{Tick}
use Rattle.air_box.specs.declared.Refusal.{Refusal}
use Rattle.nights.specs.Nights.{
  NightStep,
  night_of,
  Along,
  last_time,
  Shown,
  shown,
  flow,
  fan,
  mode,
  FlowHigh,
  flow_high_stepped,
  HighFanOff,
  HeldFor,
}

-- ---- the flow-high rule

-- H of a box, as an f64 operation on its cooling maximum
abbrev pub H : Choices → Float
H choices = decimal 1 10 ⊗ choices.design_cooling_maximum_flow

-- The rule over a history agrees with what `greater_hysteretic` does step by step, from a fresh memory.
abbrev pub FlowHighRule : Choices → Type 0
FlowHighRule choices = (ks : List Tick) → T (flow_high_stepped (H choices) false ks) ↔ FlowHigh (H choices) ks

-- ---- every night, exactly

-- The alarm at k is 3 exactly if the mode there is 1 and flow has been high with the fan off at every accepted tick
-- from one at least 600 seconds back, or, in a plain start, from the very first, up to k. Else it is 0.
pub record ExactAlarm (choices : Choices) (earlier : List Tick) (k : Tick) (alarm : ℤ) : Type 0 where
  pub three : (alarm ≡ pos 3) ↔ ((mode k ≡ pos 1) × HeldFor (HighFanOff (H choices)) 600 choices.quiet (earlier ++ (k ∷ [])) k)
  pub else_none : (alarm ≡ pos 3) ⊎ (alarm ≡ pos 0)

-- What is given for the tick k is right: outputs only if no question gets a "no" after the last accepted time,
-- and then their alarm is exact; a number only if it is that of the first "no".
abbrev pub ExactGiven : Choices → List Tick → Tick → ControllerOutput ⊎ ℕ → Type 0
ExactGiven choices earlier k (inl output) = AllYes (last_time earlier) k × ExactAlarm choices earlier k output.airflow_sensor_alarm
ExactGiven choices earlier k (inr number) = (reason : Refusal) × FirstNo reason (last_time earlier) k × (number ≡ refusal_number reason)

-- At every tick of every night what is given is right.
abbrev pub EveryNightExactly : Choices → Type 0
EveryNightExactly choices =
    (night : List Tick)
    → Along (λ (earlier : List Tick) (s : NightStep). ExactGiven choices earlier s.ticked s.given) [] (night_of choices night)

-- ---- two nights

-- Accepted ticks at equal times, as numbers, with equal modes.
-- The second's flow is not lower, and its fan is not on where the first's is off.
pub record NoWeaker (j k : Tick) : Type 0 where
  pub times : T (eq j.t k.t)
  pub modes : mode j ≡ mode k
  pub flows : T (flow j ≤ᶠ flow k)
  pub fans : T (fan k) → T (fan j)

-- where the first shows alarm 3, the second does
abbrev pub ThreeIfThree : ControllerOutput → ControllerOutput → Type 0
ThreeIfThree a b = a.airflow_sensor_alarm ≡ pos 3 → b.airflow_sensor_alarm ≡ pos 3

-- For every two nights of two boxes, whose accepted ticks are equally many and so related, first with first:
-- the second shows alarm 3 wherever the first does. Refused ticks may differ in number and place.
abbrev pub TwoNights : Choices → Choices → Type 0
TwoNights one other =
    (first second : List Tick)
    → Related (λ (a b : Shown). NoWeaker a.ticked b.ticked) (shown (night_of one first)) (shown (night_of other second))
    → Related (λ (a b : Shown). ThreeIfThree a.output b.output) (shown (night_of one first)) (shown (night_of other second))

-- ---- demand 3

-- a plain start with these design flows, and the Rust's reading of the alarm
abbrev pub plain : Float → Float → Choices
plain minimum maximum = chosen false minimum maximum false

pub record Demand3 : Type 0 where
  pub flow_high_rule : (minimum maximum : Float) → FlowHighRule (plain minimum maximum)
  pub every_night_exactly : (minimum maximum : Float) → EveryNightExactly (plain minimum maximum)
  -- of boxes with equal design flows: equal maxima are enough
  pub two_nights : (minimum other_minimum maximum : Float) → TwoNights (plain minimum maximum) (plain other_minimum maximum)
