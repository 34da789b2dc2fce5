-- The air box of document 01: the Rust's state with the last accepted time, what was chosen when it was built and what it keeps of its last
-- accepted tick (document 02, N3) beside it,
-- the questions asked of a tick, the quiet start, building (document 02, N13) and the desk code.
use Rattle.std.specs.Prelude.{Some, None, Option, ℕ, Bool, true, false, not, ◌&&◌, ◌⊎◌, ℤ, Float, if◌then◌else◌, Result, Ok, Err, ⊤}
use Rattle.std.proofs.Common.{inl, inr}
use Rattle.std.specs.Float.Ieee.{neg}
use Rattle.f64_helpers.specs.F64.{◌⊖◌, ◌⊗◌, ◌≤ᶠ◌, ◌≥ᶠ◌, decimal, zero}
use Rattle.f64_helpers.specs.Helpers.{is_whole}
use Rattle.f64_helpers.specs.Integers.{◌==ᶻ◌}
use Rattle.box_choices.specs.BoxChoices.{usual}
use Rattle.box_choices.specs.declared.Choices.{Choices}
use Rattle.cdl_recurrences.specs.CdlRecurrences.{greater_hysteretic, less_hysteretic, decided_by_memory}
use Rattle.cooling_only_controller_timing.specs.declared.Step.{Step}
use Rattle.cooling_only_controller_airflow.specs.Airflow.{FLOW_HYSTERESIS, DAMPER_POSITION_HYSTERESIS}
use Rattle.cooling_only_controller_airflow.specs.declared.AlarmsState.{AlarmsState}
use Rattle.cooling_only_controller.specs.Controller.{controller_output, fresh_controller}
use Rattle.cooling_only_controller.specs.declared.ControllerInput.{ControllerInput}
use Rattle.cooling_only_controller.specs.declared.ControllerOutput.{ControllerOutput}
use Rattle.cooling_only_controller.specs.declared.ControllerState.{ControllerState}
use Rattle.air_box.specs.declared.Tick.{Tick}
use Rattle.air_box.specs.declared.Start.{Start}
use Rattle.air_box.specs.declared.Start.TheVariants.{Plain, Quiet}
use Rattle.air_box.specs.declared.LastTick.{LastTick}
use Rattle.air_box.specs.declared.AirBox.{AirBox}
use Rattle.air_box.specs.declared.AirBoxStep.{AirBoxStep}
use Rattle.air_box.specs.declared.BuildRefusal.{BuildRefusal}
use Rattle.air_box.specs.declared.BuildRefusal.TheVariants.{DesignFlowOutOfRange}
use Rattle.air_box.specs.declared.Refusal.{Refusal}
use Rattle.air_box.specs.declared.Refusal.TheVariants.{
  NotWholeSeconds,
  TimeOutOfRange,
  BeforeLast,
  TooLongAfterLast,
  TemperatureOutOfRange,
  Co2OutOfRange,
  AirflowOutOfRange,
}

-- ---- document 01, 'Questions asked of a tick'

-- the number of each reason: document 01's 1 to 7
abbrev pub refusal_number : Refusal → ℕ
refusal_number NotWholeSeconds = 1
refusal_number TimeOutOfRange = 2
refusal_number BeforeLast = 3
refusal_number TooLongAfterLast = 4
refusal_number TemperatureOutOfRange = 5
refusal_number Co2OutOfRange = 6
refusal_number AirflowOutOfRange = 7

-- What an answer is in document 01's words: the ten outputs, or the number.
abbrev pub outputs_or_number : Result ControllerOutput Refusal → ControllerOutput ⊎ ℕ
outputs_or_number (Ok output) = inl output
outputs_or_number (Err reason) = inr (refusal_number reason)

-- from low to high, the ends included; a NaN is not
abbrev pub within : Float → Float → Float → Bool
within x low high = (x ≥ᶠ low) && (x ≤ᶠ high)

-- Questions 3 and 4. They are not asked on a first tick.
abbrev pub at_or_after : Option Float → Float → Bool
at_or_after None t = true
at_or_after (Some last) t = t ≥ᶠ last

abbrev pub soon_after : Option Float → Float → Bool
soon_after None t = true
soon_after (Some last) t = t ⊖ last ≤ᶠ decimal 240 1

-- question 5
abbrev pub temperatures_within : ControllerInput → Bool
temperatures_within input =
    within input.zone_temperature (decimal 150 1) (decimal 450 1)
    && within input.cooling_setpoint (decimal 150 1) (decimal 450 1)
    && within input.heating_setpoint (decimal 150 1) (decimal 450 1)
    && within input.discharge_air_temperature (decimal 150 1) (decimal 450 1)
    && within input.supply_air_temperature (decimal 150 1) (decimal 450 1)

-- Each of the seven questions under the reason that its "no" gives: whether the tick k gets a "yes", after the last accepted time `last`.
abbrev pub yes : Refusal → Option Float → Tick → Bool
yes NotWholeSeconds last k = is_whole k.t
yes TimeOutOfRange last k = within k.t zero (decimal 2147483648 1)
yes BeforeLast last k = at_or_after last k.t
yes TooLongAfterLast last k = soon_after last k.t
yes TemperatureOutOfRange last k = temperatures_within k.input
yes Co2OutOfRange last k =
    within k.input.co2_setpoint zero (decimal 10000 1) && within k.input.co2_concentration zero (decimal 10000 1)
yes AirflowOutOfRange last k = within k.input.discharge_airflow (neg (decimal 10 1)) (decimal 10 1)

-- The seven questions in their order. The first "no" is the reason.
unfoldable pub questions : Option Float → Tick → Result ⊤ Refusal
questions last k =
    if not (yes NotWholeSeconds last k) then Err NotWholeSeconds
    else (if not (yes TimeOutOfRange last k) then Err TimeOutOfRange
    else (if not (yes BeforeLast last k) then Err BeforeLast
    else (if not (yes TooLongAfterLast last k) then Err TooLongAfterLast
    else (if not (yes TemperatureOutOfRange last k) then Err TemperatureOutOfRange
    else (if not (yes Co2OutOfRange last k) then Err Co2OutOfRange
    else (if not (yes AirflowOutOfRange last k) then Err AirflowOutOfRange
    else Ok tt))))))

-- ---- the box

-- Document 01, 'Quiet start', as document 02, N4 has it: eight true delays run with delay_on_init true, the three of system requests and
-- all of alarms but the fan's arming.
abbrev pub delay_on_init : Start → Bool
delay_on_init Plain = false
delay_on_init Quiet = true

-- a box that has had no tick
abbrev pub unticked : Choices → AirBox
unticked choices = record { state = fresh_controller; last_time = None; choices = choices; last_tick = None }

-- the one that is built without naming design flows or a reading
abbrev pub fresh_box : Start → AirBox
fresh_box start = unticked (usual (delay_on_init start))

-- What it keeps of a tick that it accepts (document 02, N3), for the reasons of NoAlarm.antt: the mode, the fan, and N2's answer for the dead band
-- of the flow and for that of the damper. The comparisons are those of the alarms stage, `flow_high` and `damper_closed`, at the memories that
-- the tick met; which that is makes no difference to whether it decided. The damper's position is its command after the override.
abbrev pub last_tick : AlarmsState → ControllerInput → Float → Choices → LastTick
last_tick memories input damper_command choices =
    let flow_high = greater_hysteretic input.discharge_airflow (decimal 1 10 ⊗ choices.design_cooling_maximum_flow) FLOW_HYSTERESIS in
    let damper_closed = less_hysteretic damper_command DAMPER_POSITION_HYSTERESIS (decimal 5 10 ⊗ DAMPER_POSITION_HYSTERESIS) in
    record {
      mode = input.operating_mode;
      fan = input.supply_fan_status;
      flow_by_memory = decided_by_memory flow_high memories.flow_high;
      damper_by_memory = decided_by_memory damper_closed memories.damper_closed;
    }

-- A tick that every question lets pass, by the controller's step for it: the controller's outputs and next state, its time becomes the last accepted
-- one, and the box keeps of it what the reasons need.
abbrev pub stepped : AirBox → Tick → Step ControllerState ControllerOutput → AirBoxStep
stepped box k step =
    record {
      state = record {
        state = step.state;
        last_time = Some k.t;
        choices = box.choices;
        last_tick = Some (last_tick box.state.alarms k.input step.output.damper_command box.choices);
      };
      answer = Ok step.output;
    }

unfoldable pub accepted_tick : AirBox → Tick → AirBoxStep
accepted_tick box k = stepped box k (controller_output box.state k.t k.input box.choices)

-- A refused tick gives the reason, and the box is the old one.
abbrev pub decided : Result ⊤ Refusal → AirBox → Tick → AirBoxStep
decided (Ok _) box k = accepted_tick box k
decided (Err reason) box k = record { state = box; answer = Err reason }

unfoldable pub tick : AirBox → Tick → AirBoxStep
tick box k = decided (questions box.last_time k) box k

-- what the box gives for the tick: the ten outputs, or the number
abbrev pub given_for : AirBox → Tick → ControllerOutput ⊎ ℕ
given_for box k = outputs_or_number (tick box k).answer

-- ---- document 02, N13 and N12: building a box with design flows and a reading of its own; no reading is refused

-- the cooling maximum from 0.1 to 10.0, and the minimum from 0.0 to the cooling maximum
abbrev pub design_flows_within : Choices → Bool
design_flows_within choices =
    within choices.design_cooling_maximum_flow (decimal 1 10) (decimal 10 1)
    && within choices.design_minimum_flow zero choices.design_cooling_maximum_flow

unfoldable pub build : Choices → Result AirBox BuildRefusal
build choices = if design_flows_within choices then Ok (unticked choices) else Err DesignFlowOutOfRange

-- the number of the reason
abbrev pub build_refusal_number : BuildRefusal → ℕ
build_refusal_number DesignFlowOutOfRange = 8

abbrev pub built_number : Result AirBox BuildRefusal → ℕ
built_number (Ok box) = 0
built_number (Err reason) = build_refusal_number reason

-- What building gives in document 02's words: the box, or the number.
abbrev pub box_or_number : Result AirBox BuildRefusal → AirBox ⊎ ℕ
box_or_number (Ok box) = inl box
box_or_number (Err reason) = inr (build_refusal_number reason)

-- ---- document 01, 'Desk code', in the order of document 02, N7: the leak comes first

unfoldable pub desk_code : ℤ → ℤ → ℤ → ℕ
desk_code low_airflow airflow_sensor leaking_damper =
    if leaking_damper ==ᶻ 4 then 34
    else (if low_airflow ==ᶻ 2 then 12
    else (if low_airflow ==ᶻ 3 then 13
    else (if airflow_sensor ==ᶻ 3 then 23
    else 0)))
