-- Document 02, N3 moved nothing else. The box as it was before, which kept nothing of its last accepted tick but the time: these are the definitions of
-- then, word for word but for the names, and they stand for this claim alone. `questions`, `controller_output` and `design_flows_within` are those of today.
use Rattle.std.specs.Prelude.{◌≡◌, List, [], ◌∷◌, map, ◌⊎◌, ℕ, Some, None, Option, Float, if◌then◌else◌, Result, Ok, Err, ⊤}
use Rattle.box_choices.specs.declared.Choices.{Choices}
use Rattle.cooling_only_controller.specs.Controller.{controller_output, fresh_controller}
use Rattle.cooling_only_controller.specs.declared.ControllerOutput.{ControllerOutput}
use Rattle.cooling_only_controller.specs.declared.ControllerState.{ControllerState}
use Rattle.air_box.specs.AirBox.{questions, tick, unticked, build, design_flows_within, outputs_or_number}
use Rattle.air_box.specs.declared.Tick.{Tick}
use Rattle.air_box.specs.declared.Refusal.{Refusal}
use Rattle.air_box.specs.declared.BuildRefusal.{BuildRefusal}
use Rattle.air_box.specs.declared.BuildRefusal.TheVariants.{DesignFlowOutOfRange}
use Rattle.air_box.specs.declared.AirBox.{AirBox}
use Rattle.nights.specs.Nights.{night_of}

-- ---- the box of then

pub record BoxBefore : Type 0 where
  pub state : ControllerState
  pub last_time : Option Float
  pub choices : Choices

pub record BoxBeforeStep : Type 0 where
  pub state : BoxBefore
  pub answer : Result ControllerOutput Refusal

abbrev pub unticked_before : Choices → BoxBefore
unticked_before choices = record { state = fresh_controller; last_time = None; choices = choices }

abbrev pub accepted_before : BoxBefore → Tick → BoxBeforeStep
accepted_before box k =
    let step = controller_output box.state k.t k.input box.choices in
    record {
      state = record { state = step.state; last_time = Some k.t; choices = box.choices };
      answer = Ok step.output;
    }

abbrev pub decided_before : Result ⊤ Refusal → BoxBefore → Tick → BoxBeforeStep
decided_before (Ok _) box k = accepted_before box k
decided_before (Err reason) box k = record { state = box; answer = Err reason }

abbrev pub tick_before : BoxBefore → Tick → BoxBeforeStep
tick_before box k = decided_before (questions box.last_time k) box k

abbrev pub build_before : Choices → Result BoxBefore BuildRefusal
build_before choices = if design_flows_within choices then Ok (unticked_before choices) else Err DesignFlowOutOfRange

-- what it gave along a night
abbrev pub given_before : BoxBefore → List Tick → List (ControllerOutput ⊎ ℕ)
given_before box [] = []
given_before box (k ∷ ks) = outputs_or_number (tick_before box k).answer ∷ given_before (tick_before box k).state ks

-- ---- what is left of a box of today without what it keeps of its last tick

abbrev pub before : AirBox → BoxBefore
before box = record { state = box.state; last_time = box.last_time; choices = box.choices }

abbrev pub built_then : Result AirBox BuildRefusal → Result BoxBefore BuildRefusal
built_then (Ok box) = Ok (before box)
built_then (Err reason) = Err reason

-- ---- the claim
pub record NothingElseMoved : Type 0 where
  -- building
  pub built : (choices : Choices) → built_then (build choices) ≡ build_before choices
  pub fresh : (choices : Choices) → before (unticked choices) ≡ unticked_before choices
  -- Every tick, of every box, whatever it holds and keeps: the same ten outputs or the same reason, and every field that there was.
  pub answer : (box : AirBox) (k : Tick) → (tick box k).answer ≡ (tick_before (before box) k).answer
  pub next : (box : AirBox) (k : Tick) → before (tick box k).state ≡ (tick_before (before box) k).state
  -- and so every night
  pub night : (choices : Choices) (ticks : List Tick) → map (λ s. s.given) (night_of choices ticks) ≡ given_before (unticked_before choices) ticks
