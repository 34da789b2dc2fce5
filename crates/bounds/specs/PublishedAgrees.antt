-- Document 02, N8, of demand 2: on every tick of a box grown from a start the published helpers give what document 01's give.
-- `published max min` are the published `clamp`, `hysteresis` and `sample_index`, over any `max` and `min` that Rust allows (PublishedHelpers.antt);
-- `controller_output_over` is the controller over some form of the helpers (PublishedController.antt).
use Rattle.std.specs.Prelude.{◌≡◌, List, [], ◌∷◌, T, Float, Result, Ok, Err, ⊤}
use Rattle.std.specs.Float.{binary64}
use Rattle.std.specs.Float.Ieee.{fits}
use Rattle.f64_helpers.specs.Helpers as F64Helpers
use Rattle.box_choices.specs.declared.Choices.{Choices}
use Rattle.cooling_only_controller.specs.Controller.{controller_output}
use Rattle.cooling_only_controller.specs.declared.ControllerInput.{ControllerInput}
use Rattle.cooling_only_controller.specs.declared.ControllerState.{ControllerState}
use Rattle.air_box.specs.AirBox.{unticked, questions, stepped, tick}
use Rattle.air_box.specs.declared.Tick.{Tick}
use Rattle.air_box.specs.declared.Refusal.{Refusal}
use Rattle.air_box.specs.declared.AirBox.{AirBox}
use Rattle.air_box.specs.declared.AirBoxStep.{AirBoxStep}
use Rattle.nights.specs.Nights.{steps, steps_by}
use Rattle.bounds.specs.Bounds.{grown, Built}
use Rattle.bounds.specs.PublishedHelpers.{Helpers, document_01, published, RustMax, RustMin}
use Rattle.bounds.specs.PublishedController.{controller_output_over}

-- ---- the box of AirBox.antt with that controller

abbrev pub decided_over : Helpers → Result ⊤ Refusal → AirBox → Tick → AirBoxStep
decided_over h (Ok _) box k = stepped box k (controller_output_over h box.state k.t k.input box.choices)
decided_over h (Err reason) box k = record { state = box; answer = Err reason }

unfoldable pub tick_over : Helpers → AirBox → Tick → AirBoxStep
tick_over h box k = decided_over h (questions box.last_time k) box k

-- ---- What is asked of the ticks before: that the three temperatures of the loops are f64, as every argument of the code is.
-- A reset of a loop rests on it: of other numbers a difference above 0 could be so small that its tenth is rounded to 0.
pub record LoopReadingsAreF64 (k : Tick) : Type 0 where
  pub zone_temperature : T (fits binary64 k.input.zone_temperature)
  pub cooling_setpoint : T (fits binary64 k.input.cooling_setpoint)
  pub heating_setpoint : T (fits binary64 k.input.heating_setpoint)

abbrev pub AllF64 : List Tick → Type 0
AllF64 [] = Unit
AllF64 (k ∷ ks) = LoopReadingsAreF64 k × AllF64 ks

-- ---- the claim; a box of 0.5 and 1.5 is among those that are built (`Bounds.usual_built`)
pub record PublishedAgrees : Type 0 where
  -- the controller over the helpers has the delivered text: over document 01's helpers it is the delivered controller, and the box the delivered box
  pub same_text : (s : ControllerState) (t : Float) (input : ControllerInput) (choices : Choices)
      → controller_output_over document_01 s t input choices ≡ controller_output s t input choices
  pub same_box : (box : AirBox) (k : Tick) → tick_over document_01 box k ≡ tick box k
  -- document 01's `max` and `min` are among those that Rust allows
  pub among_them : RustMax F64Helpers.max × RustMin F64Helpers.min
  -- Over the published helpers, every tick that comes to a box grown from a start, accepted or refused, gives the same answer and leaves the
  -- same box, every field.
  pub every_tick : (max min : Float → Float → Float) → RustMax max → RustMin min
      → (choices : Choices) → Built choices → (ticks : List Tick) → AllF64 ticks
      → (k : Tick) → tick_over (published max min) (grown choices ticks) k ≡ tick (grown choices ticks) k
  -- So a box that is run over the published helpers from the first tick on goes through the same night.
  pub every_night : (max min : Float → Float → Float) → RustMax max → RustMin min
      → (choices : Choices) → Built choices → (ticks : List Tick) → AllF64 ticks
      → steps_by (tick_over (published max min)) (unticked choices) ticks ≡ steps (unticked choices) ticks
