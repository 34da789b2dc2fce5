-- Demand 1. For every box, whatever it holds, and every tick, whatever it carries: the tick is refused for the seven reasons only,
-- by the first "no"; it then gives that reason's number and changes nothing.
-- That the tick ends and does nothing undefined is what the check of the method `AirBox::tick` shows: its contract has no `requires`,
-- and says that it returns `tick` of the box and the tick.
use Rattle.std.specs.Prelude.{Float, Option, ◌≡◌, ◌↔◌, ℕ, ◌<◌, not, T}
use Rattle.std.proofs.Common.{inl, inr}
use Rattle.cooling_only_controller.specs.declared.ControllerOutput.{ControllerOutput}
use Rattle.air_box.specs.AirBox.{yes, refusal_number, tick, given_for}
use Rattle.air_box.specs.declared.Tick.{Tick}
use Rattle.air_box.specs.declared.AirBox.{AirBox}
use Rattle.air_box.specs.declared.Refusal.{Refusal}

-- no question gets a "no", after the last accepted time `last`
abbrev pub AllYes : Option Float → Tick → Type 0
AllYes last k = (reason : Refusal) → T (yes reason last k)

-- this question gets a "no", and every question of a smaller number a "yes"
pub record FirstNo (reason : Refusal) (last : Option Float) (k : Tick) : Type 0 where
  pub is_no : T (not (yes reason last k))
  pub earlier_yes : (other : Refusal) → refusal_number other < refusal_number reason → T (yes other last k)

pub record Demand1 : Type 0 where
  -- a tick gives a reason's number exactly if that question is the first that gets a "no"
  pub number_of_the_first_no : (box : AirBox) (k : Tick) (reason : Refusal)
      → (given_for box k ≡ inr (refusal_number reason)) ↔ FirstNo reason box.last_time k
  -- there is no other number
  pub no_other_number : (box : AirBox) (k : Tick) (number : ℕ)
      → given_for box k ≡ inr number → (reason : Refusal) × (number ≡ refusal_number reason)
  -- a tick gives outputs exactly if no question gets a "no"
  pub outputs_if_all_yes : (box : AirBox) (k : Tick)
      → ((output : ControllerOutput) × (given_for box k ≡ inl output)) ↔ AllYes box.last_time k
  -- a tick that gives a number leaves the box as it was, every field
  pub refused_changes_nothing : (box : AirBox) (k : Tick) (number : ℕ) → given_for box k ≡ inr number → (tick box k).state ≡ box
