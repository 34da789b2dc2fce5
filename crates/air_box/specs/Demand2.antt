-- Demand 2. On every accepted tick, whatever the box holds, all ten outputs and each field of the controller's next state
-- are those of `controller_output`.
-- `controller_output` follows the Rust's `ControllerState::output` line by line, with document 01's rules for the helpers, and with the
-- box's design flows where the Rust has its two constants (document 02, N13).
-- For a plain start and the first reading of the airflow sensor alarm that is what the Rust, so changed, gives on accepted ticks. That the text is the
-- Rust's is read and run, not proved. Where document 01's rules differ from the Rust's own helpers, no tick of a box grown from a start tells:
-- that is proved (PublishedAgrees.antt of bounds). What the second reading changes (N12) is said in SecondReading.antt of nights.
-- The method `AirBox::tick` returns `tick` of the box and the tick, by its contract.
use Rattle.std.specs.Prelude.{Some, ◌≡◌}
use Rattle.std.proofs.Common.{inl}
use Rattle.cooling_only_controller.specs.Controller.{controller_output}
use Rattle.cooling_only_controller_timing.specs.declared.Step.{Step}
use Rattle.air_box.specs.AirBox.{tick, last_tick, given_for}
use Rattle.air_box.specs.Demand1.{AllYes}
use Rattle.air_box.specs.declared.Tick.{Tick}
use Rattle.cooling_only_controller.specs.declared.ControllerState.{ControllerState}
use Rattle.cooling_only_controller.specs.declared.ControllerOutput.{ControllerOutput}
use Rattle.air_box.specs.declared.AirBox.{AirBox}

-- the controller's step for this tick, from its state in the box and what was chosen when the box was built
abbrev pub controller_step_of : AirBox → Tick → Step ControllerState ControllerOutput
controller_step_of box k = controller_output box.state k.t k.input box.choices

-- what an accepted tick does
pub record Stepped (box : AirBox) (k : Tick) : Type 0 where
  -- it gives the controller's ten outputs
  pub outputs : given_for box k ≡ inl (controller_step_of box k).output
  -- the controller's state afterwards is the controller's next state
  pub next_state : (tick box k).state.state ≡ (controller_step_of box k).state
  -- its time is the last accepted one
  pub last_time : (tick box k).state.last_time ≡ Some k.t
  -- what was chosen when the box was built stays
  pub choices_kept : (tick box k).state.choices ≡ box.choices
  -- and all else that the box holds is what it keeps of this tick (document 02, N3)
  pub last_tick : (tick box k).state.last_tick
      ≡ Some (last_tick box.state.alarms k.input (controller_step_of box k).output.damper_command box.choices)

abbrev pub Demand2 : Type 0
Demand2 = (box : AirBox) (k : Tick) → AllYes box.last_time k → Stepped box k
