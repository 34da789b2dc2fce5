-- The piece in which the code of this crate computes `unit_delay_sample` of Timing.antt: what that says of a state that has had no tick.
-- A reader of Timing.antt need not open this file.
use Rattle.std.specs.Prelude.{false, Float}
use Rattle.cooling_only_controller_timing.specs.declared.UnitDelayState.{UnitDelayState}
use Rattle.cooling_only_controller_timing.specs.Timing.{unit_delay_sample}

-- the state after the first tick, from the memories of s, whatever its flag says
abbrev pub unit_delay_first_sample : UnitDelayState → Float → Float → Float → UnitDelayState
unit_delay_first_sample s t input period =
    let before : UnitDelayState = record {
      initialized = false;
      t0 = s.t0;
      last_index = s.last_index;
      held = s.held;
      staged = s.staged;
    } in
    (unit_delay_sample before t input period).state
