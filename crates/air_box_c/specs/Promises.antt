-- What the C interface promises: `air_box_fresh` gives a box as `Fresh` has it, `air_box_build` leaves its record as `BuiltAt` has it,
-- `air_box_tick` leaves its records as `Ticked` has them, `air_box_sensor_reason` and `air_box_leak_reason` give what `sensor_told` and `leak_told` say
-- of their record, and `air_box_desk_code` gives the box's own `desk_code`.
-- What `Ticked` says to a caller, number by number, stands in Demand1InC.antt.
use Rattle.std.specs.Prelude.{ℕ, ◌≡◌, ⊤, Result, Ok, Err}
use Rattle.box_choices.specs.declared.Choices.{Choices}
use Rattle.cooling_only_controller.specs.declared.ControllerOutput.{ControllerOutput}
use Rattle.air_box.specs.AirBox.{unticked, build, built_number, tick, questions, accepted_tick, refusal_number}
use Rattle.air_box.specs.NoAlarm.{sensor_reason, leak_reason}
use Rattle.air_box.specs.declared.Tick.{Tick}
use Rattle.air_box.specs.declared.AirBox.{AirBox}
use Rattle.air_box.specs.declared.Refusal.{Refusal}
use Rattle.air_box_c.specs.Records.{open_time, open_box, shut_box, fresh_record, built_record, shut_sensor_reason, shut_leak_reason}
use Rattle.air_box_c.specs.declared.records.AirBoxC.{AirBoxC}
use Rattle.air_box_c.specs.declared.records.SensorReasonC.{SensorReasonC}
use Rattle.air_box_c.specs.declared.records.LeakReasonC.{LeakReasonC}

-- the record of a box stands for that box
abbrev pub OpenShut : Type 0
OpenShut = (s : AirBox) → open_box (shut_box s) ≡ s

-- ---- building

-- the record r stands for a box that has had no tick, with these choices; every field of it is settled
pub record Fresh (choices : Choices) (r : AirBoxC) : Type 0 where
  pub box : open_box r ≡ unticked choices
  pub every_field : r ≡ fresh_record choices

-- The number is that of what building gives. Where that is a box, the record `after` stands for it, every field settled;
-- a refused building leaves the record as it was.
pub record BuiltAt (before : AirBoxC) (choices : Choices) (after : AirBoxC) (number : ℕ) : Type 0 where
  pub number_told : number ≡ built_number (build choices)
  pub next_box : (box : AirBox) → build choices ≡ Ok box → open_box after ≡ box
  pub every_field : after ≡ built_record (build choices) before

-- ---- a tick

-- the number that is returned: document 01's of a refusal, and 0 for an accepted tick
abbrev pub answer_number : Result ControllerOutput Refusal → ℕ
answer_number (Ok output) = 0
answer_number (Err reason) = refusal_number reason

-- the output record afterwards: the tick's outputs, or what it was
abbrev pub answer_output : Result ControllerOutput Refusal → ControllerOutput → ControllerOutput
answer_output (Ok output) before = output
answer_output (Err reason) before = before

-- the box record afterwards, by what the questions decide: that of the next box, or the old one
abbrev pub decided_record : Result ⊤ Refusal → AirBoxC → Tick → AirBoxC
decided_record (Ok tt) c k = shut_box (accepted_tick (open_box c) k).state
decided_record (Err reason) c k = c

-- the record `after` stands for the box that the tick gives from that of `before`, and the number and the output after it are those of its
-- answer; a refused tick leaves both records as they were, and an accepted one settles every field, a NaN as being one
pub record Ticked (before : AirBoxC) (k : Tick) (old_output : ControllerOutput)
    (after : AirBoxC) (output : ControllerOutput) (number : ℕ) : Type 0 where
  pub next_box : open_box after ≡ (tick (open_box before) k).state
  pub next_output : output ≡ answer_output (tick (open_box before) k).answer old_output
  pub number_told : number ≡ answer_number (tick (open_box before) k).answer
  pub every_field : after ≡ decided_record (questions (open_time before.last.time) k) before k

-- that leaves no freedom: two outcomes of the same tick are the same
abbrev pub OneOutcome : Type 0
OneOutcome = (before : AirBoxC) (k : Tick) (old_output : ControllerOutput)
    (after after' : AirBoxC) (output output' : ControllerOutput) (number number' : ℕ)
    → Ticked before k old_output after output number → Ticked before k old_output after' output' number'
    → (after ≡ after') × (output ≡ output') × (number ≡ number')

-- ---- why there is no alarm

-- Of any record at all: the reason of the box that it stands for, by its number, the seconds beside it and what memory decided.
abbrev pub sensor_told : AirBoxC → SensorReasonC
sensor_told c = shut_sensor_reason (sensor_reason (open_box c).last_tick (open_box c).state.alarms)

abbrev pub leak_told : AirBoxC → LeakReasonC
leak_told c = shut_leak_reason (leak_reason (open_box c).last_tick (open_box c).state.alarms)
