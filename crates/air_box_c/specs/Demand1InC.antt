-- Demand 1 as a C caller meets it: what the number that `air_box_tick` returns says of the tick and of both records,
-- for every box record, every tick and every output record that do not lie over each other.
-- That the call ends and does nothing undefined is what the check of `air_box_tick` shows: its contract has no `requires`,
-- and says that it leaves the records as `Ticked` has them.
use Rattle.std.specs.Prelude.{Ok, ℕ, ◌≡◌, ◌↔◌, not, T, eqb}
use Rattle.cooling_only_controller.specs.declared.ControllerOutput.{ControllerOutput}
use Rattle.air_box.specs.AirBox.{tick, refusal_number}
use Rattle.air_box.specs.Demand1.{AllYes, FirstNo}
use Rattle.air_box.specs.declared.Tick.{Tick}
use Rattle.air_box.specs.declared.Refusal.{Refusal}
use Rattle.air_box_c.specs.Records.{open_time, open_box}
use Rattle.air_box_c.specs.Promises.{Ticked}
use Rattle.air_box_c.specs.declared.records.AirBoxC.{AirBoxC}

-- the box record before the tick k, the output record before it, both after it, and the returned number
pub record ByNumber (before : AirBoxC) (k : Tick) (old_output : ControllerOutput)
    (after : AirBoxC) (output : ControllerOutput) (number : ℕ) : Type 0 where
  -- the number is that of the question that gets the first "no"
  pub number_of_the_first_no : (reason : Refusal) → FirstNo reason (open_time before.last.time) k → number ≡ refusal_number reason
  -- the number is 0 exactly if every question gets a "yes"
  pub zero_if_all_yes : (number ≡ 0) ↔ AllYes (open_time before.last.time) k
  -- where the number is not 0, it is that of a question that gets the first "no": a tick is refused for nothing else
  pub refused_only_for_a_no : T (not (eqb number 0))
      → (reason : Refusal) × FirstNo reason (open_time before.last.time) k × (number ≡ refusal_number reason)
  -- where the number is not 0, both records are as they were
  pub refused_changes_nothing : T (not (eqb number 0)) → (after ≡ before) × (output ≡ old_output)
  -- where the number is 0, the one record stands for the next box, and the other holds the ten outputs
  pub accepted_changes_both : T (eqb number 0)
      → (open_box after ≡ (tick (open_box before) k).state) × ((tick (open_box before) k).answer ≡ Ok output)

abbrev pub Demand1InC : Type 0
Demand1InC = (before : AirBoxC) (k : Tick) (old_output : ControllerOutput) (after : AirBoxC) (output : ControllerOutput) (number : ℕ)
    → Ticked before k old_output after output number → ByNumber before k old_output after output number
