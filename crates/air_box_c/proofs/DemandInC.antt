-- Demand 1 as a C caller meets it, from demand 1 of the box that the record stands for; and that the contract leaves no freedom. Assumes nothing.
use mathlib.Core.Path.{◌≡◌, refl, sym, ◌∙◌, subst}
use Prim.Native.Nat.{ℕ}
use Rattle.std.specs.Prelude.{⊤, Result, Ok, Err}
use mathlib.Core.Bool.{not}
use lib.Dec.{T, eqb}
use Rattle.cooling_only_controller.specs.declared.ControllerOutput.{ControllerOutput}
use Rattle.air_box.specs.AirBox.{tick, questions, refusal_number}
use Rattle.air_box.specs.Demand1.{AllYes, FirstNo}
use Rattle.air_box.proofs.Demands.{questions_accept, questions_refuse}
use Rattle.air_box.specs.declared.Tick.{Tick}
use Rattle.air_box.specs.declared.Refusal.{Refusal}
use Rattle.air_box_c.specs.Records.{open_time, open_box}
use Rattle.air_box_c.specs.Promises.{Ticked, OneOutcome}
use Rattle.air_box_c.specs.Demand1InC.{Demand1InC}
use Rattle.air_box_c.specs.declared.records.AirBoxC.{AirBoxC}
use Rattle.air_box_c.proofs.ByParts.{ticks, told_is, not_zero}

-- the number of a verdict
abbrev verdict_number : Result ⊤ Refusal → ℕ
verdict_number (Ok tt) = 0
verdict_number (Err reason) = refusal_number reason

-- what the number says, by the verdict v
module _ (c : AirBoxC) (k : Tick) (w : ControllerOutput) (c' : AirBoxC) (w' : ControllerOutput) (n : ℕ) (d : Ticked c k w c' w' n) where
  told : (v : Result ⊤ Refusal) → questions (open_time c.last.time) k ≡ v → n ≡ verdict_number v
  told (Ok tt) e = rw (d.number_told, ticks c k (Ok tt) e, told_is c k)
  told (Err reason) e = rw (d.number_told, ticks c k (Err reason) e)

  all_if_zero : (v : Result ⊤ Refusal) → questions (open_time c.last.time) k ≡ v → n ≡ 0 → AllYes (open_time c.last.time) k
  all_if_zero (Ok tt) e z = (questions_accept (open_time c.last.time) k).0 e
  all_if_zero (Err reason) e z = absurd (not_zero reason (subst (λ (m : ℕ). T (eqb m 0)) (sym z ∙ told (Err reason) e) tt))

  refused_by_no : (v : Result ⊤ Refusal) → questions (open_time c.last.time) k ≡ v → T (not (eqb n 0)) → (reason : Refusal) × FirstNo reason (open_time c.last.time) k × (n ≡ refusal_number reason)
  refused_by_no (Ok tt) e some = absurd (rw (d.number_told, ticks c k (Ok tt) e, told_is c k) at some)
  refused_by_no (Err reason) e some = (reason, (questions_refuse (open_time c.last.time) k reason).0 e, told (Err reason) e)

  refused_keeps : (v : Result ⊤ Refusal) → questions (open_time c.last.time) k ≡ v → T (not (eqb n 0)) → (c' ≡ c) × (w' ≡ w)
  refused_keeps (Ok tt) e some = absurd (rw (d.number_told, ticks c k (Ok tt) e, told_is c k) at some)
  refused_keeps (Err reason) e some = (rw (d.every_field, e), rw (d.next_output, ticks c k (Err reason) e))

  accepted_gives : (v : Result ⊤ Refusal) → questions (open_time c.last.time) k ≡ v → T (eqb n 0) → (tick (open_box c) k).answer ≡ Ok w'
  accepted_gives (Ok tt) e none = rw (d.next_output, ticks c k (Ok tt) e, told_is c k)
  accepted_gives (Err reason) e none = absurd (not_zero reason (rw (d.number_told, ticks c k (Err reason) e) at none))

pub demand_1_in_c : Demand1InC
demand_1_in_c c k w c' w' n d =
    let v = questions (open_time c.last.time) k in
    record {
      number_of_the_first_no = λ reason first. told c k w c' w' n d (Err reason) ((questions_refuse (open_time c.last.time) k reason).1 first);
      zero_if_all_yes = (all_if_zero c k w c' w' n d v refl, λ all. told c k w c' w' n d (Ok tt) ((questions_accept (open_time c.last.time) k).1 all));
      refused_only_for_a_no = refused_by_no c k w c' w' n d v refl;
      refused_changes_nothing = refused_keeps c k w c' w' n d v refl;
      accepted_changes_both = λ none. (d.next_box, accepted_gives c k w c' w' n d v refl none);
    }

pub one_outcome : OneOutcome
one_outcome c k w a b o p n m d e = (d.every_field ∙ sym e.every_field, d.next_output ∙ sym e.next_output, d.number_told ∙ sym e.number_told)
