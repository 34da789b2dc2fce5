-- `air_box_c::air_box_build` meets its contract: where a box is built, its record is stored. Assumes nothing.
use Rattle.std.proofs.Common.{arith, ◌≡◌, ℕ, Result, Ok, sym, ap, ◌∙◌}
use Rattle.box_choices.specs.declared.Choices.{Choices}
use Rattle.air_box.specs.AirBox.{unticked, build, built_number}
use Rattle.air_box.specs.declared.AirBox.{AirBox}
use Rattle.air_box.specs.declared.BuildRefusal.{BuildRefusal}
use Rattle.air_box_c.specs.Records.{open_box, shut_box, fresh_record, built_record}
use Rattle.air_box_c.specs.Promises.{BuiltAt}
use Rattle.air_box_c.specs.declared.records.AirBoxC.{AirBoxC}
use Rattle.air_box_c.proofs.OpenShut.{open_shut}
use Rattle.air_box_c.proofs.air_box_build.Goals as goal

-- a box that is built has had no tick
built_is : (i : Choices) (box : AirBox) → build i ≡ Ok box → unticked i ≡ box
unfolding build
built_is i box e = grind arith

-- the record of a box that was built stands for it
opened : (v : Result AirBox BuildRefusal) (c : AirBoxC) (box : AirBox) → v ≡ Ok box → open_box (built_record v c) ≡ box
opened v c box e = ap (λ (w : Result AirBox BuildRefusal). open_box (built_record w c)) e ∙ open_shut box

built_at : (h : AirBoxC) (i : Choices) (after : AirBoxC) (number : ℕ) → number ≡ built_number (build i) → after ≡ built_record (build i) h → BuiltAt h i after number
built_at h i after number is_number is_after = record {
  number_told = is_number;
  next_box = λ box e. ap open_box is_after ∙ opened (build i) h box e;
  every_field = is_after;
}

stored : (h : AirBoxC) (i : Choices) (box : AirBox) → build i ≡ Ok box → BuiltAt h i (fresh_record i) 0
unfolding shut_box
stored h i box e = built_at h i (fresh_record i) 0 (rw e) (rw e (ap shut_box (built_is i box e)))

pub returns-in-Ok : goal.returns-in-Ok
returns-in-Ok c =
    rw c.fresh.ensures (stored c.args.b.now c.args.choices _ (sym c.build.ensures ∙ c.in-Ok.is))
