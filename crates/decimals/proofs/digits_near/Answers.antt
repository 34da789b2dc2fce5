-- Where so many digits give the size, size * power + 0.5 as the code has it lies between them and the next number. Assumes nothing.
use mathlib.Core.Path.{◌∙◌}
use mathlib.Core.Bool.{false}
use lib.Dec.{T_not}
use lib.IntN.{pos}
use lib.Ieee.{fin, binary64, of_bits, add, mul, lt}
use Rattle.std.proofs.lemmas.Float.{T_from_true, T_from_false}
use Rattle.decimals.proofs.Steps.{Between, half, near_whole, cut_is, above_zero, below_two_50, above_minus_one, below_two_64}
use Rattle.decimals.proofs.digits_near.Goals as goal
use Rattle.decimals.proofs.digits_near.Goals.{else-near-via-then-near+else-near-2, else-near-via-else-near}

pub truncating_f64_to_u64-requires-clause-lower_bound : goal.truncating_f64_to_u64-requires-clause-lower_bound
unfolding of_bits
truncating_f64_to_u64-requires-clause-lower_bound c = above_minus_one _ (T_from_true _ c.if-near.true)

pub truncating_f64_to_u64-requires-clause-upper_bound : goal.truncating_f64_to_u64-requires-clause-upper_bound
unfolding of_bits
truncating_f64_to_u64-requires-clause-upper_bound c = below_two_64 _ (T_from_true _ c.if-near-2.true)

pub returns-then-near-2 : goal.returns-then-near-2
unfolding of_bits
returns-then-near-2 c = λ digits h e.
    let near = add binary64 (mul binary64 c.args.size c.power_of_ten.result) half in
    c.truncating_f64_to_u64.ensures ∙ cut_is near digits h (near_whole c.args.size c.power_of_ten.result digits c.args.places c.requires h c.power_of_ten.ensures e)

pub returns-else-near : goal.returns-else-near
unfolding of_bits
returns-else-near c = λ digits h e.
    let near = add binary64 (mul binary64 c.args.size c.power_of_ten.result) half in
    let between : Between near digits = near_whole c.args.size c.power_of_ten.result digits c.args.places c.requires h c.power_of_ten.ensures e in
    absurd
    (elim c.else-near.branch [
      | else-near-via-then-near+else-near-2 w ↦
          T_not (lt near (fin false 1 (pos 50))) (T_from_false (lt near (fin false 1 (pos 50))) w.if-near-2.false) (below_two_50 near digits h between)
      | else-near-via-else-near w ↦ T_not (lt (fin false 0 (pos 0)) near) (T_from_false (lt (fin false 0 (pos 0)) near) w.if-near.false) (above_zero near digits between)
    ])
