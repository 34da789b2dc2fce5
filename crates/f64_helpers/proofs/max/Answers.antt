-- `f64_helpers::max` meets its contract. Assumes nothing.
use Rattle.std.proofs.Common.{true, false, refl, ◌∙◌}
use lib.Ieee.{of_bits, eq}
use Rattle.f64_helpers.specs.F64.{zero}
use Rattle.f64_helpers.proofs.Tests.{yes, is_nan_lem}
use Rattle.f64_helpers.proofs.LargerOfTwo.{sum_of_zeros, max_by_tests}
use Rattle.f64_helpers.proofs.max.Goals as goal

pub returns-then-b : goal.returns-then-b
unfolding of_bits
returns-then-b c =
    let x = c.args.a in
    let y = c.args.b in
    sum_of_zeros x y (yes c.well_formed.0.1) (yes c.well_formed.1.0.1) (yes c.if-a-2.true) (yes c.if-b.true)
    ∙ max_by_tests x y false false true true (is_nan_lem x false c.if-a.false) c.if-a-b.false c.if-a-2.true c.if-b.true

pub returns-else-b : goal.returns-else-b
unfolding of_bits
returns-else-b c =
    let x = c.args.a in
    let y = c.args.b in
    max_by_tests x y false false true false (is_nan_lem x false c.if-a.false) c.if-a-b.false c.if-a-2.true c.if-b.false

pub returns-else-a-2 : goal.returns-else-a-2
unfolding of_bits
returns-else-a-2 c =
    let x = c.args.a in
    let y = c.args.b in
    max_by_tests x y false false false (eq y zero) (is_nan_lem x false c.if-a.false) c.if-a-b.false c.if-a-2.false refl
