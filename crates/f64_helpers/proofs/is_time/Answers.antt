-- `f64_helpers::is_time` meets its contract. Assumes nothing.
use lib.Ieee.{of_bits, round}
use Rattle.f64_helpers.proofs.Times.{time_test}
use Rattle.f64_helpers.proofs.is_time.Goals as goal

pub returns : goal.returns
unfolding of_bits round
returns c = time_test c.args.t
