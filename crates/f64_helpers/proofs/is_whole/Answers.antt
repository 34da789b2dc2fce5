-- `f64_helpers::is_whole` meets its contract. Assumes nothing.
use lib.Ieee.{of_bits}
use Rattle.f64_helpers.proofs.Tests.{yes}
use Rattle.f64_helpers.proofs.WholeTest.{whole_test}
use Rattle.f64_helpers.proofs.is_whole.Goals as goal

pub returns : goal.returns
unfolding of_bits
returns c = rw c.floor.ensures (whole_test c.args.x (yes c.well_formed.0.1))
