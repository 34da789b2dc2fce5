-- `cdl_recurrences::round_six_by_division` meets its contract. Assumes nothing.
use lib.Ieee.{of_bits, round}
use Rattle.cdl_recurrences.specs.CdlRecurrences.{buildings_round_six}
use Rattle.cdl_recurrences.proofs.round_six_by_division.Goals as goal

pub returns-then-x : goal.returns-then-x
unfolding buildings_round_six of_bits round
returns-then-x c = rw (c.floor.ensures, c.if-x.true)

pub returns-else-x : goal.returns-else-x
unfolding buildings_round_six of_bits round
returns-else-x c = rw (c.ceil.ensures, c.if-x.false)
