-- `conversion_filter::convert` meets its contract. Assumes nothing.
use Rattle.std.proofs.Common.{rules}
use Rattle.conversion_filter.proofs.Places.{place_fits}
use Rattle.conversion_filter.proofs.convert.Goals as goal

pub overflow_add-refusal : goal.overflow_add-refusal
overflow_add-refusal c = place_fits _ _ _ _ c.outcome_of-outcome.ensures.outcome (search rules)
