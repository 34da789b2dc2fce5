-- What is left to try gives the answer. Assumes nothing.
use Rattle.std.proofs.Common.{◌≡◌, ◌-◌}
use Rattle.decimals.specs.Decimals.{first_that_gives, shortest}
use Rattle.decimals.proofs.shortest.Given as goal

abbrev pub invariant-loop-places : goal.invariant-loop-places
invariant-loop-places l = first_that_gives (7 - l.places) l.places l.bits ≡ shortest l.bits
