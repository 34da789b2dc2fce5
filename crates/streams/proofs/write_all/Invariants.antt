-- What is left is no longer than what there was.
use Rattle.std.proofs.Common.{◌≤◌, length}
use Rattle.streams.proofs.write_all.Given as goal

abbrev pub invariant-loop : goal.invariant-loop
invariant-loop l = length l.left ≤ length l.bytes
