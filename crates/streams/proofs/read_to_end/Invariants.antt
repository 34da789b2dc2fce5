-- What is read stands in the room, and each turn reads more.
use Rattle.std.proofs.Common.{◌≤◌, ◌-◌, length}
use Rattle.streams.proofs.read_to_end.Given as goal

abbrev pub invariant-loop-size : goal.invariant-loop-size
invariant-loop-size l = l.size ≤ length l.room

abbrev pub decreases-loop-size : goal.decreases-loop-size
decreases-loop-size l = length l.room - l.size
