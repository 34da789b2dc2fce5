-- Each turn begins with an empty chunk, and leaves less of the text.
use Rattle.std.proofs.Common.{◌≡◌}
use Rattle.arrayvec.specs.ArrayVec.{array_vec_len}
use Rattle.replay.specs.Replay.{lines_at_most}
use Rattle.replay.proofs.replay_in.Given as goal

abbrev pub invariant-loop-text : goal.invariant-loop-text
invariant-loop-text g l = array_vec_len l.chunk ≡ 0

abbrev pub decreases-loop-text : goal.decreases-loop-text
decreases-loop-text g l = lines_at_most l.text
