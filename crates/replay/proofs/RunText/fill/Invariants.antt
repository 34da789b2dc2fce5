-- What is taken and what is left stay the text, and each turn leaves less.
use Rattle.std.proofs.Common.{◌≡◌, ◌<◌, ◌++◌, ◌⊎◌}
use Rattle.replay.specs.Replay.{text_left, lines_at_most}
use Rattle.replay.proofs.RunText.fill.Given as goal

abbrev pub invariant-loop-self : goal.invariant-loop-self
invariant-loop-self l = record {
  text : l.chunk.items ++ text_left l.self ≡ l.initial.chunk.items ++ text_left l.initial.self;
  goes_on : (l.self ≡ l.initial.self × l.chunk ≡ l.initial.chunk) ⊎ (lines_at_most l.self < lines_at_most l.initial.self);
}

abbrev pub decreases-loop-self : goal.decreases-loop-self
decreases-loop-self l = lines_at_most l.self
