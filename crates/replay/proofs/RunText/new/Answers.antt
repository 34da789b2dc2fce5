-- `replay::RunText::new` meets its contract. Assumes nothing.
use Rattle.std.proofs.Common.{ap}
use Rattle.replay.specs.Replay.{text_left}
use Rattle.replay.proofs.Texts.{start_text}
use Rattle.replay.proofs.RunText.new.Goals as goal

pub returns : goal.returns
unfolding text_left
returns c = rw (ap (λ b. b.now) c.new.ensures.lent, c.new.ensures.at_front) (start_text c.args.trace.now c.args.second_reading c.args.codes.now _ c.run-outcome.result c.run-outcome.ensures.outcome c.run-outcome.ensures.buffer)
