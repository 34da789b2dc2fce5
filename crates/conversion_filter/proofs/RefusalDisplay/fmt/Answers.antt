-- `conversion_filter::RefusalDisplay::fmt` meets its contract. Assumes nothing.
use Rattle.std.proofs.Common.{refl}
use Rattle.std.proofs.Output.{has_written_of_eq}
use Rattle.conversion_filter.specs.Filter.{refusal_text}
use Rattle.conversion_filter.proofs.RefusalDisplay.fmt.Goals as goal

pub returns-clause-writes : goal.returns-clause-writes
unfolding refusal_text
returns-clause-writes g c plain ok = has_written_of_eq _ _ _ _ _ (rw (c.program-program.ensures, c.piece-piece.ensures, c.refusal_words-words.ensures) refl) (c.write.ensures.writes plain ok)
