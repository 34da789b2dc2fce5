-- `box_choices::Choices::usual` meets its contract. Assumes nothing.
use mathlib.Core.Path.{refl}
use lib.Ieee.{of_bits, round}
use Rattle.box_choices.proofs.Choices.usual.Goals as goal

pub returns : goal.returns
unfolding of_bits round
returns c = refl
