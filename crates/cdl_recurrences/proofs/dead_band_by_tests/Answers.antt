-- `cdl_recurrences::dead_band_by_tests` meets its contract. Assumes nothing.
use mathlib.Core.Path.{refl}
use mathlib.Core.Bool.{xor}
use Rattle.cdl_recurrences.specs.CdlPieces.{dead_band_by_tests}
use Rattle.cdl_recurrences.proofs.dead_band_by_tests.Goals as goal

pub returns : goal.returns
unfolding dead_band_by_tests xor
returns c = refl
