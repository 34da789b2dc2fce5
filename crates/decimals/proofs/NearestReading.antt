-- Each decimal's reading is the f64 nearest to it, no other lies as close to any but a zero, and nothing else is nearest. Assumes nothing.
use Rattle.decimals.specs.NearestReading.{NearestReading}
use Rattle.decimals.proofs.ReadingIsNearest.{is_nearest, sign}
use Rattle.decimals.proofs.NoTie.{no_tie, nothing_else}

pub nearest_reading : NearestReading
nearest_reading = record { is_nearest = is_nearest; no_tie = no_tie; sign = sign; nothing_else = nothing_else }
