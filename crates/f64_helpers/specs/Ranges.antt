-- A number between two, as f64 compares them, and what is finite.
use Rattle.std.specs.Prelude.{Bool, true, false, not, ◌&&◌, T, Float}
use Rattle.std.specs.Float.{nan, inf, fin}
use Rattle.std.specs.Float.Ieee.{eq}
use Rattle.f64_helpers.specs.F64.{◌≤ᶠ◌, zero}
use Rattle.f64_helpers.specs.Helpers.{negative}

-- x is a number from low to high. The ends belong to it, -0.0 equals 0.0, and a NaN lies between no two.
pub record Between (low x high : Float) : Type 0 where
  pub from_low : T (low ≤ᶠ x)
  pub to_high : T (x ≤ᶠ high)

abbrev pub is_finite : Float → Bool
is_finite nan = false
is_finite (inf s) = false
is_finite (fin s m e) = true

-- neither infinite nor a NaN
abbrev pub Finite : Float → Type 0
Finite x = T (is_finite x)

-- -0.0, and no other number
abbrev pub is_minus_zero : Float → Bool
is_minus_zero x = negative x && eq x zero

abbrev pub NotMinusZero : Float → Type 0
NotMinusZero x = T (not (is_minus_zero x))
