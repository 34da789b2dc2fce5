-- The readings that are worked out. Assumes nothing.
use mathlib.Core.Path.{refl}
use lib.Ieee.{round, to_bits, of_bits}
use Rattle.std.specs.Float.{is_sign_negative}
use Rattle.decimals.specs.Decimals.{allowed, reading, zero_with_minus, gives, nearest_decimal, first_that_gives, shortest}
use Rattle.decimals.specs.SmallReadings.{SmallReadings}

pub small_readings : SmallReadings
unfolding allowed reading zero_with_minus gives nearest_decimal first_that_gives shortest round to_bits of_bits is_sign_negative
small_readings = record {
  of_0_1 = refl;
  of_0_3 = refl;
  of_minus_2_25 = refl;
  of_123456_789 = refl;
  of_0_100000 = refl;
  back_0_5 = refl;
  back_300 = refl;
  back_295_15 = refl;
  back_0 = refl;
  back_15_digits = refl;
  back_6_places = refl;
  back_15_digits_6_places = refl;
  minus_zero = refl;
  a_third = refl;
  infinity = refl;
  nan = refl;
  too_many_digits = refl;
  too_fine = refl;
}
