-- Readings worked out from the definitions, there and back, and what no allowed decimal gives: document 02's -0.0 among it.
use Rattle.std.specs.Prelude.{◌≡◌, ℕ, true, false, Some, None}
use Rattle.decimals.specs.declared.Decimal.{Decimal}
use Rattle.decimals.specs.Decimals.{reading_bits, shortest}

abbrev of : ℕ → ℕ → Decimal
of digits places = record { minus = false; digits = digits; places = places }

pub record SmallReadings : Type 0 where
  -- 0.1, 0.3, -2.25, 123456.789
  pub of_0_1 : reading_bits (of 1 1) ≡ 0x3fb999999999999a
  pub of_0_3 : reading_bits (of 3 1) ≡ 0x3fd3333333333333
  pub of_minus_2_25 : reading_bits (record (of 225 2) { minus = true }) ≡ 0xc002000000000000
  pub of_123456_789 : reading_bits (of 123456789 3) ≡ 0x40fe240c9fbe76c9
  -- needless zeros change nothing: 0.100000 and 0.1
  pub of_0_100000 : reading_bits (of 100000 6) ≡ 0x3fb999999999999a
  -- back: 0.5, 300, 295.15 with no needless zero
  pub back_0_5 : shortest 0x3fe0000000000000 ≡ Some (of 5 1)
  pub back_300 : shortest 0x4072c00000000000 ≡ Some (of 300 0)
  pub back_295_15 : shortest 0x4072726666666666 ≡ Some (of 29515 2)
  pub back_0 : shortest 0 ≡ Some (of 0 0)
  -- 15 digits, and 6 after the point, are allowed
  pub back_15_digits : shortest 0x430c6bf52633fff8 ≡ Some (of 999999999999999 0)
  pub back_6_places : shortest 0x3eb0c6f7a0b5ed8d ≡ Some (of 1 6)
  pub back_15_digits_6_places : shortest 0x41cdcd64fffffff8 ≡ Some (of 999999999999999 6)
  -- what no allowed decimal gives: -0.0, a third, infinity, a NaN, 10 ^ 15, and 0.0000001
  pub minus_zero : shortest 0x8000000000000000 ≡ None
  pub a_third : shortest 0x3fd5555555555555 ≡ None
  pub infinity : shortest 0x7ff0000000000000 ≡ None
  pub nan : shortest 0x7ff8000000000000 ≡ None
  pub too_many_digits : shortest 0x430c6bf526340000 ≡ None
  pub too_fine : shortest 0x3e7ad7f29abcaf48 ≡ None
