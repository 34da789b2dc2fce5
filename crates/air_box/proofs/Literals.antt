-- The literals of the questions by their bits, as the code has them, and as the definitions write them. Assumes nothing.
use mathlib.Core.Path.{◌≡◌, refl}
use lib.Ieee.{of_bits, round, neg, binary64}
use Rattle.f64_helpers.specs.F64.{decimal}
use Rattle.cooling_only_controller_timing.proofs.Literals.{nought, tenth}

pub ten : of_bits binary64 4621819117588971520 ≡ decimal 10 1
unfolding of_bits round
ten = refl

pub hundred_fifty : of_bits binary64 4639481672377565184 ≡ decimal 150 1
unfolding of_bits round
hundred_fifty = refl

pub two_hundred_forty : of_bits binary64 4642648265865560064 ≡ decimal 240 1
unfolding of_bits round
two_hundred_forty = refl

pub four_hundred_fifty : of_bits binary64 4646624099911598080 ≡ decimal 450 1
unfolding of_bits round
four_hundred_fifty = refl

pub ten_thousand : of_bits binary64 4666723172467343360 ≡ decimal 10000 1
unfolding of_bits round
ten_thousand = refl

pub two_to_31 : of_bits binary64 4746794007248502784 ≡ decimal 2147483648 1
unfolding of_bits round
two_to_31 = refl

pub minus_ten : of_bits binary64 13845191154443747328 ≡ neg (decimal 10 1)
unfolding of_bits round neg
minus_ten = refl

pub ruleset literals = (nought, tenth, ten, hundred_fifty, two_hundred_forty, four_hundred_fifty, ten_thousand, two_to_31, minus_ten)
