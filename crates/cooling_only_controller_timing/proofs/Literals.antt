-- The literals of the controller by their bits, as the code has them, and as the definitions write them. Assumes nothing.
use mathlib.Core.Path.{◌≡◌, refl}
use lib.Ieee.{of_bits, round, neg, binary64}
use Rattle.f64_helpers.specs.F64.{decimal, zero}

pub nought : of_bits binary64 0 ≡ zero
unfolding of_bits
nought = refl

pub nano : of_bits binary64 4472406533629990549 ≡ decimal 1 1000000000
unfolding of_bits round
nano = refl

pub five_thousandths : of_bits binary64 4572414629676717179 ≡ decimal 5 1000
unfolding of_bits round
five_thousandths = refl

pub six_thousandths : of_bits binary64 4573567551181324026 ≡ decimal 6 1000
unfolding of_bits round
six_thousandths = refl

pub eight_thousandths : of_bits binary64 4575765307799480828 ≡ decimal 8 1000
unfolding of_bits round
eight_thousandths = refl

pub hundredth : of_bits binary64 4576918229304087675 ≡ decimal 1 100
unfolding of_bits round
hundredth = refl

pub five_hundredths : of_bits binary64 4587366580439587226 ≡ decimal 5 100
unfolding of_bits round
five_hundredths = refl

pub tenth : of_bits binary64 4591870180066957722 ≡ decimal 1 10
unfolding of_bits round
tenth = refl

pub quarter : of_bits binary64 4598175219545276416 ≡ decimal 25 100
unfolding of_bits round
quarter = refl

pub half : of_bits binary64 4602678819172646912 ≡ decimal 5 10
unfolding of_bits round
half = refl

pub seven_tenths : of_bits binary64 4604480259023595110 ≡ decimal 7 10
unfolding of_bits round
seven_tenths = refl

pub eight_tenths : of_bits binary64 4605380978949069210 ≡ decimal 8 10
unfolding of_bits round
eight_tenths = refl

pub nine_tenths : of_bits binary64 4606281698874543309 ≡ decimal 9 10
unfolding of_bits round
nine_tenths = refl

pub ninety_four_hundredths : of_bits binary64 4606641986844732948 ≡ decimal 94 100
unfolding of_bits round
ninety_four_hundredths = refl

pub ninety_five_hundredths : of_bits binary64 4606732058837280358 ≡ decimal 95 100
unfolding of_bits round
ninety_five_hundredths = refl

pub one : of_bits binary64 4607182418800017408 ≡ decimal 1 1
unfolding of_bits round
one = refl

pub seven_quarters : of_bits binary64 4610560118520545280 ≡ decimal 175 100
unfolding of_bits round
seven_quarters = refl

pub two : of_bits binary64 4611686018427387904 ≡ decimal 2 1
unfolding of_bits round
two = refl

pub eleven_quarters : of_bits binary64 4613374868287651840 ≡ decimal 275 100
unfolding of_bits round
eleven_quarters = refl

pub three : of_bits binary64 4613937818241073152 ≡ decimal 3 1
unfolding of_bits round
three = refl

pub thirty : of_bits binary64 4629137466983448576 ≡ decimal 30 1
unfolding of_bits round
thirty = refl

pub sixty : of_bits binary64 4633641066610819072 ≡ decimal 60 1
unfolding of_bits round
sixty = refl

pub hundred_twenty : of_bits binary64 4638144666238189568 ≡ decimal 120 1
unfolding of_bits round
hundred_twenty = refl

pub two_hundred : of_bits binary64 4641240890982006784 ≡ decimal 200 1
unfolding of_bits round
two_hundred = refl

pub three_hundred : of_bits binary64 4643985272004935680 ≡ decimal 300 1
unfolding of_bits round
three_hundred = refl

pub five_hundred_forty : of_bits binary64 4647961106050973696 ≡ decimal 540 1
unfolding of_bits round
five_hundred_forty = refl

pub six_hundred : of_bits binary64 4648488871632306176 ≡ decimal 600 1
unfolding of_bits round
six_hundred = refl

pub nine_hundred : of_bits binary64 4651127699538968576 ≡ decimal 900 1
unfolding of_bits round
nine_hundred = refl

pub eighteen_hundred : of_bits binary64 4655631299166339072 ≡ decimal 1800 1
unfolding of_bits round
eighteen_hundred = refl

pub minus_hundredth : of_bits binary64 13800290266158863483 ≡ neg (decimal 1 100)
unfolding of_bits round neg
minus_hundredth = refl

pub ruleset literals = (nought, nano, five_thousandths, six_thousandths, eight_thousandths, hundredth, five_hundredths, tenth, quarter, half, seven_tenths, eight_tenths, nine_tenths, ninety_four_hundredths, ninety_five_hundredths, one, seven_quarters, two, eleven_quarters, three, thirty, sixty, hundred_twenty, two_hundred, three_hundred, five_hundred_forty, six_hundred, nine_hundred, eighteen_hundred, minus_hundredth)
