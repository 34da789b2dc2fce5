-- The definitions of floor, ceiling and absolute value are std's. Assumes nothing.
use Rattle.std.proofs.Common.{◌≡◌, ℕ, ◌+◌, ◌-◌, ◌*◌, ◌/◌, ◌<◌, true, false, refl, ap, arith}
use lib.Ieee.{Float, nan, inf, fin, binary64, up, down}
use lib.Ieee.Fits.{down_pos}
use Rattle.std.specs.Float as Std
use Rattle.std.specs.Float.{round_with, float_with_sign}
use Rattle.f64_helpers.specs.Helpers.{floor, ceil, abs, quotient_up}

up_is : (a b : ℕ) → 0 < b → quotient_up a b ≡ Std.ratio_ceil a b
up_is a b B = let e : a + (b - 1) ≡ a + b - 1 = omega arith in ap (λ (n : ℕ). n / b) e

pub floor_is : (x : Float) → Std.floor binary64 x ≡ floor x
unfolding floor round_with
floor_is nan = refl
floor_is (inf s) = refl
floor_is (fin false m e) = refl
floor_is (fin true m e) = rw (up_is (m * up e) (down e) (down_pos e)) refl

pub ceil_is : (x : Float) → Std.ceil binary64 x ≡ ceil x
unfolding ceil round_with
ceil_is nan = refl
ceil_is (inf s) = refl
ceil_is (fin false m e) = rw (up_is (m * up e) (down e) (down_pos e)) refl
ceil_is (fin true m e) = refl

pub abs_is : (x : Float) → float_with_sign false x ≡ abs x
unfolding abs float_with_sign
abs_is nan = refl
abs_is (inf s) = refl
abs_is (fin s m e) = refl
