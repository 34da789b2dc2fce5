-- Document 01's f64 helpers: floor, ceiling, absolute value, the smaller and the larger of two, and the cast to i64, for every f64.
-- They stand for Rust's `.floor()`, `.ceil()`, `.abs()`, `.min()`, `.max()` and `as i64`.
use Rattle.std.specs.Prelude.{ℕ, ◌+◌, ◌-◌, ◌*◌, ◌/◌, ◌%◌, Bool, true, false, ◌&&◌, ◌||◌, ℤ, pos, ◌==◌, is_nan, Float, if◌then◌else◌}
use Rattle.std.specs.Float.{nan, inf, fin, binary64}
use Rattle.std.specs.Float.Ieee.{up, down, round, eq, to_signed, of_int}
use Rattle.f64_helpers.specs.F64.{◌<ᶠ◌, ◌>ᶠ◌, zero}

-- The whole number n with the sign s, as an f64; a 0 keeps the sign.
-- What the definitions below hand to it is an f64 exactly: nothing is rounded.
abbrev pub whole : Bool → ℕ → Float
whole s n = round binary64 s n 1

-- the largest whole number not above a / b, and the smallest not below it
abbrev pub quotient_down : ℕ → ℕ → ℕ
quotient_down a b = a / b

abbrev pub quotient_up : ℕ → ℕ → ℕ
quotient_up a b = (a + (b - 1)) / b

-- Rust's `x.floor()`: the largest whole number not above x. Infinities and zeros come back unchanged, and NaN for NaN.
unfoldable pub floor : Float → Float
floor nan = nan
floor (inf s) = inf s
floor (fin false m e) = whole false (quotient_down (m * up e) (down e))
floor (fin true m e) = whole true (quotient_up (m * up e) (down e))

-- Rust's `x.ceil()`: the smallest whole number not below x. Between -1 and 0 it is -0.0.
unfoldable pub ceil : Float → Float
ceil nan = nan
ceil (inf s) = inf s
ceil (fin false m e) = whole false (quotient_up (m * up e) (down e))
ceil (fin true m e) = whole true (quotient_down (m * up e) (down e))

-- Rust's `x.abs()`: x with its sign bit clear, and NaN for NaN
unfoldable pub abs : Float → Float
abs nan = nan
abs (inf s) = inf false
abs (fin s m e) = fin false m e

-- whether the sign bit is set
abbrev pub negative : Float → Bool
negative nan = false
negative (inf s) = s
negative (fin s m e) = s

abbrev pub both_zero : Float → Float → Bool
both_zero x y = eq x zero && eq y zero

-- Rust's `x.max(y)`. A NaN gives way to a number, and is given only for two. Of two zeros it is -0.0 only if both are.
unfoldable pub max : Float → Float → Float
max x y =
    if is_nan x then y
    else (if x <ᶠ y then y
    else (if both_zero x y then fin (negative x && negative y) 0 (pos 0)
    else x))

-- Rust's `x.min(y)`. Of two zeros it is -0.0 if either is.
unfoldable pub min : Float → Float → Float
min x y =
    if is_nan x then y
    else (if x >ᶠ y then y
    else (if both_zero x y then fin (negative x || negative y) 0 (pos 0)
    else x))

-- Rust's `x as i64`: toward zero, past the range of i64 the nearer end, and 0 for a NaN
abbrev pub as_i64 : Float → ℤ
as_i64 x = to_signed 63 x

-- Rust's `n as f64`: the f64 nearest to n
abbrev pub as_f64 : ℤ → Float
as_f64 n = of_int binary64 n

-- finite and with no fraction
abbrev pub is_whole : Float → Bool
is_whole nan = false
is_whole (inf s) = false
is_whole (fin s m e) = m * up e % down e == 0
