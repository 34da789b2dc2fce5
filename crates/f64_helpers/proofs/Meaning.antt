-- What `floor` and `ceil` mean, for every value that an f64 holds: the result is exactly the whole number that the definition names (nothing is rounded), and that number is the right one.
-- Beside that, each of document 01's sentences on the helpers. Assumes nothing.
use Rattle.std.proofs.Common.{◌≡◌, ℕ, suc, ◌+◌, ◌-◌, ◌*◌, ◌/◌, ◌^◌, ◌<◌, ◌≤◌, Bool, true, false, cond, not, ◌&&◌, ◌||◌, T, ℤ, pos, negsuc, sym, refl, ap, ◌∙◌, subst, add-zero, div-lt_iff_lt-mul, mul-le-mul_left, div-le_self, div-mul-le_self, div-one, arith, pow_pos}
use native.Mathlib.Nat.{div-eq_of_lt, lt-div-mul-add}
use lib.Ieee.{Float, nan, inf, fin, binary64, up, down, round, fits, lt, eq, is_nan}
use lib.Ieee.Exact.{HasValue}
use lib.Ieee.Back.{round_whole}
use Rattle.f64_helpers.specs.Helpers.{floor, ceil, abs, quotient_down, quotient_up, negative, max, min}
use Rattle.f64_helpers.proofs.Values.{exact, fits_frac}

-- ---- the two quotients are the whole numbers next to a / b: q * b ≤ a < (q + 1) * b, and q * b < a + b with a ≤ q * b
pub quotient_down_is : (a b : ℕ) → 0 < b → (quotient_down a b * b ≤ a) × (a < quotient_down a b * b + b)
quotient_down_is a b B = (div-mul-le_self a b, lt-div-mul-add B)

pub quotient_up_is : (a b : ℕ) → 0 < b → (a ≤ quotient_up a b * b) × (quotient_up a b * b < a + b)
quotient_up_is a b B =
    let q = (a + (b - 1)) / b in
    let l : q * b ≤ a + (b - 1) = div-mul-le_self (a + (b - 1)) b in
    let u : a + (b - 1) < q * b + b = lt-div-mul-add B in
    (omega arith, omega arith)

-- ---- nothing is rounded
small_floor : (m d : ℕ) → m < 9007199254740992 → m * 1 / d ≤ 9007199254740992
small_floor m d h = let l : m * 1 / d ≤ m * 1 = div-le_self (m * 1) d in omega arith

small_ceil : (m d : ℕ) → 0 < d → m < 9007199254740992 → (m * 1 + (d - 1)) / d ≤ 9007199254740992
small_ceil m d D h =
    let l : m * 1 ≤ m * d = mul-le-mul_left m D in
    let u : (m * 1 + (d - 1)) / d < suc m = (div-lt_iff_lt-mul D).1 (omega arith) in
    omega arith

whole_value : (s : Bool) (m k q : ℕ) → T (fits binary64 (fin s m (pos k))) → q ≡ m * 2 ^ k → HasValue (round binary64 s q 1) s q 1
whole_value s m k q t e =
    subst (λ (z : ℕ). HasValue (round binary64 s z 1) s z 1) (sym e)
    (subst (λ (x : Float). HasValue x s (m * 2 ^ k) 1) (sym (exact binary64 s m k t)) (refl, refl))

pub floor_exact : (s : Bool) (m : ℕ) (e : ℤ) → T (fits binary64 (fin s m e)) → HasValue (round binary64 s (quotient_down (m * up e) (down e)) 1) s (quotient_down (m * up e) (down e)) 1
floor_exact s m (pos k) t = whole_value s m k (m * 2 ^ k / 1) t (div-one (m * 2 ^ k))
floor_exact s m (negsuc k) t = round_whole binary64 s (m * 1 / 2 ^ suc k) (small_floor m (2 ^ suc k) (fits_frac s m k t))

pub ceil_exact : (s : Bool) (m : ℕ) (e : ℤ) → T (fits binary64 (fin s m e)) → HasValue (round binary64 s (quotient_up (m * up e) (down e)) 1) s (quotient_up (m * up e) (down e)) 1
ceil_exact s m (pos k) t = whole_value s m k ((m * 2 ^ k + 0) / 1) t (div-one (m * 2 ^ k + 0) ∙ add-zero (m * 2 ^ k))
ceil_exact s m (negsuc k) t = round_whole binary64 s ((m * 1 + (2 ^ suc k - 1)) / 2 ^ suc k) (small_ceil m (2 ^ suc k) (pow_pos (suc k)) (fits_frac s m k t))

-- ---- document 01's sentences on the helpers
-- floor and ceiling give infinities and zeros back unchanged, and NaN for NaN
pub floor_zeros : (s : Bool) → floor (fin s 0 (pos 0)) ≡ fin s 0 (pos 0)
unfolding floor round
floor_zeros true = refl
floor_zeros false = refl

pub ceil_zeros : (s : Bool) → ceil (fin s 0 (pos 0)) ≡ fin s 0 (pos 0)
unfolding ceil round
ceil_zeros true = refl
ceil_zeros false = refl

pub floor_not_finite : (s : Bool) → (floor (inf s) ≡ inf s) × (floor nan ≡ nan)
unfolding floor
floor_not_finite s = (refl, refl)

pub ceil_not_finite : (s : Bool) → (ceil (inf s) ≡ inf s) × (ceil nan ≡ nan)
unfolding ceil
ceil_not_finite s = (refl, refl)

-- a ceiling between -1 and 0 is -0.0
pub ceil_below_zero : (m : ℕ) (e : ℤ) → m * up e < down e → ceil (fin true m e) ≡ fin true 0 (pos 0)
unfolding ceil round
ceil_below_zero m e l = ap (λ (n : ℕ). round binary64 true n 1) (div-eq_of_lt l)

-- absolute value clears the sign bit
pub abs_not_negative : (x : Float) → negative (abs x) ≡ false
unfolding abs
abs_not_negative nan = refl
abs_not_negative (inf s) = refl
abs_not_negative (fin s m e) = refl

-- of a NaN and a number the number is taken, of two NaNs NaN
pub max_nan : (y : Float) → max nan y ≡ y
unfolding max is_nan
max_nan y = refl

pub min_nan : (y : Float) → min nan y ≡ y
unfolding min is_nan
min_nan y = refl

-- y is no number, so no test of x against it passes
other_nan : (x z : Float) (b : Bool) → cond (b && false) z x ≡ x
other_nan x z true = refl
other_nan x z false = refl

pub max_other_nan : (x : Float) → max x nan ≡ x
unfolding max is_nan lt eq
max_other_nan nan = refl
max_other_nan (inf s) = refl
max_other_nan (fin s m e) = other_nan (fin s m e) (fin (s && false) 0 (pos 0)) (eq (fin s m e) (fin false 0 (pos 0)))

pub min_other_nan : (x : Float) → min x nan ≡ x
unfolding min is_nan lt eq
min_other_nan nan = refl
min_other_nan (inf s) = refl
min_other_nan (fin s m e) = other_nan (fin s m e) (fin (s || false) 0 (pos 0)) (eq (fin s m e) (fin false 0 (pos 0)))

-- the larger of two zeros of unlike sign is 0.0, the smaller -0.0
pub max_zeros : (s : Bool) → max (fin s 0 (pos 0)) (fin (not s) 0 (pos 0)) ≡ fin false 0 (pos 0)
unfolding max is_nan lt eq
max_zeros true = refl
max_zeros false = refl

pub min_zeros : (s : Bool) → min (fin s 0 (pos 0)) (fin (not s) 0 (pos 0)) ≡ fin true 0 (pos 0)
unfolding min is_nan lt eq
min_zeros true = refl
min_zeros false = refl
