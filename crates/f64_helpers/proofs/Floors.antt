-- Floor and ceiling: of a value with no negative exponent unchanged, of a number above 0 and below 2 ^ 52 by its whole part. Assumes nothing.
use Rattle.std.proofs.Common.{◌≡◌, ℕ, suc, ◌+◌, ◌*◌, ◌/◌, ◌^◌, ◌<◌, ◌≤◌, Bool, true, false, not, T, pos, negsuc, ap, ◌∙◌, add-zero, div-mul-le_self, div-one, arith, nltb→le, pow_pos}
use native.Mathlib.Nat.{div-eq_of_lt-le, pow-succ'}
use lib.Ieee.{Float, fin, binary64, round, lt, of_int, to_unsigned, fits}
use Rattle.f64_helpers.specs.F64.{zero as zeroᶠ}
use Rattle.f64_helpers.specs.Helpers.{floor, ceil, quotient_up}
use Rattle.f64_helpers.proofs.Values.{exact, fits_frac}
use Rattle.f64_helpers.proofs.Casts.{cut, small_positive}

-- ---- a value with no negative exponent is whole
pub floor_whole : (s : Bool) (m k : ℕ) → T (fits binary64 (fin s m (pos k))) → floor (fin s m (pos k)) ≡ fin s m (pos k)
unfolding floor
floor_whole false m k t = ap (λ (z : ℕ). round binary64 false z 1) (div-one (m * 2 ^ k)) ∙ exact binary64 false m k t
floor_whole true m k t = ap (λ (z : ℕ). round binary64 true z 1) (div-one (m * 2 ^ k + 0) ∙ add-zero (m * 2 ^ k)) ∙ exact binary64 true m k t

pub ceil_whole : (s : Bool) (m k : ℕ) → T (fits binary64 (fin s m (pos k))) → ceil (fin s m (pos k)) ≡ fin s m (pos k)
unfolding ceil
ceil_whole true m k t = ap (λ (z : ℕ). round binary64 true z 1) (div-one (m * 2 ^ k)) ∙ exact binary64 true m k t
ceil_whole false m k t = ap (λ (z : ℕ). round binary64 false z 1) (div-one (m * 2 ^ k + 0) ∙ add-zero (m * 2 ^ k)) ∙ exact binary64 false m k t

-- ---- from 2 ^ 52 on no exponent is negative
too_large : (m p q : ℕ) → m < 9007199254740992 → q ≡ 2 * p → 0 < p → 4503599627370496 * q ≤ m * 1 * 1 → ⊥
too_large m p q a b c d = omega arith

pub no_fraction : (m k : ℕ) → T (fits binary64 (fin false m (negsuc k))) → 4503599627370496 * 2 ^ suc k ≤ m * 1 * 1 → ⊥
no_fraction m k t = too_large m (2 ^ k) (2 ^ suc k) (fits_frac false m k t) (pow-succ' 2 k) (pow_pos k)

pub not_frac : (m k : ℕ) → T (fits binary64 (fin false m (negsuc k))) → T (not (lt (fin false m (negsuc k)) (fin false 1 (pos 52)))) → ⊥
unfolding lt
not_frac m k t h = no_fraction m k t (nltb→le (m * 1 * 1) (4503599627370496 * 2 ^ suc k) h)

-- ---- below 2 ^ 52
pub floor_small : (x : Float) → T (lt zeroᶠ x) → T (lt x (fin false 1 (pos 52))) → of_int binary64 (pos (to_unsigned 64 x)) ≡ floor x
unfolding floor of_int
floor_small = small_positive (λ (x : Float). of_int binary64 (pos (to_unsigned 64 x)) ≡ floor x) (λ m e h. ap (λ (z : ℕ). round binary64 false z 1) (cut m e h))

-- ---- the quotient up
pub ceil_same : (a b : ℕ) → 0 < b → a ≤ a / b * b → quotient_up a b ≡ a / b
ceil_same a b B h =
    let q = a / b in
    let l : q * b ≤ a = div-mul-le_self a b in
    div-eq_of_lt-le b (omega arith) (omega arith)
