-- The difference of two f64 from 128 on that are not equal: both are whole numbers of 2 ^ 10 units (of far more, but that is enough), so the rounded difference is not below that. Assumes nothing.
use Rattle.std.proofs.Common.{◌≡◌, ap, ◌∙◌, negsuc, suc-mul, zero-mul, ℕ, zero, suc, ◌-◌, ◌*◌, ◌^◌, ◌<◌, ◌≤◌, Bool, true, false, not, T, leb, pos, refl, sym, subst, inl, inr, le_trans, le_of_lt, lt_of_le_of_lt, mul-le-mul, one-mul, mul-one, eq-zero-or-pos, not-le_of_lt, arith, pow_mono, leb→le, lit≤, lit<}
use lib.Ieee.{Float, fin, binary64, round, sub, lt, eq, le, fits}
use lib.Dec.{nleb→lt}
use Rattle.f64_helpers.specs.F64.{zero as zeroᶠ}
use Rattle.f64_helpers.specs.Ranges.{Finite}
use Rattle.f64_helpers.proofs.Order.{not_both}
use Rattle.f64_helpers.proofs.ExactDifferences.{one, Held, InUnits, Units, units_of, le_units, sub_once, once_in_order, in_steps, steps_less, rounded_once}
use Rattle.std.proofs.lemmas.Float as Floats

-- 53 digits and fewer than ten zeros
few_zeros : (q i : ℕ) → q < 2 ^ 53 → i ≤ 9 → q * 2 ^ i < 2 ^ 63
few_zeros q i Q I = lt_of_le_of_lt (mul-le-mul (le_of_lt Q) (pow_mono I)) (lit< tt)

reached : 2 ^ 63 ≤ 2 ^ 7 * one
unfolding one
reached = lit≤ tt

places_from_128 : (n : ℕ) → (h : Held n) → 2 ^ 7 * one ≤ n → 10 ≤ h.places
places_from_128 n h l = go (leb 10 h.places) (leb→le 10 h.places) (nleb→lt 10 h.places)
  where
    few : h.places < 10 → h.places ≤ 9
    few k = omega arith

    go : (b : Bool) → (T b → 10 ≤ h.places) → (T (not b) → h.places < 10) → 10 ≤ h.places
    go true p q = p tt
    go false p q = absurd (not-le_of_lt (few_zeros h.digits h.places h.short (few (q tt))) (subst (λ (k : ℕ). 2 ^ 63 ≤ k) h.is (le_trans reached l)))

-- two multiples of c that are not equal
apart : (n k c : ℕ) → (q r : ℕ) → n ≡ q * c → k ≡ r * c → k < n → c ≤ n - k
apart n k c q r e f l = go (q - r) (steps_less n k q r c e f) (omega arith)
  where
    go : (d : ℕ) → n - k ≡ d * c → 0 < n - k → c ≤ n - k
    go zero e p = absurd (omega (arith, zero-mul c))
    go (suc d) e p = omega (arith, suc-mul d c)

units_128 : InUnits (fin false 1 (pos 7)) (2 ^ 7 * one)
units_128 = (ap (λ (n : ℕ). n * one) (one-mul (2 ^ 7)) ∙ sym (mul-one (2 ^ 7 * one)), λ q. absurd q)

not_equal : (x y : Float) (n k : ℕ) → InUnits x n → InUnits y k → T (lt y x) → k < n
not_equal x y n k u v h = elim (eq-zero-or-pos (n - k)) [ inl z ↦ absurd (not_both y x h ((le_units x y n k u v).1 (omega arith))) | inr p ↦ omega arith ]

smallest_is : round binary64 false (2 ^ 10) one ≡ fin false 1 (negsuc 1063)
unfolding one round
smallest_is = refl

difference_in_units : (x y : Float) → Units x → Units y → T (le (fin false 1 (pos 7)) y) → T (lt y x) → T (le (fin false 1 (negsuc 1063)) (sub binary64 x y))
difference_in_units x y u v l h =
    let n = u.units in
    let k = v.units in
    let K : k < n = not_equal x y n k u.is v.is h in
    let L : 2 ^ 7 * one ≤ k = (le_units (fin false 1 (pos 7)) y (2 ^ 7 * one) k units_128 v.is).0 l in
    let p = places_from_128 n u.held (le_trans L (le_of_lt K)) in
    let q = places_from_128 k v.held L in
    let a : 2 ^ 10 ≤ n - k =
    apart n k (2 ^ 10) (u.held.digits * 2 ^ (u.held.places - 10)) (v.held.digits * 2 ^ (v.held.places - 10))
    (in_steps n u.held.digits u.held.places 10 u.held.is p) (in_steps k v.held.digits v.held.places 10 v.held.is q) K in
    subst (λ (z : Float). T (le z (sub binary64 x y))) smallest_is
    (once_in_order (round binary64 false (2 ^ 10) one) (sub binary64 x y) (2 ^ 10) (n - k) (rounded_once (2 ^ 10)) (sub_once x y n k u.is v.is (le_of_lt K)) a)

from_zero : (y : Float) → T (le (fin false 1 (pos 7)) y) → T (le zeroᶠ y)
from_zero y h = Floats.le_trans zeroᶠ (fin false 1 (pos 7)) y (unfold le lt eq in tt) h

-- 2 ^ -1064, of which the bounds' smallest gain still makes a number above 0
pub difference_from_128 : (x y : Float) → T (fits binary64 x) → T (fits binary64 y) → Finite x → Finite y
    → T (le (fin false 1 (pos 7)) y) → T (lt y x) → T (le (fin false 1 (negsuc 1063)) (sub binary64 x y))
difference_from_128 x y f g X Y l h =
    let z = from_zero y l in
    difference_in_units x y (units_of x f X (Floats.le_trans zeroᶠ y x z (Floats.le_of_lt y x h))) (units_of y g Y z) l h
