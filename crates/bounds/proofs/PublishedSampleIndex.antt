-- The published `sample_index`, which adds 1e-9 before the floor, gives what document 01's gives on whole seconds with a period of 120: the quotient lies below the next whole number by
-- far more than that. Assumes nothing.
use Rattle.std.proofs.Common.{◌≡◌, ℕ, ◌+◌, ◌-◌, ◌*◌, ◌/◌, ◌^◌, ◌<◌, ◌≤◌, Bool, true, false, T, ℤ, pos, negsuc, sym, refl, ap, ◌∙◌, subst, ap₂, add-mul, one-mul, div-le_self, div-mul-le_self, mul-one, mul-pos, mul-le-mul_right, zero-lt-suc, mul_assoc, mul_comm, mul_right_comm, arith, lit≤}
use native.Mathlib.Nat.{lt-div-mul-add, le_trans as le_trans_nat, le_of_eq as le_of_eq_nat}
use lib.Ieee.{Float, fin, binary64, low, up, down, round, sum, add}
use lib.Ieee.Fits.{down_pos}
use Rattle.f64_helpers.specs.F64.{◌⊕◌, ◌⊖◌, ◌⊘◌, decimal}
use Rattle.f64_helpers.specs.Helpers.{floor, negative}
use Rattle.f64_helpers.specs.Seconds.{Whole}
use Rattle.f64_helpers.proofs.Quotients.{Within, round_zero, div_is, sign_whole, next_below, rounded_within, floor_within, as_i64_whole, whole_held, fraction_held}
use Rattle.f64_helpers.proofs.WholeSeconds.{sub_whole}
use Rattle.f64_helpers.proofs.Times.{decimal_whole}
use Rattle.cdl_recurrences.specs.CdlRecurrences.{sample_index}
use Rattle.cdl_recurrences.proofs.SampleGrid.{sample_index_whole}
use Rattle.bounds.specs.PublishedHelpers.{published_sample_index}

-- 1e-9, which is at most 1 / 256
nano_is : decimal 1 1000000000 ≡ fin false 4835703278458517 (negsuc 81)
unfolding round
nano_is = refl

-- a number from q to q + 127 / 128, and one of at most 1 / 256: the sum, rounded, is from q to q + 255 / 256
sum_within : (m : ℕ) (e : ℤ) (n : ℕ) (d : ℤ) (q w : ℕ) → q * 256 + 255 < 2 ^ 53 → w ≡ q * 128 + 127 → q * down e ≤ m * up e * 1 → m * up e * 128 ≤ w * down e → n * up d * 256 ≤ down d
    → Within (fin false m e ⊕ fin false n d) q 1 (q * 256 + 255) 256
unfolding add sum
sum_within m e n d q w Q W low high small =
    rounded_within (m * up e * down d + n * up d * down e) (down e * down d) q 1 (q * 256 + 255) 256 (mul-pos (down_pos e) (down_pos d)) (zero-lt-suc 0) (zero-lt-suc 255)
    (whole_held q (omega arith)) (fraction_held (q * 256 + 255) 8 Q (lit≤ tt))
    (from_low (m * up e) (n * up d) (down d) (down e) q low) (to_high (m * up e) (n * up d) (down d) (down e) q w W high small)
  where
    from_low : (x y D E q : ℕ) → q * E ≤ x * 1 → q * (E * D) ≤ (x * D + y * E) * 1
    from_low x y D E q h =
        let l : q * E * D ≤ x * 1 * D = mul-le-mul_right D h in
        omega (arith, mul_assoc q E D, ap (λ (z : ℕ). z * D) (mul-one x), mul-one (x * D + y * E))

    linear : (a b c v l r : ℕ) → l ≡ a * 128 → r ≡ b * 256 → l ≤ v → r ≤ c → (a + b) * 256 ≤ v * 2 + c
    linear a b c v l r p s h k = omega arith

    expand : (w c : ℕ) → (w * 2 + 1) * c ≡ w * c * 2 + c
    expand w c = add-mul (w * 2) 1 c ∙ ap₂ ◌+◌ (mul_right_comm w 2 c) (one-mul c)

    to_high : (x y D E q w : ℕ) → w ≡ q * 128 + 127 → x * 128 ≤ w * E → y * 256 ≤ D → (x * D + y * E) * 256 ≤ (q * 256 + 255) * (E * D)
    to_high x y D E q w W h k =
        let l : x * 128 * D ≤ w * (E * D) = subst (λ (z : ℕ). x * 128 * D ≤ z) (mul_assoc w E D) (mul-le-mul_right D h) in
        let r : y * 256 * E ≤ E * D = subst (λ (z : ℕ). y * 256 * E ≤ z) (mul_comm D E) (mul-le-mul_right E k) in
        let twice : q * 256 + 255 ≡ w * 2 + 1 = omega arith in
        rw (twice, expand w (E * D)) (linear (x * D) (y * E) (E * D) (w * (E * D)) (x * 128 * D) (y * 256 * E) (mul_right_comm x 128 D) (mul_right_comm y 256 E) l r)

floor_of_nano : Whole (floor (fin true 0 (pos 0) ⊕ decimal 1 1000000000)) 0
unfolding round add floor
floor_of_nano = (refl, λ q. refl)

-- the whole quotient of a number of seconds by 120, with 1e-9 added before the floor
floor_with_nano : (s : Bool) (a : ℕ) → a ≤ 2147483648 → (T s → a ≡ 0) → Whole (floor (round binary64 s a 120 ⊕ decimal 1 1000000000)) (a / 120)
floor_with_nano true a A z = rw (z tt, round_zero true 120 (zero-lt-suc 119)) floor_of_nano
floor_with_nano false a A z =
    let q = a / 120 in
    let Q : q ≤ a = div-le_self a 120 in
    let y = rounded_within a 120 q 1 (q * 128 + 127) 128 (zero-lt-suc 119) (zero-lt-suc 0) (zero-lt-suc 127) (whole_held q (omega arith)) (fraction_held (q * 128 + 127) 7 (omega arith) (lit≤ tt))
    (le_trans_nat (div-mul-le_self a 120) (le_of_eq_nat (sym (mul-one a)))) (next_below a 120 q 128 (q * 128 + 127) (lt-div-mul-add (zero-lt-suc 119)) (lit≤ tt) (omega arith)) in
    rw (y.2, nano_is)
    (floor_within (fin false y.0 y.1 ⊕ fin false 4835703278458517 (negsuc 81)) q (q * 256 + 255) 256
    (sum_within y.0 y.1 4835703278458517 (negsuc 81) q (q * 128 + 127) (omega arith) refl y.3 y.4 (lit≤ tt)) (omega arith) (omega arith))

pub sample_index_same : (t t0 : Float) (n m : ℕ) → Whole t n → Whole t0 m → m ≤ n → n ≤ 2147483648
    → published_sample_index t t0 (decimal 120 1) ≡ sample_index t t0 (decimal 120 1)
unfolding published_sample_index
sample_index_same t t0 n m v u M N =
    let period : Whole (decimal 120 1) 120 = decimal_whole 120 (omega arith) in
    let since : Whole (t ⊖ t0) (n - m) = sub_whole binary64 t t0 n m v u M (omega arith) in
    let quotient : (t ⊖ t0) ⊘ decimal 120 1 ≡ round binary64 (negative (t ⊖ t0)) (n - m) 120 = div_is (t ⊖ t0) (decimal 120 1) (n - m) 120 since period (zero-lt-suc 119) in
    rw quotient
    (as_i64_whole (floor (round binary64 (negative (t ⊖ t0)) (n - m) 120 ⊕ decimal 1 1000000000)) ((n - m) / 120)
    (floor_with_nano (negative (t ⊖ t0)) (n - m) (omega arith) (sign_whole (t ⊖ t0) (n - m) since)) (omega (arith, div-le_self (n - m) 120)))
    ∙ sym (sample_index_whole t t0 (decimal 120 1) n m 120 v u M N period (zero-lt-suc 119) (lit≤ tt))
