-- A reading is the f64 nearest to its decimal, at a tie the even one, and has the decimal's sign. Assumes nothing.
use mathlib.Core.Path.{◌≡◌, refl, sym, ap, ◌∙◌, subst}
use mathlib.Core.Logic.{◌⊎◌, inl, inr}
use Prim.Native.Nat.{ℕ, ◌+◌, ◌*◌, ◌%◌, ◌^◌, ◌≤◌, ◌<◌}
use native.Mathlib.Nat.{le_trans, le_of_eq, le_antisymm, le_of_mul-le-mul_right, lt_irrefl, zero-mul, mul-pos, mul-le-mul_right, eq-zero-or-pos}
use native.Mathlib.Omega.{arith}
use mathlib.Core.Bool.{Bool, true, false}
use lib.Dec.{T}
use lib.Pow.{pow_pos}
use lib.Ieee.{Float, nan, inf, fin, binary64, fits}
use lib.Ieee.Fits.{round-fits}
use lib.Ieee.Bits.{is_true}
use lib.Ieee.Order.{drop, kept}
use lib.Ieee.Scale.{grid, finite}
use lib.Ieee.Positive.{num, den, den_pos}
use Rattle.std.specs.Float.{is_sign_negative, float_is_finite}
use Rattle.std.proofs.lemmas.Float.{T_from_true}
use Rattle.decimals.specs.declared.Decimal.{Decimal}
use Rattle.decimals.specs.Decimals.{allowed, reading}
use Rattle.decimals.specs.NearestReading.{gap, same_sign, apart, NoFarther, AsFar, IsNearest}
use Rattle.decimals.proofs.ClosestWhole.{closest_none}
use Rattle.decimals.proofs.RoundedNearest.{size_gap, size_near, size_tie, cross_of, even_significand}
use Rattle.decimals.proofs.SignAndSize.{sign_of_value, finite_of_value, same_float, last_bit}
use Rattle.decimals.proofs.OnlyDecimal.{ten_pos, reading_value}

-- ---- a number of the format, and its parts

pub number_finite : (x : Float) → float_is_finite x ≡ true → T (finite x)
unfolding float_is_finite
number_finite nan e = T_from_true false e
number_finite (inf s) e = T_from_true false e
number_finite (fin s m e) h = tt

finite_number : (x : Float) → T (finite x) → float_is_finite x ≡ true
unfolding float_is_finite
finite_number nan t = absurd t
finite_number (inf s) t = absurd t
finite_number (fin s m e) t = refl

-- ---- how far a value lies, by whether its sign is the decimal's
abbrev apart_by : Bool → ℕ → ℕ → ℕ
apart_by true a b = gap a b
apart_by false a b = a + b

pub apart_is : (d : Decimal) (x : Float) (like : Bool) → same_sign (is_sign_negative x) d.minus ≡ like → apart d x
    ≡ apart_by like (num x * 10 ^ d.places) (d.digits * den x)
apart_is d x true e = rw e
apart_is d x false e = rw e

pub own_sign : (s : Bool) → same_sign s s ≡ true
own_sign true = refl
own_sign false = refl

pub like_sign : (s t : Bool) → same_sign s t ≡ true → s ≡ t
like_sign true t e = sym e
like_sign false true e = e
like_sign false false e = refl

gap_least : (like : Bool) (a b : ℕ) → gap a b ≤ apart_by like a b
gap_least true a b = omega arith
gap_least false a b = omega arith

-- where that is no less, one of the two is 0
gap_most : (a b : ℕ) → a + b ≤ gap a b → (a ≡ 0) ⊎ (b ≡ 0)
gap_most a b h = elim (eq-zero-or-pos a) [ inl z ↦ inl z | inr p ↦ inr (omega arith) ]

no_first : (a b : ℕ) → 0 < b → a * b ≡ 0 → a ≡ 0
no_first a b B e = elim (eq-zero-or-pos a) [ inl z ↦ z | inr p ↦ absurd (lt_irrefl 0 (subst (λ (n : ℕ). 0 < n) e (mul-pos p B))) ]

module _ (d : Decimal) (h : allowed d ≡ true) where
  sign_is : is_sign_negative (reading d) ≡ d.minus
  sign_is = sign_of_value (reading d) d.minus (grid binary64 d.digits (10 ^ d.places)) (2 ^ 1074) (reading_value d h)

  pub own_value : num (reading d) * 2 ^ 1074 ≡ grid binary64 d.digits (10 ^ d.places) * den (reading d)
  own_value = cross_of (reading d) d.minus (grid binary64 d.digits (10 ^ d.places)) (2 ^ 1074) (reading_value d h)

  pub own_finite : T (finite (reading d))
  own_finite = finite_of_value (reading d) d.minus (grid binary64 d.digits (10 ^ d.places)) (2 ^ 1074) (reading_value d h)

  pub own_apart : apart d (reading d) ≡ size_gap (reading d) d.digits (10 ^ d.places)
  own_apart = apart_is d (reading d) true (ap (λ (s : Bool). same_sign s d.minus) sign_is ∙ own_sign d.minus)

  pub own_fits : T (fits binary64 (reading d))
  unfolding reading
  own_fits = round-fits binary64 d.minus d.digits (10 ^ d.places)

  near : (y : Float) (like : Bool) → same_sign (is_sign_negative y) d.minus ≡ like → T (fits binary64 y) → T (finite y) → NoFarther d (reading d) y
  near y like e t u =
      rw (own_apart, apart_is d y like e)
      (le_trans (size_near binary64 d.digits (10 ^ d.places) (ten_pos d.places) (reading d) own_value y t u)
      (mul-le-mul_right (den (reading d)) (gap_least like (num y * 10 ^ d.places) (d.digits * den y))))

  -- what is kept of a value of size 0 is 0, and of no digits too
  kept_none : num (reading d) ≡ 0 → kept 53 (d.digits * 2 ^ 1074) (10 ^ d.places) % 2 ≡ 0
  kept_none z =
      none (kept 53 (d.digits * 2 ^ 1074) (10 ^ d.places)) (2 ^ drop 53 (d.digits * 2 ^ 1074) (10 ^ d.places)) (den (reading d))
      (pow_pos (drop 53 (d.digits * 2 ^ 1074) (10 ^ d.places))) (den_pos (reading d))
      (sym own_value ∙ ap (λ (n : ℕ). n * 2 ^ 1074) z ∙ zero-mul (2 ^ 1074))
    where
      none : (k u g : ℕ) → 0 < u → 0 < g → k * u * g ≡ 0 → k % 2 ≡ 0
      none k u g U G e = ap (λ (k : ℕ). k % 2) (no_first k u U (no_first (k * u) g G e))

  kept_no_digits : d.digits ≡ 0 → kept 53 (d.digits * 2 ^ 1074) (10 ^ d.places) % 2 ≡ 0
  kept_no_digits z =
      let k = drop 53 (d.digits * 2 ^ 1074) (10 ^ d.places) in
      ap (λ (n : ℕ). n % 2) (closest_none (d.digits * 2 ^ 1074) (10 ^ d.places * 2 ^ k) (mul-pos (ten_pos d.places) (pow_pos k))
      (ap (λ (n : ℕ). n * 2 ^ 1074) z ∙ zero-mul (2 ^ 1074)))

  -- of two that lie as far, and differ, this one's last digit is 0
  even_kept : (y : Float) (like : Bool) → same_sign (is_sign_negative y) d.minus ≡ like → T (fits binary64 y) → T (finite y) → (y ≡ reading d → ⊥) → AsFar d (reading d) y
      → kept 53 (d.digits * 2 ^ 1074) (10 ^ d.places) % 2 ≡ 0
  even_kept y true e t u n a =
      elim (size_tie binary64 d.digits (10 ^ d.places) (ten_pos d.places) (reading d) own_value y t u (rw (own_apart, apart_is d y true e) at a)) [
        | inl q ↦ absurd (n (same_float binary64 y (reading d) t own_fits u own_finite (like_sign (is_sign_negative y) d.minus e ∙ sym sign_is) q))
        | inr z ↦ z
      ]
  even_kept y false e t u n a =
      let x = reading d in
      let c = 10 ^ d.places in
      let as_far : size_gap x d.digits c * den y ≡ (num y * c + d.digits * den y) * den x = rw (own_apart, apart_is d y false e) at a in
      let least : num y * c + d.digits * den y ≤ size_gap y d.digits c =
      le_of_mul-le-mul_right (le_trans (le_of_eq (sym as_far)) (size_near binary64 d.digits c (ten_pos d.places) x own_value y t u)) (den_pos x) in
      let level : size_gap y d.digits c ≡ num y * c + d.digits * den y = le_antisymm (gap_least false (num y * c) (d.digits * den y)) least in
      elim (size_tie binary64 d.digits c (ten_pos d.places) x own_value y t u (as_far ∙ ap (λ (n : ℕ). n * den x) (sym level))) [
        | inl q ↦ elim (gap_most (num y * c) (d.digits * den y) least) [
          | inl z ↦ kept_none (no_first (num x) (den y) (den_pos y) (sym q ∙ ap (λ (n : ℕ). n * den x) (no_first (num y) c (ten_pos d.places) z) ∙ zero-mul (den x)))
          | inr z ↦ kept_no_digits (no_first d.digits (den y) (den_pos y) z)
        ]
        | inr z ↦ z
      ]

pub is_nearest : (d : Decimal) → allowed d ≡ true → IsNearest d (reading d)
is_nearest d h = record {
  number = (is_true (fits binary64 (reading d)) (own_fits d h), finite_number (reading d) (own_finite d h));
  nearest = λ y n. near d h y (same_sign (is_sign_negative y) d.minus) refl (T_from_true (fits binary64 y) n.0) (number_finite y n.1);
  even = λ y n o a.
      last_bit binary64 (reading d) (own_finite d h)
      ∙ even_significand binary64 d.digits (10 ^ d.places) (reading d) (own_value d h)
      (even_kept d h y (same_sign (is_sign_negative y) d.minus) refl (T_from_true (fits binary64 y) n.0) (number_finite y n.1) o a);
}

pub sign : (d : Decimal) → allowed d ≡ true → is_sign_negative (reading d) ≡ d.minus
sign = sign_is
