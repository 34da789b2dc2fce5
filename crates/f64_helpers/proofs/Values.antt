-- Which values an f64 holds: a whole number with no negative exponent is the rounded form of itself, a fraction has at most 53 bits, and only the two zeros have the size 0. Assumes nothing.
use Rattle.std.proofs.Common.{◌≡◌, ◌-◌, le_of_suc-le-suc, lt_of_mul-lt-mul_right, lt_of_not-le, not-le_of_lt, add_comm, leb→le, mul_right_comm, ℕ, zero, suc, ◌+◌, ◌*◌, ◌%◌, ◌^◌, ◌<◌, ◌≤◌, Bool, false, ◌&&◌, ◌||◌, T, eqb, ltb, leb, ℤ, pos, negsuc, sym, refl, ap, ◌∙◌, subst, zero-lt-suc, mul_assoc, mul-lt-mul_of_pos_right, mul-pos, one-mul, zero-mul, mul-one, arith, eqb→eq, ltb→lt, pow_pos, pow-add}
use native.Mathlib.Nat.{pow-succ', sub-add_cancel}
use mathlib.Core.Bool.{beq}
use lib.Ieee.{Float, nan, inf, fin, Format, binary64, prec, emax, low, up, down, round, eq, fits}
use lib.Ieee.Fits.{down_pos, and_l, and_r, round-fits, up_pos}
use lib.Ieee.Exact.{HasValue, round_exact}
use lib.Pow.{pow-lt}
use lib.Ieee.Back.{whole_unique}
use Rattle.f64_helpers.specs.F64.{zero as zeroᶠ}
use Rattle.f64_helpers.specs.Helpers.{negative}

-- ---- a value that the format holds, and the fraction that it is
pow_back : (a b : ℕ) → 2 ^ a ≤ 2 ^ b → a ≤ b
pow_back a b h = le_of_suc-le-suc (lt_of_not-le (λ (g : suc b ≤ a). not-le_of_lt (pow-lt g) h))

record Places (f : Format) (e : ℤ) : Type 0 where
  pub places : ℕ
  pub in_units : up e * 2 ^ low f ≡ 2 ^ places * down e

places_of : (f : Format) (e : ℤ) → down e ≤ 2 ^ low f → Places f e
places_of f (pos k) h = record { places = k + low f; in_units = sym (pow-add 2 k (low f)) ∙ sym (mul-one (2 ^ (k + low f))) }
places_of f (negsuc k) h = record {
  places = low f - suc k;
  in_units = one-mul (2 ^ low f) ∙ ap (λ (n : ℕ). 2 ^ n) (sym (sub-add_cancel (pow_back (suc k) (low f) h))) ∙ pow-add 2 (low f - suc k) (suc k);
}

below_top : (m u l d j top : ℕ) → 0 < l → u * l ≡ j * d → m * u < top * d → m * j < top * l
below_top m u l d j top L e h =
    let left : m * u * l ≡ m * j * d = mul_assoc m u l ∙ ap (λ (n : ℕ). m * n) e ∙ sym (mul_assoc m j d) in
    lt_of_mul-lt-mul_right d (subst (λ (n : ℕ). n < top * l * d) left (subst (λ (n : ℕ). m * u * l < n) (mul_right_comm top d l) (mul-lt-mul_of_pos_right h L)))

-- m * 2 ^ e, counted in the format's smallest value: digits * 2 ^ places, with no more digits than the format keeps
pub record InPlaces (f : Format) (m : ℕ) (e : ℤ) : Type 0 where
  pub digits : ℕ
  pub places : ℕ
  pub short : digits < 2 ^ prec f
  pub under : digits * 2 ^ places < 2 ^ (low f + suc (emax f))
  pub in_units : m * up e * 2 ^ low f ≡ digits * 2 ^ places * down e

pub in_places : (f : Format) (s : Bool) (m : ℕ) (e : ℤ) → T (fits f (fin s m e)) → InPlaces f m e
unfolding fits
in_places f s zero e t =
    record { digits = 0; places = 0; short = pow_pos (prec f); under = pow_pos (low f + suc (emax f)); in_units = nothing (up e) (2 ^ low f) (down e) }
  where
    nothing : (u l d : ℕ) → 0 * u * l ≡ 0 * d
    nothing u l d = ap (λ (n : ℕ). n * l) (zero-mul u) ∙ zero-mul l ∙ sym (zero-mul d)
in_places f s (suc m) e t =
    let odd_bit : Bool = eqb (suc m % 2) 1 in
    let short : Bool = ltb (suc m) (2 ^ prec f) in
    let not_fine : Bool = leb (down e) (2 ^ low f) in
    let not_large : Bool = ltb (suc m * up e) (2 ^ suc (emax f) * down e) in
    let p = places_of f e (leb→le (down e) (2 ^ low f) (and_r (odd_bit && short) not_fine (and_l (odd_bit && short && not_fine) not_large t))) in
    record {
      digits = suc m;
      places = p.places;
      short = ltb→lt (suc m) (2 ^ prec f) (and_r odd_bit short (and_l (odd_bit && short) not_fine (and_l (odd_bit && short && not_fine) not_large t)));
      under =
          subst (λ (n : ℕ). suc m * 2 ^ p.places < n) (sym (pow-add 2 (suc (emax f)) (low f)) ∙ ap (λ (n : ℕ). 2 ^ n) (add_comm (suc (emax f)) (low f)))
          (below_top (suc m) (up e) (2 ^ low f) (down e) (2 ^ p.places) (2 ^ suc (emax f)) (pow_pos (low f)) p.in_units
          (ltb→lt (suc m * up e) (2 ^ suc (emax f) * down e) (and_r (odd_bit && short && not_fine) not_large t)));
      in_units = mul_assoc (suc m) (up e) (2 ^ low f) ∙ ap (λ (n : ℕ). suc m * n) p.in_units ∙ sym (mul_assoc (suc m) (2 ^ p.places) (down e));
    }

-- it is the rounded form of itself
pub own_value : (f : Format) (s : Bool) (m : ℕ) (e : ℤ) → T (fits f (fin s m e)) → HasValue (round f s (m * up e) (down e)) s (m * up e) (down e)
own_value f s m e t = let p = in_places f s m e t in round_exact f s (m * up e) (down e) p.digits p.places (down_pos e) p.short p.under p.in_units

-- ---- a value with no negative exponent is the rounded form of its own whole number
pub exact : (f : Format) (s : Bool) (m k : ℕ) → T (fits f (fin s m (pos k))) → round f s (m * 2 ^ k) 1 ≡ fin s m (pos k)
exact f s m k t = whole_unique f (round f s (m * 2 ^ k) 1) (fin s m (pos k)) s (m * 2 ^ k) (round-fits f s (m * 2 ^ k) 1) t (own_value f s m (pos k) t) (refl, refl)

-- ---- a value with a negative exponent has at most 53 bits
pub fits_frac : (s : Bool) (m k : ℕ) → T (fits binary64 (fin s m (negsuc k))) → m < 2 ^ 53
unfolding fits
fits_frac s zero k t = pow_pos 53
fits_frac s (suc m) k t =
    let a : Bool = eqb (suc m % 2) 1 in
    let b : Bool = ltb (suc m) (2 ^ 53) in
    let c : Bool = leb (2 ^ suc k) (2 ^ 1074) in
    let d : Bool = ltb (suc m * 1) (2 ^ 1024 * 2 ^ suc k) in
    ltb→lt (suc m) (2 ^ 53) (and_r a b (and_l (a && b) c (and_l (a && b && c) d t)))

-- ---- a value that fits and is 0 in size is one of the two zeros
one_is_two : (p q : ℕ) → q ≡ 2 * p → 0 < p → q ≡ 1 → ⊥
one_is_two p q a b c = omega arith

no_size : (a : ℕ) → 0 < a → a * 1 ≡ 0 → ⊥
no_size a h e = omega arith

pub zero_is : (s : Bool) (m : ℕ) (e : ℤ) → T (fits binary64 (fin s m e)) → m * up e * 1 ≡ 0 → fin s m e ≡ fin s 0 (pos 0)
unfolding fits
zero_is s (suc m) e t z = absurd (no_size (suc m * up e) (mul-pos (zero-lt-suc m) (up_pos e)) z)
zero_is s zero (pos zero) t z = refl
zero_is s zero (pos (suc k)) t z = absurd (one_is_two (2 ^ k) (2 ^ suc k) (pow-succ' 2 k) (pow_pos k) (sym (mul-one (2 ^ suc k)) ∙ eqb→eq (2 ^ suc k * 1) 1 t))
zero_is s zero (negsuc k) t z = absurd (one_is_two (2 ^ k) (2 ^ suc k) (pow-succ' 2 k) (pow_pos k) (sym (one-mul (2 ^ suc k)) ∙ eqb→eq (1 * 2 ^ suc k) 1 t))

-- equal to 0
pub zero_of_eq : (x : Float) → T (fits binary64 x) → T (eq x zeroᶠ) → x ≡ fin (negative x) 0 (pos 0)
unfolding eq
zero_of_eq nan t h = absurd h
zero_of_eq (inf s) t h = absurd h
zero_of_eq (fin s m e) t h = zero_is s m e t (flat (m * up e * 1) (down e) (eqb→eq (m * up e * 1) (0 * 1 * down e) (and_l (eqb (m * up e * 1) (0 * 1 * down e)) (beq s false || eqb (m * up e * 1) 0) h)))
  where
    flat : (a b : ℕ) → a ≡ 0 * 1 * b → a ≡ 0
    flat a b h = omega arith
