-- Sign bits: rounding keeps the sign that it is given, and a sum of what is not below 0 keeps a clear one. And -0.0: a sum of two f64 is that only where both are. Assumes nothing.
use Rattle.std.proofs.Common.{◌≡◌, refl, ℕ, zero, suc, ◌+◌, ◌-◌, ◌*◌, ◌/◌, ◌%◌, ◌^◌, ◌<◌, ◌≤◌, Bool, true, false, cond, not, ◌&&◌, T, ltb, ◌⊎◌, ℤ, sym, ap, ap₂, ◌∙◌, subst, inl, inr, ⊎_elim, add-mul, suc-mul, zero-mul, mul-one, mul-pos, mul-le-mul_right, lt_of_mul-lt-mul_right, T_not, arith, ltb→lt}
use Prim.Native.Nat.{compare}
use mathlib.Core.Bool.{beq}
use native.Mathlib.Nat.{eq-zero-or-pos}
use lib.Dec.{not_T}
use lib.Ieee.{Float, nan, inf, fin, Format, binary64, prec, emax, low, up, down, nearest, odd, units, round, size, level, sum, neg, add, sub, lt, eq, le, fits}
use lib.Ieee.Fits.{and_r, down_pos, neg-fits}
use lib.Ieee.Order.{round_mono}
use Rattle.std.proofs.lemmas.Float.{lt_of_lt_of_le, le_of_eq, eq_flip}
use Rattle.f64_helpers.specs.F64.{◌⊕◌, ◌⊖◌, ◌≤ᶠ◌, decimal, zero as zeroᶠ}
use Rattle.f64_helpers.specs.Helpers.{negative}
use Rattle.f64_helpers.specs.Ranges.{Finite, NotMinusZero}
use Rattle.f64_helpers.proofs.Values.{in_places}
use Rattle.f64_helpers.proofs.Signs.{neg_neg}
use Rattle.f64_helpers.proofs.Negation.{neg_round}
use Rattle.f64_helpers.proofs.Sums.{le_turned}
use Rattle.f64_helpers.proofs.Monotone.{no_part}
use Rattle.f64_helpers.proofs.ExactDifferences.{one, one_pos, at_left, at_right}

-- ---- rounding keeps the sign
odd_sign : (d : ℕ) (s : Bool) (q k l : ℕ) → negative (odd d s q k l) ≡ s
unfolding odd
odd_sign d s zero k l = refl
odd_sign d s (suc q) k l = refl

units_sign : (f : Format) (s : Bool) (q k : ℕ) → negative (units f s q k) ≡ s
unfolding units
units_sign f s q k = go (ltb (q * 2 ^ k) (2 ^ (low f + suc (emax f))))
  where
    go : (b : Bool) → negative (cond b (odd (suc (prec f)) s q k (low f)) (inf s)) ≡ s
    go true = odd_sign (suc (prec f)) s q k (low f)
    go false = refl

pub round_sign : (f : Format) (s : Bool) (a c : ℕ) → negative (round f s a c) ≡ s
unfolding round
round_sign f s a c =
    let n = a * 2 ^ low f in
    let k = size (n / c) - prec f in
    let u = c * 2 ^ k in
    units_sign f s (nearest (n / u) (compare (n % u * 2) u)) k

-- ---- what is not -0.0: what has its sign bit clear, what is no zero, and minus what is above 0
pub clear_not_minus_zero : (x : Float) → negative x ≡ false → NotMinusZero x
clear_not_minus_zero x h = subst (λ (b : Bool). T (not (b && eq x zeroᶠ))) (sym h) tt

pub not_minus_zero : (x : Float) → (T (eq x zeroᶠ) → ⊥) → NotMinusZero x
not_minus_zero x f = not_T (negative x && eq x zeroᶠ) (λ h. f (and_r (negative x) (eq x zeroᶠ) h))

infinity_sign : (s : Bool) → NotMinusZero (inf s)
infinity_sign s = not_minus_zero (inf s) (λ h. unfold eq in h)

pub opposite_sign : (p : Float) → T (lt zeroᶠ p) → NotMinusZero (neg p)
opposite_sign p h =
    not_minus_zero (neg p)
    (λ e.
    let under : T (le (neg (neg p)) (neg zeroᶠ)) = le_turned zeroᶠ (neg p) (le_of_eq zeroᶠ (neg p) (eq_flip (neg p) zeroᶠ e)) in
    none (lt_of_lt_of_le zeroᶠ p (neg zeroᶠ) h (subst (λ (z : Float). T (le z (neg zeroᶠ))) (neg_neg p) under)))
  where
    none : T (lt zeroᶠ (neg zeroᶠ)) → ⊥
    none k = unfold neg lt in k

pub decimal_sign : (n d : ℕ) → NotMinusZero (decimal n d)
decimal_sign n d = clear_not_minus_zero (decimal n d) (round_sign binary64 false n d)

level_zero : (a b : ℕ) → a ≡ 0 → b ≡ 0 → T (level true a false b)
level_zero a b p q = rw (p, q) tt

-- what has its sign bit set and is not -0.0 has a size
pub size_above_zero : (s : Bool) (m : ℕ) (e : ℤ) → NotMinusZero (fin s m e) → T s → 0 < m * up e * 1
unfolding eq
size_above_zero false m e n t = absurd t
size_above_zero true m e n t = go (eq-zero-or-pos (m * up e * 1))
  where
    go : (m * up e * 1 ≡ 0) ⊎ (0 < m * up e * 1) → 0 < m * up e * 1
    go (inl z) = absurd (T_not (level true (m * up e * 1) false (0 * 1 * down e)) n (level_zero (m * up e * 1) (0 * 1 * down e) z (zero-mul (down e))))
    go (inr p) = p

-- ---- a sum of what has its sign bit clear, and of what is not below 0
clear_sum : (t : Bool) (a b c : ℕ) → (T t → b ≡ 0) → negative (sum binary64 false a t b c) ≡ false
unfolding sum
clear_sum false a b c z = round_sign binary64 false (a + b) c
clear_sum true a b c z = go (ltb a b) (ltb→lt a b)
  where
    none : b ≡ 0 → a < b → ⊥
    none e l = omega arith

    go : (p : Bool) → (T p → a < b) → negative (cond p (round binary64 true (b - a) c) (round binary64 false (a - b) c)) ≡ false
    go true l = absurd (none (z tt) (l tt))
    go false l = round_sign binary64 false (a - b) c

pub sum_clear : (x y : Float) → negative x ≡ false → Finite x → Finite y → T (zeroᶠ ≤ᶠ y) → negative (x ⊕ y) ≡ false
unfolding add
sum_clear nan y h f g k = absurd f
sum_clear (inf s) y h f g k = absurd f
sum_clear (fin s m e) nan h f g k = absurd g
sum_clear (fin s m e) (inf t) h f g k = absurd g
sum_clear (fin s m e) (fin t n d) h f g k =
    subst (λ (s : Bool). negative (sum binary64 s (m * up e * down d) t (n * up d * down e) (down e * down d)) ≡ false) (sym h)
    (clear_sum t (m * up e * down d) (n * up d * down e) (down e * down d) (λ u. no_size t u k))
  where
    no_size : (t : Bool) → T t → T (zeroᶠ ≤ᶠ fin t n d) → n * up d * down e ≡ 0
    no_size true u k = omega (arith, no_part n d k, ap (λ (z : ℕ). z * down e) (no_part n d k))
    no_size false u k = absurd u

-- ---- a sum of two f64 that are not both -0.0: it is a whole number of units of the smallest value (ExactDifferences.antt), so that no sum but 0 is rounded to 0
smallest_above : T (lt zeroᶠ (round binary64 false 1 one))
unfolding one round lt
smallest_above = tt

-- signs that are alike
pub same_sign : (s t : Bool) → T (beq s t) → s ≡ t
same_sign true true h = refl
same_sign true false h = absurd h
same_sign false true h = absurd h
same_sign false false h = refl

-- a fraction of at least one unit
fraction_sign : (s : Bool) (k c : ℕ) → 0 < c → (T s → c ≤ k * one) → NotMinusZero (round binary64 s k c)
fraction_sign false k c C f = clear_not_minus_zero (round binary64 false k c) (round_sign binary64 false k c)
fraction_sign true k c C f =
    let y = round binary64 false k c in
    let above : T (lt zeroᶠ y) = lt_of_lt_of_le zeroᶠ (round binary64 false 1 one) y smallest_above (round_mono binary64 1 one k c one_pos C (omega (arith, f tt))) in
    subst NotMinusZero (neg_round binary64 false k c) (opposite_sign y above)

-- k / c is b / c less a / c, of j and of i units: where it is above 0 it is at least one unit
at_least_one : (k a b c i j : ℕ) → k + a ≡ b → a * one ≡ i * c → b * one ≡ j * c → 0 < k → c ≤ k * one
at_least_one k a b c i j e p q K =
    let s : k * one + a * one ≡ b * one = sym (add-mul k a one) ∙ ap (λ (z : ℕ). z * one) e in
    let o : i < j = lt_of_mul-lt-mul_right c (omega (arith, s, p, q, mul-pos K one_pos)) in
    omega (arith, s, p, q, mul-le-mul_right c o, suc-mul i c)

-- ±a / c and ±b / c, of i and of j units
signed_sum_sign : (s t : Bool) (a b c i j : ℕ) → 0 < c → a * one ≡ i * c → b * one ≡ j * c → (T s → T t → 0 < a + b) → NotMinusZero (sum binary64 s a t b c)
unfolding sum
signed_sum_sign s t a b c i j C p q h = go (beq s t) (ltb a b) (ltb b a) (λ e u. subst T (same_sign s t e) u) (ltb→lt a b) (ltb→lt b a)
  where
    total : (a + b) * one ≡ (i + j) * c
    total = add-mul a b one ∙ ap₂ ◌+◌ p q ∙ sym (add-mul i j c)

    go : (like less more : Bool) → (T like → T s → T t) → (T less → a < b) → (T more → b < a)
        → NotMinusZero (cond like (round binary64 s (a + b) c) (cond less (round binary64 t (b - a) c) (round binary64 (s && more) (a - b) c)))
    go true less more e f g =
        fraction_sign s (a + b) c C
        (λ u. at_least_one (a + b) 0 (a + b) c 0 (i + j) (omega arith) (omega (arith, zero-mul one, zero-mul c)) total (h u (e tt u)))
    go false true more e f g = fraction_sign t (b - a) c C (λ u. at_least_one (b - a) a b c i j (omega (arith, f tt)) p q (omega (arith, f tt)))
    go false false more e f g =
        fraction_sign (s && more) (a - b) c C
        (λ u. at_least_one (a - b) b a c j i (omega (arith, g (and_r s more u))) q p (omega (arith, g (and_r s more u))))

-- it is enough that the one is not -0.0
pub sum_not_minus_zero : (x y : Float) → T (fits binary64 x) → T (fits binary64 y) → NotMinusZero x ⊎ NotMinusZero y → NotMinusZero (x ⊕ y)
unfolding add one
sum_not_minus_zero nan y f g n = tt
sum_not_minus_zero (inf s) nan f g n = tt
sum_not_minus_zero (inf s) (inf t) f g n = go (beq s t)
  where
    go : (b : Bool) → NotMinusZero (cond b (inf s) nan)
    go true = infinity_sign s
    go false = tt
sum_not_minus_zero (inf s) (fin t k d) f g n = infinity_sign s
sum_not_minus_zero (fin s m e) nan f g n = tt
sum_not_minus_zero (fin s m e) (inf t) f g n = infinity_sign t
sum_not_minus_zero (fin s m e) (fin t k d) f g n =
    let p = in_places binary64 s m e f in
    let q = in_places binary64 t k d g in
    let a = m * up e in
    let b = k * up d in
    signed_sum_sign s t (a * down d) (b * down e) (down e * down d) (p.digits * 2 ^ p.places) (q.digits * 2 ^ q.places) (mul-pos (down_pos e) (down_pos d))
    (at_left a (down e) (down d) (p.digits * 2 ^ p.places) p.in_units) (at_right b (down e) (down d) (q.digits * 2 ^ q.places) q.in_units)
    (λ u v. ⊎_elim (λ x. omega (arith, part a (down d) (down_pos d) (size_above_zero s m e x u))) (λ y. omega (arith, part b (down e) (down_pos e) (size_above_zero t k d y v))) n)
  where
    part : (x d : ℕ) → 0 < d → 0 < x * 1 → 0 < x * d
    part x d D h = mul-pos (subst (λ (z : ℕ). 0 < z) (mul-one x) h) D

pub difference_not_minus_zero : (x y : Float) → T (fits binary64 x) → T (fits binary64 y) → NotMinusZero x → NotMinusZero (x ⊖ y)
unfolding sub
difference_not_minus_zero x y f g n = sum_not_minus_zero x (neg y) f (neg-fits binary64 y g) (inl n)
