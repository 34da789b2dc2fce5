-- Numbers that are equal: they are one number, or zeros of either sign. So a product with one is that with the other or a zero of either sign, and what is added to a sum that is
-- not -0.0 shows no sign of a zero. Assumes nothing.
use Rattle.std.proofs.Common.{◌≡◌, ℕ, zero, suc, ◌+◌, ◌-◌, ◌*◌, ◌<◌, Bool, true, false, cond, not, ◌&&◌, ◌||◌, T, eqb, ltb, ◌⊎◌, ℤ, pos, sym, refl, ap, ◌∙◌, inl, inr, ⊎_elim, zero-mul, mul-zero, mul-pos, add-zero, eqb→eq, arith}
use mathlib.Core.Bool.{beq}
use native.Mathlib.Nat.{mul-mul-mul_comm}
use lib.Dec.{not_T, eqb-suc-zero}
use Rattle.std.proofs.lemmas.Bool.{lt-ltb}
use lib.Ieee.{Float, nan, inf, fin, binary64, up, down, level, unlike, round, sum, add, mul, lt, eq, le, is_nan, fits}
use lib.Ieee.Bits.{is_false}
use lib.Ieee.Fits.{and_l, and_r, down_pos, up_pos}
use lib.Ieee.Scale.{round_same}
use Rattle.std.proofs.lemmas.Float.{le_refl, le_left, lt_irrefl, lt_of_lt_of_le, lt-or-eq, le_of_eq, eq_flip, eq_trans, eq-not_lt}
use Rattle.f64_helpers.specs.F64.{◌⊕◌, ◌⊗◌, zero as zeroᶠ}
use Rattle.f64_helpers.specs.Helpers.{negative}
use Rattle.f64_helpers.specs.Ranges.{NotMinusZero}
use Rattle.f64_helpers.proofs.ExactDifferences.{no_units}
use Rattle.f64_helpers.proofs.Quotients.{round_zero}
use Rattle.f64_helpers.proofs.Values.{zero_of_eq}
use Rattle.f64_helpers.proofs.SignedZeros.{same_sign, size_above_zero}

-- ---- the order, and zeros
pub equal_of_le : (x y : Float) → T (le x y) → T (le y x) → T (eq x y)
equal_of_le x y h k = ⊎_elim (λ l. absurd (lt_irrefl x (lt_of_lt_of_le x y x l k))) (λ e. e) (lt-or-eq x y h)

pub equal_to_itself : (x : Float) → T (not (is_nan x)) → T (eq x x)
equal_to_itself x n = equal_of_le x x (le_refl x n) (le_refl x n)

pub zeros_equal : (s : Bool) → T (eq (fin s 0 (pos 0)) zeroᶠ)
unfolding eq
zeros_equal true = tt
zeros_equal false = tt

pub zero_not_nan : (x : Float) → T (eq x zeroᶠ) → is_nan x ≡ false
zero_not_nan x h = is_false (is_nan x) (le_left x zeroᶠ (le_of_eq x zeroᶠ h))

pub zeros_alike : (x y : Float) → T (eq x zeroᶠ) → T (eq y zeroᶠ) → T (eq x y)
zeros_alike x y p q = eq_trans x zeroᶠ y p (eq_flip y zeroᶠ q)

-- of two numbers that are zeros neither is below the other
pub zeros_not_below : (x y : Float) → T (eq x zeroᶠ) → T (eq y zeroᶠ) → lt x y ≡ false
zeros_not_below x y p q = is_false (lt x y) (not_T (lt x y) (eq-not_lt x y (zeros_alike x y p q)))

-- a zero that an f64 holds and that is not -0.0
pub plain_zero : (x : Float) → T (fits binary64 x) → NotMinusZero x → T (eq x zeroᶠ) → x ≡ zeroᶠ
plain_zero x f m z = zero_of_eq x f z ∙ ap (λ (s : Bool). fin s 0 (pos 0)) (go (negative x) (eq x zeroᶠ) m z)
  where
    go : (s b : Bool) → T (not (s && b)) → T b → s ≡ false
    go true true m z = absurd m
    go true false m z = absurd z
    go false b m z = refl

-- ---- the sign of a zero that is added
-- ±a / c and ±0 / c
add_nothing : (s t : Bool) (a b c : ℕ) → b ≡ 0 → (T s → 0 < a) → sum binary64 s a t b c ≡ round binary64 s a c
unfolding sum
add_nothing s t a b c z h = rw z (go s t h)
  where
    not_below : ltb a 0 ≡ false
    not_below = grind arith

    less_nothing : a - 0 ≡ a
    less_nothing = omega arith

    go : (s t : Bool) → (T s → 0 < a)
        → cond (beq s t) (round binary64 s (a + 0) c) (cond (ltb a 0) (round binary64 t (0 - a) c) (round binary64 (s && ltb 0 a) (a - 0) c)) ≡ round binary64 s a c
    go true true h = ap (λ (n : ℕ). round binary64 true n c) (add-zero a)
    go false false h = ap (λ (n : ℕ). round binary64 false n c) (add-zero a)
    go true false h = rw (not_below, lt-ltb 0 a (h tt), less_nothing)
    go false true h = rw (not_below, less_nothing)

-- A zero that is added to what is not -0.0 shows no sign.
pub sign_hidden : (x : Float) (s t : Bool) → NotMinusZero x → x ⊕ fin s 0 (pos 0) ≡ x ⊕ fin t 0 (pos 0)
unfolding add
sign_hidden nan s t n = refl
sign_hidden (inf r) s t n = refl
sign_hidden (fin r m e) s t n =
    let a = m * up e * 1 in
    let b = 0 * 1 * down e in
    let c = down e * 1 in
    add_nothing r s a b c (zero-mul (down e)) (size_above_zero r m e n) ∙ sym (add_nothing r t a b c (zero-mul (down e)) (size_above_zero r m e n))

-- ---- a product with equal numbers is the same, or is a zero with either sign
-- both are zeros
abbrev pub Zeros : Float → Float → Type 0
Zeros x y = (s : Bool) × (t : Bool) × (x ≡ fin s 0 (pos 0)) × (y ≡ fin t 0 (pos 0))

-- what `eq` says of two finite numbers
level_means : (s t : Bool) (a b : ℕ) → T (level s a t b) → (a ≡ b) × ((s ≡ t) ⊎ (a ≡ 0))
level_means s t a b h = (eqb→eq a b (and_l (eqb a b) (beq s t || eqb a 0) h), go (beq s t) (same_sign s t) (and_r (eqb a b) (beq s t || eqb a 0) h))
  where
    go : (p : Bool) → (T p → s ≡ t) → T (p || eqb a 0) → (s ≡ t) ⊎ (a ≡ 0)
    go true f h = inl (f tt)
    go false f h = inr (eqb→eq a 0 h)

first_zero : (m u d : ℕ) → 0 < u → 0 < d → m * u * d ≡ 0 → m ≡ 0
first_zero m u d U D h = no_units m u U (no_units (m * u) d D h)

some_size : (m u d : ℕ) → 0 < u → 0 < d → suc m * u * d ≡ 0 → ⊥
some_size m u d U D h = omega (arith, first_zero (suc m) u d U D h)

nothing_times : (u d : ℕ) → 0 * u * d ≡ 0
nothing_times u d = ap (λ (z : ℕ). z * d) (zero-mul u) ∙ zero-mul d

-- an infinity times ±m * up e / down e and times the equal ±n * up d / down d
infinite_product : (r s t : Bool) (m n : ℕ) (e d : ℤ) → T (level s (m * up e * down d) t (n * up d * down e))
    → cond (eqb m 0) nan (inf (unlike r s)) ≡ cond (eqb n 0) nan (inf (unlike r t))
infinite_product r s t zero zero e d h = refl
infinite_product r s t zero (suc n) e d h =
    absurd (some_size n (up d) (down e) (up_pos d) (down_pos e) (sym (level_means s t (0 * up e * down d) (suc n * up d * down e) h).0 ∙ nothing_times (up e) (down d)))
infinite_product r s t (suc m) zero e d h =
    absurd (some_size m (up e) (down d) (up_pos e) (down_pos d) ((level_means s t (suc m * up e * down d) (0 * up d * down e) h).0 ∙ nothing_times (up d) (down e)))
infinite_product r s t (suc m) (suc n) e d h =
    rw (eqb-suc-zero m, eqb-suc-zero n)
    (⊎_elim (λ same. ap (λ (s : Bool). inf (unlike r s)) same)
    (λ z. absurd (some_size m (up e) (down d) (up_pos e) (down_pos d) z)) (level_means s t (suc m * up e * down d) (suc n * up d * down e) h).1)

-- ±k / c times ±a / p and times ±b / q, where a / p is b / q
finite_product : (r s t : Bool) (k c a p b q : ℕ) → 0 < c → 0 < p → 0 < q → a * q ≡ b * p → (s ≡ t) ⊎ (a * q ≡ 0)
    → (round binary64 (unlike r s) (k * a) (c * p) ≡ round binary64 (unlike r t) (k * b) (c * q)) ⊎ Zeros (round binary64 (unlike r s) (k * a) (c * p)) (round binary64 (unlike r t) (k * b) (c * q))
finite_product r s t k c a p b q C P Q same (inl e) =
    inl (ap (λ (s : Bool). round binary64 (unlike r s) (k * a) (c * p)) e
    ∙ round_same binary64 (unlike r t) (k * a) (c * p) (k * b) (c * q) (mul-pos C P) (mul-pos C Q) (mul-mul-mul_comm k a c q ∙ ap (λ (z : ℕ). k * c * z) same ∙ mul-mul-mul_comm k c b p))
finite_product r s t k c a p b q C P Q same (inr z) =
    let a_zero : a ≡ 0 = no_units a q Q z in
    let b_zero : b ≡ 0 = no_units b p P (sym same ∙ z) in
    inr (
      unlike r s,
      unlike r t,
      ap (λ (n : ℕ). round binary64 (unlike r s) n (c * p)) (ap (λ (n : ℕ). k * n) a_zero ∙ mul-zero k) ∙ round_zero (unlike r s) (c * p) (mul-pos C P),
      ap (λ (n : ℕ). round binary64 (unlike r t) n (c * q)) (ap (λ (n : ℕ). k * n) b_zero ∙ mul-zero k) ∙ round_zero (unlike r t) (c * q) (mul-pos C Q),
    )

pub product_equal : (g x y : Float) → T (eq x y) → (g ⊗ x ≡ g ⊗ y) ⊎ Zeros (g ⊗ x) (g ⊗ y)
unfolding eq mul
product_equal g nan y h = absurd h
product_equal g (inf s) nan h = absurd h
product_equal g (inf s) (fin t n d) h = absurd h
product_equal g (fin s m e) nan h = absurd h
product_equal g (fin s m e) (inf t) h = absurd h
product_equal g (inf s) (inf t) h = inl (ap (λ (s : Bool). mul binary64 g (inf s)) (same_sign s t h))
product_equal nan (fin s m e) (fin t n d) h = inl refl
product_equal (inf r) (fin s m e) (fin t n d) h = inl (infinite_product r s t m n e d h)
product_equal (fin r k c) (fin s m e) (fin t n d) h =
    let means = level_means s t (m * up e * down d) (n * up d * down e) h in
    finite_product r s t (k * up c) (down c) (m * up e) (down e) (n * up d) (down d) (down_pos c) (down_pos e) (down_pos d) means.0 means.1

-- So a sum with such a product is the same.
pub sum_same : (b g x y : Float) → NotMinusZero b → T (eq x y) → b ⊕ g ⊗ x ≡ b ⊕ g ⊗ y
sum_same b g x y n h =
    ⊎_elim (λ e. ap (λ (z : Float). b ⊕ z) e)
    (λ z. ap (λ (y : Float). b ⊕ y) z.2 ∙ sign_hidden b z.0 z.1 n ∙ sym (ap (λ (y : Float). b ⊕ y) z.3))
    (product_equal g x y h)
