-- Each operation keeps the order of what it is given: rounding keeps the order of fractions, and the exact results are in order. Assumes nothing.
use Rattle.std.proofs.Common.{◌≡◌, ℕ, zero, suc, ◌+◌, ◌*◌, ◌<◌, ◌≤◌, Bool, true, false, not, T, ℤ, pos, sym, refl, ap, ◌∙◌, subst, mul-le-mul_right, zero-lt-suc, mul_assoc, mul_comm, mul_left_comm, add-mul, mul-pos, mul-zero, zero-mul, mul-le-mul_left, ltb→lt, arith, mul-one, one-mul}
use lib.Ieee.{Float, nan, inf, fin, binary64, unlike, up, down, round, neg, sum, add, sub, mul, div, lt, le}
use lib.Ieee.Fits.{down_pos, up_pos}
use lib.Dec.{eqb-suc-zero}
use lib.Ieee.Scale.{round_same}
use Rattle.f64_helpers.specs.F64.{zero as zeroᶠ}
use Rattle.f64_helpers.specs.Ranges.{Finite}
use Rattle.f64_helpers.proofs.Order.{plus, plus_mul, fractions}
use Rattle.f64_helpers.proofs.Quotients.{round_zero}
use Rattle.f64_helpers.proofs.Sums.{rounded, rounded_in_order, le_turned, zeros_level, at_least_zero, at_most_zero}
use Rattle.std.proofs.lemmas.Float.{lt_of_lt_of_le}

-- ---- sums
-- x and y are two sums of fractions, each with what is taken away beside it, and multiplied out they are in order
in_order : (x x' n m y y' n' m' c c' : ℕ) → x + n ≡ x' + m → y + n' ≡ y' + m' → m * c' + n' * c ≤ m' * c + n * c' → x * c' + y' * c ≤ y * c + x' * c'
in_order x x' n m y y' n' m' c c' e e' h =
    let l : x * c' + n * c' ≡ x' * c' + m * c' = simp add-mul at (ap (λ (z : ℕ). z * c') e) in
    let r : y * c + n' * c ≡ y' * c + m' * c = simp add-mul at (ap (λ (z : ℕ). z * c) e') in
    omega arith

sums_in_order : (s : Bool) (a : ℕ) (t : Bool) (b c : ℕ) (s' : Bool) (a' : ℕ) (t' : Bool) (b' c' : ℕ) → 0 < c → 0 < c'
    → (plus s a + plus t b) * c' + (plus (not s') a' + plus (not t') b') * c ≤ (plus s' a' + plus t' b') * c + (plus (not s) a + plus (not t) b) * c'
    → T (le (sum binary64 s a t b c) (sum binary64 s' a' t' b' c'))
sums_in_order s a t b c s' a' t' b' c' C C' h =
    let r = rounded s a t b c in
    let r' = rounded s' a' t' b' c' in
    subst T (λ i. le (sym r.once i) (sym r'.once i))
    (rounded_in_order r.sign r'.sign r.size r'.size c c' C C'
    (in_order (plus r.sign r.size) (plus (not r.sign) r.size) (plus (not s) a + plus (not t) b) (plus s a + plus t b)
    (plus r'.sign r'.size) (plus (not r'.sign) r'.size) (plus (not s') a' + plus (not t') b') (plus s' a' + plus t' b') c c' r.exact r'.exact h))

-- u / p - u' / p is at most v / q - v' / q, and so for the other two: then so are their sums
both : (u u' v v' w w' z z' p q r k : ℕ) → u * q + v' * p ≤ v * p + u' * q → w * k + z' * r ≤ z * r + w' * k
    → (u * r + w * p) * (q * k) + (v' * k + z' * q) * (p * r) ≤ (v * k + z * q) * (p * r) + (u' * r + w' * p) * (q * k)
both u u' v v' w w' z z' p q r k h1 h2 =
    let l1 = mul-le-mul_right (r * k) h1 in
    let l2 = mul-le-mul_right (p * q) h2 in
    simp (add-mul, mul_assoc, mul_comm, mul_left_comm) (omega (arith, simp (add-mul, mul_assoc, mul_comm, mul_left_comm) at l1, simp (add-mul, mul_assoc, mul_comm, mul_left_comm) at l2))

-- of finite floats, as fractions: ±m * up e / down e
finite_add : (s : Bool) (m : ℕ) (e : ℤ) (s' : Bool) (m' : ℕ) (e' : ℤ) (t : Bool) (n : ℕ) (d : ℤ) (t' : Bool) (n' : ℕ) (d' : ℤ)
    → T (le (fin s m e) (fin s' m' e')) → T (le (fin t n d) (fin t' n' d')) → T (le (add binary64 (fin s m e) (fin t n d)) (add binary64 (fin s' m' e') (fin t' n' d')))
unfolding le add
finite_add s m e s' m' e' t n d t' n' d' h k =
    sums_in_order s (m * up e * down d) t (n * up d * down e) (down e * down d) s' (m' * up e' * down d') t' (n' * up d' * down e') (down e' * down d')
    (mul-pos (down_pos e) (down_pos d)) (mul-pos (down_pos e') (down_pos d'))
    (simp plus_mul
    (both (plus s m * up e) (plus (not s) m * up e) (plus s' m' * up e') (plus (not s') m' * up e') (plus t n * up d) (plus (not t) n * up d) (plus t' n' * up d') (plus (not t') n' * up d')
    (down e) (down e') (down d) (down d')
    (simp plus_mul at ((fractions s s' (m * up e) (m' * up e') (down e) (down e')).0 h)) (simp plus_mul at ((fractions t t' (n * up d) (n' * up d') (down d) (down d')).0 k))))

-- x is at most x', and y at most y'
pub add_mono : (x x' y y' : Float) → Finite x → Finite x' → Finite y → Finite y' → T (le x x') → T (le y y') → T (le (add binary64 x y) (add binary64 x' y'))
add_mono (fin s m e) (fin s' m' e') (fin t n d) (fin t' n' d') f f' g g' h k = finite_add s m e s' m' e' t n d t' n' d' h k
add_mono nan x' y y' f f' g g' h k = absurd f
add_mono (inf s) x' y y' f f' g g' h k = absurd f
add_mono x nan y y' f f' g g' h k = absurd f'
add_mono x (inf s') y y' f f' g g' h k = absurd f'
add_mono x x' nan y' f f' g g' h k = absurd g
add_mono x x' (inf t) y' f f' g g' h k = absurd g
add_mono x x' y nan f f' g g' h k = absurd g'
add_mono x x' y (inf t') f f' g g' h k = absurd g'

pub neg_finite : (x : Float) → Finite x → Finite (neg x)
unfolding neg
neg_finite nan f = f
neg_finite (inf s) f = f
neg_finite (fin s m e) f = f

-- and y' at most y
pub sub_mono : (x x' y y' : Float) → Finite x → Finite x' → Finite y → Finite y' → T (le x x') → T (le y' y) → T (le (sub binary64 x y) (sub binary64 x' y'))
unfolding sub
sub_mono x x' y y' f f' g g' h k = add_mono x x' (neg y) (neg y') f f' (neg_finite y g) (neg_finite y' g') h (le_turned y' y k)

-- ---- products and quotients
-- u / p - u' / p is at most v / q - v' / q, and so when both are multiplied by c / d
scaled : (u u' v v' p q c d : ℕ) → u * q + v' * p ≤ v * p + u' * q → (u * c) * (q * d) + (v' * c) * (p * d) ≤ (v * c) * (p * d) + (u' * c) * (q * d)
scaled u u' v v' p q c d h =
    let l = mul-le-mul_right (c * d) h in
    simp (mul_assoc, mul_comm, mul_left_comm) (omega (arith, simp (add-mul, mul_assoc, mul_comm, mul_left_comm) at l))

unlike_false : (s : Bool) → unlike s false ≡ s
unlike_false true = refl
unlike_false false = refl

-- ±m * up e / down e times c / d
module _ (s : Bool) (m : ℕ) (e : ℤ) (s' : Bool) (m' : ℕ) (e' : ℤ) (c d : ℕ) (D : 0 < d) (h : T (le (fin s m e) (fin s' m' e'))) where
  scaled_in_order : T (le (round binary64 s (m * up e * c) (down e * d)) (round binary64 s' (m' * up e' * c) (down e' * d)))
  unfolding le
  scaled_in_order =
      rounded_in_order s s' (m * up e * c) (m' * up e' * c) (down e * d) (down e' * d) (mul-pos (down_pos e) D) (mul-pos (down_pos e') D)
      (simp plus_mul
      (scaled (plus s m * up e) (plus (not s) m * up e) (plus s' m' * up e') (plus (not s') m' * up e') (down e) (down e') c d
      (simp plus_mul at ((fractions s s' (m * up e) (m' * up e') (down e) (down e')).0 h))))

pub mul_is : (s : Bool) (m : ℕ) (e : ℤ) (n : ℕ) (d : ℤ) → mul binary64 (fin s m e) (fin false n d) ≡ round binary64 s (m * up e * (n * up d)) (down e * down d)
unfolding mul
mul_is s m e n d = ap (λ (t : Bool). round binary64 t (m * up e * (n * up d)) (down e * down d)) (unlike_false s)

pub div_is : (s : Bool) (m : ℕ) (e : ℤ) (n : ℕ) (d : ℤ) → div binary64 (fin s m e) (fin false (suc n) d) ≡ round binary64 s (m * up e * down d) (down e * (suc n * up d))
unfolding div
div_is s m e n d = rw (eqb-suc-zero n, unlike_false s) (ap (λ (c : ℕ). round binary64 s (m * up e * down d) c) (mul_comm (suc n * up d) (down e)))

finite_mul : (s : Bool) (m : ℕ) (e : ℤ) (s' : Bool) (m' : ℕ) (e' : ℤ) (n : ℕ) (d : ℤ)
    → T (le (fin s m e) (fin s' m' e')) → T (le (mul binary64 (fin s m e) (fin false n d)) (mul binary64 (fin s' m' e') (fin false n d)))
finite_mul s m e s' m' e' n d h = subst T (λ i. le (sym (mul_is s m e n d) i) (sym (mul_is s' m' e' n d) i)) (scaled_in_order s m e s' m' e' (n * up d) (down d) (down_pos d) h)

finite_div : (s : Bool) (m : ℕ) (e : ℤ) (s' : Bool) (m' : ℕ) (e' : ℤ) (n : ℕ) (d : ℤ)
    → T (le (fin s m e) (fin s' m' e')) → T (le (div binary64 (fin s m e) (fin false (suc n) d)) (div binary64 (fin s' m' e') (fin false (suc n) d)))
finite_div s m e s' m' e' n d h =
    subst T (λ i. le (sym (div_is s m e n d) i) (sym (div_is s' m' e' n d) i)) (scaled_in_order s m e s' m' e' (down d) (suc n * up d) (mul-pos (zero-lt-suc n) (up_pos d)) h)

-- a product with what has the size 0, whatever the signs
nothing : (s t : Bool) (a b c : ℕ) → b ≡ 0 → 0 < c → round binary64 (unlike s t) (a * b) c ≡ fin (unlike s t) 0 (pos 0)
nothing s t a b c z C = ap (λ (n : ℕ). round binary64 (unlike s t) n c) (ap (λ (n : ℕ). a * n) z ∙ mul-zero a) ∙ round_zero (unlike s t) c C

pub no_part : (n : ℕ) (d : ℤ) → T (le zeroᶠ (fin true n d)) → n * up d ≡ 0
no_part n d h = omega (arith, at_least_zero true n d h)

zero_products : (s : Bool) (m : ℕ) (e : ℤ) (s' : Bool) (m' : ℕ) (e' : ℤ) (n : ℕ) (d : ℤ) → n * up d ≡ 0
    → T (le (mul binary64 (fin s m e) (fin true n d)) (mul binary64 (fin s' m' e') (fin true n d)))
unfolding mul
zero_products s m e s' m' e' n d z =
    subst T
    (λ i. le (sym (nothing s true (m * up e) (n * up d) (down e * down d) z (mul-pos (down_pos e) (down_pos d))) i)
    (sym (nothing s' true (m' * up e') (n * up d) (down e' * down d) z (mul-pos (down_pos e') (down_pos d))) i))
    (zeros_level (unlike s true) (unlike s' true))

-- x at most x', and k not below 0
pub mul_mono : (x x' k : Float) → Finite x → Finite x' → Finite k → T (le zeroᶠ k) → T (le x x') → T (le (mul binary64 x k) (mul binary64 x' k))
mul_mono (fin s m e) (fin s' m' e') (fin false n d) f f' g p h = finite_mul s m e s' m' e' n d h
mul_mono (fin s m e) (fin s' m' e') (fin true n d) f f' g p h = zero_products s m e s' m' e' n d (no_part n d p)
mul_mono nan x' k f f' g p h = absurd f
mul_mono (inf s) x' k f f' g p h = absurd f
mul_mono x nan k f f' g p h = absurd f'
mul_mono x (inf s') k f f' g p h = absurd f'
mul_mono x x' nan f f' g p h = absurd g
mul_mono x x' (inf t) f f' g p h = absurd g

unlike_turned : (s t : Bool) → unlike s t ≡ unlike t s
unlike_turned true true = refl
unlike_turned true false = refl
unlike_turned false true = refl
unlike_turned false false = refl

pub mul_turned : (x y : Float) → Finite x → Finite y → mul binary64 x y ≡ mul binary64 y x
unfolding mul
mul_turned nan y f g = absurd f
mul_turned (inf s) y f g = absurd f
mul_turned (fin s m e) nan f g = absurd g
mul_turned (fin s m e) (inf t) f g = absurd g
mul_turned (fin s m e) (fin t n d) f g =
    ap (λ (u : Bool). round binary64 u (m * up e * (n * up d)) (down e * down d)) (unlike_turned s t)
    ∙ ap (λ (a : ℕ). round binary64 (unlike t s) a (down e * down d)) (mul_comm (m * up e) (n * up d))
    ∙ ap (λ (c : ℕ). round binary64 (unlike t s) (n * up d * (m * up e)) c) (mul_comm (down e) (down d))

-- what is above 0 has its sign bit clear, and a size
pub record Above (v : Float) : Type 0 where
  pub size : ℕ
  pub power : ℤ
  pub is : v ≡ fin false (suc size) power

pub above_zero : (v : Float) → Finite v → T (lt zeroᶠ v) → Above v
unfolding lt
above_zero nan f h = absurd f
above_zero (inf s) f h = absurd f
above_zero (fin true n d) f h = absurd h
above_zero (fin false zero d) f h = absurd (none (down d) (up d) (ltb→lt (0 * 1 * down d) (0 * up d * 1) h))
  where
    none : (a b : ℕ) → 0 * 1 * a < 0 * b * 1 → ⊥
    none a b h = omega arith
above_zero (fin false (suc n) d) f h = record { size = n; power = d; is = refl }

-- x at most x', and v above 0
pub div_mono : (x x' v : Float) → Finite x → Finite x' → Finite v → T (lt zeroᶠ v) → T (le x x') → T (le (div binary64 x v) (div binary64 x' v))
div_mono nan x' v f f' g p h = absurd f
div_mono (inf s) x' v f f' g p h = absurd f
div_mono (fin s m e) nan v f f' g p h = absurd f'
div_mono (fin s m e) (inf s') v f f' g p h = absurd f'
div_mono (fin s m e) (fin s' m' e') v f f' g p h =
    let a = above_zero v g p in
    subst (λ (v : Float). T (le (div binary64 (fin s m e) v) (div binary64 (fin s' m' e') v))) (sym a.is) (finite_div s m e s' m' e' a.size a.power h)

-- a number above 0, over itself
over_itself : (n : ℕ) (d : ℤ) → div binary64 (fin false (suc n) d) (fin false (suc n) d) ≡ round binary64 false 1 1
over_itself n d =
    let k = suc n * up d in
    div_is false (suc n) d n d
    ∙ round_same binary64 false (k * down d) (down d * k) 1 1 (mul-pos (down_pos d) (mul-pos (zero-lt-suc n) (up_pos d))) (zero-lt-suc 0)
    (mul-one (k * down d) ∙ mul_comm k (down d) ∙ sym (one-mul (down d * k)))

pub self_quotient : (x : Float) → Finite x → T (lt zeroᶠ x) → div binary64 x x ≡ round binary64 false 1 1
self_quotient x f h = let a = above_zero x f h in subst (λ (x : Float). div binary64 x x ≡ round binary64 false 1 1) (sym a.is) (over_itself a.size a.power)

-- ---- a divisor that grows
-- v is at most w: n / r ≤ k / q. What stands over it grows smaller where it is not negative.
over : (a b n k q r : ℕ) → n * q ≤ k * r → a * q * (b * n) ≤ a * r * (b * k)
over a b n k q r h =
    let l = mul-le-mul_left (a * b) h in
    simp (mul_assoc, mul_comm, mul_left_comm) (omega (arith, simp (mul_assoc, mul_comm, mul_left_comm) at l))

no_quotient : (s : Bool) (m : ℕ) (e : ℤ) (n : ℕ) (d : ℤ) → m * up e ≡ 0 → div binary64 (fin s m e) (fin false (suc n) d) ≡ fin s 0 (pos 0)
no_quotient s m e n d z =
    div_is s m e n d
    ∙ ap (λ (a : ℕ). round binary64 s a (down e * (suc n * up d))) (ap (λ (a : ℕ). a * down d) z ∙ zero-mul (down d))
    ∙ round_zero s (down e * (suc n * up d)) (mul-pos (down_pos e) (mul-pos (zero-lt-suc n) (up_pos d)))

no_quotients : (s : Bool) (m : ℕ) (e : ℤ) (n : ℕ) (d : ℤ) (k : ℕ) (r : ℤ) → m * up e ≡ 0 → T (le (div binary64 (fin s m e) (fin false (suc n) d)) (div binary64 (fin s m e) (fin false (suc k) r)))
no_quotients s m e n d k r z = subst T (λ i. le (sym (no_quotient s m e n d z) i) (sym (no_quotient s m e k r z) i)) (zeros_level s s)

-- ±m * up e / down e over n / d and over the larger k / r
module _ (m : ℕ) (e : ℤ) (n : ℕ) (d : ℤ) (k : ℕ) (r : ℤ) (h : suc n * up d * down r ≤ suc k * up r * down d) where
  crossed : m * up e * down r * (down e * (suc n * up d)) ≤ m * up e * down d * (down e * (suc k * up r))
  crossed = over (m * up e) (down e) (suc n * up d) (suc k * up r) (down r) (down d) h

  divisors : (0 < down e * (suc n * up d)) × (0 < down e * (suc k * up r))
  divisors = (mul-pos (down_pos e) (mul-pos (zero-lt-suc n) (up_pos d)), mul-pos (down_pos e) (mul-pos (zero-lt-suc k) (up_pos r)))

  smaller : T (le (div binary64 (fin false m e) (fin false (suc k) r)) (div binary64 (fin false m e) (fin false (suc n) d)))
  smaller =
      subst T (λ i. le (sym (div_is false m e k r) i) (sym (div_is false m e n d) i))
      (rounded_in_order false false (m * up e * down r) (m * up e * down d) (down e * (suc k * up r)) (down e * (suc n * up d)) (divisors.1) (divisors.0) (omega (arith, crossed)))

  less_negative : T (le (div binary64 (fin true m e) (fin false (suc n) d)) (div binary64 (fin true m e) (fin false (suc k) r)))
  less_negative =
      subst T (λ i. le (sym (div_is true m e n d) i) (sym (div_is true m e k r) i))
      (rounded_in_order true true (m * up e * down d) (m * up e * down r) (down e * (suc n * up d)) (down e * (suc k * up r)) (divisors.0) (divisors.1) (omega (arith, crossed)))

no_size_below : (m : ℕ) (e : ℤ) → T (le (fin false m e) zeroᶠ) → m * up e ≡ 0
no_size_below m e h = omega (arith, at_most_zero false m e h)

over_larger : (x : Float) (n : ℕ) (d : ℤ) (k : ℕ) (r : ℤ) → Finite x → suc n * up d * down r ≤ suc k * up r * down d
    → (T (le zeroᶠ x) → T (le (div binary64 x (fin false (suc k) r)) (div binary64 x (fin false (suc n) d))))
    × (T (le x zeroᶠ) → T (le (div binary64 x (fin false (suc n) d)) (div binary64 x (fin false (suc k) r))))
over_larger nan n d k r f h = absurd f
over_larger (inf s) n d k r f h = absurd f
over_larger (fin false m e) n d k r f h = (λ p. smaller m e n d k r h, λ p. no_quotients false m e n d k r (no_size_below m e p))
over_larger (fin true m e) n d k r f h = (λ p. no_quotients true m e k r n d (no_part m e p), λ p. less_negative m e n d k r h)

as_fractions : (n : ℕ) (d : ℤ) (k : ℕ) (r : ℤ) → T (le (fin false n d) (fin false k r)) → n * up d * down r ≤ k * up r * down d
unfolding le
as_fractions n d k r h = omega (arith, (fractions false false (n * up d) (k * up r) (down d) (down r)).0 h)

-- v above 0, and at most w: a quotient that is not negative is at most as large over w, one that is not positive at least
pub div_shrinks : (x v w : Float) → Finite x → Finite v → Finite w → T (lt zeroᶠ v) → T (le v w)
    → (T (le zeroᶠ x) → T (le (div binary64 x w) (div binary64 x v))) × (T (le x zeroᶠ) → T (le (div binary64 x v) (div binary64 x w)))
div_shrinks x v w f g g' p h =
    let a = above_zero v g p in
    let b = above_zero w g' (lt_of_lt_of_le zeroᶠ v w p h) in
    let o = as_fractions (suc a.size) a.power (suc b.size) b.power (subst T (λ i. le (a.is i) (b.is i)) h) in
    let r = over_larger x a.size a.power b.size b.power f o in (
      λ q. subst T (λ i. le (div binary64 x (sym b.is i)) (div binary64 x (sym a.is i))) (r.0 q),
      λ q. subst T (λ i. le (div binary64 x (sym a.is i)) (div binary64 x (sym b.is i))) (r.1 q),
    )
