-- Products and quotients of whole numbers: a product and a quotient without remainder are exact, and a quotient that is rounded and then cut down is the whole quotient. Assumes nothing.
use Rattle.std.proofs.Common.{◌≡◌, ℕ, zero, suc, ◌+◌, ◌-◌, ◌*◌, ◌/◌, ◌^◌, ◌<◌, ◌≤◌, min, Bool, true, false, not, T, ℤ, pos, sym, refl, ap, ◌∙◌, subst, ap₂, true≢false, le_trans, le_of_eq, lt_of_lt_of_le, lt_of_le_of_lt, mul-le-mul_right, zero-lt-suc, mul_assoc, suc-mul, mul_comm, add-mul, lt_of_mul-lt-mul_right, mul-le-mul_left, mul-lt-mul_of_pos_right, mul-pos, one-mul, mul-zero, zero-mul, mul-one, div-le_self, mul_right_comm, div-mul-le_self, le_of_mul-le-mul_right, mul_left_comm, arith, lit≤, pow_pos, pow_mono, pow-add}
use native.Mathlib.Nat.{sub-add_cancel, mul-mul-mul_comm, eq_of_mul-eq-mul_right, zero-div, div-eq_of_lt-le, lt-div-mul-add}
use lib.Dec.{eqb-suc-zero}
use lib.Ieee.{Float, nan, inf, fin, Format, binary64, prec, emax, low, unlike, up, down, round, mul, div, lt, eq, le, to_signed}
use lib.Ieee.Fits.{down_pos, reach}
use lib.Ieee.Exact.{HasValue, round_exact}
use lib.Ieee.Back.{round_whole}
use lib.Ieee.Scale.{round_same, round_val, round_under, finite, grid}
use lib.Ieee.Order.{round_mono}
use Rattle.f64_helpers.specs.F64.{◌⊗◌, ◌⊘◌}
use Rattle.f64_helpers.specs.Helpers.{floor, as_i64, negative}
use Rattle.f64_helpers.specs.Seconds.{Whole}
use Rattle.f64_helpers.proofs.Meaning.{floor_zeros}
use Rattle.f64_helpers.proofs.WholeSeconds.{of_value, round_to, sizes, seconds_of}

-- only a zero has its sign bit set
pub sign_whole : (x : Float) (n : ℕ) → Whole x n → T (negative x) → n ≡ 0
sign_whole nan n v = absurd v
sign_whole (inf s) n v = absurd v
sign_whole (fin s m e) n v = v.1

-- ---- products
pub mul_is : (x y : Float) (a b : ℕ) → Whole x a → Whole y b → x ⊗ y ≡ round binary64 (unlike (negative x) (negative y)) (a * b) 1
unfolding mul
mul_is nan y a b v w = absurd v
mul_is (inf s) y a b v w = absurd v
mul_is (fin s m e) nan a b v w = absurd w
mul_is (fin s m e) (inf t) a b v w = absurd w
mul_is (fin s m e) (fin t n d) a b v w =
    round_same binary64 (unlike s t) (m * up e * (n * up d)) (down e * down d) (a * b) 1 (mul-pos (down_pos e) (down_pos d)) (zero-lt-suc 0)
    (mul-one (m * up e * (n * up d)) ∙ ap₂ ◌*◌ v.0 w.0 ∙ mul-mul-mul_comm a (down e) b (down d))

unlike_none : (s t : Bool) (a b : ℕ) → (T s → a ≡ 0) → (T t → b ≡ 0) → T (unlike s t) → a * b ≡ 0
unlike_none true true a b y z h = absurd h
unlike_none true false a b y z h = ap (λ (x : ℕ). x * b) (y tt) ∙ zero-mul b
unlike_none false true a b y z h = ap (λ (x : ℕ). a * x) (z tt) ∙ mul-zero a
unlike_none false false a b y z h = absurd h

pub mul_whole : (x y : Float) (a b : ℕ) → Whole x a → Whole y b → a * b ≤ 2 ^ 53 → Whole (x ⊗ y) (a * b)
mul_whole x y a b v w N =
    let s = unlike (negative x) (negative y) in
    rw (mul_is x y a b v w)
    (of_value (round binary64 s (a * b) 1) s (a * b) (round_whole binary64 s (a * b) N) (unlike_none (negative x) (negative y) a b (sign_whole x a v) (sign_whole y b w)))

-- ---- quotients
unlike_false : (s : Bool) → unlike s false ≡ s
unlike_false true = refl
unlike_false false = refl

-- a quotient of whole numbers is the fraction, rounded once
pub div_is : (x y : Float) (a b : ℕ) → Whole x a → Whole y b → 0 < b → x ⊘ y ≡ round binary64 (negative x) a b
unfolding div
div_is nan y a b v w B = absurd v
div_is (inf s) y a b v w B = absurd v
div_is (fin s m e) nan a b v w B = absurd w
div_is (fin s m e) (inf t) a b v w B = absurd w
div_is (fin s m e) (fin true n d) a b v w B = absurd (omega (arith, w.1 tt))
div_is (fin s m e) (fin false zero d) a b v w B = absurd (omega (arith, mul-pos B (down_pos d), sym w.0 ∙ zero-mul (up d)))
div_is (fin s m e) (fin false (suc n) d) a b v w B =
    rw (eqb-suc-zero n, unlike_false)
    (round_same binary64 s (m * up e * down d) (suc n * up d * down e) a b
    (subst (λ (z : ℕ). 0 < z * down e) (sym w.0) (mul-pos (mul-pos B (down_pos d)) (down_pos e))) B
    (ap (λ (k : ℕ). k * down d * b) v.0 ∙ (simp (mul_assoc, mul_comm, mul_left_comm)) ∙ sym (ap (λ (k : ℕ). a * (k * down e)) w.0)))

pub div_exact : (x y : Float) (q b : ℕ) → Whole x (q * b) → Whole y b → 0 < b → q ≤ 2 ^ 53 → Whole (x ⊘ y) q
div_exact x y q b v w B N =
    rw (div_is x y (q * b) b v w B)
    (round_to binary64 (negative x) (q * b) b q B N refl (λ h. eq_of_mul-eq-mul_right b B q 0 (sign_whole x (q * b) v h ∙ sym (zero-mul b))))

-- ---- fractions that f64 holds exactly
abbrev pub Held : ℕ → ℕ → Type 0
Held a b = HasValue (round binary64 false a b) false a b

scale_fits : (f : Format) (w j : ℕ) → w < 2 ^ prec f → j ≤ low f → w * 2 ^ j < 2 ^ (low f + suc (emax f))
scale_fits f w j W J =
    lt_of_lt_of_le (mul-lt-mul_of_pos_right W (pow_pos j))
    (le_trans (le_of_eq (sym (pow-add 2 (prec f) j))) (pow_mono (sums (prec f) j (low f) (suc (emax f)) (reach f) J)))
  where
    sums : (p j l r : ℕ) → p ≤ r → j ≤ l → p + j ≤ l + r
    sums p j l r h k = omega arith

round_fraction : (f : Format) (w k j : ℕ) → w < 2 ^ prec f → low f ≡ j + k → HasValue (round f false w (2 ^ k)) false w (2 ^ k)
round_fraction f w k j W h =
    round_exact f false w (2 ^ k) w j (pow_pos k) W (scale_fits f w j W (part (low f) j k h))
    (ap (λ (l : ℕ). w * 2 ^ l) h ∙ ap (λ (z : ℕ). w * z) (pow-add 2 j k) ∙ sym (mul_assoc w (2 ^ j) (2 ^ k)))
  where
    part : (l j k : ℕ) → l ≡ j + k → j ≤ l
    part l j k h = omega arith

pub fraction_held : (w k : ℕ) → w < 2 ^ 53 → k ≤ low binary64 → Held w (2 ^ k)
fraction_held w k W K = round_fraction binary64 w k (low binary64 - k) W (sym (sub-add_cancel K))

pub whole_held : (n : ℕ) → n ≤ 2 ^ 53 → Held n 1
whole_held n N = round_whole binary64 false n N

-- ---- the order of two values, as numbers
value_below : (x : Float) (a c m : ℕ) (e : ℤ) → HasValue x false a c → T (le x (fin false m e)) → a * down e ≤ m * up e * c
unfolding le
value_below nan a c m e v h = absurd v
value_below (inf s) a c m e v h = absurd v
value_below (fin true n d) a c m e v h = absurd (true≢false v.0)
value_below (fin false n d) a c m e v h =
    let l : n * up d * down e ≤ m * up e * down d = (sizes false false (n * up d * down e) (m * up e * down d) (λ q. absurd q) (λ q. absurd q)).0 h in
    le_of_mul-le-mul_right
    (le_trans (le_of_eq (mul_right_comm a (down e) (down d) ∙ ap (λ (z : ℕ). z * down e) (sym v.1) ∙ mul_right_comm (n * up d) c (down e)))
    (le_trans (mul-le-mul_right c l) (le_of_eq (mul_right_comm (m * up e) (down d) c))))
    (down_pos d)

pub value_above : (x : Float) (a c m : ℕ) (e : ℤ) → HasValue x false a c → T (le (fin false m e) x) → m * up e * c ≤ a * down e
unfolding le
value_above nan a c m e v h = absurd v
value_above (inf s) a c m e v h = absurd v
value_above (fin true n d) a c m e v h = absurd (true≢false v.0)
value_above (fin false n d) a c m e v h =
    let l : m * up e * down d ≤ n * up d * down e = (sizes false false (m * up e * down d) (n * up d * down e) (λ q. absurd q) (λ q. absurd q)).0 h in
    le_of_mul-le-mul_right
    (le_trans (le_of_eq (mul_right_comm (m * up e) c (down d)))
    (le_trans (mul-le-mul_right c l) (le_of_eq (mul_right_comm (n * up d) (down e) c ∙ ap (λ (z : ℕ). z * down e) v.1 ∙ mul_right_comm a (down d) (down e)))))
    (down_pos d)

-- ---- a fraction between two that are held stays between them when it is rounded
no_infinity : (t : Bool) (x z : Float) (a b c d : ℕ) → HasValue x false a b → HasValue z false c d → T (le x (inf t)) → T (le (inf t) z) → ⊥
unfolding le lt eq
no_infinity t nan z a b c d u v h k = u
no_infinity t (inf s) z a b c d u v h k = u
no_infinity true (fin s m e) z a b c d u v h k = h
no_infinity false (fin s m e) nan a b c d u v h k = v
no_infinity false (fin s m e) (inf t) a b c d u v h k = v
no_infinity false (fin s m e) (fin t n i) a b c d u v h k = k

-- y is finite, with its sign bit clear, and lies from a / b to c / d
abbrev pub Within : Float → ℕ → ℕ → ℕ → ℕ → Type 0
Within y a b c d = (m : ℕ) × (e : ℤ) × (y ≡ fin false m e) × (a * down e ≤ m * up e * b) × (m * up e * d ≤ c * down e)

within : (x y z : Float) (a b c d : ℕ) → HasValue x false a b → HasValue z false c d → (T (finite y) → T (not (negative y))) → T (le x y) → T (le y z) → Within y a b c d
within x nan z a b c d u v s h k = absurd (unfold le in k)
within x (inf t) z a b c d u v s h k = absurd (no_infinity t x z a b c d u v h k)
within x (fin true m e) z a b c d u v s h k = absurd (s tt)
within x (fin false m e) z a b c d u v s h k = (m, e, refl, value_below x a b m e u h, value_above z c d m e v k)

value_sign : (x : Float) (a c : ℕ) → HasValue x false a c → T (not (negative x))
value_sign nan a c v = tt
value_sign (inf s) a c v = absurd v
value_sign (fin true m e) a c v = true≢false v.0
value_sign (fin false m e) a c v = tt

pub rounded_within : (r s a b c d : ℕ) → 0 < s → 0 < b → 0 < d → Held a b → Held c d → a * s ≤ r * b → r * d ≤ c * s → Within (round binary64 false r s) a b c d
rounded_within r s a b c d S B D u v h k =
    within (round binary64 false a b) (round binary64 false r s) (round binary64 false c d) a b c d u v
    (λ t. value_sign (round binary64 false r s) (grid binary64 r s) (2 ^ low binary64) (round_val binary64 r s (round_under binary64 r s t)))
    (round_mono binary64 a b r s B S h) (round_mono binary64 r s c d S D k)

-- ---- floors of quotients
-- a float from q to a fraction w / c below q + 1 has the floor q
pub floor_within : (y : Float) (q w c : ℕ) → Within y q 1 w c → w < (q + 1) * c → q ≤ 2 ^ 53 → Whole (floor y) q
unfolding floor
floor_within y q w c k W N =
    let m = k.0 in
    let e = k.1 in
    let is : m * up e / down e ≡ q =
    div-eq_of_lt-le (down e) (le_trans k.3 (le_of_eq (mul-one (m * up e))))
    (lt_of_mul-lt-mul_right c (lt_of_le_of_lt k.4 (lt_of_lt_of_le (mul-lt-mul_of_pos_right W (down_pos e)) (le_of_eq (mul_right_comm (q + 1) c (down e)))))) in
    rw (k.2, is) (of_value (round binary64 false q 1) false q (whole_held q N) (λ n. absurd n))

-- the fraction w / c that is next below q + 1 is not below a / b
pub next_below : (a b q c w : ℕ) → a < q * b + b → b ≤ c → w + 1 ≡ (q + 1) * c → a * c ≤ w * b
next_below a b q c w A B W =
    let l : suc a * c ≤ (q * b + b) * c = mul-le-mul_right c A in
    let r : (w + 1) * b ≡ (q * b + b) * c = ap (λ (z : ℕ). z * b) W ∙ mul_right_comm (q + 1) c b ∙ ap (λ (z : ℕ). z * c) (add-mul q 1 b ∙ ap (λ (z : ℕ). q * b + z) (one-mul b)) in
    omega (arith, suc-mul a c, add-mul w 1 b)

-- A rounded fraction a / b, with the bounds as parameters: b is at most 2 ^ k, and f64 holds each multiple of 2 ^ -k up to the whole quotient and 1.
pub floor_rounded : (a b k : ℕ) → 0 < b → b ≤ 2 ^ k → k ≤ low binary64 → (a / b + 1) * 2 ^ k ≤ 2 ^ 53 → Whole (floor (round binary64 false a b)) (a / b)
floor_rounded a b k B K L N =
    let q = a / b in
    let c = 2 ^ k in
    let w = (q + 1) * c - 1 in
    let C : 0 < c = pow_pos k in
    let P : 0 < (q + 1) * c = mul-pos (omega arith) C in
    let Q : (q + 1) * 1 ≤ (q + 1) * c = mul-le-mul_left (q + 1) C in
    floor_within (round binary64 false a b) q w c
    (rounded_within a b q 1 w c B (zero-lt-suc 0) C (whole_held q (omega arith)) (fraction_held w k (omega arith) L)
    (le_trans (div-mul-le_self a b) (le_of_eq (sym (mul-one a)))) (next_below a b q c w (lt-div-mul-add B) K (omega arith)))
    (omega arith) (omega arith)

pub round_zero : (s : Bool) (b : ℕ) → 0 < b → round binary64 s 0 b ≡ fin s 0 (pos 0)
unfolding round
round_zero s b B = round_same binary64 s 0 b 0 1 B (zero-lt-suc 0) (sym (zero-mul b)) ∙ one s
  where
    one : (s : Bool) → round binary64 s 0 1 ≡ fin s 0 (pos 0)
    one true = refl
    one false = refl

pub floor_quotient : (x y : Float) (a b : ℕ) → Whole x a → Whole y b → 0 < b → b ≤ 2 ^ 20 → a ≤ 2 ^ 32 → Whole (floor (x ⊘ y)) (a / b)
floor_quotient x y a b v w B K N = rw (div_is x y a b v w B) (go (negative x) (sign_whole x a v))
  where
    go : (s : Bool) → (T s → a ≡ 0) → Whole (floor (round binary64 s a b)) (a / b)
    go true z = rw (z tt, round_zero true b B, floor_zeros, zero-div) (refl, λ q. refl)
    go false z = floor_rounded a b 20 B K (lit≤ tt) (omega (arith, div-le_self a b))

-- ---- the cast to i64
pub as_i64_whole : (x : Float) (n : ℕ) → Whole x n → n < 2 ^ 63 → as_i64 x ≡ pos n
unfolding to_signed
as_i64_whole nan n v N = absurd v
as_i64_whole (inf s) n v N = absurd v
as_i64_whole (fin true m e) n v N = rw (seconds_of (fin true m e) n v, v.1 tt)
as_i64_whole (fin false m e) n v N = rw (seconds_of (fin false m e) n v) (ap pos (under n N))
  where
    under : (n : ℕ) → n < 9223372036854775808 → min n 9223372036854775807 ≡ n
    under n h = omega arith
