-- The steps of the code, on values: a quotient of two whole numbers, the other sign, and the digits by size * power + 0.5, cut. Assumes nothing.
use mathlib.Core.Path.{◌≡◌, refl, sym, ap, ◌∙◌, subst}
use Prim.Native.Nat.{ℕ, zero, suc, ◌+◌, ◌-◌, ◌*◌, ◌^◌, ◌≤◌, ◌<◌, min}
use native.Mathlib.Nat.{le_trans, le_of_eq, le_of_lt, lt_of_lt_of_le, lt_of_le_of_lt, lt_irrefl, zero-lt-suc, zero-mul, mul-one, one-mul, mul_comm, mul_assoc, mul_left_comm, mul_right_comm, mul-le-mul_right, mul-lt-mul_of_pos_right, lt_of_mul-lt-mul_right, mul-pos, suc-mul, add-mul, div-eq_of_lt-le}
use native.Mathlib.Numerals.{add-one}
use native.Mathlib.Omega.{arith}
use mathlib.Core.Bool.{Bool, true, false, not, cond, true≢false}
use lib.IntN.{pos, negsuc}
use lib.Dec.{T, eqb, lt→ltb, eqb→eq, lit<, lit≤}
use lib.Pow.{pow_pos}
use lib.Ieee.{Float, nan, inf, fin, Format, binary64, up, down, round, lt, neg, add, mul, div, of_int, to_unsigned}
use lib.Ieee.Fits.{down_pos}
use lib.Ieee.Exact.{HasValue}
use lib.Ieee.Back.{round_whole}
use lib.Ieee.Order.{drop}
use lib.Ieee.Scale.{grid, round_same}
use Rattle.std.specs.Float.{◌<ᶠ◌}
use Rattle.std.proofs.lemmas.Float.{lt_trans}
use Rattle.decimals.specs.NearestReading.{gap}
use Rattle.decimals.proofs.RoundedNearest.{gap_mul, grid_half, steps_below, scaled}
use Rattle.decimals.proofs.OnlyDecimal.{ten_pos, ten_most, small_digits, value_of, digits_value, near_digits}

-- ---- the other sign
pub neg_value : (x : Float) (s : Bool) (a c : ℕ) → HasValue x s a c → HasValue (neg x) (not s) a c
unfolding neg
neg_value nan s a c v = v
neg_value (inf t) s a c v = v
neg_value (fin t m e) s a c v = (ap not v.0, v.1)

-- ---- a quotient of whole numbers is rounded once
not_zero : (n : ℕ) (u b d : ℕ) → n * u * 1 ≡ b * d → 0 < b → 0 < d → n ≡ 0 → ⊥
not_zero n u b d e B D z = lt_irrefl 0 (subst (λ (t : ℕ). 0 < t) (sym e ∙ ap (λ (t : ℕ). t * u * 1) z ∙ ap (λ (t : ℕ). t * 1) (zero-mul u) ∙ zero-mul 1) (mul-pos B D))

div_at : (f : Format) (x y : Float) (a b : ℕ) → HasValue x false a 1 → HasValue y false b 1 → 0 < b → div f x y ≡ round f false a b
unfolding div
div_at f nan y a b v w B = absurd v
div_at f (inf s) y a b v w B = absurd v
div_at f (fin true m e) y a b v w B = absurd (true≢false v.0)
div_at f (fin false m e) nan a b v w B = absurd w
div_at f (fin false m e) (inf s) a b v w B = absurd w
div_at f (fin false m e) (fin true n d) a b v w B = absurd (true≢false w.0)
div_at f (fin false m e) (fin false n d) a b v w B =
    go (eqb n 0) (eqb→eq n 0)
    ∙ round_same f false (m * up e * down d) (n * up d * down e) a b (subst (λ (z : ℕ). 0 < z * down e) (sym nu) (mul-pos (mul-pos B (down_pos d)) (down_pos e))) B
    (ap (λ (z : ℕ). z * down d * b) mu ∙ mul_right_comm (a * down e) (down d) b ∙ swap ∙ ap (λ (z : ℕ). a * (z * down e)) (sym nu))
  where
    mu : m * up e ≡ a * down e
    mu = sym (mul-one (m * up e)) ∙ v.1

    nu : n * up d ≡ b * down d
    nu = sym (mul-one (n * up d)) ∙ w.1

    swap : a * down e * b * down d ≡ a * (b * down d * down e)
    swap = simp (mul_assoc, mul_comm)

    go : (t : Bool) → (T t → n ≡ 0)
        → cond t (cond (eqb m 0) nan (inf false)) (round f false (m * up e * down d) (n * up d * down e)) ≡ round f false (m * up e * down d) (n * up d * down e)
    go true z = absurd (not_zero n (up d) b (down d) w.1 B (down_pos d) (z tt))
    go false z = refl

power_value : (places : ℕ) → places < 7 → HasValue (round binary64 false (10 ^ places) 1) false (10 ^ places) 1
power_value places K = round_whole binary64 false (10 ^ places) (le_trans (ten_most places K) (lit≤ tt))

pub quotient : (digits places : ℕ) (power : Float) → digits < 10 ^ 15 → places < 7 → power ≡ of_int binary64 (pos (10 ^ places))
    → div binary64 (of_int binary64 (pos digits)) power ≡ round binary64 false digits (10 ^ places)
unfolding of_int
quotient digits places power h K p =
    ap (λ (p : Float). div binary64 (round binary64 false digits 1) p) p
    ∙ div_at binary64 (round binary64 false digits 1) (round binary64 false (10 ^ places) 1) digits (10 ^ places) (round_whole binary64 false digits (wide digits h))
    (power_value places K) (ten_pos places)
  where
    wide : (digits : ℕ) → digits < 10 ^ 15 → digits ≤ 2 ^ 53
    wide digits h = omega arith

-- ---- a product with a whole number
times_whole : (f : Format) (x y : Float) (a b c : ℕ) → 0 < b → HasValue x false a b → HasValue y false c 1 → mul f x y ≡ round f false (a * c) b
unfolding mul
times_whole f nan y a b c B v w = absurd v
times_whole f (inf s) y a b c B v w = absurd v
times_whole f (fin true m e) y a b c B v w = absurd (true≢false v.0)
times_whole f (fin false m e) nan a b c B v w = absurd w
times_whole f (fin false m e) (inf s) a b c B v w = absurd w
times_whole f (fin false m e) (fin true n d) a b c B v w = absurd (true≢false w.0)
times_whole f (fin false m e) (fin false n d) a b c B v w =
    round_same f false (m * up e * (n * up d)) (down e * down d) (a * c) b (mul-pos (down_pos e) (down_pos d)) B
    (ap (λ (z : ℕ). m * up e * z * b) (sym (mul-one (n * up d)) ∙ w.1) ∙ mul_right_comm (m * up e) (c * down d) b ∙ ap (λ (z : ℕ). z * (c * down d)) v.1
    ∙ regroup a (down e) c (down d))
  where
    regroup : (a e c d : ℕ) → a * e * (c * d) ≡ a * c * (e * d)
    regroup a e c d = simp (mul_assoc, mul_left_comm)

-- ---- below 2 ^ 50 what a / c rounds to is less than an eighth away
eighth : (a c : ℕ) → 0 < c → a < 2 ^ 50 * c → gap (grid binary64 a c * c) (a * 2 ^ 1074) * 8 < c * 2 ^ 1074
eighth a c C h =
    more (gap (grid binary64 a c * c) (a * 2 ^ 1074)) (c * 2 ^ drop 53 (a * 2 ^ 1074) c) (c * 2 ^ 1074) (grid_half binary64 a c C)
    (go (drop 53 (a * 2 ^ 1074) c) (steps_below binary64 a c C))
  where
    more : (g x l : ℕ) → g * 2 ≤ x → x * 4 < l → g * 8 < l
    more g x l h k = omega arith

    many : (x l : ℕ) (n : ℕ) → 2 ^ 52 * x ≤ n → n < 2 ^ 50 * l → x * 4 < l
    many x l n h k = omega arith

    go : (k : ℕ) → (0 < k → 2 ^ 52 * 2 ^ k * c ≤ a * 2 ^ 1074) → c * 2 ^ k * 4 < c * 2 ^ 1074
    go zero g =
        subst (λ (z : ℕ). z * 4 < c * 2 ^ 1074) (sym (mul-one c))
        (subst (λ (z : ℕ). c * 4 < z) (mul_comm (2 ^ 1074) c) (subst (λ (z : ℕ). z < 2 ^ 1074 * c) (mul_comm 4 c) (mul-lt-mul_of_pos_right (lit< tt) C)))
    go (suc k) g =
        many (c * 2 ^ suc k) (c * 2 ^ 1074) (a * 2 ^ 1074)
        (subst (λ (z : ℕ). z ≤ a * 2 ^ 1074) (mul_assoc (2 ^ 52) (2 ^ suc k) c ∙ ap (λ (z : ℕ). 2 ^ 52 * z) (mul_comm (2 ^ suc k) c)) (g (zero-lt-suc k)))
        (subst (λ (z : ℕ). a * 2 ^ 1074 < z) (mul_assoc (2 ^ 50) c (2 ^ 1074)) (mul-lt-mul_of_pos_right h (pow_pos 1074)))

-- the same, for the value N / d that the result has
rounding_error : (a c N d : ℕ) → 0 < c → 0 < d → a < 2 ^ 50 * c → N * 2 ^ 1074 ≡ grid binary64 a c * d → gap (N * c) (a * d) * 8 < c * d
rounding_error a c N d C D h e =
    lt_of_mul-lt-mul_right (2 ^ 1074)
    (lt_of_le_of_lt (le_of_eq (mul_right_comm (gap (N * c) (a * d)) 8 (2 ^ 1074) ∙ ap (λ (z : ℕ). z * 8) (scaled N (grid binary64 a c) d a c (2 ^ 1074) e)
    ∙ mul_right_comm (gap (grid binary64 a c * c) (a * 2 ^ 1074)) d 8))
    (lt_of_lt_of_le (mul-lt-mul_of_pos_right (eighth a c C h) D) (le_of_eq (mul_right_comm c (2 ^ 1074) d))))

-- ---- the two errors together, by whole numbers
-- |N1 / d1 - A / B| < 1 / 8 and |A / B - D| < 1 / 8 give |N1 / d1 - D| < 1 / 4
first : (N1 d1 A B D : ℕ) → 0 < B → 0 < d1 → gap (N1 * B) (A * d1) * 8 < B * d1 → gap A (D * B) * 8 < B → gap N1 (D * d1) * 4 < d1
first N1 d1 A B D P Q h k =
    lt_of_mul-lt-mul_right B
    (subst (λ (z : ℕ). z < d1 * B) (sym (mul_right_comm (gap N1 (D * d1)) 4 B ∙ ap (λ (z : ℕ). z * 4) (sym (gap_mul N1 (D * d1) B))))
    (go (N1 * B) (A * d1) (D * d1 * B) (d1 * B)
    (subst (λ (z : ℕ). gap (N1 * B) (A * d1) * 8 < z) (mul_comm B d1) h)
    (subst (λ (z : ℕ). gap (A * d1) z * 8 < d1 * B) (mul_right_comm D B d1)
    (subst (λ (z : ℕ). z * 8 < d1 * B) (sym (gap_mul A (D * B) d1))
    (subst (λ (z : ℕ). z < d1 * B) (mul_right_comm (gap A (D * B)) 8 d1)
    (subst (λ (z : ℕ). gap A (D * B) * 8 * d1 < z) (mul_comm B d1) (mul-lt-mul_of_pos_right k Q)))))))
  where
    go : (x y z l : ℕ) → gap x y * 8 < l → gap y z * 8 < l → gap x z * 4 < l
    go x y z l h k = omega arith

-- |N1 / d1 - D| < 1 / 4 and |N2 / d2 - (N1 / d1 + 1 / 2)| < 1 / 8 give D < N2 / d2 < D + 1
second : (N1 d1 N2 d2 D : ℕ) → 0 < d1 → 0 < d2 → gap N1 (D * d1) * 4 < d1 → gap (N2 * (d1 * 2)) ((N1 * 2 + d1) * d2) * 8 < d1 * 2 * d2
    → (D * d2 < N2) × (N2 < suc D * d2)
second N1 d1 N2 d2 D P Q h k =
    let a : gap (N1 * d2) (D * d2 * d1) * 4 < d1 * d2 =
    subst (λ (z : ℕ). gap (N1 * d2) z * 4 < d1 * d2) (mul_right_comm D d1 d2)
    (subst (λ (z : ℕ). z * 4 < d1 * d2) (sym (gap_mul N1 (D * d1) d2))
    (subst (λ (z : ℕ). z < d1 * d2) (mul_right_comm (gap N1 (D * d1)) 4 d2) (mul-lt-mul_of_pos_right h Q))) in
    let b : gap (N2 * d1 * 2) (N1 * d2 * 2 + d1 * d2) * 8 < d1 * d2 * 2 =
    subst (λ (z : ℕ). gap z (N1 * d2 * 2 + d1 * d2) * 8 < d1 * d2 * 2) (sym (mul_assoc N2 d1 2))
    (subst (λ (z : ℕ). gap (N2 * (d1 * 2)) z * 8 < d1 * d2 * 2) (add-mul (N1 * 2) d1 d2 ∙ ap (λ (z : ℕ). z + d1 * d2) (mul_right_comm N1 2 d2))
    (subst (λ (z : ℕ). gap (N2 * (d1 * 2)) ((N1 * 2 + d1) * d2) * 8 < z) (mul_right_comm d1 2 d2) k)) in
    let e : suc D * d2 * d1 ≡ D * d2 * d1 + d1 * d2 = ap (λ (z : ℕ). z * d1) (suc-mul D d2) ∙ add-mul (D * d2) d2 d1 ∙ ap (λ (z : ℕ). D * d2 * d1 + z) (mul_comm d2 d1) in
    let g = go (N2 * d1) (N1 * d2) (D * d2 * d1) (d1 * d2) a b in
    (lt_of_mul-lt-mul_right d1 g.0, lt_of_mul-lt-mul_right d1 (subst (λ (z : ℕ). N2 * d1 < z) (sym e) g.1))
  where
    go : (y x D l : ℕ) → gap x D * 4 < l → gap (y * 2) (x * 2 + l) * 8 < l * 2 → (D < y) × (y < D + l)
    go y x D l h k = (omega arith, omega arith)

-- ---- a value between D and D + 1
abbrev pub Between : Float → ℕ → Type 0
Between nan D = ⊥
Between (inf s) D = ⊥
Between (fin true m e) D = ⊥
Between (fin false m e) D = (D * down e < m * up e) × (m * up e < suc D * down e)

-- it is cut to D,
pub cut_is : (y : Float) (D : ℕ) → D < 10 ^ 15 → Between y D → to_unsigned 64 y ≡ D
unfolding to_unsigned
cut_is nan D h b = absurd b
cut_is (inf s) D h b = absurd b
cut_is (fin true m e) D h b = absurd b
cut_is (fin false m e) D h b =
    ap (λ (z : ℕ). min z (2 ^ 64 - 1)) (div-eq_of_lt-le (down e) (le_of_lt b.0) (subst (λ (z : ℕ). m * up e < z * down e) (sym (add-one D)) b.1)) ∙ cap D h
  where
    cap : (D : ℕ) → D < 10 ^ 15 → min D (2 ^ 64 - 1) ≡ D
    cap D h = omega arith

-- lies above 0,
pub above_zero : (y : Float) (D : ℕ) → Between y D → T (lt (fin false 0 (pos 0)) y)
unfolding lt
above_zero nan D b = absurd b
above_zero (inf s) D b = absurd b
above_zero (fin true m e) D b = absurd b
above_zero (fin false m e) D b = lt→ltb (0 * 1 * down e) (m * up e * 1) (some (m * up e) (D * down e) (down e) b.0)
  where
    some : (a x d : ℕ) → x < a → 0 * 1 * d < a * 1
    some a x d h = omega arith

-- and below 2 ^ 50
pub below_two_50 : (y : Float) (D : ℕ) → D < 10 ^ 15 → Between y D → T (lt y (fin false 1 (pos 50)))
unfolding lt
below_two_50 nan D h b = absurd b
below_two_50 (inf s) D h b = absurd b
below_two_50 (fin true m e) D h b = absurd b
below_two_50 (fin false m e) D h b = lt→ltb (m * up e * 1) (2 ^ 50 * down e) (less (m * up e) (suc D * down e) (down e) b.1 (mul-le-mul_right (down e) (top D h)))
  where
    top : (D : ℕ) → D < 10 ^ 15 → suc D ≤ 10 ^ 15
    top D h = omega arith

    less : (a x d : ℕ) → a < x → x ≤ 10 ^ 15 * d → a * 1 < 2 ^ 50 * d
    less a x d h k = omega arith

-- ---- with a half added to what A / B rounds to, for an A / B less than an eighth from D
abbrev pub half : Float
half = fin false 1 (negsuc 0)

add_half : (r : Float) (A B D : ℕ) → 0 < B → A < 2 ^ 50 * B → HasValue r false (grid binary64 A B) (2 ^ 1074) → D < 10 ^ 15 → gap A (D * B) * 8 < B
    → Between (add binary64 r half) D
unfolding add
add_half nan A B D P h v l k = absurd v
add_half (inf s) A B D P h v l k = absurd v
add_half (fin true m e) A B D P h v l k = absurd (true≢false v.0)
add_half (fin false m e) A B D P h v l k =
    let d1 = down e in
    let n1 = m * up e in
    let one : gap n1 (D * d1) * 4 < d1 = first n1 d1 A B D P (down_pos e) (rounding_error A B n1 d1 P (down_pos e) h v.1) k in
    let small : n1 * 2 + d1 < 2 ^ 50 * (d1 * 2) = room n1 d1 (D * d1) one (mul-le-mul_right d1 (top D l)) in
    subst (λ (z : Float). Between z D) (sym (halves n1 d1))
    (finish (round binary64 false (n1 * 2 + d1) (d1 * 2)) n1 d1 (down_pos e) one small (value_of false (n1 * 2 + d1) (d1 * 2) (mul-pos (down_pos e) (lit< tt)) small))
  where
    top : (D : ℕ) → D < 10 ^ 15 → D ≤ 10 ^ 15
    top D h = omega arith

    room : (n d x : ℕ) → gap n x * 4 < d → x ≤ 10 ^ 15 * d → n * 2 + d < 2 ^ 50 * (d * 2)
    room n d x h k = omega arith

    halves : (n d : ℕ) → round binary64 false (n * 2 + 1 * 1 * d) (d * 2) ≡ round binary64 false (n * 2 + d) (d * 2)
    halves n d = ap (λ (z : ℕ). round binary64 false (n * 2 + z) (d * 2)) (one-mul d)

    finish : (y : Float) (n1 d1 : ℕ) → 0 < d1 → gap n1 (D * d1) * 4 < d1 → n1 * 2 + d1 < 2 ^ 50 * (d1 * 2)
        → HasValue y false (grid binary64 (n1 * 2 + d1) (d1 * 2)) (2 ^ 1074) → Between y D
    finish nan n1 d1 Q one s w = absurd w
    finish (inf t) n1 d1 Q one s w = absurd w
    finish (fin true n d) n1 d1 Q one s w = absurd (true≢false w.0)
    finish (fin false n d) n1 d1 Q one s w =
        second n1 d1 (n * up d) (down d) D Q (down_pos d) one
        (rounding_error (n1 * 2 + d1) (d1 * 2) (n * up d) (down d) (mul-pos Q (lit< tt)) (down_pos d) s w.1)

-- ---- size * power + 0.5, for a size that so many digits give
pub near_whole : (size power : Float) (digits places : ℕ) → places < 7 → digits < 10 ^ 15 → power ≡ of_int binary64 (pos (10 ^ places))
    → size ≡ round binary64 false digits (10 ^ places)
    → Between (add binary64 (mul binary64 size power) half) digits
unfolding of_int
near_whole size power digits places K h p r = go size (value r)
  where
    value : size ≡ round binary64 false digits (10 ^ places) → HasValue size false (grid binary64 digits (10 ^ places)) (2 ^ 1074)
    value r = subst (λ (z : Float). HasValue z false (grid binary64 digits (10 ^ places)) (2 ^ 1074)) (sym r) (digits_value false digits places (small_digits digits h))

    top : (D : ℕ) → D < 10 ^ 15 → D ≤ 10 ^ 15
    top D h = omega arith

    room : (a x b : ℕ) → gap a x * 8 < b → x ≤ 10 ^ 15 * b → a < 2 ^ 50 * b
    room a x b h k = omega arith

    go : (x : Float) → HasValue x false (grid binary64 digits (10 ^ places)) (2 ^ 1074) → Between (add binary64 (mul binary64 x power) half) digits
    go nan v = absurd v
    go (inf s) v = absurd v
    go (fin true m e) v = absurd (true≢false v.0)
    go (fin false m e) v =
        let c = 10 ^ places in
        let near : gap (m * up e * c) (digits * down e) * 8 < down e = near_digits (fin false m e) digits places K (small_digits digits h) v.1 in
        let small : m * up e * c < 2 ^ 50 * down e = room (m * up e * c) (digits * down e) (down e) near (mul-le-mul_right (down e) (top digits h)) in
        let w : HasValue power false c 1 = subst (λ (z : Float). HasValue z false c 1) (sym p) (power_value places K) in
        subst (λ (z : Float). Between (add binary64 z half) digits) (sym (times_whole binary64 (fin false m e) power (m * up e) (down e) c (down_pos e) (refl, refl) w))
        (add_half (round binary64 false (m * up e * c) (down e)) (m * up e * c) (down e) digits (down_pos e) small
        (value_of false (m * up e * c) (down e) (down_pos e) small) h near)

-- ---- what `truncating_f64_to_u64` requires
pub above_minus_one : (x : Float) → fin false 0 (pos 0) <ᶠ x → fin true 1 (pos 0) <ᶠ x
above_minus_one x h = lt_trans (fin true 1 (pos 0)) (fin false 0 (pos 0)) x (unfold lt in tt) h

pub below_two_64 : (x : Float) → x <ᶠ fin false 1 (pos 50) → x <ᶠ fin false 1 (pos 64)
below_two_64 x h = lt_trans x (fin false 1 (pos 50)) (fin false 1 (pos 64)) h (unfold lt in tt)
