-- f64 arithmetic on whole numbers is exact: on floats that stand for whole numbers of 0 or more, `add`, `sub`, `lt`, `eq`, `le` and `max` are those of the numbers. Assumes nothing.
use Rattle.std.proofs.Common.{◌≡◌, ℕ, suc, ◌+◌, ◌-◌, ◌*◌, ◌/◌, ◌^◌, ◌<◌, ◌≤◌, max as maxℕ, Bool, true, false, cond, not, ◌&&◌, ◌||◌, T, eqb, ltb, leb, ◌↔◌, ℤ, pos, sym, refl, ap, ◌∙◌, subst, le_of_lt, mul-le-mul_right, zero-lt-suc, mul_assoc, suc-mul, mul_comm, div-lt_iff_lt-mul, add-mul, lt_of_mul-lt-mul_right, mul-lt-mul_of_pos_right, mul-pos, zero-mul, mul-one, mul_right_comm, le_of_mul-le-mul_right, mul-div_cancel, arith, le→leb, eqb→eq, ltb→lt, lt→ltb, leb→le, nltb→le}
use Rattle.std.proofs.lemmas.Bool.Decides.{nat_tests}
use native.Mathlib.Nat.{sub-add_cancel, eq_of_mul-eq-mul_right, max-eq_left, max-eq_right}
use mathlib.Core.Bool.{beq}
use lib.Ieee.{Float, nan, inf, fin, Format, prec, up, down, round, sum, add, sub, below, level, lt, eq, le, is_nan}
use lib.Ieee.Fits.{down_pos, eq→eqb, and_i, and_l}
use lib.Ieee.Exact.{HasValue}
use lib.Ieee.Back.{round_whole}
use lib.Ieee.Scale.{round_same}
use Rattle.f64_helpers.specs.F64.{zero as zeroᶠ}
use Rattle.f64_helpers.specs.Helpers.{max, negative}
use Rattle.f64_helpers.specs.Ranges.{Finite}
use Rattle.f64_helpers.specs.Seconds.{Whole, seconds, NotNegative, seconds_up}

pub zero_whole : Whole zeroᶠ 0
zero_whole = (refl, λ q. absurd q)

-- ---- rounding
pub of_value : (x : Float) (s : Bool) (n : ℕ) → HasValue x s n 1 → (T s → n ≡ 0) → Whole x n
of_value nan s n v z = absurd v
of_value (inf t) s n v z = absurd v
of_value (fin t m e) s n v z = (sym (mul-one (m * up e)) ∙ v.1, λ q. z (subst T v.0 q))

pub whole_finite : (x : Float) (n : ℕ) → Whole x n → Finite x
whole_finite nan n v = v
whole_finite (inf s) n v = v
whole_finite (fin s m e) n v = tt

-- a fraction a / c that is a whole number rounds to it
pub round_to : (f : Format) (s : Bool) (a c n : ℕ) → 0 < c → n ≤ 2 ^ prec f → a ≡ n * c → (T s → n ≡ 0) → Whole (round f s a c) n
round_to f s a c n C N e z =
    subst (λ (x : Float). Whole x n) (sym (round_same f s a c n 1 C (zero-lt-suc 0) (mul-one a ∙ e)))
    (of_value (round f s n 1) s n (round_whole f s n N) z)

-- ---- sums
-- two numbers of unlike signs: their difference
differ : (f : Format) (s t : Bool) (a b c n : ℕ) → 0 < c → n ≤ 2 ^ prec f
    → (a < b → (b - a ≡ n * c) × (T t → n ≡ 0))
    → (b ≤ a → (a - b ≡ n * c) × (T (s && ltb b a) → n ≡ 0))
    → Whole (cond (ltb a b) (round f t (b - a) c) (round f (s && ltb b a) (a - b) c)) n
differ f s t a b c n C N p q = go (ltb a b) (ltb→lt a b) (nltb→le a b)
  where
    go : (x : Bool) → (T x → a < b) → (T (not x) → b ≤ a) → Whole (cond x (round f t (b - a) c) (round f (s && ltb b a) (a - b) c)) n
    go true h k = round_to f t (b - a) c n C N (p (h tt)).0 (p (h tt)).1
    go false h k = round_to f (s && ltb b a) (a - b) c n C N (q (k tt)).0 (q (k tt)).1

pub none : (n c : ℕ) → n ≡ 0 → n * c ≡ 0
none n c h = ap (λ (x : ℕ). x * c) h ∙ zero-mul c

sum_whole : (f : Format) (s t : Bool) (a b c : ℕ) → 0 < c → a + b ≤ 2 ^ prec f → (T s → a ≡ 0) → (T t → b ≡ 0) → Whole (sum f s (a * c) t (b * c) c) (a + b)
unfolding sum
sum_whole f false false a b c C N y z = round_to f false (a * c + b * c) c (a + b) C N (sym (add-mul a b c)) (λ q. absurd q)
sum_whole f true true a b c C N y z = round_to f true (a * c + b * c) c (a + b) C N (sym (add-mul a b c)) (λ q. omega (arith, y tt, z tt))
sum_whole f false true a b c C N y z =
    differ f false true (a * c) (b * c) c (a + b) C N
    (λ h. omega (arith, none b c (z tt)))
    (λ h. (omega (arith, none b c (z tt), add-mul a b c), λ q. absurd q))
sum_whole f true false a b c C N y z =
    differ f true false (a * c) (b * c) c (a + b) C N
    (λ h. (omega (arith, none a c (y tt), add-mul a b c), λ q. absurd q))
    (λ h. (omega (arith, none a c (y tt), add-mul a b c), λ q. omega (arith, ltb→lt (b * c) (a * c) q, none a c (y tt))))

less : (a b c : ℕ) → b ≤ a → (a - b) * c + b * c ≡ a * c
less a b c h = sym (add-mul (a - b) b c) ∙ ap (λ (x : ℕ). x * c) (sub-add_cancel h)

sub_sum : (f : Format) (s t : Bool) (a b c : ℕ) → 0 < c → b ≤ a → a ≤ 2 ^ prec f → (T s → a ≡ 0) → (T t → b ≡ 0) → Whole (sum f s (a * c) (not t) (b * c) c) (a - b)
unfolding sum
sub_sum f false false a b c C H N y z =
    differ f false true (a * c) (b * c) c (a - b) C (omega arith)
    (λ h. omega (arith, mul-le-mul_right c H))
    (λ h. (omega (arith, less a b c H), λ q. absurd q))
sub_sum f false true a b c C H N y z = round_to f false (a * c + b * c) c (a - b) C (omega arith) (omega (arith, less a b c H, none b c (z tt))) (λ q. absurd q)
sub_sum f true false a b c C H N y z = round_to f true (a * c + b * c) c (a - b) C (omega arith) (omega (arith, less a b c H, none a c (y tt), mul-le-mul_right c H)) (λ q. omega (arith, y tt))
sub_sum f true true a b c C H N y z =
    differ f true false (a * c) (b * c) c (a - b) C (omega arith)
    (λ h. omega (arith, mul-le-mul_right c H))
    (λ h. (omega (arith, less a b c H), λ q. omega (arith, y tt)))

-- two fractions on one denominator
left : (k de dd a : ℕ) → k ≡ a * de → k * dd ≡ a * (de * dd)
left k de dd a h = ap (λ (x : ℕ). x * dd) h ∙ mul_assoc a de dd

right : (k de dd b : ℕ) → k ≡ b * dd → k * de ≡ b * (de * dd)
right k de dd b h = ap (λ (x : ℕ). x * de) h ∙ mul_assoc b dd de ∙ ap (λ (x : ℕ). b * x) (mul_comm dd de)

-- of two whole numbers, at the denominator of both
at_one_scale : (P : Float → Float → Type 0) (a b : ℕ)
    → ((s t : Bool) (m n : ℕ) (e d : ℤ) → 0 < down e * down d → m * up e * down d ≡ a * (down e * down d) → n * up d * down e ≡ b * (down e * down d) → (T s → a ≡ 0) → (T t → b ≡ 0) → P (fin s m e) (fin t n d))
    → (x y : Float) → Whole x a → Whole y b → P x y
at_one_scale P a b f nan y v w = absurd v
at_one_scale P a b f (inf s) y v w = absurd v
at_one_scale P a b f (fin s m e) nan v w = absurd w
at_one_scale P a b f (fin s m e) (inf t) v w = absurd w
at_one_scale P a b f (fin s m e) (fin t n d) v w =
    f s t m n e d (mul-pos (down_pos e) (down_pos d)) (left (m * up e) (down e) (down d) a v.0) (right (n * up d) (down e) (down d) b w.0) v.1 w.1

pub add_whole : (f : Format) (x y : Float) (a b : ℕ) → Whole x a → Whole y b → a + b ≤ 2 ^ prec f → Whole (add f x y) (a + b)
unfolding add
add_whole f x y a b v w N = at_one_scale (λ (x y : Float). Whole (add f x y) (a + b)) a b (λ s t m n e d C p q y z. rw (p, q) (sum_whole f s t a b (down e * down d) C N y z)) x y v w

pub sub_whole : (f : Format) (x y : Float) (a b : ℕ) → Whole x a → Whole y b → b ≤ a → a ≤ 2 ^ prec f → Whole (sub f x y) (a - b)
unfolding sub
sub_whole f x y a b v w H N = at_one_scale (λ (x y : Float). Whole (sub f x y) (a - b)) a b (λ s t m n e d C p q y z. rw (p, q) (sub_sum f s t a b (down e * down d) C H N y z)) x y v w

-- ---- order
pub same_test : (p q : Bool) → (T p → T q) → (T q → T p) → p ≡ q
same_test true true f g = refl
same_test true false f g = absurd (f tt)
same_test false true f g = absurd (g tt)
same_test false false f g = refl

below_is : (s t : Bool) (a b c : ℕ) → 0 < c → (T s → a ≡ 0) → (T t → b ≡ 0) → below s (a * c) t (b * c) ≡ ltb a b
below_is false false a b c C y z =
    same_test (ltb (a * c) (b * c)) (ltb a b) (λ h. lt→ltb a b (lt_of_mul-lt-mul_right c (ltb→lt (a * c) (b * c) h))) (λ h. lt→ltb (a * c) (b * c) (mul-lt-mul_of_pos_right (ltb→lt a b h) C))
below_is false true a b c C y z = same_test false (ltb a b) (λ h. absurd h) (λ h. omega (arith, ltb→lt a b h, z tt))
below_is true false a b c C y z =
    same_test (ltb 0 (a * c + b * c)) (ltb a b)
    (λ h. lt→ltb a b (lt_of_mul-lt-mul_right c (omega (arith, ltb→lt 0 (a * c + b * c) h, none a c (y tt)))))
    (λ h. lt→ltb 0 (a * c + b * c) (omega (arith, mul-lt-mul_of_pos_right (ltb→lt a b h) C)))
below_is true true a b c C y z = same_test (ltb (b * c) (a * c)) (ltb a b) (λ h. absurd (omega (arith, ltb→lt (b * c) (a * c) h, none a c (y tt)))) (λ h. absurd (omega (arith, ltb→lt a b h, z tt)))

pub lt_whole : (x y : Float) (a b : ℕ) → Whole x a → Whole y b → lt x y ≡ ltb a b
unfolding lt
lt_whole x y a b v w = at_one_scale (λ (x y : Float). lt x y ≡ ltb a b) a b (λ s t m n e d C p q y z. rw (p, q) (below_is s t a b (down e * down d) C y z)) x y v w

-- ±a = ±b: the sizes are equal, and the signs where they are not 0
signs : (s t : Bool) (a b c : ℕ) → (T s → a ≡ 0) → (T t → b ≡ 0) → a ≡ b → T (beq s t || eqb (a * c) 0)
signs true true a b c y z h = tt
signs false false a b c y z h = tt
signs true false a b c y z h = eq→eqb (none a c (y tt))
signs false true a b c y z h = eq→eqb (none a c (h ∙ z tt))

level_is : (s t : Bool) (a b c : ℕ) → 0 < c → (T s → a ≡ 0) → (T t → b ≡ 0) → level s (a * c) t (b * c) ≡ eqb a b
level_is s t a b c C y z =
    same_test (level s (a * c) t (b * c)) (eqb a b)
    (λ h. eq→eqb (eq_of_mul-eq-mul_right c C a b (eqb→eq (a * c) (b * c) (and_l (eqb (a * c) (b * c)) (beq s t || eqb (a * c) 0) h))))
    (λ h. and_i (eqb (a * c) (b * c)) (beq s t || eqb (a * c) 0) (eq→eqb (ap (λ (x : ℕ). x * c) (eqb→eq a b h))) (signs s t a b c y z (eqb→eq a b h)))

pub eq_whole : (x y : Float) (a b : ℕ) → Whole x a → Whole y b → eq x y ≡ eqb a b
unfolding eq
eq_whole x y a b v w = at_one_scale (λ (x y : Float). eq x y ≡ eqb a b) a b (λ s t m n e d C p q y z. rw (p, q) (level_is s t a b (down e * down d) C y z)) x y v w

or_is : (a b : ℕ) → (ltb a b || eqb a b) ≡ leb a b
or_is a b = grind (arith, nat_tests)

pub le_whole : (x y : Float) (a b : ℕ) → Whole x a → Whole y b → le x y ≡ leb a b
unfolding le
le_whole x y a b v w = (λ i. lt_whole x y a b v w i || eq_whole x y a b v w i) ∙ or_is a b

-- ---- the number that a float stands for
pub seconds_of : (x : Float) (n : ℕ) → Whole x n → seconds x ≡ n
seconds_of nan n v = absurd v
seconds_of (inf s) n v = absurd v
seconds_of (fin s m e) n v = ap (λ (z : ℕ). z / down e) v.0 ∙ mul-div_cancel n (down_pos e)

-- ---- the larger of two
not_nan : (x : Float) (n : ℕ) → Whole x n → is_nan x ≡ false
unfolding is_nan
not_nan nan n v = absurd v
not_nan (inf s) n v = absurd v
not_nan (fin s m e) n v = refl

pub max_whole : (x y : Float) (a b : ℕ) → Whole x a → Whole y b → Whole (max x y) (maxℕ a b)
unfolding max
max_whole x y a b v w =
    rw (not_nan x a v, lt_whole x y a b v w, eq_whole x zeroᶠ a 0 v zero_whole, eq_whole y zeroᶠ b 0 w zero_whole)
    (go (ltb a b) (ltb→lt a b) (nltb→le a b) (eqb a 0) (eqb b 0) (eqb→eq a 0) (eqb→eq b 0))
  where
    go : (q : Bool) → (T q → a < b) → (T (not q) → b ≤ a) → (p r : Bool) → (T p → a ≡ 0) → (T r → b ≡ 0)
        → Whole (cond q y (cond (p && r) (fin (negative x && negative y) 0 (pos 0)) x)) (maxℕ a b)
    go true h k p r f g = subst (Whole y) (sym (max-eq_right (le_of_lt (h tt)))) w
    go false h k true true f g = subst (Whole (fin (negative x && negative y) 0 (pos 0))) (sym (max-eq_left (k tt) ∙ f tt)) (refl, λ q. refl)
    go false h k true false f g = subst (Whole x) (sym (max-eq_left (k tt))) v
    go false h k false r f g = subst (Whole x) (sym (max-eq_left (k tt))) v

-- ---- any float of 0 or more, against whole numbers
-- x is reached by the whole numbers from d on
abbrev pub Reach : Float → ℕ → Type 0
Reach x d = (y : Float) (n : ℕ) → Whole y n → le x y ≡ leb d n

up_is : (a q n : ℕ) → 0 < q → (a ≤ n * q) ↔ ((a + (q - 1)) / q ≤ n)
up_is a q n Q = (
  λ h. omega (arith, (div-lt_iff_lt-mul {k = q} {x = a + (q - 1)} {y = suc n} Q).1 (omega (arith, suc-mul n q))),
  λ h. omega (arith, (div-lt_iff_lt-mul {k = q} {x = a + (q - 1)} {y = suc n} Q).0 (omega arith), suc-mul n q),
)

at_most_is : (s t : Bool) (a b : ℕ) → (T s → a ≡ 0) → (T t → b ≡ 0) → (below s a t b || level s a t b) ≡ leb a b
at_most_is false false a b y z = grind (arith, nat_tests)
at_most_is false true a b y z = grind (arith, nat_tests, z tt)
at_most_is true false a b y z = grind (arith, nat_tests, y tt)
at_most_is true true a b y z = grind (arith, nat_tests, y tt, z tt)

-- ±a ≤ ±b, where neither is below zero
pub sizes : (s t : Bool) (a b : ℕ) → (T s → a ≡ 0) → (T t → b ≡ 0) → T (below s a t b || level s a t b) ↔ (a ≤ b)
sizes s t a b y z = let e = at_most_is s t a b y z in (λ h. leb→le a b (subst T e h), λ h. subst T (sym e) (le→leb a b h))

pub reach_any : (x : Float) → NotNegative x → Reach x (seconds_up x)
unfolding le
reach_any nan p y n w = absurd p
reach_any (inf s) p y n w = absurd p
reach_any (fin s m e) p nan n w = absurd w
reach_any (fin s m e) p (inf t) n w = absurd w
reach_any (fin s m e) p (fin t k c) n w =
    let A = m * up e * down c in
    let B = k * up c * down e in
    let b : B ≡ n * down e * down c = ap (λ (z : ℕ). z * down e) w.0 ∙ mul_right_comm n (down c) (down e) in
    let sz : T (le (fin s m e) (fin t k c)) ↔ (A ≤ B) =
    sizes s t A B (λ q. ap (λ (z : ℕ). z * up e * down c) (p q) ∙ ap (λ (z : ℕ). z * down c) (zero-mul (up e)) ∙ zero-mul (down c))
    (λ q. b ∙ ap (λ (z : ℕ). z * down e * down c) (w.1 q) ∙ ap (λ (z : ℕ). z * down c) (zero-mul (down e)) ∙ zero-mul (down c)) in
    let u = up_is (m * up e) (down e) n (down_pos e) in
    same_test (le (fin s m e) (fin t k c)) (leb (seconds_up (fin s m e)) n)
    (λ h. le→leb (seconds_up (fin s m e)) n (u.0 (le_of_mul-le-mul_right (subst (λ (z : ℕ). A ≤ z) b (sz.0 h)) (down_pos c))))
    (λ h. sz.1 (subst (λ (z : ℕ). A ≤ z) (sym b) (mul-le-mul_right (down c) (u.1 (leb→le (seconds_up (fin s m e)) n h)))))
