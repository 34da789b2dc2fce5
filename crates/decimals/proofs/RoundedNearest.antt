-- Of the values of the format f, `round f s a c` has a size nearest to a / c, at a tie with an even last bit, and at most half a step away. Assumes nothing.
use mathlib.Core.Path.{◌≡◌, refl, sym, ap, ◌∙◌, subst}
use mathlib.Core.Logic.{◌⊎◌, inl, inr}
use Prim.Native.Nat.{ℕ, zero, suc, ◌+◌, ◌-◌, ◌*◌, ◌/◌, ◌%◌, ◌^◌, ◌≤◌, ◌<◌, zero-le, compare}
use native.Mathlib.Nat.{le_trans, le_refl, le_of_eq, le_of_lt, le_antisymm, lt_of_lt_of_le, lt_of_le_of_lt, lt_of_not-le, not-le_of_lt, lt_irrefl, eq-or-lt_of_le, zero-lt-suc, zero-mul, mul-one, mul_comm, mul_assoc, mul_right_comm, mul-le-mul_right, mul-lt-mul_of_pos_right, le_of_mul-le-mul_right, eq_of_mul-eq-mul_right, mul-pos, mul-sub, add-mul, le-div_iff_mul-le, div-lt_iff_lt-mul, div-div-eq-div-mul, mul-div_cancel, pow-suc, pow-succ'}
use native.Mathlib.Omega.{arith}
use mathlib.Core.Bool.{Bool, ◌&&◌}
use lib.IntN.{ℤ, pos, negsuc}
use lib.Dec.{T, ltb, leb, eqb, ltb→lt, leb→le, eqb→eq}
use lib.Pow.{pow-add, pow_pos, pow_mono, pow-lt, shl_lt}
use lib.Ieee.{Float, nan, inf, fin, Format, prec, emax, low, up, down, size, round, fits}
use lib.Ieee.Digits.{size-lt, size-le, size_reaches, back}
use lib.Ieee.Fits.{and_l, and_r, kept-lt, nearest-le, round_is, reach, two, two-le_pos, down_pos}
use lib.Ieee.Exact.{HasValue, units_val}
use lib.Ieee.Nearest.{nearest-ge}
use lib.Ieee.Order.{drop, kept}
use lib.Ieee.Scale.{grid, overflow, finite}
use lib.Ieee.Positive.{num, den, den_pos}
use Rattle.std.proofs.lemmas.Bool.{cases_lt}
use Rattle.decimals.specs.NearestReading.{gap}
use Rattle.decimals.proofs.ClosestWhole.{closest_near, closest_half, closest_tie}

-- ---- gaps
pub gap_mul : (x y z : ℕ) → gap (x * z) (y * z) ≡ gap x y * z
gap_mul x y z =
    let s : (x - y) * z ≡ x * z - y * z = mul_comm (x - y) z ∙ mul-sub z x y ∙ ap (λ (t : ℕ). t - z * y) (mul_comm z x) ∙ ap (λ (t : ℕ). x * z - t) (mul_comm z y) in
    let t : (y - x) * z ≡ y * z - x * z = mul_comm (y - x) z ∙ mul-sub z y x ∙ ap (λ (t : ℕ). t - z * x) (mul_comm z y) ∙ ap (λ (t : ℕ). y * z - t) (mul_comm z x) in
    sym (add-mul (x - y) (y - x) z ∙ ap (λ (w : ℕ). w + (y - x) * z) s ∙ ap (λ (w : ℕ). (x * z - y * z) + w) t)

-- ---- What is rounded, in units of the format's smallest value: n = a * 2 ^ low. The step is 2 ^ k units.
module _ (f : Format) (a c : ℕ) (C : 0 < c) where
  step_pos : 0 < c * 2 ^ drop (prec f) (a * 2 ^ low f) c
  step_pos = mul-pos C (pow_pos (drop (prec f) (a * 2 ^ low f) c))

  as_step : (Q : ℕ) → Q * (c * 2 ^ drop (prec f) (a * 2 ^ low f) c) ≡ Q * 2 ^ drop (prec f) (a * 2 ^ low f) c * c
  as_step Q = ap (λ (z : ℕ). Q * z) (mul_comm c (2 ^ drop (prec f) (a * 2 ^ low f) c)) ∙ sym (mul_assoc Q (2 ^ drop (prec f) (a * 2 ^ low f) c) c)

  -- at most half a step away
  pub grid_half : gap (grid f a c * c) (a * 2 ^ low f) * 2 ≤ c * 2 ^ drop (prec f) (a * 2 ^ low f) c
  grid_half =
      subst (λ (z : ℕ). gap z (a * 2 ^ low f) * 2 ≤ c * 2 ^ drop (prec f) (a * 2 ^ low f) c) (as_step (kept (prec f) (a * 2 ^ low f) c))
      (closest_half (a * 2 ^ low f) (c * 2 ^ drop (prec f) (a * 2 ^ low f) c) step_pos)

  -- no multiple of the step is nearer
  grid_near : (Q : ℕ) → gap (grid f a c * c) (a * 2 ^ low f) ≤ gap (Q * 2 ^ drop (prec f) (a * 2 ^ low f) c * c) (a * 2 ^ low f)
  grid_near Q =
      subst (λ (z : ℕ). gap z (a * 2 ^ low f) ≤ gap (Q * 2 ^ drop (prec f) (a * 2 ^ low f) c * c) (a * 2 ^ low f)) (as_step (kept (prec f) (a * 2 ^ low f) c))
      (subst (λ (z : ℕ). gap (kept (prec f) (a * 2 ^ low f) c * (c * 2 ^ drop (prec f) (a * 2 ^ low f) c)) (a * 2 ^ low f) ≤ gap z (a * 2 ^ low f)) (as_step Q)
      (closest_near (a * 2 ^ low f) (c * 2 ^ drop (prec f) (a * 2 ^ low f) c) step_pos Q))

  grid_tie : (Q : ℕ) → gap (grid f a c * c) (a * 2 ^ low f) ≡ gap (Q * 2 ^ drop (prec f) (a * 2 ^ low f) c * c) (a * 2 ^ low f)
      → (Q ≡ kept (prec f) (a * 2 ^ low f) c) ⊎ (kept (prec f) (a * 2 ^ low f) c % 2 ≡ 0)
  grid_tie Q e =
      closest_tie (a * 2 ^ low f) (c * 2 ^ drop (prec f) (a * 2 ^ low f) c) step_pos Q
      (ap (λ (z : ℕ). gap z (a * 2 ^ low f)) (as_step (kept (prec f) (a * 2 ^ low f) c)) ∙ e ∙ ap (λ (z : ℕ). gap z (a * 2 ^ low f)) (sym (as_step Q)))

  -- where digits are dropped, 2 ^ (p - 1) steps are at most the fraction
  pub steps_below : 0 < drop (prec f) (a * 2 ^ low f) c → 2 ^ (prec f - 1) * 2 ^ drop (prec f) (a * 2 ^ low f) c * c ≤ a * 2 ^ low f
  steps_below K =
      let k = drop (prec f) (a * 2 ^ low f) c in
      let w = a * 2 ^ low f / c in
      (le-div_iff_mul-le C).0 (le_trans (le_of_eq (sym (pow-add 2 (prec f - 1) k)))
      (size_reaches w (prec f - 1 + k) (in_use (size w) (prec f) (two-le_pos (prec f) (two f)) K)))
    where
      in_use : (z p : ℕ) → 0 < p → 0 < z - p → p - 1 + (z - p) < z
      in_use z p P h = omega arith

-- a value m * 2 ^ j units below 2 ^ p * 2 ^ j, with j < k
under_steps : (p k m j : ℕ) → 0 < p → m < 2 ^ p → j < k → m * 2 ^ j < 2 ^ (p - 1) * 2 ^ k
under_steps p k m j P h l = lt_of_lt_of_le (shl_lt p j h) (le_trans (pow_mono (room p j k P l)) (le_of_eq (pow-add 2 (p - 1) k)))
  where
    room : (p j k : ℕ) → 0 < p → j < k → p + j ≤ p - 1 + k
    room p j k P h = omega arith

multiple : (m j k : ℕ) → k ≤ j → m * 2 ^ (j - k) * 2 ^ k ≡ m * 2 ^ j
multiple m j k h = mul_assoc m (2 ^ (j - k)) (2 ^ k) ∙ ap (λ (z : ℕ). m * z) (sym (pow-add 2 (j - k) k) ∙ ap (λ (z : ℕ). 2 ^ z) (back j k h))

-- two below n: the lower is farther
lower_farther : (x y n : ℕ) → x < y → y ≤ n → gap y n < gap x n
lower_farther x y n h k = omega arith

module _ (f : Format) (a c : ℕ) (C : 0 < c) (m j : ℕ) (M : m < 2 ^ prec f) where
  farther : j < drop (prec f) (a * 2 ^ low f) c → gap (grid f a c * c) (a * 2 ^ low f) < gap (m * 2 ^ j * c) (a * 2 ^ low f)
  farther l =
      let k = drop (prec f) (a * 2 ^ low f) c in
      lt_of_le_of_lt (grid_near f a c C (2 ^ (prec f - 1)))
      (lower_farther (m * 2 ^ j * c) (2 ^ (prec f - 1) * 2 ^ k * c) (a * 2 ^ low f)
      (mul-lt-mul_of_pos_right (under_steps (prec f) k m j (two-le_pos (prec f) (two f)) M l) C) (steps_below f a c C (lt_of_le_of_lt zero-le l)))

  -- no value of at most p digits is nearer
  pub units_near : gap (grid f a c * c) (a * 2 ^ low f) ≤ gap (m * 2 ^ j * c) (a * 2 ^ low f)
  units_near =
      let k = drop (prec f) (a * 2 ^ low f) c in
      elim (cases_lt j k) [
        | inl l ↦ le_of_lt (farther l)
        | inr g ↦ subst (λ (z : ℕ). gap (grid f a c * c) (a * 2 ^ low f) ≤ gap (z * c) (a * 2 ^ low f)) (multiple m j k g) (grid_near f a c C (m * 2 ^ (j - k)))
      ]

  pub units_tie : gap (grid f a c * c) (a * 2 ^ low f) ≡ gap (m * 2 ^ j * c) (a * 2 ^ low f) → (m * 2 ^ j ≡ grid f a c) ⊎ (kept (prec f) (a * 2 ^ low f) c % 2 ≡ 0)
  units_tie e =
      let k = drop (prec f) (a * 2 ^ low f) c in
      elim (cases_lt j k) [
        | inl l ↦ absurd (lt_irrefl (gap (m * 2 ^ j * c) (a * 2 ^ low f)) (subst (λ (z : ℕ). z < gap (m * 2 ^ j * c) (a * 2 ^ low f)) e (farther l)))
        | inr g ↦ elim (grid_tie f a c C (m * 2 ^ (j - k)) (e ∙ ap (λ (z : ℕ). gap (z * c) (a * 2 ^ low f)) (sym (multiple m j k g)))) [
          | inl q ↦ inl (sym (multiple m j k g) ∙ ap (λ (z : ℕ). z * 2 ^ k) q)
          | inr v ↦ inr v
        ]
      ]

-- ---- a value that fits is m * 2 ^ j units, with m of at most p digits
pub record Digits (f : Format) (m : ℕ) (e : ℤ) : Type 0 where
  pub j : ℕ
  pub few : m < 2 ^ prec f
  pub same : m * up e * 2 ^ low f ≡ m * 2 ^ j * down e

within : (k l : ℕ) → 2 ^ k ≤ 2 ^ l → k ≤ l
within k l h = elim (cases_lt l k) [ inl g ↦ absurd (lt_irrefl (2 ^ l) (lt_of_lt_of_le (pow-lt g) h)) | inr g ↦ g ]

even_one : (p q : ℕ) → q ≡ 2 * p → 0 < p → 1 * q ≡ 1 → ⊥
even_one p q a b c = omega arith

pub digits_of : (f : Format) (s : Bool) (m : ℕ) (e : ℤ) → T (fits f (fin s m e)) → Digits f m e
unfolding fits
digits_of f s zero (pos k) t = record { j = 0; few = pow_pos (prec f); same = ap (λ (z : ℕ). z * 2 ^ low f) (zero-mul (2 ^ k)) ∙ zero-mul (2 ^ low f) }
digits_of f s zero (negsuc k) t = absurd (even_one (2 ^ k) (2 ^ suc k) (pow-succ' 2 k) (pow_pos k) (eqb→eq (1 * 2 ^ suc k) 1 t))
digits_of f s (suc m) (pos k) t =
    let a : Bool = eqb (suc m % 2) 1 in
    let b : Bool = ltb (suc m) (2 ^ prec f) in
    let c : Bool = leb 1 (2 ^ low f) in
    let d : Bool = ltb (suc m * 2 ^ k) (2 ^ suc (emax f) * 1) in
    record {
      j = k + low f;
      few = ltb→lt (suc m) (2 ^ prec f) (and_r a b (and_l (a && b) c (and_l (a && b && c) d t)));
      same = mul_assoc (suc m) (2 ^ k) (2 ^ low f) ∙ ap (λ (z : ℕ). suc m * z) (sym (pow-add 2 k (low f))) ∙ sym (mul-one (suc m * 2 ^ (k + low f)));
    }
digits_of f s (suc m) (negsuc k) t =
    let a : Bool = eqb (suc m % 2) 1 in
    let b : Bool = ltb (suc m) (2 ^ prec f) in
    let c : Bool = leb (2 ^ suc k) (2 ^ low f) in
    let d : Bool = ltb (suc m * 1) (2 ^ suc (emax f) * 2 ^ suc k) in
    let w : suc k ≤ low f = within (suc k) (low f) (leb→le (2 ^ suc k) (2 ^ low f) (and_r (a && b) c (and_l (a && b && c) d t))) in
    record {
      j = low f - suc k;
      few = ltb→lt (suc m) (2 ^ prec f) (and_r a b (and_l (a && b) c (and_l (a && b && c) d t)));
      same = ap (λ (z : ℕ). z * 2 ^ low f) (mul-one (suc m)) ∙ sym (multiple (suc m) (low f) (suc k) w);
    }

-- ---- the distance of a value N / d = X / 2 ^ low: in units, and as a fraction
pub scaled : (N X d a c l : ℕ) → N * l ≡ X * d → gap (N * c) (a * d) * l ≡ gap (X * c) (a * l) * d
scaled N X d a c l e =
    sym (gap_mul (N * c) (a * d) l)
    ∙ ap (λ (z : ℕ). gap z (a * d * l)) (mul_right_comm N c l ∙ ap (λ (z : ℕ). z * c) e ∙ mul_right_comm X d c)
    ∙ ap (λ (z : ℕ). gap (X * c * d) z) (mul_right_comm a d l)
    ∙ gap_mul (X * c) (a * l) d

-- from units to fractions: G / l stands for a distance in units
compare_units : (A G B H d e l : ℕ) → 0 < l → A * l ≡ G * d → B * l ≡ H * e → G ≤ H → A * e ≤ B * d
compare_units A G B H d e l L p q h =
    le_of_mul-le-mul_right
    (le_trans (le_of_eq (mul_right_comm A e l ∙ ap (λ (z : ℕ). z * e) p))
    (le_trans (mul-le-mul_right e (mul-le-mul_right d h))
    (le_of_eq (mul_right_comm H d e ∙ ap (λ (z : ℕ). z * d) (sym q) ∙ mul_right_comm B l d))))
    L

equal_units : (A G B H d e l : ℕ) → 0 < d → 0 < e → A * l ≡ G * d → B * l ≡ H * e → A * e ≡ B * d → G ≡ H
equal_units A G B H d e l D E p q h =
    eq_of_mul-eq-mul_right d D G H
    (eq_of_mul-eq-mul_right e E (G * d) (H * d)
    (ap (λ (z : ℕ). z * e) (sym p) ∙ mul_right_comm A l e ∙ ap (λ (z : ℕ). z * l) h ∙ mul_right_comm B d l ∙ ap (λ (z : ℕ). z * d) q ∙ mul_right_comm H e d))

same_value : (N d M g X l : ℕ) → 0 < l → N * l ≡ X * d → M * l ≡ X * g → N * g ≡ M * d
same_value N d M g X l L p q =
    eq_of_mul-eq-mul_right l L (N * g) (M * d)
    (mul_right_comm N g l ∙ ap (λ (z : ℕ). z * g) p ∙ mul_right_comm X d g ∙ ap (λ (z : ℕ). z * d) (sym q) ∙ mul_right_comm M l d)

-- ---- No value of the format is nearer in size. How far the size of x is from a / c: this over den x * c.
abbrev pub size_gap : Float → ℕ → ℕ → ℕ
size_gap x a c = gap (num x * c) (a * den x)

-- what has a value, of whichever sign
pub cross_of : (x : Float) (s : Bool) (a c : ℕ) → HasValue x s a c → num x * c ≡ a * den x
cross_of nan s a c h = absurd h
cross_of (inf t) s a c h = absurd h
cross_of (fin t m e) s a c h = h.1

module _ (f : Format) (a c : ℕ) (C : 0 < c) (x : Float) (X : num x * 2 ^ low f ≡ grid f a c * den x) where
  pub size_near : (y : Float) → T (fits f y) → T (finite y) → size_gap x a c * den y ≤ size_gap y a c * den x
  size_near nan t u = absurd u
  size_near (inf s) t u = absurd u
  size_near (fin s n d) t u =
      let y = digits_of f s n d t in
      compare_units (size_gap x a c) (gap (grid f a c * c) (a * 2 ^ low f)) (gap (n * up d * c) (a * down d)) (gap (n * 2 ^ y.j * c) (a * 2 ^ low f)) (den x) (down d)
      (2 ^ low f) (pow_pos (low f))
      (scaled (num x) (grid f a c) (den x) a c (2 ^ low f) X) (scaled (n * up d) (n * 2 ^ y.j) (down d) a c (2 ^ low f) y.same)
      (units_near f a c C n y.j y.few)

  -- where another is as near, it is of the same size or what was kept is even
  pub size_tie : (y : Float) → T (fits f y) → T (finite y) → size_gap x a c * den y ≡ size_gap y a c * den x
      → (num y * den x ≡ num x * den y) ⊎ (kept (prec f) (a * 2 ^ low f) c % 2 ≡ 0)
  size_tie nan t u e = absurd u
  size_tie (inf s) t u e = absurd u
  size_tie (fin s n d) t u e =
      let y = digits_of f s n d t in
      elim (units_tie f a c C n y.j y.few
      (equal_units (size_gap x a c) (gap (grid f a c * c) (a * 2 ^ low f)) (gap (n * up d * c) (a * down d)) (gap (n * 2 ^ y.j * c) (a * 2 ^ low f)) (den x) (down d)
      (2 ^ low f) (den_pos x) (down_pos d)
      (scaled (num x) (grid f a c) (den x) a c (2 ^ low f) X) (scaled (n * up d) (n * 2 ^ y.j) (down d) a c (2 ^ low f) y.same) e)) [
        | inl q ↦ inl (same_value (n * up d) (down d) (num x) (den x) (grid f a c) (2 ^ low f) (pow_pos (low f)) (y.same ∙ ap (λ (z : ℕ). z * down d) q) X)
        | inr w ↦ inr w
      ]

-- ---- what is kept is the significand, or a power of two that is twice the significand
size-gt : (n j : ℕ) → 2 ^ j ≤ n → j < size n
size-gt n j h = lt_of_not-le (λ (g : size n ≤ j). not-le_of_lt (lt_of_lt_of_le (size-lt n) (pow_mono g)) h)

kept_most : (p n d : ℕ) → kept p n d ≤ 2 ^ p
kept_most p n d =
    let k = drop p n d in
    let u = d * 2 ^ k in
    le_trans (nearest-le (n / u) (compare (n % u * 2) u)) (subst (λ (x : ℕ). x < 2 ^ p) (div-div-eq-div-mul n d (2 ^ k)) (kept-lt p (n / d)))

kept_least : (p n d : ℕ) → 0 < p → 0 < drop p n d → 2 ^ (p - 1) ≤ kept p n d
kept_least p n d P K =
    let k = drop p n d in
    let u = d * 2 ^ k in
    let w = n / d in
    let a : 2 ^ (p - 1) * 2 ^ k ≤ w = le_trans (le_of_eq (sym (pow-add 2 (p - 1) k))) (size_reaches w (p - 1 + k) (in_use (size w) p P K)) in
    le_trans (subst (λ (x : ℕ). 2 ^ (p - 1) ≤ x) (div-div-eq-div-mul n d (2 ^ k)) ((le-div_iff_mul-le (pow_pos k)).1 a)) (nearest-ge (n / u) (compare (n % u * 2) u))
  where
    in_use : (z p : ℕ) → 0 < p → 0 < z - p → p - 1 + (z - p) < z
    in_use z p P h = omega arith

-- q * 2 ^ k units, with q of p digits at most, and of p where k is not 0
leading : (p q k : ℕ) → 2 ≤ p → q ≤ 2 ^ p → (0 < k → 2 ^ (p - 1) ≤ q) → q % 2 ≡ 0 → q * 2 ^ k / 2 ^ (size (q * 2 ^ k) - p) % 2 ≡ 0
leading p q k P h g e = elim (eq-or-lt_of_le h) [
  | inl z ↦
      let x : q * 2 ^ k ≡ 2 ^ (p + k) = ap (λ (t : ℕ). t * 2 ^ k) z ∙ sym (pow-add 2 p k) in
      let s : size (q * 2 ^ k) ≡ suc (p + k) =
      le_antisymm (size-le (q * 2 ^ k) (suc (p + k)) (subst (λ (t : ℕ). t < 2 ^ suc (p + k)) (sym x) (pow-lt (le_refl (suc (p + k))))))
      (size-gt (q * 2 ^ k) (p + k) (le_of_eq (sym x))) in
      let y : q * 2 ^ k ≡ 2 ^ (p - 1) * 2 ^ suc k = x ∙ ap (λ (t : ℕ). 2 ^ t) (shift p k P) ∙ pow-add 2 (p - 1) (suc k) in
      ap (λ (t : ℕ). q * 2 ^ k / 2 ^ t % 2) (ap (λ (t : ℕ). t - p) s ∙ one_more p k) ∙ ap (λ (t : ℕ). t / 2 ^ suc k % 2) y
      ∙ ap (λ (t : ℕ). t % 2) (mul-div_cancel (2 ^ (p - 1)) (pow_pos (suc k)))
      ∙ ap (λ (t : ℕ). 2 ^ t % 2) (again p P) ∙ ap (λ (t : ℕ). t % 2) (pow-suc 2 (p - 2)) ∙ doubled (2 ^ (p - 2))
  | inr l ↦ ap (λ (t : ℕ). q * 2 ^ k / 2 ^ t % 2) (exact l k g) ∙ ap (λ (t : ℕ). t % 2) (mul-div_cancel q (pow_pos k)) ∙ e
]
  where
    shift : (p k : ℕ) → 2 ≤ p → p + k ≡ p - 1 + suc k
    shift p k P = omega arith

    one_more : (p k : ℕ) → suc (p + k) - p ≡ suc k
    one_more p k = omega arith

    again : (p : ℕ) → 2 ≤ p → p - 1 ≡ suc (p - 2)
    again p P = omega arith

    doubled : (x : ℕ) → x * 2 % 2 ≡ 0
    doubled x = omega arith

    below : (z p k : ℕ) → z ≤ p + k → p + k ≤ z → z - p ≡ k
    below z p k a b = omega arith

    none : (z p : ℕ) → z ≤ p + 0 → z - p ≡ 0
    none z p a = omega arith

    top : (p k z : ℕ) → 2 ≤ p → p - 1 + suc k < z → p + suc k ≤ z
    top p k z P h = omega arith

    exact : q < 2 ^ p → (k : ℕ) → (0 < k → 2 ^ (p - 1) ≤ q) → size (q * 2 ^ k) - p ≡ k
    exact l zero g = none (size (q * 2 ^ 0)) p (size-le (q * 2 ^ 0) (p + 0) (shl_lt p 0 l))
    exact l (suc k) g =
        below (size (q * 2 ^ suc k)) p (suc k) (size-le (q * 2 ^ suc k) (p + suc k) (shl_lt p (suc k) l))
        (top p k (size (q * 2 ^ suc k)) P
        (size-gt (q * 2 ^ suc k) (p - 1 + suc k) (le_trans (le_of_eq (pow-add 2 (p - 1) (suc k))) (mul-le-mul_right (2 ^ suc k) (g (zero-lt-suc k))))))

-- the size in units, and its leading `prec` binary digits: the significand, as a whole number
abbrev pub units_of : Format → Float → ℕ
units_of f x = num x * 2 ^ low f / den x

abbrev pub significand : Format → Float → ℕ
significand f x = units_of f x / 2 ^ (size (units_of f x) - prec f)

pub even_significand : (f : Format) (a c : ℕ) (x : Float) → num x * 2 ^ low f ≡ grid f a c * den x → kept (prec f) (a * 2 ^ low f) c % 2 ≡ 0 → significand f x % 2 ≡ 0
even_significand f a c x X z =
    ap (λ (n : ℕ). n / 2 ^ (size n - prec f) % 2) (ap (λ (n : ℕ). n / den x) X ∙ mul-div_cancel (grid f a c) (den_pos x))
    ∙ leading (prec f) (kept (prec f) (a * 2 ^ low f) c) (drop (prec f) (a * 2 ^ low f) c) (two f) (kept_most (prec f) (a * 2 ^ low f) c)
    (kept_least (prec f) (a * 2 ^ low f) c (two-le_pos (prec f) (two f))) z

-- ---- what is rounded has the value `grid`, in units
pub round_value : (f : Format) (s : Bool) (a c : ℕ) → grid f a c < overflow f → HasValue (round f s a c) s (grid f a c) (2 ^ low f)
round_value f s a c h =
    subst (λ (z : Float). HasValue z s (grid f a c) (2 ^ low f)) (sym (round_is f s a c))
    (units_val f s (kept (prec f) (a * 2 ^ low f) c) (drop (prec f) (a * 2 ^ low f) c) h)

-- a fraction below 2 ^ j, with j at most emax, rounds to a finite value
pub grid_under : (f : Format) (a c j : ℕ) → 0 < c → a < 2 ^ j * c → j ≤ emax f → grid f a c < overflow f
grid_under f a c j C h J =
    let n = a * 2 ^ low f in
    let k = drop (prec f) n c in
    let z : size (n / c) ≤ j + low f =
    size-le (n / c) (j + low f) ((div-lt_iff_lt-mul C).1
    (lt_of_lt_of_le (mul-lt-mul_of_pos_right h (pow_pos (low f)))
    (le_of_eq (mul_right_comm (2 ^ j) c (2 ^ low f) ∙ ap (λ (x : ℕ). x * c) (sym (pow-add 2 j (low f))))))) in
    lt_of_le_of_lt (le_trans (mul-le-mul_right (2 ^ k) (kept_most (prec f) n c)) (le_of_eq (sym (pow-add 2 (prec f) k))))
    (pow-lt (room (prec f) (size (n / c)) j (emax f) (low f) (two f) (reach f) J z refl))
  where
    room : (p z j e l : ℕ) → 2 ≤ p → p ≤ suc e → j ≤ e → z ≤ j + l → l ≡ e + p - 2 → p + (z - p) < l + suc e
    room p z j e l P R J h i = omega arith
