-- Rounding keeps the order of fractions of either sign, so that a sum does not come to lie on the wrong side of its first term. Assumes nothing.
use Rattle.std.proofs.Common.{◌≡◌, ℕ, zero, suc, ◌+◌, ◌-◌, ◌*◌, ◌<◌, ◌≤◌, Bool, true, false, cond, not, ◌&&◌, ◌||◌, T, eqb, ltb, ◌⊎◌, ℤ, pos, sym, refl, ap, ◌∙◌, subst, inl, inr, ⊎_elim, mul-le-mul_right, zero-lt-suc, mul_assoc, mul_comm, add-mul, mul-pos, arith, ltb→lt, nltb→le}
use mathlib.Core.Bool.{beq, not-not}
use lib.Dec.{eqb_refl}
use lib.Ieee.{Float, nan, inf, fin, binary64, up, down, round, level, neg, sum, add, sub, lt, eq, le, is_nan, fits}
use lib.Ieee.Fits.{and_i, down_pos}
use lib.Ieee.Exact.{HasValue}
use lib.Ieee.Order.{round_mono}
use Rattle.f64_helpers.specs.F64.{zero as zeroᶠ}
use Rattle.f64_helpers.proofs.Order.{plus, plus_mul, fractions, le_numbers, lt_is_not_le, not_both, number_below}
use Rattle.f64_helpers.proofs.Quotients.{round_zero}
use Rattle.f64_helpers.proofs.Values.{own_value}
use Rattle.std.proofs.lemmas.Float.{le_of_eq, le_trans, lt_of_le_of_lt, lt_of_lt_of_le}
use Rattle.f64_helpers.proofs.Negation.{neg_round}
use Rattle.f64_helpers.proofs.Signs.{nan_turned, lt_turned}

-- ---- turned signs turn the order
pub le_turned : (x y : Float) → T (le x y) → T (le (neg y) (neg x))
le_turned x y h =
    let n = le_numbers x y h in
    let is : le (neg y) (neg x) ≡ le x y =
    sym (not-not (le (neg y) (neg x)))
    ∙ ap not (sym (lt_is_not_le (neg x) (neg y) (subst (λ (b : Bool). T (not b)) (sym (nan_turned x)) n.0) (subst (λ (b : Bool). T (not b)) (sym (nan_turned y)) n.1)))
    ∙ ap not (lt_turned x y)
    ∙ ap not (lt_is_not_le y x n.1 n.0)
    ∙ not-not (le x y) in
    subst T (sym is) h

-- ---- rounded fractions of either sign
-- ±a / c ≤ ±b / d
abbrev pub AtMost : Bool → ℕ → ℕ → Bool → ℕ → ℕ → Type 0
AtMost s a c t b d = plus s a * d + plus (not t) b * c ≤ plus t b * c + plus (not s) a * d

pub zeros_level : (s t : Bool) → T (le (fin s 0 (pos 0)) (fin t 0 (pos 0)))
unfolding le
zeros_level true true = tt
zeros_level true false = tt
zeros_level false true = tt
zeros_level false false = tt

not_negative : (b d : ℕ) → 0 < d → T (le zeroᶠ (round binary64 false b d))
not_negative b d D =
    subst (λ (z : Float). T (le z (round binary64 false b d))) (round_zero false 1 (zero-lt-suc 0)) (round_mono binary64 0 1 b d (zero-lt-suc 0) D (omega arith))

not_positive : (a c : ℕ) → 0 < c → T (le (round binary64 true a c) zeroᶠ)
unfolding neg
not_positive a c C =
    le_trans (round binary64 true a c) (neg zeroᶠ) zeroᶠ
    (subst (λ (z : Float). T (le z (neg zeroᶠ))) (neg_round binary64 false a c) (le_turned zeroᶠ (round binary64 false a c) (not_negative a c C)))
    (zeros_level true false)

no_size : (a b c d : ℕ) → 0 < c → 0 < d → a * d + b * c ≤ 0 * c + 0 * d → (a ≡ 0) × (b ≡ 0)
no_size zero zero c d C D h = (refl, refl)
no_size zero (suc b) c d C D h = absurd (none (suc b * c) (mul-pos (zero-lt-suc b) C) (omega (arith, h)))
  where
    none : (p : ℕ) → 0 < p → p ≤ 0 → ⊥
    none p P h = omega arith
no_size (suc a) b c d C D h = absurd (none (suc a * d) (b * c) (mul-pos (zero-lt-suc a) D) (omega (arith, h)))
  where
    none : (p q : ℕ) → 0 < p → p + q ≤ 0 → ⊥
    none p q P h = omega arith

pub rounded_in_order : (s t : Bool) (a b c d : ℕ) → 0 < c → 0 < d → AtMost s a c t b d → T (le (round binary64 s a c) (round binary64 t b d))
rounded_in_order false false a b c d C D h = round_mono binary64 a c b d C D (omega (arith, h))
rounded_in_order true true a b c d C D h =
    subst T (λ i. le (neg_round binary64 false a c i) (neg_round binary64 false b d i))
    (le_turned (round binary64 false b d) (round binary64 false a c) (round_mono binary64 b d a c D C (omega (arith, h))))
rounded_in_order true false a b c d C D h = le_trans (round binary64 true a c) zeroᶠ (round binary64 false b d) (not_positive a c C) (not_negative b d D)
rounded_in_order false true a b c d C D h =
    let z = no_size a b c d C D h in
    let l : fin false 0 (pos 0) ≡ round binary64 false a c = sym (ap (λ (n : ℕ). round binary64 false n c) z.0 ∙ round_zero false c C) in
    let r : fin true 0 (pos 0) ≡ round binary64 true b d = sym (ap (λ (n : ℕ). round binary64 true n d) z.1 ∙ round_zero true d D) in
    subst T (λ i. le (l i) (r i)) (zeros_level false true)

-- ---- a value that the format holds, and the fraction that it is
level_of : (s t : Bool) (a b : ℕ) → t ≡ s → b ≡ a → T (level s a t b)
level_of s t a b p q = subst (λ (t : Bool). T (level s a t b)) (sym p) (subst (λ (b : ℕ). T (level s a s b)) (sym q) (and_i (eqb a a) (beq s s || eqb a 0) (eqb_refl a) (itself s)))
  where
    itself : (s : Bool) → T (beq s s || eqb a 0)
    itself true = tt
    itself false = tt

same_value : (s : Bool) (m : ℕ) (e : ℤ) (y : Float) → HasValue y s (m * up e) (down e) → T (eq (fin s m e) y) × T (eq y (fin s m e))
unfolding eq
same_value s m e nan v = absurd v
same_value s m e (inf t) v = absurd v
same_value s m e (fin t n d) v = (
  level_of s t (m * up e * down d) (n * up d * down e) v.0 v.1,
  level_of t s (n * up d * down e) (m * up e * down d) (sym v.0) (sym v.1),
)

-- ---- a sum, as the one fraction that is rounded
-- z is ±a / c and ±b / c together, rounded once
pub record Rounded (z : Float) (s : Bool) (a : ℕ) (t : Bool) (b c : ℕ) : Type 0 where
  pub sign : Bool
  pub size : ℕ
  pub once : z ≡ round binary64 sign size c
  pub exact : plus sign size + (plus (not s) a + plus (not t) b) ≡ plus (not sign) size + (plus s a + plus t b)

pub rounded : (s : Bool) (a : ℕ) (t : Bool) (b c : ℕ) → Rounded (sum binary64 s a t b c) s a t b c
unfolding sum
rounded true a true b c = record { sign = true; size = a + b; once = refl; exact = omega arith }
rounded false a false b c = record { sign = false; size = a + b; once = refl; exact = omega arith }
rounded true a false b c = go (ltb a b) (ltb b a) (ltb→lt a b) (nltb→le a b) (nltb→le b a)
  where
    go : (p q : Bool) → (T p → a < b) → (T (not p) → b ≤ a) → (T (not q) → a ≤ b)
        → Rounded (cond p (round binary64 false (b - a) c) (round binary64 (true && q) (a - b) c)) true a false b c
    go true q f g k = record { sign = false; size = b - a; once = refl; exact = omega (arith, f tt) }
    go false true f g k = record { sign = true; size = a - b; once = refl; exact = omega (arith, g tt) }
    go false false f g k = record { sign = false; size = a - b; once = refl; exact = omega (arith, g tt, k tt) }
rounded false a true b c = go (ltb a b) (ltb→lt a b) (nltb→le a b)
  where
    go : (p : Bool) → (T p → a < b) → (T (not p) → b ≤ a)
        → Rounded (cond p (round binary64 true (b - a) c) (round binary64 false (a - b) c)) false a true b c
    go true f g = record { sign = true; size = b - a; once = refl; exact = omega (arith, f tt) }
    go false f g = record { sign = false; size = a - b; once = refl; exact = omega (arith, g tt) }

moved : (p p' q q' v v' g k : ℕ) → v + (p' * k + q') ≡ v' + (p * k + q) → q' ≤ q → p * (g * k) + v' * g ≤ v * g + p' * (g * k)
moved p p' q q' v v' g k e h =
    let l : (p * k + v') * g ≤ (v + p' * k) * g = mul-le-mul_right g (linear (p * k) (p' * k) q q' v v' e h) in
    omega (arith, simp (add-mul, mul_assoc, mul_comm) at l)
  where
    linear : (x x' q q' v v' : ℕ) → v + (x' + q') ≡ v' + (x + q) → q' ≤ q → x + v' ≤ v + x'
    linear x x' q q' v v' e h = omega arith

-- ±a / g and ±b / k, for a b that is not negative, and for one that is not positive
module _ (s : Bool) (a g : ℕ) (t : Bool) (b k : ℕ) (G : 0 < g) (K : 0 < k) where
  abbrev both : Float
  both = sum binary64 s (a * k) t (b * g) (g * k)

  together : Rounded both s (a * k) t (b * g) (g * k)
  together = rounded s (a * k) t (b * g) (g * k)

  scaled : plus together.sign together.size + (plus (not s) a * k + plus (not t) b * g) ≡ plus (not together.sign) together.size + (plus s a * k + plus t b * g)
  scaled = simp plus_mul at together.exact

  sum_above : plus (not t) b ≤ plus t b → T (le (round binary64 s a g) both)
  sum_above h =
      subst (λ (z : Float). T (le (round binary64 s a g) z)) (sym together.once)
      (rounded_in_order s together.sign a together.size g (g * k) G (mul-pos G K)
      (moved (plus s a) (plus (not s) a) (plus t b * g) (plus (not t) b * g) (plus together.sign together.size) (plus (not together.sign) together.size) g k scaled (mul-le-mul_right g h)))

  sum_below : plus t b ≤ plus (not t) b → T (le both (round binary64 s a g))
  sum_below h =
      subst (λ (z : Float). T (le z (round binary64 s a g))) (sym together.once)
      (rounded_in_order together.sign s together.size a (g * k) g (mul-pos G K) G
      (omega (arith, moved (plus (not s) a) (plus s a) (plus (not t) b * g) (plus t b * g) (plus (not together.sign) together.size) (plus together.sign together.size) g k (sym scaled) (mul-le-mul_right g h))))

-- ---- adding what is not negative, and what is not positive, to an f64
pub at_least_zero : (t : Bool) (n : ℕ) (d : ℤ) → T (le zeroᶠ (fin t n d)) → plus (not t) (n * up d) ≤ plus t (n * up d)
unfolding le
at_least_zero t n d h = omega (arith, (fractions false t (0 * 1) (n * up d) 1 (down d)).0 h)

pub at_most_zero : (t : Bool) (n : ℕ) (d : ℤ) → T (le (fin t n d) zeroᶠ) → plus t (n * up d) ≤ plus (not t) (n * up d)
unfolding le
at_most_zero t n d h = omega (arith, (fractions t false (n * up d) (0 * 1) (down d) 1).0 h)

module _ (s : Bool) (m : ℕ) (e : ℤ) (held : T (fits binary64 (fin s m e))) where
  abbrev itself : Float
  itself = round binary64 s (m * up e) (down e)

  as_itself : T (eq (fin s m e) itself) × T (eq itself (fin s m e))
  as_itself = same_value s m e itself (own_value binary64 s m e held)

  finite_above : (t : Bool) (n : ℕ) (d : ℤ) → T (le zeroᶠ (fin t n d)) → T (le (fin s m e) (add binary64 (fin s m e) (fin t n d)))
  unfolding add
  finite_above t n d h =
      le_trans (fin s m e) itself (add binary64 (fin s m e) (fin t n d)) (le_of_eq (fin s m e) itself as_itself.0)
      (sum_above s (m * up e) (down e) t (n * up d) (down d) (down_pos e) (down_pos d) (at_least_zero t n d h))

  finite_below : (t : Bool) (n : ℕ) (d : ℤ) → T (le (fin t n d) zeroᶠ) → T (le (add binary64 (fin s m e) (fin t n d)) (fin s m e))
  unfolding add
  finite_below t n d h =
      le_trans (add binary64 (fin s m e) (fin t n d)) itself (fin s m e)
      (sum_below s (m * up e) (down e) t (n * up d) (down d) (down_pos e) (down_pos d) (at_most_zero t n d h))
      (le_of_eq itself (fin s m e) as_itself.1)

-- no number lies below x, none above it
abbrev Lowest : Float → Type 0
Lowest x = (u : Float) → T (lt u x) → ⊥

abbrev Highest : Float → Type 0
Highest x = (u : Float) → T (lt x u) → ⊥

below_nan : Lowest nan
unfolding is_nan
below_nan u h = number_below u nan (inr tt) h

above_nan : Highest nan
unfolding is_nan
above_nan u h = number_below nan u (inl tt) h

below_all : Lowest (inf true)
unfolding le
below_all nan h = above_nan (inf true) h
below_all (inf false) h = not_both (inf false) (inf true) h tt
below_all (inf true) h = not_both (inf true) (inf true) h tt
below_all (fin s m e) h = not_both (fin s m e) (inf true) h tt

above_all : Highest (inf false)
unfolding le
above_all nan h = below_nan (inf false) h
above_all (inf false) h = not_both (inf false) (inf false) h tt
above_all (inf true) h = not_both (inf false) (inf true) h tt
above_all (fin s m e) h = not_both (inf false) (fin s m e) h tt

-- A sum is a NaN only if a term is one or both are infinite with unlike signs.
raised : (x h : Float) → T (fits binary64 x) → T (le zeroᶠ h) → T (le x (add binary64 x h)) ⊎ (T (is_nan (add binary64 x h)) × Lowest x)
unfolding add is_nan le
raised nan h f p = inr (tt, below_nan)
raised (inf s) nan f p = absurd p
raised (fin s m e) nan f p = absurd p
raised (inf s) (inf true) f p = absurd p
raised (fin s m e) (inf true) f p = absurd p
raised (inf false) (inf false) f p = inl tt
raised (inf true) (inf false) f p = inr (tt, below_all)
raised (fin s m e) (inf false) f p = inl tt
raised (inf false) (fin t n d) f p = inl tt
raised (inf true) (fin t n d) f p = inl tt
raised (fin s m e) (fin t n d) f p = inl (finite_above s m e f t n d p)

lowered : (x h : Float) → T (fits binary64 x) → T (le h zeroᶠ) → T (le (add binary64 x h) x) ⊎ (T (is_nan (add binary64 x h)) × Highest x)
unfolding add is_nan le
lowered nan h f p = inr (tt, above_nan)
lowered (inf s) nan f p = absurd p
lowered (fin s m e) nan f p = absurd p
lowered (inf s) (inf false) f p = absurd p
lowered (fin s m e) (inf false) f p = absurd p
lowered (inf true) (inf true) f p = inl tt
lowered (inf false) (inf true) f p = inr (tt, above_all)
lowered (fin s m e) (inf true) f p = inl tt
lowered (inf false) (fin t n d) f p = inl tt
lowered (inf true) (fin t n d) f p = inl tt
lowered (fin s m e) (fin t n d) f p = inl (finite_below s m e f t n d p)

-- ---- a NaN
pub nan_sum : (x h : Float) → T (is_nan x) ⊎ T (is_nan h) → T (is_nan (add binary64 x h))
unfolding add is_nan
nan_sum nan h n = tt
nan_sum (inf s) nan n = tt
nan_sum (inf s) (inf t) n = absurd (⊎_elim (λ z. z) (λ z. z) n)
nan_sum (inf s) (fin t m e) n = absurd (⊎_elim (λ z. z) (λ z. z) n)
nan_sum (fin s m e) nan n = tt
nan_sum (fin s m e) (inf t) n = absurd (⊎_elim (λ z. z) (λ z. z) n)
nan_sum (fin s m e) (fin t k d) n = absurd (⊎_elim (λ z. z) (λ z. z) n)

pub nan_difference : (x h : Float) → T (is_nan x) ⊎ T (is_nan h) → T (is_nan (sub binary64 x h))
unfolding sub
nan_difference x h n = nan_sum x (neg h) (⊎_elim inl (λ z. inr (subst T (sym (nan_turned h)) z)) n)

-- ---- what lies below x and below x + h, above x and above x - h
pub not_positive_turned : (h : Float) → T (le zeroᶠ h) → T (le (neg h) zeroᶠ)
unfolding neg
not_positive_turned h p = le_trans (neg h) (neg zeroᶠ) zeroᶠ (le_turned zeroᶠ h p) (zeros_level true false)

pub not_negative_turned : (h : Float) → T (le h zeroᶠ) → T (le zeroᶠ (neg h))
unfolding neg
not_negative_turned h p = le_trans zeroᶠ (neg zeroᶠ) (neg h) (zeros_level false true) (le_turned h zeroᶠ p)

module _ (u x h : Float) (held : T (fits binary64 x)) where
  pub below_raised : T (le zeroᶠ h) → T (lt u x) → T (lt u (add binary64 x h))
  below_raised p q = ⊎_elim (λ l. lt_of_lt_of_le u x (add binary64 x h) q l) (λ n. absurd (n.1 u q)) (raised x h held p)

  pub below_lowered : T (le h zeroᶠ) → T (lt u (add binary64 x h)) → T (lt u x)
  below_lowered p q = ⊎_elim (λ l. lt_of_lt_of_le u (add binary64 x h) x q l) (λ n. absurd (number_below u (add binary64 x h) (inr n.0) q)) (lowered x h held p)

  pub above_lowered : T (le zeroᶠ h) → T (lt x u) → T (lt (sub binary64 x h) u)
  unfolding sub
  above_lowered p q = ⊎_elim (λ l. lt_of_le_of_lt (sub binary64 x h) x u l q) (λ n. absurd (n.1 u q)) (lowered x (neg h) held (not_positive_turned h p))

  pub above_raised : T (le h zeroᶠ) → T (lt (sub binary64 x h) u) → T (lt x u)
  unfolding sub
  above_raised p q =
      ⊎_elim (λ l. lt_of_le_of_lt x (sub binary64 x h) u l q) (λ n. absurd (number_below (sub binary64 x h) u (inl n.0) q)) (raised x (neg h) held (not_negative_turned h p))
