-- The smaller of two is the larger of the two with their signs turned, turned back. Assumes nothing.
use Rattle.std.proofs.Common.{◌≡◌, ℕ, ◌*◌, Bool, true, false, cond, not, ◌&&◌, ◌||◌, T, eqb, ltb, pos, refl, ap, ◌∙◌, add_comm, zero-mul, eqb→eq}
use mathlib.Core.Bool.{beq, not-not}
use lib.Ieee.{Float, nan, inf, fin, up, down, below, level, neg, lt, eq, is_nan}
use lib.Ieee.Fits.{eq→eqb}
use Rattle.f64_helpers.specs.F64.{zero}
use Rattle.f64_helpers.specs.Helpers.{max, min, negative}

pub neg_neg : (x : Float) → neg (neg x) ≡ x
unfolding neg
neg_neg nan = refl
neg_neg (inf s) = ap inf (not-not s)
neg_neg (fin s m e) = ap (λ (s : Bool). fin s m e) (not-not s)

-- -a < -b exactly if b < a
below_turned : (s t : Bool) (a b : ℕ) → below (not s) a (not t) b ≡ below t b s a
below_turned false false a b = refl
below_turned false true a b = ap (ltb 0) (add_comm a b)
below_turned true false a b = refl
below_turned true true a b = refl

-- whether a size is 0 does not turn on the sign
zero_turned : (s : Bool) (a b : ℕ) → b ≡ 0 → level (not s) a false b ≡ level s a false b
zero_turned s a b z = go (eqb a b) (λ t. eq→eqb (eqb→eq a b t ∙ z))
  where
    go : (p : Bool) → (T p → T (eqb a 0)) → (p && (beq (not s) false || eqb a 0)) ≡ (p && (beq s false || eqb a 0))
    go false h = refl
    go true h = both s (eqb a 0) (h tt)
      where
        both : (s q : Bool) → T q → (beq (not s) false || q) ≡ (beq s false || q)
        both true true t = refl
        both false true t = refl
        both false false t = elim t [ ]
        both true false t = elim t [ ]

-- the tests of `max`, at turned signs
pub nan_turned : (x : Float) → is_nan (neg x) ≡ is_nan x
unfolding neg is_nan
nan_turned nan = refl
nan_turned (inf s) = refl
nan_turned (fin s m e) = refl

pub lt_turned : (x y : Float) → lt (neg x) (neg y) ≡ lt y x
unfolding neg lt
lt_turned nan nan = refl
lt_turned nan (inf t) = refl
lt_turned nan (fin t n d) = refl
lt_turned (inf s) nan = refl
lt_turned (inf true) (inf true) = refl
lt_turned (inf true) (inf false) = refl
lt_turned (inf false) (inf true) = refl
lt_turned (inf false) (inf false) = refl
lt_turned (inf s) (fin t n d) = refl
lt_turned (fin s m e) nan = refl
lt_turned (fin s m e) (inf t) = not-not t
lt_turned (fin s m e) (fin t n d) = below_turned s t (m * up e * down d) (n * up d * down e)

is_zero_turned : (x : Float) → eq (neg x) zero ≡ eq x zero
unfolding neg eq
is_zero_turned nan = refl
is_zero_turned (inf s) = refl
is_zero_turned (fin s m e) = zero_turned s (m * up e * 1) (0 * 1 * down e) (zero-mul (down e))

negative_turned : (x : Float) → T (eq x zero) → negative (neg x) ≡ not (negative x)
unfolding neg eq
negative_turned nan z = absurd z
negative_turned (inf s) z = refl
negative_turned (fin s m e) z = refl

either_negative : (s t : Bool) → not (not s && not t) ≡ (s || t)
either_negative true t = refl
either_negative false t = not-not t

pub neg_max : (x y : Float) → neg (max (neg x) (neg y)) ≡ min x y
unfolding max min neg
neg_max x y =
    (λ i. neg (cond (nan_turned x i) (neg y) (cond (lt_turned x y i) (neg y) (cond (is_zero_turned x i && is_zero_turned y i) (fin (negative (neg x) && negative (neg y)) 0 (pos 0)) (neg x)))))
    ∙ go (is_nan x) (lt y x) (eq x zero) (eq y zero) (negative_turned x) (negative_turned y)
  where
    go : (n l p q : Bool) → (T p → negative (neg x) ≡ not (negative x)) → (T q → negative (neg y) ≡ not (negative y))
        → neg (cond n (neg y) (cond l (neg y) (cond (p && q) (fin (negative (neg x) && negative (neg y)) 0 (pos 0)) (neg x))))
        ≡ cond n y (cond l y (cond (p && q) (fin (negative x || negative y) 0 (pos 0)) x))
    go true l p q f g = neg_neg y
    go false true p q f g = neg_neg y
    go false false false q f g = neg_neg x
    go false false true false f g = neg_neg x
    go false false true true f g =
        (λ i. fin (not (f tt i && g tt i)) 0 (pos 0)) ∙ ap (λ (s : Bool). fin s 0 (pos 0)) (either_negative (negative x) (negative y))
