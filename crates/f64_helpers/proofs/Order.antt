-- The order of all floats, a NaN, the infinities and zeros of either sign included: `<` and `<=` pass from one pair to the next, and of two numbers one is less exactly if the other is not at most it. Assumes nothing.
use Rattle.std.proofs.Common.{◌≡◌, ℕ, ◌+◌, ◌*◌, ◌≤◌, Bool, true, false, cond, not, ◌||◌, T, ltb, ◌⊎◌, ◌↔◌, sym, refl, subst, inl, inr, ⊎_elim, zero-mul, arith, ltb→lt, nltb→le, T_not}
use lib.Dec.{not_T}
use Rattle.std.proofs.lemmas.Bool.Decides.{nat_tests}
use Rattle.std.proofs.lemmas.Float as Floats
use Rattle.std.proofs.lemmas.Float.{le_left, le_right, le_of_lt, le_of_eq, lt_irrefl, lt_of_lt_of_le, lt_of_not-le}
use lib.Ieee.{Float, below, level, lt, eq, le, is_nan}
use Rattle.f64_helpers.proofs.WholeSeconds.{same_test}

-- ---- signed sizes
-- The size a with the sign s is `plus s a` less `plus (not s) a`: one of the two is 0.
abbrev pub plus : Bool → ℕ → ℕ
plus s a = cond s 0 a

pub plus_mul : (s : Bool) (a c : ℕ) → plus s (a * c) ≡ plus s a * c
plus_mul true a c = sym (zero-mul c)
plus_mul false a c = refl

-- ±a ≤ ±b, with what is taken away on the other side
at_most_is : (s t : Bool) (a b : ℕ) → (below s a t b || level s a t b) ≡ not (ltb (plus t b + plus (not s) a) (plus s a + plus (not t) b))
at_most_is false false a b = grind (arith, nat_tests)
at_most_is false true a b = grind (arith, nat_tests)
at_most_is true false a b = grind (arith, nat_tests)
at_most_is true true a b = grind (arith, nat_tests)

-- ±a / p ≤ ±b / q
pub fractions : (s t : Bool) (a b p q : ℕ) → T (below s (a * q) t (b * p) || level s (a * q) t (b * p)) ↔ (plus s a * q + plus (not t) b * p ≤ plus t b * p + plus (not s) a * q)
fractions s t a b p q =
    let l = plus s a * q + plus (not t) b * p in
    let r = plus t b * p + plus (not s) a * q in
    let e : (below s (a * q) t (b * p) || level s (a * q) t (b * p)) ≡ not (ltb r l) = simp plus_mul at (at_most_is s t (a * q) (b * p)) in
    (λ h. nltb→le r l (subst T e h), λ h. subst T (sym e) (not_T (ltb r l) (λ k. omega (arith, ltb→lt r l k))))

-- ---- all floats
-- what is compared is no NaN
pub le_numbers : (x y : Float) → T (le x y) → T (not (is_nan x)) × T (not (is_nan y))
le_numbers x y h = (le_left x y h, le_right x y h)

pub le_trans : (x y z : Float) → T (le x y) → T (le y z) → T (le x z)
le_trans = Floats.le_trans

pub lt→le : (x y : Float) → T (lt x y) → T (le x y)
lt→le = le_of_lt

pub eq→le : (x y : Float) → T (eq x y) → T (le x y)
eq→le = le_of_eq

pub lt_le : (a x y : Float) → T (lt a x) → T (le x y) → T (lt a y)
lt_le = lt_of_lt_of_le

pub not_both : (x y : Float) → T (lt x y) → T (le y x) → ⊥
not_both x y h k = lt_irrefl x (lt_of_lt_of_le x y x h k)

-- of two numbers, the one is less exactly if the other is not at most it
pub lt_is_not_le : (x y : Float) → T (not (is_nan x)) → T (not (is_nan y)) → lt x y ≡ not (le y x)
lt_is_not_le x y p q = same_test (lt x y) (not (le y x)) (λ h. not_T (le y x) (not_both x y h)) (lt_of_not-le y x q p)

pub in_order : (x y : Float) → T (le x y) ⊎ (T (lt y x) ⊎ (T (is_nan x) ⊎ T (is_nan y)))
in_order x y = go (le x y) (is_nan x) (is_nan y) (lt_is_not_le y x)
  where
    go : (l p q : Bool) → (T (not q) → T (not p) → lt y x ≡ not l) → T l ⊎ (T (lt y x) ⊎ (T p ⊎ T q))
    go true p q e = inl tt
    go false true q e = inr (inr (inl tt))
    go false false true e = inr (inr (inr tt))
    go false false false e = inr (inl (subst T (sym (e tt tt)) tt))

-- no comparison with a NaN holds
pub number_at_most : (x y : Float) → T (is_nan x) ⊎ T (is_nan y) → T (le x y) → ⊥
number_at_most x y n h = let k = le_numbers x y h in ⊎_elim (T_not (is_nan x) k.0) (T_not (is_nan y) k.1) n

pub number_below : (x y : Float) → T (is_nan x) ⊎ T (is_nan y) → T (lt x y) → ⊥
number_below x y n h = number_at_most x y n (le_of_lt x y h)
