-- An f64 is finite with no fraction exactly if it less itself is 0 and it is its own floor. Assumes nothing.
use Rattle.std.proofs.Common.{◌≡◌, ℕ, ◌+◌, ◌-◌, ◌*◌, ◌/◌, ◌%◌, ◌<◌, Bool, true, false, cond, not, ◌&&◌, ◌||◌, T, eqb, ltb, ℤ, pos, sym, refl, ap, ◌∙◌, subst, lt_irrefl, mul-pos, div-add-mod', mul-one, mul_right_comm, mul-div_cancel, arith, eqb→eq, ltb→lt}
use Rattle.std.proofs.lemmas.Bool.Decides.{nat_tests}
use native.Mathlib.Nat.{sub_self, eq_of_mul-eq-mul_right}
use mathlib.Core.Bool.{beq, and-true}
use lib.Ieee.{Float, nan, inf, fin, binary64, up, down, round, sum, add, sub, neg, eq, fits}
use lib.Ieee.Fits.{down_pos, eq→eqb}
use lib.Ieee.Exact.{HasValue}
use Rattle.f64_helpers.specs.F64.{◌⊖◌, zero}
use Rattle.f64_helpers.specs.Helpers.{floor, quotient_down, quotient_up, is_whole}
use Rattle.f64_helpers.proofs.Floors.{ceil_same}
use Rattle.f64_helpers.proofs.Meaning.{floor_exact, ceil_exact}
use Rattle.f64_helpers.proofs.Quotients.{round_zero}
use Rattle.f64_helpers.proofs.WholeSeconds.{same_test}

-- ---- x - x is 0.0
less_itself : (s : Bool) (a c : ℕ) → 0 < c → sum binary64 s a (not s) a c ≡ fin false 0 (pos 0)
unfolding sum
less_itself s a c C = go s (ltb a a) (λ t. lt_irrefl a (ltb→lt a a t))
  where
    none : round binary64 false (a - a) c ≡ fin false 0 (pos 0)
    none = ap (λ (n : ℕ). round binary64 false n c) (sub_self a) ∙ round_zero false c C

    go : (s b : Bool) → (T b → ⊥) → cond (beq s (not s)) (round binary64 s (a + a) c) (cond b (round binary64 (not s) (a - a) c) (round binary64 (s && b) (a - a) c)) ≡ fin false 0 (pos 0)
    go s true f = absurd (f tt)
    go true false f = none
    go false false f = none

-- ---- a whole number of the sign s against ±m * 2 ^ e
equal_sizes : (s : Bool) (a b : ℕ) → (eqb a b && (beq s s || eqb a 0)) ≡ eqb a b
equal_sizes true a b = and-true (eqb a b)
equal_sizes false a b = and-true (eqb a b)

is_value : (y : Float) (s : Bool) (q m : ℕ) (e : ℤ) → HasValue y s q 1 → eq y (fin s m e) ≡ eqb (q * down e) (m * up e)
unfolding eq
is_value nan s q m e v = absurd v
is_value (inf t) s q m e v = absurd v
is_value (fin t n d) s q m e v =
    let size : n * up d * down e ≡ q * down e * down d = ap (λ (z : ℕ). z * down e) (sym (mul-one (n * up d)) ∙ v.1) ∙ mul_right_comm q (down d) (down e) in
    subst (λ (u : Bool). (eqb (n * up d * down e) (m * up e * down d) && (beq u s || eqb (n * up d * down e) 0)) ≡ eqb (q * down e) (m * up e)) (sym v.0)
    (equal_sizes s (n * up d * down e) (m * up e * down d)
    ∙ same_test (eqb (n * up d * down e) (m * up e * down d)) (eqb (q * down e) (m * up e))
    (λ t. eq→eqb (eq_of_mul-eq-mul_right (down d) (down_pos d) (q * down e) (m * up e) (sym size ∙ eqb→eq (n * up d * down e) (m * up e * down d) t)))
    (λ t. eq→eqb (size ∙ ap (λ (z : ℕ). z * down d) (eqb→eq (q * down e) (m * up e) t))))

-- ---- a / b has no remainder exactly if a quotient, down or up, gives a back
down_exact : (a b : ℕ) → 0 < b → eqb (quotient_down a b * b) a ≡ eqb (a % b) 0
down_exact a b B = let e : a / b * b + a % b ≡ a = div-add-mod' a b in grind (arith, nat_tests, e)

up_exact : (a b : ℕ) → 0 < b → eqb (quotient_up a b * b) a ≡ eqb (a % b) 0
up_exact a b B =
    let q = quotient_up a b in
    let e : a / b * b + a % b ≡ a = div-add-mod' a b in
    same_test (eqb (q * b) a) (eqb (a % b) 0)
    (λ t. let h = eqb→eq (q * b) a t in let d : a / b * b ≡ q * b = ap (λ (z : ℕ). z * b) (ap (λ (z : ℕ). z / b) (sym h) ∙ mul-div_cancel q B) in eq→eqb {a = a % b} {b = 0} (omega arith))
    (λ t. let h = eqb→eq (a % b) 0 t in let d : q * b ≡ a / b * b = ap (λ (z : ℕ). z * b) (ceil_same a b B (omega arith)) in eq→eqb {a = q * b} {b = a} (omega arith))

zero_left : (s : Bool) (m : ℕ) (e : ℤ) → fin s m e ⊖ fin s m e ≡ zero
unfolding sub neg add
zero_left s m e = less_itself s (m * up e * down e) (down e * down e) (mul-pos (down_pos e) (down_pos e))

-- the test at a finite x, whose floor is the whole number q with its sign
finite_test : (s : Bool) (m : ℕ) (e : ℤ) (q : ℕ) → HasValue (floor (fin s m e)) s q 1 → eqb (q * down e) (m * up e) ≡ eqb (m * up e % down e) 0
    → (eq (fin s m e ⊖ fin s m e) zero && eq (floor (fin s m e)) (fin s m e)) ≡ eqb (m * up e % down e) 0
unfolding eq
finite_test s m e q v h =
    ap (λ (z : Float). eq z zero && eq (floor (fin s m e)) (fin s m e)) (zero_left s m e) ∙ is_value (floor (fin s m e)) s q m e v ∙ h

pub whole_test : (x : Float) → T (fits binary64 x) → (eq (x ⊖ x) zero && eq (floor x) x) ≡ is_whole x
unfolding sub eq floor
whole_test nan t = refl
whole_test (inf true) t = refl
whole_test (inf false) t = refl
whole_test (fin true m e) t = finite_test true m e (quotient_up (m * up e) (down e)) (ceil_exact true m e t) (up_exact (m * up e) (down e) (down_pos e))
whole_test (fin false m e) t = finite_test false m e (quotient_down (m * up e) (down e)) (floor_exact false m e t) (down_exact (m * up e) (down e) (down_pos e))
