-- `f64_helpers::max_zero` meets its contract. Assumes nothing.
use Rattle.std.proofs.Common.{◌≡◌, Bool, true, false, not, ◌||◌, T, pos, sym, refl, ap, ◌∙◌, subst}
use lib.Dec.{not_T}
use lib.Ieee.{Float, fin, of_bits, lt, eq, le, is_nan}
use Rattle.f64_helpers.specs.F64.{zero}
use Rattle.f64_helpers.specs.Helpers.{max, negative}
use Rattle.f64_helpers.proofs.Tests.{yes, no, and_false}
use lib.Ieee.Bits.{is_false}
use Rattle.std.proofs.lemmas.Float.{le_right, le_of_lt, le_of_eq}
use Rattle.f64_helpers.proofs.LargerOfTwo.{max_by_tests}
use Rattle.f64_helpers.proofs.Order.{not_both, lt_is_not_le}
use Rattle.f64_helpers.proofs.max_zero.Goals as goal

-- above 0 the number is the larger
above : (x : Float) → T (lt zero x) → x ≡ max x zero
above x h =
    max_by_tests x zero false false false (eq zero zero) (is_false (is_nan x) (le_right zero x (le_of_lt zero x h)))
    (is_false (lt x zero) (not_T (lt x zero) (λ l. not_both zero x h (le_of_lt x zero l)))) (is_false (eq x zero) (not_T (eq x zero) (λ l. not_both zero x h (le_of_eq x zero l)))) refl

-- else 0 is: a zero of either sign gives +0.0, and so does a NaN
not_above : (x : Float) → T (not (lt zero x)) → zero ≡ max x zero
unfolding eq le is_nan
not_above x h = by (is_nan x) (lt x zero) (eq x zero) refl refl refl
  where
    by : (n l a : Bool) → is_nan x ≡ n → lt x zero ≡ l → eq x zero ≡ a → zero ≡ max x zero
    by true l a N L A = max_by_tests x zero true l a (eq zero zero) N L A refl
    by false true a N L A = max_by_tests x zero false true a (eq zero zero) N L A refl
    by false false true N L A = ap (λ (s : Bool). fin s 0 (pos 0)) (sym (and_false (negative x))) ∙ max_by_tests x zero false false true true N L A refl
    by false false false N L A = absurd (subst T (λ i. not (not (L i || A i))) (subst (λ (b : Bool). T (not b)) (lt_is_not_le zero x tt (no N)) h))

pub returns-then-x : goal.returns-then-x
unfolding of_bits
returns-then-x c = above c.args.x (yes c.if-x.true)

pub returns-else-x : goal.returns-else-x
unfolding of_bits
returns-else-x c = not_above c.args.x (no c.if-x.false)
