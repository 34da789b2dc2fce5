-- The larger of two by the code's tests, and the sum of two zeros, which has its sign. Assumes nothing.
use Rattle.std.proofs.Common.{◌≡◌, Bool, true, false, cond, ◌&&◌, T, pos, sym, refl, ap, ◌∙◌}
use lib.Ieee.{Float, fin, binary64, add, lt, eq, is_nan, fits}
use Rattle.f64_helpers.specs.F64.{zero as zeroᶠ}
use Rattle.f64_helpers.specs.Helpers.{negative, max}
use Rattle.f64_helpers.proofs.Values.{zero_of_eq}

add_zeros : (s t : Bool) → add binary64 (fin s 0 (pos 0)) (fin t 0 (pos 0)) ≡ fin (s && t) 0 (pos 0)
unfolding add
add_zeros true true = refl
add_zeros true false = refl
add_zeros false true = refl
add_zeros false false = refl

pub sum_of_zeros : (x y : Float) → T (fits binary64 x) → T (fits binary64 y) → T (eq x zeroᶠ) → T (eq y zeroᶠ) → add binary64 x y ≡ fin (negative x && negative y) 0 (pos 0)
sum_of_zeros x y t u h k =
    ap (λ (z : Float). add binary64 z y) (zero_of_eq x t h) ∙ ap (λ (z : Float). add binary64 (fin (negative x) 0 (pos 0)) z) (zero_of_eq y u k) ∙ add_zeros (negative x) (negative y)

-- `max` with its tests as variables
pub max_by_tests : (x y : Float) (n l a b : Bool) → is_nan x ≡ n → lt x y ≡ l → eq x zeroᶠ ≡ a → eq y zeroᶠ ≡ b
    → cond n y (cond l y (cond (a && b) (fin (negative x && negative y) 0 (pos 0)) x)) ≡ max x y
unfolding max
max_by_tests x y n l a b N L A B = λ i. cond (sym N i) y (cond (sym L i) y (cond (sym A i && sym B i) (fin (negative x && negative y) 0 (pos 0)) x))
