-- What the casts to an integer ask and give: the whole part of a number above 0 and below 2 ^ 52. Assumes nothing.
use Rattle.std.proofs.Common.{◌≡◌, ℕ, ◌*◌, ◌/◌, ◌<◌, min, true, false, T, ℤ, pos, sym, subst, div-lt_iff_lt-mul, mul-one, arith, ltb→lt}
use lib.Ieee.{Float, nan, inf, fin, up, down, lt, to_unsigned}
use lib.Ieee.Fits.{down_pos}
use Rattle.std.proofs.lemmas.Float.{lt_trans}
use Rattle.f64_helpers.specs.F64.{zero as zeroᶠ}

-- ---- the whole part, below 2 ^ 52
pub quotient_small : (m : ℕ) (e : ℤ) → T (lt (fin false m e) (fin false 1 (pos 52))) → m * up e / down e < 4503599627370496
unfolding lt
quotient_small m e h = (div-lt_iff_lt-mul (down_pos e)).1 (subst (λ (z : ℕ). z < 4503599627370496 * down e) (mul-one (m * up e)) (ltb→lt (m * up e * 1) (4503599627370496 * down e) h))

uncapped : (a : ℕ) → a < 4503599627370496 → min a 18446744073709551615 ≡ a
uncapped a h = omega arith

pub cut : (m : ℕ) (e : ℤ) → T (lt (fin false m e) (fin false 1 (pos 52))) → to_unsigned 64 (fin false m e) ≡ m * up e / down e
unfolding to_unsigned
cut m e h = uncapped (m * up e / down e) (quotient_small m e h)

-- what lies above 0 and below 2 ^ 52 is a finite number with no sign
pub small_positive : (P : Float → Type 0) → ((m : ℕ) (e : ℤ) → T (lt (fin false m e) (fin false 1 (pos 52))) → P (fin false m e)) → (x : Float) → T (lt zeroᶠ x) → T (lt x (fin false 1 (pos 52))) → P x
small_positive P f nan p h = absurd (unfold lt in p)
small_positive P f (inf true) p h = absurd (unfold lt in p)
small_positive P f (inf false) p h = absurd (unfold lt in h)
small_positive P f (fin true m e) p h = absurd (unfold lt in p)
small_positive P f (fin false m e) p h = f m e h

pub count_small : (x : Float) → T (lt zeroᶠ x) → T (lt x (fin false 1 (pos 52))) → to_unsigned 64 x < 4503599627370496
count_small nan p h = absurd (unfold lt in p)
count_small (inf true) p h = absurd (unfold lt in p)
count_small (inf false) p h = absurd (unfold lt in h)
count_small (fin true m e) p h = absurd (unfold lt in p)
count_small (fin false m e) p h = subst (λ (z : ℕ). z < 4503599627370496) (sym (cut m e h)) (quotient_small m e h)

-- ---- what a call of a `truncating_` function asks
pub above_minus_one : (x : Float) → T (lt zeroᶠ x) → T (lt (fin true 1 (pos 0)) x)
above_minus_one x p = lt_trans (fin true 1 (pos 0)) zeroᶠ x (unfold lt in tt) p

pub below_2_64 : (x : Float) → T (lt x (fin false 1 (pos 52))) → T (lt x (fin false 1 (pos 64)))
below_2_64 x p = lt_trans x (fin false 1 (pos 52)) (fin false 1 (pos 64)) p (unfold lt in tt)
