-- The line of `buildings_line` from x1 = 0 to x2 = 1 stays from 0 to f2, for any two finite f64 f1 and f2 with 0 <= f1 <= f2, though each operation is rounded.
-- The slope is f2 - f1 rounded, and f2 less that slope is exact. So at 1 the line is f2, and before 1 it is no larger. Assumes nothing.
use Rattle.std.proofs.Common.{arith, ◌≡◌, ◌+◌, ◌-◌, ◌≤◌, false, T, ℕ, pos, sym, refl, subst}
use native.Mathlib.Nat.{sub-add_cancel}
use lib.Ieee.{Float, fin, binary64, round, sum, add, sub, mul, neg, lt, eq, le, fits}
use Rattle.std.proofs.lemmas.Float.{le_refl, le_trans}
use Rattle.f64_helpers.specs.F64.{◌⊕◌, ◌⊖◌, ◌⊗◌, ◌⊘◌, ◌≤ᶠ◌, decimal, zero}
use Rattle.f64_helpers.specs.Ranges.{Between, Finite}
use Rattle.f64_helpers.proofs.Intervals.{finite_between, finite_number, times_larger}
use Rattle.f64_helpers.proofs.Monotone.{add_mono, mul_mono}
use Rattle.f64_helpers.proofs.ExactDifferences.{Held, InUnits, units_of, units_finite, units_not_negative, le_units, Difference, difference, add_exact, sub_exact, times_one_exact, over_one_exact}
use Rattle.cdl_recurrences.specs.CdlRecurrences.{clamp, buildings_line}
use Rattle.cdl_recurrences.proofs.Ranges.{clamp_unit}

-- ---- the 1 in `buildings_line`: x2, and x2 - x1
one_is : decimal 1 1 ≡ fin false 1 (pos 0)
unfolding round
one_is = refl

one_wide : decimal 1 1 ⊖ zero ≡ fin false 1 (pos 0)
unfolding round sub add neg sum
one_wide = refl

-- ---- a line that does not fall, from b on, with the slope s
zero_times : T (zero ≤ᶠ zero ⊗ zero)
unfolding mul round le lt eq
zero_times = tt

zero_plus : T (zero ≤ᶠ zero ⊕ zero)
unfolding add sum round le lt eq
zero_plus = tt

-- b + s x is at most what b + s is at most, for an x from 0 to 1
module _ (b s x one high : Float) (f : Finite b) (g : Finite s) (i : Finite one) (r : Finite (s ⊗ one)) (p : T (zero ≤ᶠ b)) (q : T (zero ≤ᶠ s)) (w : Between zero x one) where
  x_finite : Finite x
  x_finite = finite_between {low = zero} tt i w

  part_in : Between zero (s ⊗ x) (s ⊗ one)
  part_in = record {
    from_low =
        le_trans zero (zero ⊗ zero) (s ⊗ x) zero_times
        (le_trans (zero ⊗ zero) (zero ⊗ x) (s ⊗ x) (times_larger zero zero x tt tt x_finite le_of_zero w.from_low) (mul_mono zero s x tt g x_finite w.from_low q));
    to_high = times_larger s x one g x_finite i q w.to_high;
  }
    where
      le_of_zero : T (zero ≤ᶠ zero)
      le_of_zero = unfold le lt eq in tt

  rising_in : T (b ⊕ s ⊗ one ≤ᶠ high) → Between zero (b ⊕ s ⊗ x) high
  rising_in h =
      let k = finite_between {low = zero} tt r part_in in
      record {
        from_low = le_trans zero (zero ⊕ zero) (b ⊕ s ⊗ x) zero_plus (add_mono zero b zero (s ⊗ x) tt f tt k p part_in.from_low);
        to_high = le_trans (b ⊕ s ⊗ x) (b ⊕ s ⊗ one) high (add_mono b b (s ⊗ x) (s ⊗ one) f f k r (le_refl b (finite_number b f)) part_in.to_high) h;
      }

-- ---- the line of `buildings_line`, in units of f64's smallest value: f2 is n of them, f1 is k, the slope d.units and the intercept all others
module _ (f1 f2 one wide : Float) (n k : ℕ) (a : InUnits f2 n) (h : Held n) (b : InUnits f1 k) (g : Held k) (l : k ≤ n) (o : one ≡ fin false 1 (pos 0)) (e : wide ≡ fin false 1 (pos 0)) where
  abbrev slope : Float
  slope = (f2 ⊖ f1) ⊘ wide

  abbrev intercept : Float
  intercept = f2 ⊖ slope ⊗ one

  d : Difference (f2 ⊖ f1) n
  d = difference f2 f1 n k a h b g l

  slope_is : InUnits slope d.units
  slope_is = subst (λ (w : Float). InUnits ((f2 ⊖ f1) ⊘ w) d.units) (sym e) (over_one_exact (f2 ⊖ f1) d.units d.is d.held)

  rise_is : InUnits (slope ⊗ one) d.units
  rise_is = subst (λ (w : Float). InUnits (slope ⊗ w) d.units) (sym o) (times_one_exact slope d.units slope_is d.held)

  intercept_is : InUnits intercept (n - d.units)
  intercept_is = sub_exact f2 (slope ⊗ one) n d.units a rise_is d.at_most d.rest

  -- at 1 it is f2
  end_is : InUnits (intercept ⊕ slope ⊗ one) n
  end_is =
      let s : n - d.units + d.units ≡ n = sub-add_cancel d.at_most in
      subst (InUnits (intercept ⊕ slope ⊗ one)) s (add_exact intercept (slope ⊗ one) (n - d.units) d.units intercept_is rise_is (subst Held (sym s) h))

  limited_in : (x : Float) → Between zero x one → Between zero (intercept ⊕ slope ⊗ x) f2
  limited_in x w =
      rising_in intercept slope x one f2 (units_finite intercept (n - d.units) intercept_is) (units_finite slope d.units slope_is)
      (subst Finite (sym o) tt) (units_finite (slope ⊗ one) d.units rise_is)
      (units_not_negative intercept (n - d.units) intercept_is) (units_not_negative slope d.units slope_is) w
      ((le_units (intercept ⊕ slope ⊗ one) f2 n n end_is a).1 (omega arith))

-- for an f1 and an f2 that f64 holds, and any finite u
pub line_in : (f1 f2 u : Float) → T (fits binary64 f1) → T (fits binary64 f2) → Finite f1 → Finite f2 → Finite u → T (zero ≤ᶠ f1) → T (f1 ≤ᶠ f2)
    → Between zero (buildings_line zero f1 (decimal 1 1) f2 u) f2
unfolding buildings_line
line_in f1 f2 u s t f g i p q =
    let b = units_of f1 s f p in
    let a = units_of f2 t g (le_trans zero f1 f2 p q) in
    limited_in f1 f2 (decimal 1 1) (decimal 1 1 ⊖ zero) a.units b.units a.is a.held b.is b.held ((le_units f1 f2 b.units a.units b.is a.is).0 q) one_is one_wide
    (clamp u zero (decimal 1 1)) (clamp_unit u i)
