-- Where `clamp` lies. Assumes nothing.
use Rattle.std.proofs.Common.{Bool, true, false, cond, not, T}
use lib.Ieee.{Float, round, lt, eq, le}
use Rattle.std.proofs.lemmas.Float.{le_refl, le_left, le_right, le_of_not-lt}
use Rattle.f64_helpers.specs.F64.{◌≤ᶠ◌, decimal, zero}
use Rattle.f64_helpers.specs.Ranges.{Between, Finite}
use Rattle.f64_helpers.proofs.Intervals.{finite_number, between}
use Rattle.cdl_recurrences.specs.CdlRecurrences.{clamp}

-- a number is limited to low .. high
pub clamp_in : {low high : Float} (x : Float) → Finite x → T (low ≤ᶠ high) → Between low (clamp x low high) high
unfolding clamp
clamp_in {low} {high} x f h = go (lt x low) (lt high x) (le_of_not-lt x low (finite_number x f) (le_left low high h)) (le_of_not-lt high x (le_right low high h) (finite_number x f))
  where
    go : (l u : Bool) → (T (not l) → T (low ≤ᶠ x)) → (T (not u) → T (x ≤ᶠ high)) → Between low (cond l low (cond u high x)) high
    go true u p q = record { from_low = le_refl low (le_left low high h); to_high = h }
    go false true p q = record { from_low = h; to_high = le_refl high (le_right low high h) }
    go false false p q = record { from_low = p tt; to_high = q tt }

pub clamp_unit : (x : Float) → Finite x → Between zero (clamp x zero (decimal 1 1)) (decimal 1 1)
unfolding round le lt eq
clamp_unit x f = clamp_in x f tt

-- 0 and 1 themselves
pub unit_zero : Between zero zero (decimal 1 1)
unfolding round le lt eq
unit_zero = between tt

pub unit_one : Between zero (decimal 1 1) (decimal 1 1)
unfolding round le lt eq
unit_one = between tt
