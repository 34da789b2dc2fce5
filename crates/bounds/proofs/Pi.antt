-- Both integrators stay in their range. Where an integrator is high, the anti-windup outweighs the error and it does not rise; where it is not, one step cannot carry it
-- over. So the range is cut in pieces, with a table of them for each end (PiRange.antt). Each row is checked by computing. Assumes nothing.
use Rattle.std.proofs.Common.{ℕ, [], ◌∷◌}
use lib.Ieee.{Float, round, neg, add, sub, mul, div, lt, eq, le}
use Rattle.f64_helpers.specs.F64.{◌⊖◌, decimal, zero}
use Rattle.bounds.specs.Limits.{LONGEST_STEP, COLDEST, HOTTEST, LOOP_GAIN, LOOP_INTEGRAL_TIME, DAMPER_GAIN, DAMPER_INTEGRAL_TIME}
use Rattle.bounds.proofs.PiRange.{Tables}

-- the whole number k, and -k
abbrev n : ℕ → Float
n k = decimal k 1

abbrev m : ℕ → Float
m k = neg (decimal k 1)

-- ---- the control loops
pub loop_tables : Tables LOOP_GAIN LOOP_INTEGRAL_TIME (HOTTEST ⊖ COLDEST) LONGEST_STEP (n 64) (n 128)
unfolding round neg add sub mul div lt eq le
loop_tables = record {
  ends_finite = (tt, tt, tt, tt);
  upper = (n 27, m 2000, n 1356) ∷ (n 43, m 2000, n 345) ∷ [];
  upper_last = (m 2000, zero);
  lower = (m 43, zero, n 2000) ∷ (m 28, m 323, n 2000) ∷ [];
  lower_last = (m 1345, n 2000);
  keeps_below = assumption tt;
  keeps_above = assumption tt;
}

-- ---- the damper, with a cooling maximum of 1.5
pub damper_tables : Tables DAMPER_GAIN DAMPER_INTEGRAL_TIME (n 8) LONGEST_STEP (n 16) (n 128)
unfolding round neg add sub mul div lt eq le
damper_tables = record {
  ends_finite = (tt, tt, tt, tt);
  upper = (m 7, m 200, n 55) ∷ (n 1, m 200, n 35) ∷ (n 9, m 200, n 17) ∷ [];
  upper_last = (m 200, zero);
  lower = (m 8, zero, n 200) ∷ (m 2, m 13, n 200) ∷ (n 6, m 31, n 200) ∷ [];
  lower_last = (m 53, n 200);
  keeps_below = assumption tt;
  keeps_above = assumption tt;
}

-- ---- the damper, with any cooling maximum that building takes
pub any_damper_tables : Tables DAMPER_GAIN DAMPER_INTEGRAL_TIME (n 101) LONGEST_STEP (n 512) (n 2048)
unfolding round neg add sub mul div lt eq le
any_damper_tables = record {
  ends_finite = (tt, tt, tt, tt);
  upper = (m 32, m 2000, n 1356) ∷ (n 390, m 2000, n 288) ∷ [];
  upper_last = (m 2000, zero);
  lower = (m 200, zero, n 2000) ∷ (n 100, m 450, n 2000) ∷ [];
  lower_last = (m 1400, n 2000);
  keeps_below = assumption tt;
  keeps_above = assumption tt;
}
