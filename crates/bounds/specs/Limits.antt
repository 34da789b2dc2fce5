-- What the ranges of Kept.antt rest on: the ranges of an accepted tick's readings and the longest step between two, by document 01's questions,
-- and the numbers of the two PIs. Kept.antt names three of them. The others are named by the proofs alone, which show that an accepted tick keeps
-- to them (proofs/Accepted.antt) and that the stages have these PIs; were one of them not so, they would not close.
use Rattle.std.specs.Prelude.{Float}
use Rattle.f64_helpers.specs.F64.{◌⊕◌, ◌⊖◌, ◌⊗◌, ◌⊘◌, decimal, zero}
use Rattle.cdl_recurrences.specs.CdlRecurrences.{clamp}
use Rattle.cooling_only_controller_conditioning.specs.Conditioning.{CONTROL_GAIN, CONTROL_INTEGRAL_TIME, ANTI_WINDUP_NI}

-- question 4, in seconds
abbrev pub LONGEST_STEP : Float
LONGEST_STEP = decimal 240 1

-- question 5, in K
abbrev pub COLDEST : Float
COLDEST = decimal 150 1

abbrev pub HOTTEST : Float
HOTTEST = decimal 450 1

-- question 6, in ppm
abbrev pub HIGHEST_CO2 : Float
HIGHEST_CO2 = decimal 10000 1

-- question 7, in m3/s, with either sign
abbrev pub HIGHEST_FLOW : Float
HIGHEST_FLOW = decimal 10 1

-- the two control loops
abbrev pub LOOP_GAIN : Float
LOOP_GAIN = CONTROL_GAIN

abbrev pub LOOP_INTEGRAL_TIME : Float
LOOP_INTEGRAL_TIME = CONTROL_INTEGRAL_TIME

-- the damper
abbrev pub DAMPER_GAIN : Float
DAMPER_GAIN = decimal 5 10

abbrev pub DAMPER_INTEGRAL_TIME : Float
DAMPER_INTEGRAL_TIME = decimal 300 1

-- both: the anti-windup divides the excess over a limit by the gain times this
abbrev pub WINDUP_SHARE : Float
WINDUP_SHARE = ANTI_WINDUP_NI

-- The next integrator of the PI with anti-windup that `loop_pi` and `damper` each write out (CDL.Reals.PIDWithReset as a PI),
-- where its trigger does not rise
unfoldable pub next_integrator : Float → Float → Float → Float → Float → Float
next_integrator gain integral_time integrator error dt =
    let proportional = gain ⊗ error in
    let unlimited = proportional ⊕ integrator in
    let limited = clamp unlimited zero (decimal 1 1) in
    let anti_windup = (unlimited ⊖ limited) ⊘ (gain ⊗ WINDUP_SHARE) in
    integrator ⊕ (gain ⊘ integral_time) ⊗ (error ⊖ anti_windup) ⊗ dt
