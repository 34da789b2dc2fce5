-- What the recurrences of cdl_recurrences.rs return, in that file's order, each after what it uses.
-- Each definition names its Rust function and, where there is one, its block of the Modelica Buildings library (CDL).
-- Document 01 decides `clamp`, `hysteresis`, `less_hysteretic`, `sampler_output`, `initial_sample_time`, `sample_index` and `sample_due`;
-- docs/DIFFERENCES.md has the pairs that were found to differ.
use Rattle.std.specs.Prelude.{Bool, true, false, not, ◌&&◌, ◌||◌, ℤ, Float, Option, Some, None, if◌then◌else◌}
use Rattle.std.specs.Bool.{xor}
use Rattle.std.specs.Int.Signed.{lt_z}
use Rattle.f64_helpers.specs.F64.{◌⊕◌, ◌⊖◌, ◌⊗◌, ◌⊘◌, ◌<ᶠ◌, ◌>ᶠ◌, ◌≤ᶠ◌, ◌≥ᶠ◌, decimal, zero}
use Rattle.f64_helpers.specs.Helpers.{floor, ceil, max, as_i64}
use Rattle.cdl_recurrences.specs.declared.DeadBandOutput.{DeadBandOutput}
use Rattle.cdl_recurrences.specs.declared.TrueDelayOutput.{TrueDelayOutput}
use Rattle.cdl_recurrences.specs.declared.SampleDue.{SampleDue}

-- Rust `clamp`, by comparisons: the nearer end for a number outside of min .. max, any other number as it is, a NaN too
unfoldable pub clamp : Float → Float → Float → Float
clamp value min max = if value <ᶠ min then min else (if value >ᶠ max then max else value)

-- Rust `buildings_line`; CDL.Reals.Line, with both limits: the line through (x1, f1) and (x2, f2) at u, which is first limited to x1 .. x2
unfoldable pub buildings_line : Float → Float → Float → Float → Float → Float
buildings_line x1 f1 x2 f2 u =
    let x_lim = clamp u x1 x2 in
    let slope = (f2 ⊖ f1) ⊘ (x2 ⊖ x1) in
    let intercept = f2 ⊖ slope ⊗ x2 in
    intercept ⊕ slope ⊗ x_lim

-- Rust `hysteresis`; CDL.Reals.Hysteresis: turned on by a u above u-high, and kept on by one not below u-low
unfoldable pub hysteresis : Float → Float → Float → Bool → Bool
hysteresis u u_low u_high previous = (not previous && (u >ᶠ u_high)) || (previous && (u ≥ᶠ u_low))

-- Rust `less_hysteretic`; CDL.Reals.Less with h: turned on by a u1 below u2, and kept on by one below u2 + h
unfoldable pub less_hysteretic : Float → Float → Float → Bool → Bool
less_hysteretic u1 u2 h previous = (not previous && (u1 <ᶠ u2)) || (previous && (u1 <ᶠ u2 ⊕ h))

-- Rust `greater_hysteretic`; CDL.Reals.Greater with h: turned on by a u1 above u2, and kept on by one above u2 - h
unfoldable pub greater_hysteretic : Float → Float → Float → Bool → Bool
greater_hysteretic u1 u2 h previous = (not previous && (u1 >ᶠ u2)) || (previous && (u1 >ᶠ u2 ⊖ h))

-- No Rust function and no block: document 02, N2. `answer` is one of these three comparisons at its inputs, open to the memory.
-- Memory decided if with the other memory the answer is the other one.
unfoldable pub decided_by_memory : (Bool → Bool) → Bool → Bool
decided_by_memory answer previous = xor (answer previous) (answer (not previous))

-- What each of the three returns
abbrev pub dead_band_output : (Bool → Bool) → Bool → DeadBandOutput
dead_band_output answer previous = record { output = answer previous; decided_by_memory = decided_by_memory answer previous }

-- Rust `true_delay_output`; CDL.Logical.TrueDelay. A rising input is passed on once it has been true for the delay, a falling one at once.
-- A first input that is true is passed on at once, unless `delay_on_init` and the delay is above 0: then it counts as rising there.
unfoldable pub true_delay_output : Float → Bool → Float → Bool → Option Float → Bool → Bool → Float → TrueDelayOutput
true_delay_output t false delay_time delay_on_init prev_time prev_u held timer = record { output = false; timer = zero }
true_delay_output t true delay_time delay_on_init None prev_u held timer =
    let delay = max delay_time zero in
    if delay_on_init && (delay >ᶠ zero) then record { output = false; timer = zero } else record { output = true; timer = delay }
true_delay_output t true delay_time delay_on_init (Some previous_time) prev_u held timer =
    let delay = max delay_time zero in
    let next_timer = timer ⊕ max (t ⊖ previous_time) zero in
    if held then record { output = true; timer = delay }
    else (if not prev_u then record { output = delay ≤ᶠ zero; timer = zero }
    else record { output = next_timer ≥ᶠ delay; timer = next_timer })

-- Rust `buildings_round_six`: to six decimals, a half away from 0
unfoldable pub buildings_round_six : Float → Float
buildings_round_six x =
    let factor = decimal 1000000 1 in
    let half = decimal 5 10 in
    if x >ᶠ zero then floor (x ⊗ factor ⊕ half) ⊘ factor else ceil (x ⊗ factor ⊖ half) ⊘ factor

-- Rust `initial_sample_time`; the `t0` of CDL.Discrete.Sampler and UnitDelay: the whole multiple of the period at or before the start,
-- to six decimals.
-- A start from 0 to below one period gives -0.0; one below 0 goes down as well: -1 with a period of 120 gives -120.
unfoldable pub initial_sample_time : Float → Float → Float
initial_sample_time t_start period = buildings_round_six (floor (t_start ⊘ period) ⊗ period)

-- Rust `sample_index`, without its 1e-9: how many whole periods t-now lies after t0, as an i64
unfoldable pub sample_index : Float → Float → Float → ℤ
sample_index t_now t0 period = as_i64 (floor ((t_now ⊖ t0) ⊘ period))

-- Rust `sample_due`
unfoldable pub sample_due : Float → Float → Float → ℤ → SampleDue
sample_due t_now t0 period last_index =
    let index = sample_index t_now t0 period in
    record { due = lt_z last_index index; index = index }

-- Rust `sampler_output`; CDL.Discrete.Sampler: the input on the first tick and when a sample is due, else the held number
unfoldable pub sampler_output : Float → Float → Float → Bool → Float → ℤ → Float → Float
sampler_output t input period initialized t0 last_index held =
    if not initialized || (sample_due t t0 period last_index).due then input else held
