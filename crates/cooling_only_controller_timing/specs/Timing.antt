-- What the timing blocks of cooling_only_controller_timing.rs return: the next state beside the output, in that file's order.
use Rattle.std.specs.Prelude.{Bool, true, false, not, ◌&&◌, pos, Float, Option, Some, None, if◌then◌else◌}
use Rattle.f64_helpers.specs.F64.{◌⊖◌, ◌⊘◌, ◌≤ᶠ◌, decimal, zero}
use Rattle.f64_helpers.specs.Helpers.{abs, max, as_f64}
use Rattle.cdl_recurrences.specs.CdlRecurrences.{true_delay_output, sampler_output, initial_sample_time, sample_index, sample_due}
use Rattle.cooling_only_controller_timing.specs.declared.SamplerState.{SamplerState}
use Rattle.cooling_only_controller_timing.specs.declared.Step.{Step}
use Rattle.cooling_only_controller_timing.specs.declared.UnitDelayState.{UnitDelayState}
use Rattle.cooling_only_controller_timing.specs.declared.TrueDelayState.{TrueDelayState}
use Rattle.cooling_only_controller_timing.specs.declared.TimerState.{TimerState}

-- ---- Rust `SamplerState`; CDL.Discrete.Sampler

abbrev pub fresh_sampler : SamplerState
fresh_sampler = record { initialized = false; t0 = zero; last_index = pos 0; held = zero }

-- Rust `SamplerState::sample`. The first tick starts the grid and is sampled; a later one is sampled when due.
unfoldable pub sampler_sample : SamplerState → Float → Float → Float → Step SamplerState Float
sampler_sample s t input period =
    let output = sampler_output t input period s.initialized s.t0 s.last_index s.held in
    let first_t0 = initial_sample_time t period in
    let next = sample_due t s.t0 period s.last_index in
    let state =
    if not s.initialized then record { initialized = true; t0 = first_t0; last_index = sample_index t first_t0 period; held = input }
    else (if next.due then record { initialized = true; t0 = s.t0; last_index = next.index; held = input }
    else s) in
    record { state = state; output = output }

-- ---- Rust `UnitDelayState`; CDL.Discrete.UnitDelay

abbrev pub fresh_unit_delay : UnitDelayState
fresh_unit_delay = record { initialized = false; t0 = zero; last_index = pos 0; held = zero; staged = zero }

-- Rust `UnitDelayState::sample`. The first tick starts the grid, and its input is staged only if it is within 1e-9 periods of the grid.
unfoldable pub unit_delay_sample : UnitDelayState → Float → Float → Float → Step UnitDelayState Float
unit_delay_sample s t input period =
    let first_t0 = initial_sample_time t period in
    let first_index = sample_index t first_t0 period in
    let sample_position = (t ⊖ first_t0) ⊘ period in
    let on_grid = abs (sample_position ⊖ as_f64 first_index) ≤ᶠ decimal 1 1000000000 in
    let first_staged = if on_grid then input else s.staged in
    let next = sample_due t s.t0 period s.last_index in
    if not s.initialized then record {
      state = record { initialized = true; t0 = first_t0; last_index = first_index; held = s.held; staged = first_staged };
      output = s.held;
    }
    else (if not next.due then record { state = s; output = s.held }
    else let output = s.staged in
    record { state = record { initialized = true; t0 = s.t0; last_index = next.index; held = output; staged = input }; output = output })

-- ---- Rust `TrueDelayState`; CDL.Logical.TrueDelay

abbrev pub fresh_true_delay : TrueDelayState
fresh_true_delay = record { previous_time = None; previous_input = false; held = false; timer = zero }

-- Rust `TrueDelayState::output`; not the `true_delay` of cdl_recurrences.rs, another recurrence, which the controller does not call
unfoldable pub true_delay : TrueDelayState → Float → Bool → Float → Bool → Step TrueDelayState Bool
true_delay s t input delay_time delay_on_init =
    let next = true_delay_output t input delay_time delay_on_init s.previous_time s.previous_input s.held s.timer in
    record {
      state = record { previous_time = Some t; previous_input = input; held = next.output; timer = next.timer };
      output = next.output;
    }

-- ---- Rust `TimerState`; CDL.Logical.Timer

abbrev pub fresh_timer : TimerState
fresh_timer = record { entry_time = None; previous_input = false }

-- Rust's `entry_time.map_or(0.0, |entry| t - entry)`
abbrev pub seconds_since : Option Float → Float → Float
seconds_since None t = zero
seconds_since (Some entry) t = t ⊖ entry

-- Rust `TimerState::elapsed`
unfoldable pub timer_elapsed : TimerState → Float → Bool → Step TimerState Float
timer_elapsed s t input =
    let entry_time = if input && not s.previous_input then Some t else s.entry_time in
    if input then record { state = record { entry_time = entry_time; previous_input = input }; output = seconds_since entry_time t }
    else record { state = record { entry_time = None; previous_input = input }; output = zero }

-- ---- the PI loops' time step

-- Rust's `previous_time.map_or(0.0, |previous| (t - previous).max(0.0))`, in LoopPiState and DamperState
abbrev pub step_seconds : Option Float → Float → Float
step_seconds None t = zero
step_seconds (Some previous) t = max (t ⊖ previous) zero
