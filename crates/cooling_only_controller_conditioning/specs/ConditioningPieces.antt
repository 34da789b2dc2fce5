-- The pieces in which the code of this crate computes the stages of Conditioning.antt. A piece has the name of its function in src/lib.rt.
-- It is what the stage says of some of its fields, or a formula of its own,
-- which a law (proofs/ByPieces.antt) or a proof of the code ties to it.
-- A reader of the stages need not open this file.
use Rattle.std.specs.Prelude.{Bool, false, not, ◌&&◌, ℤ, pos, Float, if◌then◌else◌}
use Rattle.f64_helpers.specs.F64.{◌⊖◌, ◌⊗◌, decimal, zero}
use Rattle.f64_helpers.specs.Helpers.{abs, min}
use Rattle.cdl_recurrences.specs.CdlRecurrences.{less_hysteretic}
use Rattle.cooling_only_controller_timing.specs.Timing.{true_delay}
use Rattle.cooling_only_controller_timing.specs.declared.Step.{Step}
use Rattle.cooling_only_controller_conditioning.specs.Conditioning.{time_suppression, loop_pi, TEMPERATURE_HYSTERESIS}
use Rattle.cooling_only_controller_conditioning.specs.Conditioning.{LOOP_THRESHOLD, LOOP_HYSTERESIS, CONTROL_DELAY}
use Rattle.cooling_only_controller_conditioning.specs.declared.TimeSuppressionState.{TimeSuppressionState}
use Rattle.cooling_only_controller_conditioning.specs.declared.ChangeStep.{ChangeStep}
use Rattle.cooling_only_controller_conditioning.specs.declared.LoopState.{LoopState}

-- ---- pieces of `time_suppression`

-- What `time_suppression` says of the change of the setpoint. The zone temperature does not enter here, so that any will do.
abbrev pub change_detected : TimeSuppressionState → Float → Float → ChangeStep
change_detected s t setpoint_temperature =
    let whole = time_suppression s t setpoint_temperature zero in
    record {
      setpoint_sampler = whole.state.setpoint_sampler;
      previous_sample = whole.state.previous_sample;
      startup_delay = whole.state.startup_delay;
      change_detected = whole.state.change_detected;
    }

-- Its `suppression_window`
unfoldable pub suppression_window : Float → Float → Float
suppression_window captured_setpoint captured_zone =
    min (decimal 540 1 ⊗ abs (captured_setpoint ⊖ captured_zone)) (decimal 1800 1)

-- ---- pieces of `control_loops`

-- One of the two loops. The cooling loop has the cooling setpoint below and the zone above, the heating loop the zone below and
-- the heating setpoint above.
unfoldable pub control_loop : LoopState → Float → Float → Float → Step LoopState Float
control_loop s t below above =
    let enable = less_hysteretic below above TEMPERATURE_HYSTERESIS s.enable in
    let raw = loop_pi s.pi t (above ⊖ below) enable in
    let near_zero = less_hysteretic raw.output LOOP_THRESHOLD LOOP_HYSTERESIS s.near_zero in
    let delayed = true_delay s.delay t near_zero CONTROL_DELAY false in
    let gate = if delayed.output && not enable then zero else decimal 1 1 in
    record {
      state = record { enable = enable; pi = raw.state; near_zero = near_zero; delay = delayed.state };
      output = raw.output ⊗ gate;
    }

-- ---- piece of `zone_states`

-- 1 heating, 3 cooling, 2 neither
abbrev pub zone_state : Bool → Bool → ℤ
zone_state is_heating is_cooling = if is_heating then pos 1 else (if is_cooling then pos 3 else pos 2)
