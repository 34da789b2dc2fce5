-- The pieces in which the code of this crate computes `dead_band_output` and `true_delay_output` of CdlRecurrences.antt,
-- under the names of their functions.
-- The proofs of the callers tie them to the wholes; a reader of those need not open this file.
use Rattle.std.specs.Prelude.{Bool, true, not, ◌&&◌, ◌||◌, Float, if◌then◌else◌}
use Rattle.std.specs.Bool.{xor}
use Rattle.f64_helpers.specs.F64.{◌⊕◌, ◌⊖◌, ◌≤ᶠ◌, ◌≥ᶠ◌, zero}
use Rattle.f64_helpers.specs.Helpers.{max}
use Rattle.cdl_recurrences.specs.declared.DeadBandOutput.{DeadBandOutput}
use Rattle.cdl_recurrences.specs.declared.TrueDelayOutput.{TrueDelayOutput}

-- by the test that counts where the memory is off and the one that counts where it is on
unfoldable pub dead_band_by_tests : Bool → Bool → Bool → DeadBandOutput
dead_band_by_tests previous turns_on stays_on =
    record { output = (not previous && turns_on) || (previous && stays_on); decided_by_memory = xor turns_on stays_on }

-- The input is true, and it is not the first tick; `delay` is as `true_delay_output` has it, the delay time or 0.
unfoldable pub true_delay_running : Float → Float → Float → Bool → Bool → Float → TrueDelayOutput
true_delay_running t delay previous_time prev_u held timer =
    let next_timer = timer ⊕ max (t ⊖ previous_time) zero in
    if held then record { output = true; timer = delay }
    else (if not prev_u then record { output = delay ≤ᶠ zero; timer = zero }
    else record { output = next_timer ≥ᶠ delay; timer = next_timer })
