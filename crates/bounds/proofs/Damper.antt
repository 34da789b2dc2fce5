-- The damper keeps its ranges over an accepted tick: the airflow setpoint lies from 0 to the cooling maximum, and the integrator in its range, which the box's size decides. Assumes nothing.
use Rattle.std.proofs.Common.{refl, ℕ, Bool, true, false, not, ◌&&◌, T, sym, subst, ℤ, pos, negsuc, if◌then◌else◌, Some, Option, eqb→eq}
use Rattle.std.specs.Int.Signed.{le_z}
use lib.Ieee.{Float, round, neg, add, sub, mul, div, lt, eq, le}
use Rattle.std.proofs.lemmas.Float.{le_trans}
use Rattle.f64_helpers.specs.F64.{◌⊕◌, ◌⊖◌, ◌⊗◌, ◌⊘◌, ◌≤ᶠ◌, decimal, zero, ◌<ᶠ◌}
use Rattle.f64_helpers.specs.Integers.{◌==ᶻ◌}
use Rattle.f64_helpers.specs.Ranges.{Between, Finite, is_finite}
use Rattle.f64_helpers.proofs.Intervals.{finite_between, add_in, sub_in, mul_in_turned, div_in, if_in, ends, inside, around_zero, between}
use Rattle.f64_helpers.proofs.Monotone.{div_mono, self_quotient}
use Rattle.box_choices.specs.declared.Choices.{Choices}
use Rattle.cdl_recurrences.specs.CdlRecurrences.{buildings_line, clamp, greater_hysteretic}
use Rattle.cdl_recurrences.proofs.Ranges.{clamp_unit, unit_zero, unit_one}
use Rattle.cooling_only_controller_conditioning.specs.Conditioning.{active_airflow}
use Rattle.cooling_only_controller_airflow.specs.Airflow.{damper, TEMPERATURE_HYSTERESIS}
use Rattle.cooling_only_controller_airflow.specs.declared.DamperInput.{DamperInput}
use Rattle.cooling_only_controller_airflow.specs.declared.DamperState.{DamperState}
use Rattle.cooling_only_controller_airflow.specs.declared.DamperOutput.{DamperOutput}
use Rattle.cooling_only_controller_timing.specs.declared.Step.{Step}
use Rattle.bounds.specs.Limits.{LONGEST_STEP, HIGHEST_FLOW, DAMPER_GAIN, DAMPER_INTEGRAL_TIME, next_integrator}
use Rattle.bounds.specs.Kept.{KeptDamper}
use Rattle.cooling_only_controller_timing.specs.Timing.{step_seconds}
use Rattle.bounds.proofs.PiRange.{Tables, between_ends}
use Rattle.bounds.proofs.Pi.{damper_tables, any_damper_tables}
use Rattle.bounds.proofs.Timing.{Accepted}
use Rattle.bounds.proofs.Loops.{dt_in}
use Rattle.bounds.proofs.Flows.{FlowsIn, Flow, no_flow, chosen_flow, flow_line, at_minimum, at_maximum, maximum_finite, maximum_above_zero}

-- ---- what a box's size decides: the cooling maximum is at least `smallest`

pub record Size (smallest error end : Float) : Type 0 where
  pub error_in : {setpoint flow maximum : Float} → Between zero setpoint (decimal 1 1) → Between (neg HIGHEST_FLOW) flow HIGHEST_FLOW → Between smallest maximum (decimal 10 1)
      → Between (neg error) (setpoint ⊖ flow ⊘ maximum) error
  pub next_in : (integrator e dt : Float) → Between (neg error) e error → Between (neg end) integrator end → Between zero dt LONGEST_STEP
      → Between (neg end) (next_integrator DAMPER_GAIN DAMPER_INTEGRAL_TIME integrator e dt) end
  pub reset_in : {e : Float} → Between (neg error) e error → Between (neg end) (decimal 1 100 ⊖ DAMPER_GAIN ⊗ e) end
  pub unlimited_finite : {integrator e : Float} → Between (neg error) e error → Between (neg end) integrator end → Finite (DAMPER_GAIN ⊗ e ⊕ integrator)
  pub end_from_zero : Between (neg end) zero end

-- Tests of the ends, for the flow over the maximum within `quotient`, the proportional part within `part`, and its sum with the integrator within `sum`. Of literals each computes.
record Tests (smallest quotient error part sum end : Float) : Type 0 where
  flow : T (ends (neg HIGHEST_FLOW) HIGHEST_FLOW && ends smallest (decimal 10 1) && (around_zero (neg HIGHEST_FLOW) HIGHEST_FLOW && (zero <ᶠ smallest))
      && inside (neg quotient) (neg HIGHEST_FLOW ⊘ smallest) (HIGHEST_FLOW ⊘ smallest) quotient)
  difference : T (ends zero (decimal 1 1) && ends (neg quotient) quotient && inside (neg error) (zero ⊖ quotient) (decimal 1 1 ⊖ neg quotient) error)
  gain : T ((zero ≤ᶠ DAMPER_GAIN) && (DAMPER_GAIN ≤ᶠ DAMPER_GAIN))
  proportional : T (ends (neg error) error && is_finite DAMPER_GAIN && around_zero (neg error) error && inside (neg part) (neg error ⊗ DAMPER_GAIN) (error ⊗ DAMPER_GAIN) part)
  hundredth : T ((decimal 1 100 ≤ᶠ decimal 1 100) && (decimal 1 100 ≤ᶠ decimal 1 100))
  reset : T (ends (decimal 1 100) (decimal 1 100) && ends (neg part) part && inside (neg end) (decimal 1 100 ⊖ part) (decimal 1 100 ⊖ neg part) end)
  unlimited : T (ends (neg part) part && ends (neg end) end && inside (neg sum) (neg part ⊕ neg end) (part ⊕ end) sum)
  sum_finite : Finite (neg sum) × Finite sum
  end_around : T ((neg end ≤ᶠ zero) && (zero ≤ᶠ end))

-- a size, by its tests and by the tables of its integrator
size : {smallest quotient error part sum end wide : Float} → Tests smallest quotient error part sum end → Tables DAMPER_GAIN DAMPER_INTEGRAL_TIME error LONGEST_STEP end wide → Size smallest error end
size {smallest} {quotient} {error} {part} {sum} {end} t tables = record {
  error_in = λ s f m. sub_in s (over f m) t.difference;
  next_in = between_ends tables;
  reset_in = λ b. sub_in (between t.hundredth) (proportional_in b) t.reset;
  unlimited_finite = λ b i. finite_between t.sum_finite.0 t.sum_finite.1 (total b i);
  end_from_zero = between t.end_around;
}
  where
    over : {flow maximum : Float} → Between (neg HIGHEST_FLOW) flow HIGHEST_FLOW → Between smallest maximum (decimal 10 1) → Between (neg quotient) (flow ⊘ maximum) quotient
    over f m = div_in f m t.flow

    proportional_in : {e : Float} → Between (neg error) e error → Between (neg part) (DAMPER_GAIN ⊗ e) part
    proportional_in b = mul_in_turned b (between t.gain) t.proportional

    total : {integrator e : Float} → Between (neg error) e error → Between (neg end) integrator end → Between (neg sum) (DAMPER_GAIN ⊗ e ⊕ integrator) sum
    total b i = add_in (proportional_in b) i t.unlimited

usual_tests : Tests (decimal 15 10) (decimal 7 1) (decimal 8 1) (decimal 4 1) (decimal 20 1) (decimal 16 1)
unfolding round neg add sub mul div lt eq le
usual_tests = assumption tt

pub usual_size : Size (decimal 15 10) (decimal 8 1) (decimal 16 1)
usual_size = size usual_tests damper_tables

any_tests : Tests (decimal 1 10) (decimal 100 1) (decimal 101 1) (decimal 51 1) (decimal 600 1) (decimal 512 1)
unfolding round neg add sub mul div lt eq le
any_tests = assumption tt

pub any_size : Size (decimal 1 10) (decimal 101 1) (decimal 512 1)
any_size = size any_tests any_damper_tables

-- ---- the active airflow: its minimum is at most its maximum

mode_one : (mode : ℤ) → T (mode ==ᶻ 1) → T (le_z (pos 1) mode && le_z mode (pos 3))
mode_one (pos n) h = subst (λ (n : ℕ). T (le_z (pos 1) (pos n) && le_z (pos n) (pos 3))) (sym (eqb→eq n 1 h)) tt
mode_one (negsuc n) h = absurd h

module _ (choices : Choices) (f : FlowsIn choices) {occupied_minimum : Float} (o : Flow choices.design_cooling_maximum_flow occupied_minimum) where
  pub active_in : (mode : ℤ) → Flow choices.design_cooling_maximum_flow (active_airflow mode occupied_minimum choices).minimum
  unfolding active_airflow
  active_in mode = chosen_flow choices f (mode ==ᶻ 1) occupied_minimum zero o (no_flow choices f)

  pub active_maximum_in : (mode : ℤ) → Flow choices.design_cooling_maximum_flow (active_airflow mode occupied_minimum choices).cooling_maximum
  unfolding active_airflow
  active_maximum_in mode = chosen_flow choices f (le_z (pos 1) mode && le_z mode (pos 3)) choices.design_cooling_maximum_flow zero (at_maximum choices f) (no_flow choices f)

  pub active_order : (mode : ℤ) → T ((active_airflow mode occupied_minimum choices).minimum ≤ᶠ (active_airflow mode occupied_minimum choices).cooling_maximum)
  unfolding active_airflow
  active_order mode = go (mode ==ᶻ 1) (le_z (pos 1) mode && le_z mode (pos 3)) (mode_one mode)
    where
      go : (p q : Bool) → (T p → T q) → T (if p then occupied_minimum else zero ≤ᶠ if q then choices.design_cooling_maximum_flow else zero)
      go true true h = o.range.to_high
      go true false h = absurd (h tt)
      go false true h = (no_flow choices f).range.to_high
      go false false h = (no_flow choices f).range.from_low

-- ---- the stage

module _ (choices : Choices) (f : FlowsIn choices) (s : DamperState) (input : DamperInput)
    (minimum : Flow choices.design_cooling_maximum_flow input.active_minimum_flow) (maximum : Flow choices.design_cooling_maximum_flow input.active_cooling_maximum_flow)
    (order : T (input.active_minimum_flow ≤ᶠ input.active_cooling_maximum_flow)) (signal : Between zero input.cooling_loop (decimal 1 1))
    (flow : Between (neg HIGHEST_FLOW) input.discharge_airflow HIGHEST_FLOW) {last : Option Float} {t : Float} (a : Accepted last t)
    {smallest error end : Float} (z : Size smallest error end) (large : Between smallest choices.design_cooling_maximum_flow (decimal 10 1)) (k : KeptDamper last end s) where
  abbrev step : Step DamperState DamperOutput
  step = damper s t input choices

  -- the setpoint before the override
  mapped_in : Flow choices.design_cooling_maximum_flow (buildings_line zero input.active_minimum_flow (decimal 1 1) input.active_cooling_maximum_flow input.cooling_loop)
  unfolding round
  mapped_in = flow_line choices f minimum maximum input.cooling_loop (finite_between tt tt signal) order

  pub airflow_setpoint_in : Flow choices.design_cooling_maximum_flow step.output.airflow_setpoint
  unfolding damper
  airflow_setpoint_in =
      let M = choices.design_cooling_maximum_flow in
      let warm = greater_hysteretic input.supply_air_temperature input.zone_temperature TEMPERATURE_HYSTERESIS s.supply_warm in
      let mapped = buildings_line zero input.active_minimum_flow (decimal 1 1) input.active_cooling_maximum_flow input.cooling_loop in
      let active : Flow M (if warm then input.active_minimum_flow else mapped) = chosen_flow choices f warm input.active_minimum_flow mapped minimum mapped_in in
      let base : Flow M (if input.zone_state ==ᶻ 3 then if warm then input.active_minimum_flow else mapped else input.active_minimum_flow) =
      chosen_flow choices f (input.zone_state ==ᶻ 3) _ input.active_minimum_flow active minimum in
      let third = chosen_flow choices f (input.airflow_override_index ==ᶻ 3) choices.design_minimum_flow _ (at_minimum choices f) base in
      let second = chosen_flow choices f (input.airflow_override_index ==ᶻ 2) M _ (at_maximum choices f) third in
      chosen_flow choices f (input.airflow_override_index ==ᶻ 1) zero _ (no_flow choices f) second

  -- over the maximum
  quotient_from_zero : {x : Float} → Between zero x choices.design_cooling_maximum_flow → Between zero (x ⊘ choices.design_cooling_maximum_flow) (decimal 100 1)
  unfolding round div le lt eq
  quotient_from_zero {x} b =
      let wide : Between zero x (decimal 10 1) = record { from_low = b.from_low; to_high = le_trans x choices.design_cooling_maximum_flow (decimal 10 1) b.to_high f.maximum.to_high } in
      div_in wide f.maximum tt

  pub normalized_in : Between zero (step.output.airflow_setpoint ⊘ choices.design_cooling_maximum_flow) (decimal 1 1)
  normalized_in =
      let M = choices.design_cooling_maximum_flow in
      let b = airflow_setpoint_in.range in
      let F = maximum_finite choices f in
      let above = maximum_above_zero choices f in
      record {
        from_low = (quotient_from_zero b).from_low;
        to_high = subst (λ (z : Float). T (step.output.airflow_setpoint ⊘ M ≤ᶠ z)) (self_quotient M F above)
            (div_mono step.output.airflow_setpoint M M (finite_between tt F b) F F above b.to_high);
      }

  -- ---- the PI
  abbrev error_of : Float
  error_of = step.output.airflow_setpoint ⊘ choices.design_cooling_maximum_flow ⊖ input.discharge_airflow ⊘ choices.design_cooling_maximum_flow

  error_range : Between (neg error) error_of error
  error_range = z.error_in normalized_in flow large

  -- the PI before its limits
  pub unlimited_finite : Finite (DAMPER_GAIN ⊗ error_of ⊕ s.integrator)
  unlimited_finite = z.unlimited_finite error_range k.integrator

  pid_in : Between zero (clamp (DAMPER_GAIN ⊗ error_of ⊕ s.integrator) zero (decimal 1 1)) (decimal 1 1)
  pid_in = clamp_unit (DAMPER_GAIN ⊗ error_of ⊕ s.integrator) unlimited_finite

  pub damper_command_in : Between zero step.output.damper_command (decimal 1 1)
  unfolding damper
  damper_command_in = if_in _ zero _ unit_zero (if_in _ (decimal 1 1) _ unit_one pid_in)

  pub kept_damper : KeptDamper (Some t) end step.state
  unfolding damper next_integrator
  kept_damper =
      let next = z.next_in s.integrator error_of (step_seconds s.previous_time t) error_range k.integrator (dt_in a s.previous_time k.previous_time) in
      record { integrator = if_in (input.supply_fan_status && not s.previous_fan) _ _ (z.reset_in error_range) next; previous_time = refl }
