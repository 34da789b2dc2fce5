-- N13. Building by its two ranges; a tick by its verdict; the definitions with 0.5 and 1.5 in them are those of today at the usual choices. Assumes nothing.
use Rattle.std.proofs.Common.{arith}
use mathlib.Core.Path.{◌≡◌, refl, sym, ap, ◌∙◌}
use mathlib.Core.Logic.{◌↔◌, ◌⊎◌, inl, inr}
use mathlib.Core.List.{List, [], ◌∷◌, map}
use Prim.Native.Nat.{ℕ}
use mathlib.Core.Bool.{Bool, true, false, not, ◌&&◌}
use lib.Dec.{T, T_not, not_T}
use lib.Ieee.{Float, round, le, neg}
use lib.Ieee.Fits.{and_i, and_l, and_r}
use Rattle.f64_helpers.specs.F64.{◌⊖◌, ◌<ᶠ◌, ◌≤ᶠ◌, ◌≥ᶠ◌, decimal, zero}
use Rattle.std.specs.Prelude.{if◌then◌else◌, Option, None, Result, Ok, Err, ⊤}
use Rattle.f64_helpers.proofs.Order.{lt→le, not_both, number_at_most}
use Rattle.f64_helpers.proofs.Sums.{above_lowered}
use Rattle.box_choices.specs.BoxChoices.{chosen, usual}
use Rattle.box_choices.specs.declared.Choices.{Choices}
use Rattle.cooling_only_controller_conditioning.specs.Conditioning.{setpoints, active_airflow}
use Rattle.cooling_only_controller_airflow.specs.Airflow.{damper, system_requests, alarms}
use Rattle.cooling_only_controller.specs.Controller.{controller_output}
use Rattle.cooling_only_controller.specs.declared.ControllerInput.{ControllerInput}
use Rattle.cooling_only_controller.specs.declared.ControllerOutput.{ControllerOutput}
use Rattle.cooling_only_controller.specs.declared.ControllerState.{ControllerState}
use Rattle.air_box.specs.AirBox.{delay_on_init, questions, unticked, design_flows_within, build, box_or_number, decided, accepted_tick, tick, outputs_or_number}
use Rattle.air_box.specs.declared.Tick.{Tick}
use Rattle.air_box.specs.declared.LastTick.{LastTick}
use Rattle.air_box.specs.declared.AirBox.{AirBox}
use Rattle.air_box.specs.declared.AirBoxStep.{AirBoxStep}
use Rattle.air_box.specs.declared.BuildRefusal.TheVariants.{DesignFlowOutOfRange}
use Rattle.air_box.specs.declared.Refusal.{Refusal}
use Rattle.nights.specs.Nights.{steps, box_after}
use Rattle.nights.specs.Demand3.{H}
use Rattle.nights.specs.FixedSizes.{fixed_setpoints, fixed_active_airflow, fixed_damper, fixed_system_requests, fixed_alarms, fixed_controller_output, FixedBox, FixedBoxStep, fixed_fresh_box, fixed_decided, fixed_tick, fixed_given}
use Rattle.nights.specs.OtherSizes.{InRange, Building, of_fixed, LowerLimit, OtherSizes}
use Rattle.nights.proofs.FlowHighRule.{H_held}

-- ---- building

four : (a b c d : Bool) → T ((a && b) && (c && d)) ↔ (T a × T b × T c × T d)
four a b c d = (
  λ t. let ab = and_l (a && b) (c && d) t in let cd = and_r (a && b) (c && d) t in (and_l a b ab, and_r a b ab, and_l c d cd, and_r c d cd),
  λ p. and_i (a && b) (c && d) (and_i a b p.0 p.1) (and_i c d p.2 p.3),
)

in_range : (quiet : Bool) (minimum maximum : Float) (second_reading : Bool) → T (design_flows_within (chosen quiet minimum maximum second_reading)) ↔ InRange minimum maximum
in_range quiet minimum maximum second_reading =
    let tests = four (maximum ≥ᶠ decimal 1 10) (maximum ≤ᶠ decimal 10 1) (minimum ≥ᶠ zero) (minimum ≤ᶠ maximum) in (
      λ t. let p = tests.0 t in record { maximum_from = p.0; maximum_to = p.1; minimum_from = p.2; minimum_to = p.3 },
      λ r. tests.1 (r.maximum_from, r.maximum_to, r.minimum_from, r.minimum_to),
    )

-- what building gives, by whether the design flows are in their ranges
abbrev by_ranges : Bool → Choices → AirBox ⊎ ℕ
by_ranges b choices = box_or_number (if b then Ok (unticked choices) else Err DesignFlowOutOfRange)

build_by_ranges : (choices : Choices) → box_or_number (build choices) ≡ by_ranges (design_flows_within choices) choices
unfolding build
build_by_ranges choices = refl

refused_if : (b : Bool) (choices : Choices) → (by_ranges b choices ≡ inr 8) ↔ T (not b)
refused_if true choices = (λ e. cc, λ t. absurd t)
refused_if false choices = (λ e. tt, λ t. refl)

number_8 : (b : Bool) (choices : Choices) (n : ℕ) → by_ranges b choices ≡ inr n → n ≡ 8
number_8 b choices n e = grind arith

built_if : (b : Bool) (choices : Choices) → T b → by_ranges b choices ≡ inl (unticked choices)
built_if true choices t = refl
built_if false choices t = absurd t

building : Building
building =
    record {
      refused = λ quiet minimum maximum second_reading.
          let choices = chosen quiet minimum maximum second_reading in
          let test = refused_if (design_flows_within choices) choices in
          let range = in_range quiet minimum maximum second_reading in
          rw (build_by_ranges choices) (
            λ e r. T_not (design_flows_within choices) (test.0 e) (range.1 r),
            λ out. test.1 (not_T (design_flows_within choices) (λ t. out (range.0 t))),
          );
      no_other_number = λ quiet minimum maximum second_reading number e. let choices = chosen quiet minimum maximum second_reading in number_8 (design_flows_within choices) choices number (sym (build_by_ranges choices) ∙ e);
      built = λ quiet minimum maximum second_reading r. let choices = chosen quiet minimum maximum second_reading in build_by_ranges choices ∙ built_if (design_flows_within choices) choices ((in_range quiet minimum maximum second_reading).1 r);
      nan_minimum = λ minimum maximum n r. number_at_most minimum maximum (inl n) r.minimum_to;
      nan_maximum = λ minimum maximum n r. number_at_most maximum (decimal 10 1) (inl n) r.maximum_to;
      lowest = (in_range false zero (decimal 1 10) false).0 (unfold round le in tt);
      lowest_equal = (in_range false (decimal 1 10) (decimal 1 10) false).0 (unfold round le in tt);
      highest = (in_range false zero (decimal 10 1) false).0 (unfold round le in tt);
      highest_equal = (in_range false (decimal 10 1) (decimal 10 1) false).0 (unfold round le in tt);
      minus_zero = (in_range false (neg zero) (decimal 15 10) false).0 (unfold round le neg in tt);
      without_naming = λ start. refl;
    }

-- ---- a box keeps what it was built with

decided_keeps : (v : Result ⊤ Refusal) (box : AirBox) (k : Tick) → (decided v box k).state.choices ≡ box.choices
unfolding accepted_tick
decided_keeps (Ok _) box k = refl
decided_keeps (Err reason) box k = refl

tick_keeps : (box : AirBox) (k : Tick) → (tick box k).state.choices ≡ box.choices
unfolding tick
tick_keeps box k = decided_keeps (questions box.last_time k) box k

ticks_keep : (box : AirBox) (ks : List Tick) → (box_after tick box ks).choices ≡ box.choices
ticks_keep box [] = refl
ticks_keep box (k ∷ ks) = ticks_keep (tick box k).state ks ∙ tick_keeps box k

-- ---- a box with 0.5 and 1.5 is the old box

controller_is : (s : ControllerState) (t : Float) (input : ControllerInput) (quiet : Bool) → controller_output s t input (usual quiet) ≡ fixed_controller_output s t input quiet
unfolding controller_output fixed_controller_output setpoints fixed_setpoints active_airflow fixed_active_airflow damper fixed_damper system_requests fixed_system_requests alarms fixed_alarms
controller_is s t input quiet = refl

-- the old step as one of today
abbrev step_of : Option LastTick → FixedBoxStep → AirBoxStep
step_of kept s = record { state = of_fixed kept s.state; answer = s.answer }

decided_is : (v : Result ⊤ Refusal) (kept : Option LastTick) (box : FixedBox) (k : Tick)
    → decided v (of_fixed kept box) k ≡ step_of (decided v (of_fixed kept box) k).state.last_tick (fixed_decided v box k)
unfolding accepted_tick
decided_is (Ok _) kept box k = rw (controller_is box.state k.t k.input (delay_on_init box.start))
decided_is (Err reason) kept box k = refl

tick_is : (kept : Option LastTick) (box : FixedBox) (k : Tick) → tick (of_fixed kept box) k ≡ step_of (tick (of_fixed kept box) k).state.last_tick (fixed_tick box k)
unfolding tick
tick_is kept box k = decided_is (questions box.last_time k) kept box k

given_is : (kept : Option LastTick) (box : FixedBox) (ks : List Tick) → map (λ s. s.given) (steps (of_fixed kept box) ks) ≡ fixed_given box ks
given_is kept box [] = refl
given_is kept box (k ∷ ks) =
    rw (tick_is kept box k) (ap (λ (l : List (ControllerOutput ⊎ ℕ)). outputs_or_number (fixed_tick box k).answer ∷ l) (given_is (tick (of_fixed kept box) k).state.last_tick (fixed_tick box k).state ks))

-- ---- H

lower_limit : LowerLimit
lower_limit choices = not_T (H choices <ᶠ H choices ⊖ decimal 1 100) (λ t.
    let below = H choices ⊖ decimal 1 100 in
    let above_itself = above_lowered below (H choices) (decimal 1 100) (H_held choices) (unfold round le in tt) t in
    not_both below below above_itself (lt→le below below above_itself))

pub other_sizes : OtherSizes
other_sizes =
    record {
      building = building;
      kept = record { at_a_tick = tick_keeps; for_ever = ticks_keep };
      old_box = record {
        fresh = λ start. refl;
        answer = λ kept box k. ap (λ (s : AirBoxStep). s.answer) (tick_is kept box k);
        next = λ kept box k. ap (λ (s : AirBoxStep). s.state) (tick_is kept box k);
        night = λ start ticks. given_is None (fixed_fresh_box start) ticks;
      };
      lower_limit = lower_limit;
    }
