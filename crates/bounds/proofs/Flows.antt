-- Where the ventilation setpoints lie, and the line from one flow to a larger one. Assumes nothing.
use Rattle.std.proofs.Common.{Bool, true, false, T, if◌then◌else◌}
use lib.Ieee.{Float, binary64, round, neg, add, div, lt, eq, le, fits}
use lib.Ieee.Fits.{add-fits}
use Rattle.std.proofs.lemmas.Float.{le_refl, le_trans, lt_of_lt_of_le}
use Rattle.f64_helpers.specs.F64.{◌⊕◌, ◌⊖◌, ◌≤ᶠ◌, decimal, zero, ◌<ᶠ◌}
use Rattle.f64_helpers.specs.Integers.{◌==ᶻ◌}
use Rattle.f64_helpers.specs.Ranges.{Between, Finite}
use Rattle.f64_helpers.proofs.Intervals.{finite_between, finite_number, add_in, div_in, if_in, between}
use Rattle.box_choices.specs.declared.Choices.{Choices}
use Rattle.cdl_recurrences.specs.CdlRecurrences.{buildings_line}
use Rattle.cdl_recurrences.proofs.UnitLine.{line_in}
use Rattle.cooling_only_controller_conditioning.specs.Conditioning.{setpoints, COOLING_DISTRIBUTION_EFFECTIVENESS, HEATING_DISTRIBUTION_EFFECTIVENESS, POPULATION_BREATHING_FLOW, AREA_BREATHING_FLOW}
use Rattle.cooling_only_controller_conditioning.specs.declared.SetpointInput.{SetpointInput}
use Rattle.cooling_only_controller_conditioning.specs.declared.SetpointsState.{SetpointsState}
use Rattle.cooling_only_controller_conditioning.specs.declared.SetpointOutput.{SetpointOutput}
use Rattle.bounds.specs.Limits.{HIGHEST_CO2}
use Rattle.bounds.proofs.Co2Line.{co2_loop_in}

-- what is asked of the design flows of a box
pub record FlowsIn (choices : Choices) : Type 0 where
  pub minimum_is_f64 : T (fits binary64 choices.design_minimum_flow)
  pub maximum_is_f64 : T (fits binary64 choices.design_cooling_maximum_flow)
  pub minimum : Between zero choices.design_minimum_flow choices.design_cooling_maximum_flow
  pub maximum : Between (decimal 1 10) choices.design_cooling_maximum_flow (decimal 10 1)

-- an f64 from 0 to the maximum
pub record Flow (maximum x : Float) : Type 0 where
  pub is_f64 : T (fits binary64 x)
  pub range : Between zero x maximum

module _ (choices : Choices) (f : FlowsIn choices) where
  abbrev M : Float
  M = choices.design_cooling_maximum_flow

  pub maximum_finite : Finite M
  unfolding round
  maximum_finite = finite_between tt tt f.maximum

  pub maximum_above_zero : T (zero <ᶠ M)
  unfolding round lt
  maximum_above_zero = lt_of_lt_of_le zero (decimal 1 10) M tt f.maximum.from_low

  pub maximum_from_zero : Between zero M M
  unfolding round le lt eq
  maximum_from_zero = record { from_low = le_trans zero (decimal 1 10) M tt f.maximum.from_low; to_high = le_refl M (finite_number M maximum_finite) }

  pub no_flow : Flow M zero
  unfolding fits le lt eq
  no_flow = record { is_f64 = tt; range = record { from_low = tt; to_high = maximum_from_zero.from_low } }

  pub chosen_flow : (p : Bool) (x y : Float) → Flow M x → Flow M y → Flow M (if p then x else y)
  chosen_flow true x y g h = g
  chosen_flow false x y g h = h

  -- the line from one flow to a larger one
  line_is_f64 : (f1 f2 u : Float) → T (fits binary64 (buildings_line zero f1 (decimal 1 1) f2 u))
  unfolding buildings_line
  line_is_f64 f1 f2 u = add-fits binary64 _ _

  pub flow_line : {f1 f2 : Float} → Flow M f1 → Flow M f2 → (u : Float) → Finite u → T (f1 ≤ᶠ f2) → Flow M (buildings_line zero f1 (decimal 1 1) f2 u)
  flow_line {f1} {f2} g h u v o =
      let b = line_in f1 f2 u g.is_f64 h.is_f64 (finite_between tt maximum_finite g.range) (finite_between tt maximum_finite h.range) v g.range.from_low o in
      record { is_f64 = line_is_f64 f1 f2 u; range = record { from_low = b.from_low; to_high = le_trans _ f2 M b.to_high h.range.to_high } }

  pub at_minimum : Flow M choices.design_minimum_flow
  at_minimum = record { is_f64 = f.minimum_is_f64; range = f.minimum }

  pub at_maximum : Flow M M
  at_maximum = record { is_f64 = f.maximum_is_f64; range = maximum_from_zero }

  -- ---- `setpoints`
  module _ (s : SetpointsState) (input : SetpointInput) (setpoint : Between zero input.co2_setpoint HIGHEST_CO2) (co2 : Between zero input.co2_concentration HIGHEST_CO2) where
    abbrev out : SetpointOutput
    out = (setpoints s input choices).output

    abbrev corrected : Float
    corrected = if input.operating_mode ==ᶻ 1 then buildings_line (input.co2_setpoint ⊖ decimal 200 1) zero input.co2_setpoint (decimal 1 1) input.co2_concentration else zero

    corrected_finite : Finite corrected
    unfolding round neg le lt eq
    corrected_finite =
        let none : Between (neg (decimal 1000 1)) zero (decimal 1000 1) = between tt in
        finite_between tt tt (if_in (input.operating_mode ==ᶻ 1) _ zero (co2_loop_in _ _ setpoint co2) none)

    pub occupied_minimum_in : Flow M out.occupied_minimum_flow
    unfolding setpoints
    occupied_minimum_in = chosen_flow _ _ _ no_flow (chosen_flow _ _ _ no_flow (flow_line at_minimum at_maximum corrected corrected_finite f.minimum.to_high))

    nothing : {high : Float} → T (zero ≤ᶠ high) → Between zero zero high
    unfolding le lt eq
    nothing h = record { from_low = tt; to_high = h }

    population_line : Between zero (buildings_line zero zero (decimal 1 1) POPULATION_BREATHING_FLOW corrected) (decimal 5 1000)
    unfolding round fits le lt eq
    population_line = line_in zero POPULATION_BREATHING_FLOW corrected tt tt tt tt corrected_finite tt tt

    pub population_in : Between zero out.adjusted_population_flow (decimal 5 1000)
    unfolding setpoints round le lt eq
    population_in = if_in _ zero _ (nothing tt) (if_in _ zero _ (nothing tt) population_line)

    pub area_in : Between zero out.adjusted_area_flow (decimal 6 1000)
    unfolding setpoints round le lt eq
    area_in = let all : Between zero AREA_BREATHING_FLOW (decimal 6 1000) = between tt in if_in _ zero _ (nothing tt) (if_in _ zero _ (nothing tt) all)

    pub minimum_outdoor_in : Between zero out.minimum_outdoor_airflow (decimal 1375 100000)
    unfolding setpoints round add div le lt eq
    minimum_outdoor_in =
        let sum : Between zero (out.adjusted_population_flow ⊕ out.adjusted_area_flow) (decimal 11 1000) = add_in population_in area_in tt in
        let cooling : Between (decimal 8 10) COOLING_DISTRIBUTION_EFFECTIVENESS (decimal 1 1) = between tt in
        let heating : Between (decimal 8 10) HEATING_DISTRIBUTION_EFFECTIVENESS (decimal 1 1) = between tt in
        div_in sum (if_in _ COOLING_DISTRIBUTION_EFFECTIVENESS HEATING_DISTRIBUTION_EFFECTIVENESS cooling heating) tt
