-- No integrator becomes -0.0: a sum is -0.0 only if both parts are, and a reset stores minus a number above 0, or 0.01 less one. Assumes nothing.
use Rattle.std.proofs.Common.{refl, Bool, true, false, not, ◌&&◌, ◌||◌, T, subst, pos, negsuc, inl}
use lib.Ieee.{Float, fin, binary64, round, neg, add, sub, mul, lt, eq, le, fits}
use lib.Ieee.Fits.{add-fits, sub-fits, mul-fits, neg-fits, round-fits}
use Rattle.std.proofs.lemmas.Float.{le_trans, lt_of_lt_of_le}
use Rattle.f64_helpers.specs.F64.{◌⊕◌, ◌⊖◌, ◌⊗◌, ◌<ᶠ◌, ◌≤ᶠ◌, decimal, zero}
use Rattle.f64_helpers.specs.Ranges.{Between, Finite, NotMinusZero}
use Rattle.f64_helpers.proofs.Intervals.{finite_between, times_larger}
use Rattle.f64_helpers.proofs.LargeDifferences.{difference_from_128}
use Rattle.cdl_recurrences.specs.CdlRecurrences.{less_hysteretic}
use Rattle.cooling_only_controller_conditioning.specs.Conditioning.{loop_pi, TEMPERATURE_HYSTERESIS, CONTROL_GAIN}
use Rattle.cooling_only_controller_conditioning.specs.declared.LoopPiState.{LoopPiState}
use Rattle.cooling_only_controller_airflow.specs.Airflow.{damper}
use Rattle.cooling_only_controller_airflow.specs.declared.DamperInput.{DamperInput}
use Rattle.cooling_only_controller_airflow.specs.declared.DamperState.{DamperState}
use Rattle.box_choices.specs.declared.Choices.{Choices}
use Rattle.cooling_only_controller.specs.Controller.{fresh_controller}
use Rattle.cooling_only_controller_conditioning.specs.Conditioning.{control_loops}
use Rattle.cooling_only_controller.specs.Controller.{controller_output}
use Rattle.air_box.specs.Demand2.{controller_step_of}
use Rattle.air_box.specs.declared.Tick.{Tick}
use Rattle.air_box.specs.declared.AirBox.{AirBox}
use Rattle.bounds.specs.PublishedAgrees.{LoopReadingsAreF64}
use Rattle.bounds.proofs.Accepted.{Readings}
use Rattle.bounds.specs.Limits.{COLDEST, HOTTEST}
use Rattle.bounds.specs.Kept.{KeptLoopSign, KeptSigns}
use Rattle.f64_helpers.proofs.SignedZeros.{opposite_sign, sum_not_minus_zero, decimal_sign, difference_not_minus_zero}
use Rattle.f64_helpers.proofs.Tests.{yes}
use Rattle.std.proofs.lemmas.Bool.{cond_both}
use Rattle.bounds.proofs.PublishedBlocks.{NotMinusZeroF64}
use Rattle.bounds.proofs.Loops.{error_in}

-- of two temperatures, the one above the other
module _ {above below : Float} (x : Between COLDEST above HOTTEST) (y : Between COLDEST below HOTTEST) (f : T (fits binary64 above)) (g : T (fits binary64 below)) (h : T (below <ᶠ above)) where
  from_128 : T (fin false 1 (pos 7) ≤ᶠ below)
  unfolding round le lt eq
  from_128 = le_trans (fin false 1 (pos 7)) COLDEST below tt y.from_low

  error_above : T (fin false 1 (negsuc 1063) ≤ᶠ above ⊖ below)
  unfolding round
  error_above = difference_from_128 above below f g (finite_between tt tt x) (finite_between tt tt y) from_128 h

  error_finite : Finite (above ⊖ below)
  unfolding round neg add sub le lt eq
  error_finite = finite_between tt tt (error_in x y)

  proportional_above : T (zero <ᶠ CONTROL_GAIN ⊗ (above ⊖ below))
  unfolding round mul le lt eq
  proportional_above =
      lt_of_lt_of_le zero (CONTROL_GAIN ⊗ fin false 1 (negsuc 1063)) (CONTROL_GAIN ⊗ (above ⊖ below)) tt
      (times_larger CONTROL_GAIN (fin false 1 (negsuc 1063)) (above ⊖ below) tt tt error_finite tt error_above)

  reset_sign : NotMinusZero (neg (CONTROL_GAIN ⊗ (above ⊖ below)))
  reset_sign = opposite_sign (CONTROL_GAIN ⊗ (above ⊖ below)) proportional_above

-- where the enable rises, `below` lies below `above`
rises : (below above : Float) (previous : Bool) → T (less_hysteretic below above TEMPERATURE_HYSTERESIS previous && not previous) → T (below <ᶠ above)
unfolding less_hysteretic
rises below above previous h = go previous (below <ᶠ above) (below <ᶠ above ⊕ TEMPERATURE_HYSTERESIS) h
  where
    go : (p on stay : Bool) → T (((not p && on) || (p && stay)) && not p) → T on
    go false true stay h = tt
    go false false stay h = absurd h
    go true true true h = absurd h
    go true true false h = absurd h
    go true false true h = absurd h
    go true false false h = absurd h

-- what is stored on a step that does not reset
stepped : (integrator change : Float) → NotMinusZeroF64 integrator → T (fits binary64 change) → NotMinusZeroF64 (integrator ⊕ change)
stepped integrator change h f = record { is_f64 = add-fits binary64 integrator change; not_minus_zero = sum_not_minus_zero integrator change h.is_f64 f (inl h.not_minus_zero) }

-- ---- the loops

module _ {above below : Float} (x : Between COLDEST above HOTTEST) (y : Between COLDEST below HOTTEST) (f : T (fits binary64 above)) (g : T (fits binary64 below))
    (s : LoopPiState) (enable : Bool) (k : KeptLoopSign enable s) (t : Float) where
  abbrev trigger : Bool
  trigger = less_hysteretic below above TEMPERATURE_HYSTERESIS enable

  abbrev reset : Bool
  reset = trigger && not s.previous_trigger

  rises_here : T reset → T (below <ᶠ above)
  rises_here h = rises below above enable (subst (λ (b : Bool). T (trigger && not b)) k.trigger h)

  next : NotMinusZeroF64 (loop_pi s t (above ⊖ below) trigger).state.integrator
  unfolding loop_pi
  next =
      cond_both reset _ _ NotMinusZeroF64
      (λ e. record { is_f64 = neg-fits binary64 _ (mul-fits binary64 CONTROL_GAIN (above ⊖ below)); not_minus_zero = reset_sign x y f g (rises_here (yes e)) })
      (λ e. stepped s.integrator _ (record { is_f64 = k.is_f64; not_minus_zero = k.sign }) (mul-fits binary64 _ _))

  pub loop_signs : KeptLoopSign trigger (loop_pi s t (above ⊖ below) trigger).state
  unfolding loop_pi
  loop_signs = record { is_f64 = next.is_f64; sign = next.not_minus_zero; trigger = refl }

-- ---- the box

pub signs_fresh : KeptSigns fresh_controller
unfolding fits eq
signs_fresh = record {
  cooling = record { is_f64 = tt; sign = tt; trigger = refl };
  heating = record { is_f64 = tt; sign = tt; trigger = refl };
  damper_is_f64 = tt;
  damper_sign = tt;
}

-- the damper's reset stores 0.01 less a number
damper_held : (s : DamperState) (t : Float) (input : DamperInput) (choices : Choices) → NotMinusZeroF64 s.integrator → NotMinusZeroF64 (damper s t input choices).state.integrator
unfolding damper
damper_held s t input choices h =
    cond_both (input.supply_fan_status && not s.previous_fan) _ _ NotMinusZeroF64
    (λ e. record {
      is_f64 = sub-fits binary64 (decimal 1 100) _;
      not_minus_zero = difference_not_minus_zero (decimal 1 100) _ (round-fits binary64 false 1 100) (mul-fits binary64 _ _) (decimal_sign 1 100);
    })
    (λ e. stepped s.integrator _ h (mul-fits binary64 _ _))

-- over an accepted tick
pub next_signs : (box : AirBox) (k : Tick) → Readings k.input → LoopReadingsAreF64 k → KeptSigns box.state → KeptSigns (controller_step_of box k).state
unfolding controller_output control_loops
next_signs box k r h s =
    let d = damper_held box.state.dampers k.t _ box.choices (record { is_f64 = s.damper_is_f64; not_minus_zero = s.damper_sign }) in
    record {
      cooling = loop_signs r.zone_temperature r.cooling_setpoint h.zone_temperature h.cooling_setpoint box.state.control_loops.cooling_pi box.state.control_loops.cooling_enable s.cooling k.t;
      heating = loop_signs r.heating_setpoint r.zone_temperature h.heating_setpoint h.zone_temperature box.state.control_loops.heating_pi box.state.control_loops.heating_enable s.heating k.t;
      damper_is_f64 = d.is_f64;
      damper_sign = d.not_minus_zero;
    }
