-- N8: along any ticks. Assumes nothing.
use Rattle.std.proofs.Common.{◌≡◌, refl, ℕ, ◌⊎◌, ap, ◌∙◌, subst₂, List, [], ◌∷◌, Bool, sym, subst, inl}
use lib.Ieee.{Float, round, neg, lt, eq, le, fits}
use lib.Ieee.Fits.{and_l, and_r}
use Rattle.f64_helpers.specs.F64.{decimal, zero}
use Rattle.f64_helpers.specs.Ranges.{Between, Finite}
use Rattle.box_choices.specs.declared.Choices.{Choices}
use Rattle.cooling_only_controller.specs.declared.ControllerOutput.{ControllerOutput}
use Rattle.air_box.specs.AirBox.{unticked, tick, accepted_tick, given_for, within}
use Rattle.air_box.specs.Demand1.{AllYes}
use Rattle.air_box.specs.Demand2.{controller_step_of}
use Rattle.air_box.specs.declared.Tick.{Tick}
use Rattle.air_box.specs.declared.Start.{Start}
use Rattle.air_box.specs.declared.AirBox.{AirBox}
use Rattle.air_box.proofs.Demands.{tick_accepted, tick_refused, by_verdict, demand_1, demand_2}
use Rattle.nights.specs.Nights.{box_after}
use Rattle.bounds.specs.Kept.{KeptBox}
use Rattle.bounds.specs.Bounds.{grown, usual_size, IntegratorsInBounds, OutputsInBounds, Built, Bounds}
use Rattle.bounds.specs.EveryNumber.{BoxNumbers}
use Rattle.bounds.proofs.Flows.{FlowsIn, maximum_finite}
use Rattle.bounds.proofs.Damper as Dampers
use Rattle.bounds.proofs.Damper.{Size, any_size}
use Rattle.bounds.proofs.KeptBox.{fresh_box_kept, next_box_kept, outputs_in}
use Rattle.bounds.proofs.Numbers.{box_numbers, output_numbers}
use Rattle.f64_helpers.proofs.Intervals.{between}

-- a box that keeps its ranges, and was built with these choices
pub record Keeps (choices : Choices) (end : Float) (box : AirBox) : Type 0 where
  pub choices_kept : box.choices ≡ choices
  pub kept : KeptBox end box

module _ (choices : Choices) (f : FlowsIn choices) {smallest error end : Float} (z : Size smallest error end) (large : Between smallest choices.design_cooling_maximum_flow (decimal 10 1)) where
  pub flows_of : (box : AirBox) → box.choices ≡ choices → FlowsIn box.choices
  flows_of box e = subst FlowsIn (sym e) f

  pub large_of : (box : AirBox) → box.choices ≡ choices → Between smallest box.choices.design_cooling_maximum_flow (decimal 10 1)
  large_of box e = subst (λ (c : Choices). Between smallest c.design_cooling_maximum_flow (decimal 10 1)) (sym e) large

  after_accepted : (box : AirBox) (k : Tick) → Keeps choices end box → AllYes box.last_time k → Keeps choices end (accepted_tick box k).state
  unfolding accepted_tick
  after_accepted box k h all = record { choices_kept = h.choices_kept; kept = next_box_kept box (flows_of box h.choices_kept) z (large_of box h.choices_kept) h.kept k all }

  pub after_tick : (box : AirBox) (k : Tick) → Keeps choices end box → Keeps choices end (tick box k).state
  after_tick box k h =
      by_verdict box.last_time k
      (λ all. rw (tick_accepted box k all) (after_accepted box k h all))
      (λ reason first. rw (tick_refused box k reason first) h)

  after_ticks : (box : AirBox) (ticks : List Tick) → Keeps choices end box → Keeps choices end (box_after tick box ticks)
  after_ticks box [] h = h
  after_ticks box (k ∷ ks) h = after_ticks (tick box k).state ks (after_tick box k h)

  pub grown_keeps : (ticks : List Tick) → Keeps choices end (grown choices ticks)
  grown_keeps ticks = after_ticks (unticked choices) ticks (record { choices_kept = refl; kept = fresh_box_kept choices f z })

  pub grown_integrators : (ticks : List Tick) → IntegratorsInBounds end (grown choices ticks)
  grown_integrators ticks =
      let k = (grown_keeps ticks).kept in
      record { cooling_loop = k.control_loops.cooling_pi.integrator; heating_loop = k.control_loops.heating_pi.integrator; damper = k.dampers.integrator }

  pub grown_numbers : Finite (neg end) → Finite end → (ticks : List Tick) → BoxNumbers (grown choices ticks)
  grown_numbers g h ticks = let k = grown_keeps ticks in box_numbers (grown choices ticks) (flows_of (grown choices ticks) k.choices_kept) g h k.kept

  -- an output that a tick is given is the controller's
  pub grown_outputs : (ticks : List Tick) (k : Tick) (output : ControllerOutput) → given_for (grown choices ticks) k ≡ inl output → OutputsInBounds choices.design_cooling_maximum_flow output
  grown_outputs ticks k output e =
      let box = grown choices ticks in
      let h = grown_keeps ticks in
      let all : AllYes box.last_time k = (demand_1.outputs_if_all_yes box k).0 (output, e) in
      let same : ◌≡◌ {A = ControllerOutput ⊎ ℕ} (inl (controller_step_of box k).output) (inl output) = sym (demand_2 box k all).outputs ∙ e in
      let o = outputs_in box (flows_of box h.choices_kept) z (large_of box h.choices_kept) h.kept k all in
      subst₂ OutputsInBounds (ap (λ (c : Choices). c.design_cooling_maximum_flow) h.choices_kept) (unwrapped (controller_step_of box k).output output same) o
    where
      unwrapped : (a b : ControllerOutput) → ◌≡◌ {A = ControllerOutput ⊎ ℕ} (inl a) (inl b) → a ≡ b
      unwrapped a b e = cc

-- ---- the two sizes

pub flows_of_built : (choices : Choices) → Built choices → FlowsIn choices
flows_of_built choices b =
    let minimum = choices.design_minimum_flow in
    let maximum = choices.design_cooling_maximum_flow in
    let h = and_l (within maximum (decimal 1 10) (decimal 10 1)) (within minimum zero maximum) b.within in
    let l = and_r (within maximum (decimal 1 10) (decimal 10 1)) (within minimum zero maximum) b.within in
    record { minimum_is_f64 = b.minimum_is_f64; maximum_is_f64 = b.maximum_is_f64; minimum = between l; maximum = between h }

is_built : (start : Start) (second_reading : Bool) → Built (usual_size start second_reading)
unfolding round fits le lt eq
is_built start second_reading = record { within = tt; minimum_is_f64 = tt; maximum_is_f64 = tt }

usual_flows : (start : Start) (second_reading : Bool) → FlowsIn (usual_size start second_reading)
usual_flows start second_reading = flows_of_built (usual_size start second_reading) (is_built start second_reading)

usual_large : Between (decimal 15 10) (decimal 15 10) (decimal 10 1)
unfolding round le lt eq
usual_large = between tt

pub ends_finite : Finite (neg (decimal 16 1)) × Finite (decimal 16 1) × Finite (neg (decimal 512 1)) × Finite (decimal 512 1)
unfolding round neg
ends_finite = (tt, tt, tt, tt)

pub bounds : Bounds
bounds =
    record {
      integrators = λ start r. grown_integrators (usual_size start r) (usual_flows start r) Dampers.usual_size usual_large;
      outputs = λ start r. grown_outputs (usual_size start r) (usual_flows start r) Dampers.usual_size usual_large;
      every_number = λ start r. grown_numbers (usual_size start r) (usual_flows start r) Dampers.usual_size usual_large ends_finite.0 ends_finite.1;
      every_output = λ start r ticks k output e.
          output_numbers (decimal 15 10) (maximum_finite (usual_size start r) (usual_flows start r)) output
          (grown_outputs (usual_size start r) (usual_flows start r) Dampers.usual_size usual_large ticks k output e);
      other_integrators = λ c b. grown_integrators c (flows_of_built c b) any_size (flows_of_built c b).maximum;
      other_outputs = λ c b. grown_outputs c (flows_of_built c b) any_size (flows_of_built c b).maximum;
      other_every_number = λ c b. grown_numbers c (flows_of_built c b) any_size (flows_of_built c b).maximum ends_finite.2 ends_finite.3;
      other_every_output = λ c b ticks k output e.
          output_numbers c.design_cooling_maximum_flow (maximum_finite c (flows_of_built c b)) output
          (grown_outputs c (flows_of_built c b) any_size (flows_of_built c b).maximum ticks k output e);
      usual_built = is_built;
    }
