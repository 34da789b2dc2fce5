-- The flow-high rule, for any limit: what `greater_hysteretic` does step by step along accepted ticks is what document 01 says over the history. By the law of the dead band. Assumes nothing.
use mathlib.Core.Path.{◌≡◌, refl, subst}
use mathlib.Core.Logic.Iff
use mathlib.Core.Logic.{◌↔◌}
use mathlib.Core.List.{List, [], ◌∷◌}
use mathlib.Core.Bool.{Bool}
use lib.Dec.{T}
use lib.Ieee.{Float, binary64, fits, round, le}
use lib.Ieee.Fits.{mul-fits}
use Rattle.f64_helpers.specs.F64.{◌⊖◌, ◌>ᶠ◌, ◌≤ᶠ◌, decimal}
use Rattle.f64_helpers.proofs.Order.{lt_le}
use Rattle.f64_helpers.proofs.Sums.{above_lowered}
use Rattle.box_choices.specs.declared.Choices.{Choices}
use Rattle.cdl_recurrences.specs.CdlRecurrences.{greater_hysteretic}
use Rattle.cdl_recurrences.specs.DeadBand.{output_after, Related}
use Rattle.cdl_recurrences.proofs.DeadBandLaw.{OnSince, on_since_law, dead_band_two_histories}
use Rattle.air_box.specs.declared.Tick.{Tick}
use Rattle.nights.specs.Nights.{flow, AllAbove, FlowHigh, flow_high_stepped}
use Rattle.nights.specs.Demand3.{H, FlowHighRule}
use Rattle.nights.proofs.Histories.{in_order, extended, in_order_extended}
use Rattle.nights.proofs.TurnedOn.{TurnedOn, turned_on_law}

-- whether flow is high after a history, by the memory's steps
abbrev pub high_after : Float → List Tick → Bool
high_after limit = output_after (λ previous k. greater_hysteretic (flow k) limit (decimal 1 100) previous)

module _ (limit : Float) (held : T (fits binary64 limit)) where
  abbrev below : Float
  below = limit ⊖ decimal 1 100

  abbrev rises : Tick → Bool
  rises k = flow k >ᶠ limit

  abbrev stays : Tick → Bool
  stays k = flow k >ᶠ below

  rises_stays : (k : Tick) → T (rises k) → T (stays k)
  rises_stays k p = above_lowered (flow k) limit (decimal 1 100) held (unfold round le in tt) p

  -- ---- over a history, going back one tick at a time
  high_since : (h : List Tick) → T (high_after limit h) ↔ OnSince rises stays h
  unfolding greater_hysteretic
  high_since = on_since_law rises stays rises_stays

  in_order_law : (h : List Tick) → OnSince rises stays h ↔ TurnedOn rises (AllAbove below) (in_order h)
  in_order_law = turned_on_law rises stays rises_stays (AllAbove below) tt (λ k ks. Iff.rfl)

  pub high_law : (h : List Tick) → T (high_after limit h) ↔ FlowHigh limit (in_order h)
  high_law h = (
    λ t. let f = (in_order_law h).0 ((high_since h).0 t) in
        record { before = f.before; rise = f.start; since = f.since; parts = f.parts; above = f.turned_on; stays_above = f.stayed },
    λ f. (high_since h).1
        ((in_order_law h).1 (record { before = f.before; start = f.rise; since = f.since; parts = f.parts; turned_on = f.above; stayed = f.stays_above })),
  )

  -- two histories, tick by tick with a flow that is not lower in the second
  pub high_kept : (R : Tick → Tick → Type 0) → ((j k : Tick) → R j k → T (flow j ≤ᶠ flow k)) → (g h : List Tick) → Related R g h → T (high_after limit g) → T (high_after limit h)
  unfolding greater_hysteretic
  high_kept R flows = dead_band_two_histories rises stays rises_stays R (λ j k w p. lt_le limit (flow j) (flow k) p (flows j k w)) (λ j k w p. lt_le below (flow j) (flow k) p (flows j k w))

  -- ---- along the ticks
  stepped_is_high_after : (h ks : List Tick) → flow_high_stepped limit (high_after limit h) ks ≡ high_after limit (extended h ks)
  stepped_is_high_after h [] = refl
  stepped_is_high_after h (k ∷ ks) = stepped_is_high_after (k ∷ h) ks

  pub rule_for : (ks : List Tick) → T (flow_high_stepped limit (high_after limit []) ks) ↔ FlowHigh limit ks
  rule_for ks = rw (stepped_is_high_after [] ks) (subst (λ (l : List Tick). T (high_after limit (extended [] ks)) ↔ FlowHigh limit l) (in_order_extended [] ks) (high_law (extended [] ks)))

-- ---- at H
pub H_held : (choices : Choices) → T (fits binary64 (H choices))
H_held choices = mul-fits binary64 _ _

pub flow_high_rule : (choices : Choices) → FlowHighRule choices
flow_high_rule choices = rule_for (H choices) (H_held choices)
