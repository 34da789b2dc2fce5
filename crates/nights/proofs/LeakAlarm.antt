-- The leaking damper alarm of a box after a history of accepted ticks, from either start: its memories are those of the dead bands and of the true delay over that history, and the alarm is 4 by them. Assumes nothing.
use mathlib.Core.Path.{◌≡◌, refl}
use mathlib.Core.Logic.Iff
use mathlib.Core.Logic.{◌↔◌}
use mathlib.Core.List.{List, [], ◌∷◌}
use mathlib.Core.Bool.{Bool, false, ◌&&◌}
use lib.IntN.{ℤ, pos}
use lib.Dec.{T}
use lib.Ieee.{Float, round, add, mul, le}
use Rattle.std.specs.Prelude.{if◌then◌else◌}
use Rattle.std.proofs.lemmas.Float.{lt_of_lt_of_le}
use Rattle.f64_helpers.specs.F64.{◌⊕◌, ◌⊗◌, ◌<ᶠ◌, decimal}
use Rattle.box_choices.specs.declared.Choices.{Choices}
use Rattle.cdl_recurrences.specs.CdlRecurrences.{less_hysteretic}
use Rattle.cdl_recurrences.specs.DeadBand.{output_after, AllStay}
use Rattle.cdl_recurrences.proofs.DeadBandLaw.{OnSince, on_since_law}
use Rattle.cooling_only_controller_timing.specs.History.{true_delay_after}
use Rattle.cooling_only_controller_timing.proofs.TrueDelayLaw.{held_is_output}
use Rattle.cooling_only_controller_airflow.specs.Airflow.{DAMPER_POSITION_HYSTERESIS, alarms}
use Rattle.cooling_only_controller.specs.Controller.{controller_output}
use Rattle.air_box.specs.AirBox.{accepted_tick}
use Rattle.air_box.specs.declared.Tick.{Tick}
use Rattle.nights.specs.Nights.{Shown, fan}
use Rattle.nights.specs.Demand3.{H}
use Rattle.nights.specs.WhyNoAlarm.{command, DamperClosed}
use Rattle.nights.proofs.Histories.{in_order}
use Rattle.nights.proofs.TurnedOn.{TurnedOn, turned_on_law}
use Rattle.nights.proofs.Grown.{grown, grown_choices}
use Rattle.nights.proofs.FlowHighRule.{high_after}
use Rattle.nights.proofs.Conditions.{samples}
use Rattle.nights.proofs.SensorAlarm.{level_if, flow_high_kept}
use Rattle.nights.proofs.AfterNights.{shown_at, with_outputs}

-- ---- the damper's dead band over the commands
-- whether the damper is closed after a history, by the memory's steps
abbrev pub closed_after : List Shown → Bool
closed_after = output_after (λ previous s. less_hysteretic (command s) DAMPER_POSITION_HYSTERESIS (decimal 5 10 ⊗ DAMPER_POSITION_HYSTERESIS) previous)

abbrev upper : Float
upper = decimal 1 100 ⊕ (decimal 5 10 ⊗ decimal 1 100)

abbrev closes : Shown → Bool
closes s = command s <ᶠ decimal 1 100

abbrev stays : Shown → Bool
stays s = command s <ᶠ upper

closes_stays : (s : Shown) → T (closes s) → T (stays s)
closes_stays s p = lt_of_lt_of_le (command s) (decimal 1 100) upper p (unfold le round add mul in tt)

closed_since : (h : List Shown) → T (closed_after h) ↔ OnSince closes stays h
unfolding less_hysteretic
closed_since = on_since_law closes stays closes_stays

in_order_law : (h : List Shown) → OnSince closes stays h ↔ TurnedOn closes (AllStay stays) (in_order h)
in_order_law = turned_on_law closes stays closes_stays (AllStay stays) tt (λ s rest. Iff.rfl)

pub closed_law : (h : List Shown) → T (closed_after h) ↔ DamperClosed (in_order h)
closed_law h = (
  λ t. let f = (in_order_law h).0 ((closed_since h).0 t) in
      record { before = f.before; closing = f.start; since = f.since; parts = f.parts; below = f.turned_on; stays_below = f.stayed },
  λ f. (closed_since h).1
      ((in_order_law h).1 (record { before = f.before; start = f.closing; since = f.since; parts = f.parts; turned_on = f.below; stayed = f.stays_below })),
)

-- ---- the memories
pub damper_closed_kept : (choices : Choices) (h : List Tick) → (grown choices h).state.alarms.damper_closed ≡ closed_after (with_outputs choices h)
unfolding accepted_tick controller_output alarms
damper_closed_kept choices [] = refl
damper_closed_kept choices (k ∷ h) = rw (damper_closed_kept choices h)

-- the delay's input
abbrev pub leaks : Choices → List Tick → Bool
leaks choices [] = false
leaks choices (k ∷ h) = fan k && closed_after (with_outputs choices (k ∷ h)) && high_after (H choices) (k ∷ h)

pub leak_delay_kept : (choices : Choices) (h : List Tick) → (grown choices h).state.alarms.leak_delay ≡ true_delay_after (decimal 600 1) choices.quiet (samples (leaks choices) h)
unfolding accepted_tick controller_output alarms
leak_delay_kept choices [] = refl
leak_delay_kept choices (k ∷ h) = rw (leak_delay_kept choices h, damper_closed_kept choices h, flow_high_kept choices h, grown_choices choices h)

-- ---- the alarm at the accepted tick k after the history h
abbrev pub leak_held : Choices → List Tick → Bool
leak_held choices h = (true_delay_after (decimal 600 1) choices.quiet (samples (leaks choices) h)).held

abbrev leak_at : Choices → List Tick → Tick → ℤ
leak_at choices h k = (shown_at choices h k).output.leaking_damper_alarm

leak_by_state : (choices : Choices) (h : List Tick) (k : Tick) → leak_at choices h k ≡ (if (grown choices (k ∷ h)).state.alarms.leak_delay.held then pos 4 else pos 0)
unfolding accepted_tick controller_output alarms
leak_by_state choices h k = rw held_is_output

leak_by_memories : (choices : Choices) (h : List Tick) (k : Tick) → leak_at choices h k ≡ (if leak_held choices (k ∷ h) then pos 4 else pos 0)
leak_by_memories choices h k = rw (leak_by_state choices h k, leak_delay_kept choices (k ∷ h))

pub leak_is_four : (choices : Choices) (h : List Tick) (k : Tick) → (leak_at choices h k ≡ pos 4) ↔ T (leak_held choices (k ∷ h))
leak_is_four choices h k = rw (leak_by_memories choices h k) (level_if 3 (leak_held choices (k ∷ h)))
