-- The induction along a night, from either start: the box that a night has come to is the one that has accepted the history of its accepted ticks, and none besides.
-- What holds of that box after any history of accepted ticks holds along every night (`along`), and of every accepted tick with its outputs (`shown_after`). Assumes nothing.
use mathlib.Core.Path.{◌≡◌, refl, sym, subst}
use mathlib.Core.Logic.{inl, inr}
use mathlib.Core.List.{List, [], ◌∷◌}
use Rattle.std.specs.Prelude.{Float, Option, Err}
use Rattle.box_choices.specs.declared.Choices.{Choices}
use Rattle.cdl_recurrences.specs.DeadBand.{Related}
use Rattle.air_box.specs.AirBox.{unticked, accepted_tick, tick, outputs_or_number, refusal_number}
use Rattle.air_box.specs.Demand1.{AllYes, FirstNo}
use Rattle.air_box.specs.Demand2.{controller_step_of}
use Rattle.air_box.specs.declared.Tick.{Tick}
use Rattle.air_box.specs.declared.AirBox.{AirBox}
use Rattle.air_box.specs.declared.AirBoxStep.{AirBoxStep}
use Rattle.air_box.specs.declared.Refusal.{Refusal}
use Rattle.air_box.proofs.Demands.{tick_accepted, tick_refused, by_verdict}
use Rattle.nights.specs.Nights.{NightStep, steps_by, steps, Along, Shown, shown}
use Rattle.nights.proofs.Histories.{in_order, newest_time}
use Rattle.nights.proofs.AcceptedTicks.{AllAccepted}

-- the box that was built with these choices and has accepted the ticks of the history
abbrev pub grown : Choices → List Tick → AirBox
grown choices [] = unticked choices
grown choices (k ∷ h) = (accepted_tick (grown choices h) k).state

pub grown_last : (choices : Choices) (h : List Tick) → (grown choices h).last_time ≡ newest_time h
unfolding accepted_tick
grown_last choices [] = refl
grown_last choices (k ∷ h) = refl

pub grown_choices : (choices : Choices) (h : List Tick) → (grown choices h).choices ≡ choices
unfolding accepted_tick
grown_choices choices [] = refl
grown_choices choices (k ∷ h) = grown_choices choices h

-- ---- its tick
pub grown_accepts : (choices : Choices) (h : List Tick) (k : Tick) → AllYes (newest_time h) k → tick (grown choices h) k ≡ accepted_tick (grown choices h) k
grown_accepts choices h k all = tick_accepted (grown choices h) k (subst (λ (last : Option Float). AllYes last k) (sym (grown_last choices h)) all)

pub grown_refuses : (choices : Choices) (h : List Tick) (k : Tick) (reason : Refusal) → FirstNo reason (newest_time h) k → tick (grown choices h) k ≡ record { state = grown choices h; answer = Err reason }
grown_refuses choices h k reason first = tick_refused (grown choices h) k reason (subst (λ (last : Option Float). FirstNo reason last k) (sym (grown_last choices h)) first)

-- a step of a night, by what the box's tick gives
abbrev pub step_by : Tick → AirBoxStep → NightStep
step_by k s = record { ticked = k; given = outputs_or_number s.answer; box = s.state }

-- ---- along a night
module _ (choices : Choices) (P : List Tick → NightStep → Type 0)
    (accepted : (h : List Tick) (k : Tick) → AllAccepted (k ∷ h) → P (in_order h) (record { ticked = k; given = inl (controller_step_of (grown choices h) k).output; box = grown choices (k ∷ h) }))
    (refused : (h : List Tick) (k : Tick) (reason : Refusal) → AllAccepted h → FirstNo reason (newest_time h) k → P (in_order h) (record { ticked = k; given = inr (refusal_number reason); box = grown choices h })) where
  pub along : (h ks : List Tick) → AllAccepted h → Along P (in_order h) (steps (grown choices h) ks)
  unfolding accepted_tick
  along h [] a = tt
  along h (k ∷ ks) a =
      by_verdict (newest_time h) k
      (λ all. subst (λ (s : AirBoxStep). Along P (in_order h) (step_by k s ∷ steps s.state ks)) (sym (grown_accepts choices h k all)) (accepted h k (all, a), along (k ∷ h) ks (all, a)))
      (λ reason first. subst (λ (s : AirBoxStep). Along P (in_order h) (step_by k s ∷ steps s.state ks)) (sym (grown_refuses choices h k reason first)) (refused h k reason a first, along h ks a))

-- ---- the accepted ticks with their outputs

-- each was accepted after the one before it, the first after the history h, and its outputs are those of the box that had accepted these
abbrev pub ShownAfter : Choices → List Tick → List Shown → Type 0
ShownAfter choices h [] = Unit
ShownAfter choices h (s ∷ rest) = AllYes (newest_time h) s.ticked × (s.output ≡ (controller_step_of (grown choices h) s.ticked).output) × ShownAfter choices (s.ticked ∷ h) rest

pub shown_after : (choices : Choices) (h ks : List Tick) → ShownAfter choices h (shown (steps (grown choices h) ks))
unfolding accepted_tick
shown_after choices h [] = tt
shown_after choices h (k ∷ ks) =
    by_verdict (newest_time h) k
    (λ all. subst (λ (s : AirBoxStep). ShownAfter choices h (shown (step_by k s ∷ steps s.state ks))) (sym (grown_accepts choices h k all)) (all, refl, shown_after choices (k ∷ h) ks))
    (λ reason first. subst (λ (s : AirBoxStep). ShownAfter choices h (shown (step_by k s ∷ steps s.state ks))) (sym (grown_refuses choices h k reason first)) (shown_after choices h ks))

-- ---- two boxes along one night, which accept and refuse the same ticks

-- A box that is ticked by `ticked`. It is `after h` once it has accepted the history h, and `step h k` is what it then does with a tick k that it accepts.
pub record Grows (ticked : AirBox → Tick → AirBoxStep) (after : List Tick → AirBox) (step : List Tick → Tick → AirBoxStep) : Type 0 where
  pub next : (h : List Tick) (k : Tick) → (step h k).state ≡ after (k ∷ h)
  pub accepts : (h : List Tick) (k : Tick) → AllYes (newest_time h) k → ticked (after h) k ≡ step h k
  pub refuses : (h : List Tick) (k : Tick) (reason : Refusal) → FirstNo reason (newest_time h) k → ticked (after h) k ≡ record { state = after h; answer = Err reason }

-- the box of today, by what was chosen when it was built
pub grows : (choices : Choices) → Grows tick (grown choices) (λ h k. accepted_tick (grown choices h) k)
grows choices = record { next = λ h k. refl; accepts = grown_accepts choices; refuses = grown_refuses choices }

module _ (one_ticked other_ticked : AirBox → Tick → AirBoxStep) (one other : List Tick → AirBox) (one_step other_step : List Tick → Tick → AirBoxStep)
    (one_Grows : Grows one_ticked one one_step) (other_grows : Grows other_ticked other other_step) (R : NightStep → NightStep → Type 0)
    (accepted : (h : List Tick) (k : Tick) → AllAccepted (k ∷ h) → R (step_by k (one_step h k)) (step_by k (other_step h k)))
    (refused : (h : List Tick) (k : Tick) (reason : Refusal)
    → R (record { ticked = k; given = inr (refusal_number reason); box = one h }) (record { ticked = k; given = inr (refusal_number reason); box = other h })) where
  pub along_two : (h ks : List Tick) → AllAccepted h → Related R (steps_by one_ticked (one h) ks) (steps_by other_ticked (other h) ks)
  along_two h [] a = tt
  along_two h (k ∷ ks) a =
      by_verdict (newest_time h) k
      (λ all. rw (one_Grows.accepts h k all, other_grows.accepts h k all) (accepted h k (all, a), rw (one_Grows.next h k, other_grows.next h k) (along_two (k ∷ h) ks (all, a))))
      (λ reason first. rw (one_Grows.refuses h k reason first, other_grows.refuses h k reason first) (refused h k reason, along_two h ks a))
