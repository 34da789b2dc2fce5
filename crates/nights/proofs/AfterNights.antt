-- What a box comes to by any night: the history of its accepted ticks, these with their own outputs, and the box that has accepted them. Assumes nothing.
use mathlib.Core.Path.{◌≡◌, refl, sym, ap, ◌∙◌}
use mathlib.Core.List.{List, [], ◌∷◌, ◌++◌, append_assoc, append-nil}
use Rattle.std.proofs.lemmas.List.{map_push}
use Rattle.box_choices.specs.declared.Choices.{Choices}
use Rattle.air_box.specs.AirBox.{accepted_tick, tick}
use Rattle.air_box.specs.Demand2.{controller_step_of}
use Rattle.air_box.specs.declared.Tick.{Tick}
use Rattle.air_box.proofs.Demands.{by_verdict}
use Rattle.nights.specs.Nights.{steps, box_after, Shown, shown}
use Rattle.nights.specs.WhyNoAlarm.{ticks}
use Rattle.nights.proofs.Histories.{in_order, newest_time}
use Rattle.nights.proofs.AcceptedTicks.{AllAccepted}
use Rattle.nights.proofs.Grown.{grown, grown_accepts, grown_refuses}

-- the tick k, accepted after the history h, with its outputs
abbrev pub shown_at : Choices → List Tick → Tick → Shown
shown_at choices h k = record { ticked = k; output = (controller_step_of (grown choices h) k).output }

-- a history with the outputs of each of its ticks
abbrev pub with_outputs : Choices → List Tick → List Shown
with_outputs choices [] = []
with_outputs choices (k ∷ h) = shown_at choices h k ∷ with_outputs choices h

-- the same, the oldest first
abbrev pub accepted : Choices → List Tick → List Shown
accepted choices h = in_order (with_outputs choices h)

pub ticks_in_order : (choices : Choices) (h : List Tick) → ticks (accepted choices h) ≡ in_order h
ticks_in_order choices [] = refl
ticks_in_order choices (k ∷ h) =
    map_push (λ (s : Shown). s.ticked) (accepted choices h) (shown_at choices h k) ∙ ap (λ (l : List Tick). l ++ (k ∷ [])) (ticks_in_order choices h)

-- the night `ks`, after the history h
pub record CameTo (choices : Choices) (h ks : List Tick) : Type 0 where
  pub history : List Tick
  pub all_accepted : AllAccepted history
  pub shown_ticks : accepted choices h ++ shown (steps (grown choices h) ks) ≡ accepted choices history
  pub box : box_after tick (grown choices h) ks ≡ grown choices history

pub came_to : (choices : Choices) (h ks : List Tick) → AllAccepted h → CameTo choices h ks
unfolding accepted_tick
came_to choices h [] a = record { history = h; all_accepted = a; shown_ticks = append-nil (accepted choices h); box = refl }
came_to choices h (k ∷ ks) a =
    by_verdict (newest_time h) k
    (λ all.
    let on = came_to choices (k ∷ h) ks (all, a) in
    record {
      history = on.history;
      all_accepted = on.all_accepted;
      shown_ticks = rw (grown_accepts choices h k all)
          (sym (append_assoc (accepted choices h) (shown_at choices h k ∷ []) (shown (steps (grown choices (k ∷ h)) ks))) ∙ on.shown_ticks);
      box = rw (grown_accepts choices h k all) on.box;
    })
    (λ reason first.
    let on = came_to choices h ks a in
    record {
      history = on.history;
      all_accepted = on.all_accepted;
      shown_ticks = rw (grown_refuses choices h k reason first) on.shown_ticks;
      box = rw (grown_refuses choices h k reason first) on.box;
    })

pub after_night : (choices : Choices) (night : List Tick) → CameTo choices [] night
after_night choices night = came_to choices [] night tt
