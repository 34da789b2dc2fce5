-- Two nights, in either reading and from either start: where the accepted ticks come at the same times with the same modes, and the second night's flow is not lower and its fan not on where the first's is off, the second shows alarm 3 wherever the first does. By the laws of two histories of the dead band and of the true delay. Assumes nothing.
use mathlib.Core.Path.{◌≡◌, sym, ◌∙◌, subst}
use mathlib.Core.List.{List, [], ◌∷◌}
use mathlib.Core.Bool.{Bool, true, false, not, ◌&&◌}
use lib.Dec.{T, eqb→eq}
use lib.Ieee.{Float}
use lib.Ieee.Fits.{and_i, and_l, and_r}
use Rattle.f64_helpers.specs.F64.{decimal}
use Rattle.f64_helpers.specs.Seconds.{seconds, IsTime}
use Rattle.f64_helpers.proofs.WholeSeconds.{eq_whole}
use Rattle.cdl_recurrences.specs.DeadBand.{Related}
use Rattle.box_choices.specs.BoxChoices.{chosen}
use Rattle.box_choices.specs.declared.Choices.{Choices}
use Rattle.air_box.specs.declared.Tick.{Tick}
use Rattle.nights.specs.Nights.{Shown, night_of, shown, fan}
use Rattle.nights.specs.Demand3.{H, NoWeaker, ThreeIfThree, TwoNights}
use Rattle.nights.proofs.AcceptedTicks.{AllAccepted}
use Rattle.nights.proofs.Grown.{ShownAfter, shown_after}
use Rattle.nights.proofs.FlowHighRule.{high_after, high_kept, H_held}
use Rattle.nights.proofs.Conditions.{held_kept}
use Rattle.nights.proofs.SensorAlarm.{high_fan_off, fan_off, sensor_held, on_after, delay_reached, alarm_is_three}

-- ---- at one tick
same_seconds : (j k : Tick) → IsTime j.t → IsTime k.t → NoWeaker j k → seconds j.t ≡ seconds k.t
same_seconds j k v w r = eqb→eq (seconds j.t) (seconds k.t) (subst T (eq_whole j.t k.t (seconds j.t) (seconds k.t) v.0 w.0) r.times)

fan_off_kept : (a b c d : Bool) → (T a → T b) → (T d → T c) → T (a && not c) → T (b && not d)
fan_off_kept true true false false f g t = tt
fan_off_kept true true false true f g t = g tt
fan_off_kept true true true d f g t = absurd t
fan_off_kept true false c d f g t = absurd (f tt)
fan_off_kept false b c d f g t = absurd t

carried : (choices : Choices) (g h : List Tick) → Related NoWeaker g h → T (high_fan_off (H choices) g) → T (high_fan_off (H choices) h)
carried choices [] [] r t = t
carried choices [] (k ∷ h) r t = absurd r
carried choices (j ∷ g) [] r t = absurd r
carried choices (j ∷ g) (k ∷ h) r t = fan_off_kept (high_after (H choices) (j ∷ g)) (high_after (H choices) (k ∷ h)) (fan j) (fan k) (high_kept (H choices) (H_held choices) NoWeaker (λ j k w. w.flows) (j ∷ g) (k ∷ h) r) r.0.fans t

fan_kept : (g h : List Tick) → Related NoWeaker g h → T (fan_off g) → T (fan_off h)
fan_kept [] [] r t = t
fan_kept [] (k ∷ h) r t = absurd r
fan_kept (j ∷ g) [] r t = absurd r
fan_kept (j ∷ g) (k ∷ h) r t = fan_off_kept true true (fan j) (fan k) (λ u. u) r.0.fans t

-- ---- the alarm is on in the second night where it is in the first, by whether the reading is the second
on_kept : (second quiet : Bool) (choices : Choices) (g h : List Tick) → AllAccepted g → AllAccepted h → Related NoWeaker g h
    → T (on_after second quiet (H choices) g) → T (on_after second quiet (H choices) h)
on_kept false quiet choices g h a b r t = held_kept (high_fan_off (H choices)) NoWeaker same_seconds (carried choices) (decimal 600 1) 600 delay_reached quiet g h a b r t
on_kept true quiet choices g h a b r t =
    let held : List Tick → Bool = sensor_held quiet fan_off in
    let high : List Tick → Bool = high_after (H choices) in
    and_i (held h) (high h)
    (held_kept fan_off NoWeaker same_seconds fan_kept (decimal 600 1) 600 delay_reached quiet g h a b r (and_l (held g) (high g) t))
    (high_kept (H choices) (H_held choices) NoWeaker (λ j k w. w.flows) g h r (and_r (held g) (high g) t))

-- ---- along two nights, of boxes with one start, one cooling maximum and one reading
module _ (quiet second : Bool) (minimum other_minimum maximum : Float) where
  abbrev one : Choices
  one = chosen quiet minimum maximum second

  abbrev other : Choices
  other = chosen quiet other_minimum maximum second

  three_kept : (g h : List Tick) (ss rs : List Shown) → AllAccepted g → AllAccepted h → Related NoWeaker g h → ShownAfter one g ss → ShownAfter other h rs
      → Related (λ (a b : Shown). NoWeaker a.ticked b.ticked) ss rs → Related (λ (a b : Shown). ThreeIfThree a.output b.output) ss rs
  three_kept g h [] [] a b r p q w = tt
  three_kept g h [] (k ∷ rs) a b r p q w = absurd w
  three_kept g h (j ∷ ss) [] a b r p q w = absurd w
  three_kept g h (j ∷ ss) (k ∷ rs) a b r p q w = (
    rw (p.1, q.1) (λ e.
        let f = (alarm_is_three one g j.ticked).0 e in
        (alarm_is_three other h k.ticked).1 (
          sym w.0.modes ∙ f.0,
          on_kept second quiet one (j.ticked ∷ g) (k.ticked ∷ h) (p.0, a) (q.0, b) (w.0, r) f.1,
        )),
    three_kept (j.ticked ∷ g) (k.ticked ∷ h) ss rs (p.0, a) (q.0, b) (w.0, r) p.2 q.2 w.1,
  )

  pub two_nights : TwoNights one other
  two_nights first second = three_kept [] [] (shown (night_of one first)) (shown (night_of other second)) tt tt tt (shown_after one [] first) (shown_after other [] second)
