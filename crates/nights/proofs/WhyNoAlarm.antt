-- The reasons why there is no alarm are true of the history, after any night, from either start, for every size and in either reading. By what a box comes to by a night, and the law of a delay's timer. Assumes nothing.
use mathlib.Core.Path.{◌≡◌, refl, sym, ap, subst}
use mathlib.Core.Logic.Iff
use mathlib.Core.Logic.{◌↔◌}
use mathlib.Core.List.{List, [], ◌∷◌, cons-ne-nil, append-ne-nil_of_right_ne-nil}
use native.Mathlib.Omega.{arith}
use mathlib.Core.Bool.{Bool, true, false, not, not-not, ◌&&◌}
use lib.IntN.{pos}
use lib.Dec.{T, T_not, not_T}
use lib.Ieee.Fits.{and_i, and_l, and_r}
use Rattle.std.proofs.lemmas.List.{same_from_push}
use Rattle.std.specs.Prelude.{Some}
use Rattle.f64_helpers.specs.F64.{◌⊗◌, decimal}
use Rattle.f64_helpers.specs.Integers.{◌==ᶻ◌}
use Rattle.f64_helpers.proofs.Integers.{equals_means}
use Rattle.box_choices.specs.declared.Choices.{Choices}
use Rattle.cdl_recurrences.specs.CdlRecurrences.{greater_hysteretic, less_hysteretic, decided_by_memory}
use Rattle.cdl_recurrences.proofs.MemoryDecided.{memory_decided}
use Rattle.cooling_only_controller_airflow.specs.Airflow.{FLOW_HYSTERESIS, DAMPER_POSITION_HYSTERESIS}
use Rattle.cooling_only_controller_timing.specs.declared.TrueDelayState.{TrueDelayState}
use Rattle.air_box.specs.AirBox.{unticked, accepted_tick, tick, last_tick}
use Rattle.air_box.specs.NoAlarm.{sensor_reason, leak_reason, seconds_lacking}
use Rattle.air_box.specs.declared.Tick.{Tick}
use Rattle.air_box.specs.declared.LastTick.{LastTick}
use Rattle.air_box.specs.declared.AirBox.{AirBox}
use Rattle.air_box.specs.declared.NoAlarmReason.{NoAlarmReason}
use Rattle.air_box.specs.declared.NoAlarmReason.TheVariants.{NoTick, NotOccupied, FanOn, FanOff, DamperNotClosed, FlowNotHigh}
use Rattle.air_box.proofs.Demands.{by_verdict, tick_refused}
use Rattle.nights.specs.Nights.{box_after, night_of, Shown, shown, flow, fan, mode, FlowHigh}
use Rattle.nights.specs.Demand3.{H}
use Rattle.nights.specs.WhyNoAlarm.{ticks, command, High, Occupied, FanRuns, FanIsOff, Closed, DamperClosed, Lacks, ByMemory, SensorCondition, SensorReasonTrue, LeakCondition, LeakReasonTrue, sensor_reason_of, leak_reason_of, ReasonsTrue, AllRefused, WhyNoAlarm}
use Rattle.nights.proofs.AcceptedTicks.{AllAccepted}
use Rattle.nights.proofs.Grown.{grown, grown_choices}
use Rattle.nights.proofs.FlowHighRule.{high_after, high_law, H_held}
use Rattle.nights.proofs.SensorAlarm.{high_fan_off_means, sensor_input, sensor_held, on_after, flow_high_kept, sensor_delay_kept, alarm_is_three}
use Rattle.nights.proofs.AfterNights.{shown_at, with_outputs, accepted, ticks_in_order, after_night}
use Rattle.nights.proofs.LastRise.{alarm_delay, lacking_is, holds_if_held, one_lacking}
use Rattle.nights.proofs.LeakAlarm.{closed_after, closed_law, damper_closed_kept, leaks, leak_delay_kept, leak_is_four}
use Rattle.nights.proofs.FirstTrue.{Asked, Says, first_true, says, is_none_other}

-- three that hold together
together : (a b c : Bool) → T (a && b && c) ↔ (T a × T b × T c)
together true true c = (λ t. (tt, tt, t), λ t. t.2)
together true false c = (λ t. absurd t, λ t. absurd t.1)
together false b c = (λ t. absurd t, λ t. absurd t.0)

-- not off is on
on_if_not_off : (b : Bool) → (T (not b) → ⊥) ↔ T b
on_if_not_off true = (λ n. tt, λ t n. n)
on_if_not_off false = (λ n. n tt, λ t. absurd t)

-- ---- memory decided: the other one would have given another answer
by_memory : (answer : Bool → Bool) (Was Is : Type 0) (told memory : Bool) → told ≡ decided_by_memory answer memory → T memory ↔ Was → T (answer memory) ↔ Is → ByMemory answer Was Is told
by_memory answer Was Is told memory e m n = record { memory = memory; memory_is = m; answer_is = n; exactly = rw e (memory_decided.other_memory answer memory) }

-- ---- what is asked of the two alarms, in order
abbrev sensor_asked : Asked
sensor_asked = record { first = NotOccupied; second = FanOn; third = FlowNotHigh; above_0 = omega arith; rises = omega arith; rises_on = omega arith; below_66 = omega arith }

abbrev leak_asked : Asked
leak_asked = record { first = FanOff; second = DamperNotClosed; third = FlowNotHigh; above_0 = omega arith; rises = omega arith; rises_on = omega arith; below_66 = omega arith }

-- ---- flow is high, and the damper closed, after a history
module _ (choices : Choices) where
  was_high : (h : List Tick) → T (high_after (H choices) h) ↔ FlowHigh (H choices) (ticks (accepted choices h))
  was_high h = rw (ticks_in_order choices h) (high_law (H choices) (H_held choices) h)

  was_closed : (h : List Tick) → T (closed_after (with_outputs choices h)) ↔ DamperClosed (accepted choices h)
  was_closed h = closed_law (with_outputs choices h)

  -- what the box keeps of its last tick
  abbrev kept : List Tick → Tick → LastTick
  kept h k = last_tick (grown choices h).state.alarms k.input (command (shown_at choices h k)) (grown choices h).choices

  last_tick_is : (h : List Tick) (k : Tick) → (grown choices (k ∷ h)).last_tick ≡ Some (kept h k)
  unfolding accepted_tick
  last_tick_is h k = refl

  flow_told : (h : List Tick) (k : Tick) → (kept h k).flow_by_memory ≡ decided_by_memory (greater_hysteretic (flow k) (H choices) FLOW_HYSTERESIS) (high_after (H choices) h)
  flow_told h k = rw (flow_high_kept choices h, grown_choices choices h)

  damper_told : (h : List Tick) (k : Tick) → (kept h k).damper_by_memory
      ≡ decided_by_memory (less_hysteretic (command (shown_at choices h k)) DAMPER_POSITION_HYSTERESIS (decimal 5 10 ⊗ DAMPER_POSITION_HYSTERESIS)) (closed_after (with_outputs choices h))
  damper_told h k = rw (damper_closed_kept choices h)

  -- ---- the sensor alarm
  condition_means : (second : Bool) (h : List Tick) (k : Tick) → T (sensor_input second (H choices) (k ∷ h)) ↔ SensorCondition second choices (accepted choices h) (shown_at choices h k)
  condition_means false h k = rw (ticks_in_order choices (k ∷ h)) (high_fan_off_means (H choices) (H_held choices) h k)
  condition_means true h k = Iff.rfl

  leak_means : (h : List Tick) (k : Tick) → T (leaks choices (k ∷ h)) ↔ LeakCondition choices (accepted choices h) (shown_at choices h k)
  leak_means h k =
      let all = together (fan k) (closed_after (with_outputs choices (k ∷ h))) (high_after (H choices) (k ∷ h)) in
      (λ t. let u = all.0 t in (u.0, (was_closed (k ∷ h)).0 u.1, (was_high (k ∷ h)).0 u.2), λ c. all.1 (c.0, (was_closed (k ∷ h)).1 c.1, (was_high (k ∷ h)).1 c.2))

  module _ (h : List Tick) (k : Tick) (a : AllAccepted (k ∷ h)) where
    abbrev now : Shown
    now = shown_at choices h k

    abbrev earlier : List Shown
    earlier = accepted choices h

    abbrev box : AirBox
    box = grown choices (k ∷ h)

    abbrev high : Bool
    high = high_after (H choices) (k ∷ h)

    abbrev occupied : Bool
    occupied = mode k ==ᶻ 1

    occupied_means : T occupied ↔ Occupied now
    occupied_means = equals_means (mode k) 1

    abbrev sensor_delay : TrueDelayState
    sensor_delay = alarm_delay choices (sensor_input choices.second_reading (H choices)) (k ∷ h)

    abbrev sensor_chosen : NoAlarmReason
    sensor_chosen = first_true sensor_asked (seconds_lacking sensor_delay) occupied (not (fan k)) high sensor_delay.held

    sensor_is : sensor_reason_of box ≡ record { reason = sensor_chosen; flow_by_memory = (kept h k).flow_by_memory }
    unfolding sensor_reason
    sensor_is = rw (last_tick_is h k, flow_high_kept choices (k ∷ h), sensor_delay_kept choices (k ∷ h), not-not (fan k))

    input_there : (second : Bool) → T (not (fan k)) → T high → T (sensor_input second (H choices) (k ∷ h))
    input_there false off up = and_i high (not (fan k)) up off
    input_there true off up = off

    fan_off_there : (second : Bool) → T (sensor_input second (H choices) (k ∷ h)) → T (not (fan k))
    fan_off_there false u = and_r high (not (fan k)) u
    fan_off_there true u = u

    -- in any mode, by the reading: the alarm is on exactly if the fan is off, flow is high and the delay gives true
    on_means : (second : Bool) → (T (sensor_held choices.quiet (sensor_input second (H choices)) (k ∷ h)) → T (sensor_input second (H choices) (k ∷ h)))
        → T (on_after second choices.quiet (H choices) (k ∷ h)) ↔ (T (not (fan k)) × T high × T (sensor_held choices.quiet (sensor_input second (H choices)) (k ∷ h)))
    on_means false there = (λ t. (fan_off_there false (there t), and_l high (not (fan k)) (there t), t), λ p. p.2)
    on_means true there =
        let held = sensor_held choices.quiet (sensor_input true (H choices)) (k ∷ h) in
        (λ t. (fan_off_there true (there (and_l held high t)), and_r held high t, and_l held high t), λ p. and_i held high p.2 p.1)

    stands_means : (T occupied × T (not (fan k)) × T high × T sensor_delay.held) ↔ (now.output.airflow_sensor_alarm ≡ pos 3)
    stands_means =
        let on = on_means choices.second_reading (holds_if_held choices (sensor_input choices.second_reading (H choices)) (SensorCondition choices.second_reading choices) (condition_means choices.second_reading) h k a) in
        let three = alarm_is_three choices h k in (
          λ p. three.1 (occupied_means.0 p.0, on.1 (p.1, p.2, p.3)),
          λ e. let t = three.0 e in let o = on.0 t.1 in (occupied_means.1 t.0, o.0, o.1, o.2),
        )

    sensor_says : Says sensor_asked (Occupied now) (FanIsOff now) (High choices earlier now) (now.output.airflow_sensor_alarm ≡ pos 3)
        (Lacks (SensorCondition choices.second_reading choices) choices.quiet earlier now) sensor_chosen
    sensor_says =
        says sensor_asked (seconds_lacking sensor_delay) _ _ _ _ _ (one_lacking (SensorCondition choices.second_reading choices) choices.quiet earlier now)
        occupied (not (fan k)) high sensor_delay.held occupied_means Iff.rfl (was_high (k ∷ h)) stands_means
        (λ occ off up held. lacking_is choices (sensor_input choices.second_reading (H choices)) (SensorCondition choices.second_reading choices) (condition_means choices.second_reading) h k a (input_there choices.second_reading off up) held)

    sensor_true : SensorReasonTrue choices earlier now (sensor_reason_of box)
    sensor_true =
        rw sensor_is record {
          not_occupied = sensor_says.first;
          fan_on = Iff.trans sensor_says.second (Iff.and Iff.rfl (on_if_not_off (fan k)));
          flow_not_high = sensor_says.third;
          held = sensor_says.held;
          from_1_to_600 = sensor_says.from_1_to_600;
          alarm_stands = sensor_says.stands;
          no_other = (
            is_none_other sensor_asked (seconds_lacking sensor_delay) NoTick (λ e. cc) (λ e. cc) (λ e. cc) (λ e. cc) (λ e. cc) occupied (not (fan k)) high sensor_delay.held,
            is_none_other sensor_asked (seconds_lacking sensor_delay) FanOff (λ e. cc) (λ e. cc) (λ e. cc) (λ e. cc) (λ e. cc) occupied (not (fan k)) high sensor_delay.held,
            is_none_other sensor_asked (seconds_lacking sensor_delay) DamperNotClosed (λ e. cc) (λ e. cc) (λ e. cc) (λ e. cc) (λ e. cc) occupied (not (fan k)) high sensor_delay.held,
          );
          flow_by_memory = by_memory _ _ _ (kept h k).flow_by_memory (high_after (H choices) h) (flow_told h k) (was_high h) (was_high (k ∷ h));
        }

    -- ---- the leak alarm
    abbrev closed : Bool
    closed = closed_after (with_outputs choices (k ∷ h))

    abbrev leak_delay : TrueDelayState
    leak_delay = alarm_delay choices (leaks choices) (k ∷ h)

    abbrev leak_chosen : NoAlarmReason
    leak_chosen = first_true leak_asked (seconds_lacking leak_delay) (fan k) closed high leak_delay.held

    leak_is : leak_reason_of box
        ≡ record { reason = leak_chosen; damper_by_memory = (kept h k).damper_by_memory; flow_by_memory = (kept h k).flow_by_memory }
    unfolding leak_reason
    leak_is = rw (last_tick_is h k, flow_high_kept choices (k ∷ h), damper_closed_kept choices (k ∷ h), leak_delay_kept choices (k ∷ h))

    -- where the delay gives true, fan, damper and flow are as a leak has them
    leak_stands_means : (T (fan k) × T closed × T high × T leak_delay.held) ↔ (now.output.leaking_damper_alarm ≡ pos 4)
    leak_stands_means = (
      λ p. (leak_is_four choices h k).1 p.3,
      λ e.
          let t = (leak_is_four choices h k).0 e in
          let u = (together (fan k) closed high).0 (holds_if_held choices (leaks choices) (LeakCondition choices) leak_means h k a t) in
          (u.0, u.1, u.2, t),
    )

    leak_says : Says leak_asked (FanRuns now) (Closed earlier now) (High choices earlier now) (now.output.leaking_damper_alarm ≡ pos 4)
        (Lacks (LeakCondition choices) choices.quiet earlier now) leak_chosen
    leak_says =
        says leak_asked (seconds_lacking leak_delay) _ _ _ _ _ (one_lacking (LeakCondition choices) choices.quiet earlier now)
        (fan k) closed high leak_delay.held Iff.rfl (was_closed (k ∷ h)) (was_high (k ∷ h)) leak_stands_means
        (λ runs shut up held. lacking_is choices (leaks choices) (LeakCondition choices) leak_means h k a ((together (fan k) closed high).1 (runs, shut, up)) held)

    leak_true : LeakReasonTrue choices earlier now (leak_reason_of box)
    leak_true =
        rw leak_is record {
          fan_off = Iff.trans leak_says.first (λ n. not_T (fan k) n, λ t. T_not (fan k) t);
          damper_not_closed = leak_says.second;
          flow_not_high = leak_says.third;
          held = λ n. Iff.trans (leak_says.held n) (λ t. ((t.0, t.1, t.2), t.3, t.4), λ t. (t.0.0, t.0.1, t.0.2, t.1, t.2));
          from_1_to_600 = leak_says.from_1_to_600;
          alarm_stands = leak_says.stands;
          no_other = (
            is_none_other leak_asked (seconds_lacking leak_delay) NoTick (λ e. cc) (λ e. cc) (λ e. cc) (λ e. cc) (λ e. cc) (fan k) closed high leak_delay.held,
            is_none_other leak_asked (seconds_lacking leak_delay) NotOccupied (λ e. cc) (λ e. cc) (λ e. cc) (λ e. cc) (λ e. cc) (fan k) closed high leak_delay.held,
            is_none_other leak_asked (seconds_lacking leak_delay) FanOn (λ e. cc) (λ e. cc) (λ e. cc) (λ e. cc) (λ e. cc) (fan k) closed high leak_delay.held,
          );
          damper_by_memory = by_memory _ _ _ (kept h k).damper_by_memory (closed_after (with_outputs choices h)) (damper_told h k) (was_closed h) (was_closed (k ∷ h));
          flow_by_memory = by_memory _ _ _ (kept h k).flow_by_memory (high_after (H choices) h) (flow_told h k) (was_high h) (was_high (k ∷ h));
        }

  -- ---- of a box that has accepted a history
  reasons_after : (h : List Tick) → AllAccepted h → ReasonsTrue choices (accepted choices h) (grown choices h)
  unfolding sensor_reason leak_reason
  reasons_after [] a =
      record {
        no_tick = λ e. (refl, refl);
        sensor = λ earlier now e. absurd (append-ne-nil_of_right_ne-nil earlier (cons-ne-nil now []) (sym e));
        leak = λ earlier now e. absurd (append-ne-nil_of_right_ne-nil earlier (cons-ne-nil now []) (sym e));
      }
  reasons_after (k ∷ h) a =
      record {
        no_tick = λ e. absurd (append-ne-nil_of_right_ne-nil (accepted choices h) (cons-ne-nil (shown_at choices h k) []) e);
        sensor = λ before last e. let same = same_from_push (accepted choices h) before (shown_at choices h k) last e in
            subst (λ (l : List Shown). SensorReasonTrue choices l last (sensor_reason_of (grown choices (k ∷ h)))) same.0
            (subst (λ (s : Shown). SensorReasonTrue choices (accepted choices h) s (sensor_reason_of (grown choices (k ∷ h)))) same.1 (sensor_true h k a));
        leak = λ before last e. let same = same_from_push (accepted choices h) before (shown_at choices h k) last e in
            subst (λ (l : List Shown). LeakReasonTrue choices l last (leak_reason_of (grown choices (k ∷ h)))) same.0
            (subst (λ (s : Shown). LeakReasonTrue choices (accepted choices h) s (leak_reason_of (grown choices (k ∷ h)))) same.1 (leak_true h k a));
      }

  true_of_the_history : (night : List Tick) → ReasonsTrue choices (shown (night_of choices night)) (box_after tick (unticked choices) night)
  true_of_the_history night =
      let came = after_night choices night in
      rw (came.shown_ticks, came.box) (reasons_after came.history came.all_accepted)

-- ---- refused ticks
refused_leave : (box : AirBox) (refused : List Tick) → AllRefused box.last_time refused → box_after tick box refused ≡ box
refused_leave box [] r = refl
refused_leave box (k ∷ ks) r =
    by_verdict box.last_time k (λ all. absurd (r.0 all))
    (λ reason first. rw (tick_refused box k reason first) (refused_leave box ks r.1))

pub why_no_alarm : WhyNoAlarm
why_no_alarm = record {
  true_of_the_history = true_of_the_history;
  refused_ticks_leave_it = λ box refused r. (ap sensor_reason_of (refused_leave box refused r), ap leak_reason_of (refused_leave box refused r));
}
