-- N4. The old and the new box differ in the arming delay's first step alone. By the induction along a night both hold the same but for three delays; LowAirflowAlarm.antt has what these give. Assumes nothing.
use mathlib.Core.Path.{◌≡◌, refl, sym, ap, ◌∙◌, subst}
use mathlib.Core.List.{List, [], ◌∷◌}
use mathlib.Core.Bool.{false}
use lib.Ieee.{Float, round, neg, sub, add, mul, lt, le, eq, is_nan}
use Rattle.std.specs.Prelude.{Option, Some, Result, Ok, Err, ⊤}
use Rattle.f64_helpers.specs.F64.{decimal}
use Rattle.f64_helpers.specs.Helpers.{max}
use Rattle.f64_helpers.proofs.Tests.{and_false}
use Rattle.box_choices.specs.declared.Choices.{Choices}
use Rattle.cdl_recurrences.specs.CdlRecurrences.{true_delay_output, hysteresis, less_hysteretic, greater_hysteretic}
use Rattle.cdl_recurrences.specs.DeadBand.{Related}
use Rattle.cooling_only_controller_timing.specs.Timing.{true_delay}
use Rattle.cooling_only_controller_timing.proofs.TrueDelayLaw.{on_init_at_the_first_alone}
use Rattle.cooling_only_controller_airflow.specs.Airflow.{damper, alarms}
use Rattle.cooling_only_controller_airflow.specs.declared.AlarmsState.{AlarmsState}
use Rattle.cooling_only_controller.specs.Controller.{controller_output}
use Rattle.cooling_only_controller_timing.specs.declared.Step.{Step}
use Rattle.air_box.specs.AirBox.{unticked, decided, accepted_tick, tick, questions, outputs_or_number}
use Rattle.air_box.specs.Demand1.{AllYes, FirstNo}
use Rattle.air_box.specs.Demand2.{controller_step_of}
use Rattle.air_box.specs.declared.Tick.{Tick}
use Rattle.air_box.specs.declared.AirBox.{AirBox}
use Rattle.air_box.specs.declared.AirBoxStep.{AirBoxStep}
use Rattle.air_box.specs.declared.Refusal.{Refusal}
use Rattle.air_box.proofs.Demands.{questions_accept, questions_refuse, by_verdict}
use Rattle.nights.specs.Nights.{NightStep, steps, box_after, fan}
use Rattle.nights.specs.AlarmsStage.{controller_with, accepted_with, decided_with, tick_with}
use Rattle.nights.specs.QuietStart.{alarms_armed, old_alarms, old_tick, old_steps, OnePlace, PlainUntouched, NineOutputs, NeverLater, SameFields, SameButLowAirflow, EveryNight, SameFromAStop, BenchCase, QuietStart}
use Rattle.nights.proofs.Histories.{newest_time}
use Rattle.nights.proofs.AcceptedTicks.{AllAccepted}
use Rattle.nights.proofs.Grown.{grown, grown_last, grown_choices, grown_accepts, grown_refuses, Grows, grows, along_two}
use Rattle.cooling_only_controller.specs.declared.ControllerState.{ControllerState}
use Rattle.cooling_only_controller.specs.declared.ControllerOutput.{ControllerOutput}
use Rattle.nights.proofs.LowAirflowAlarm.{Taken, AlarmsAlong, never_later}

one_place : OnePlace
unfolding alarms alarms_armed controller_output
one_place = record { stage = λ s t input choices. refl; controller = λ s t input choices. refl }

-- ---- where the arming delay steps alike, so does the box
abbrev ArmsAlike : AirBox → Tick → Type 0
ArmsAlike box k =
    let arming = box.state.alarms.fan_armed in
    true_delay arming k.t (fan k) (decimal 1800 1) false ≡ true_delay arming k.t (fan k) (decimal 1800 1) box.choices.quiet

decided_alike : (v : Result ⊤ Refusal) (box : AirBox) (k : Tick) → ArmsAlike box k → decided v box k ≡ decided_with old_alarms v box k
unfolding accepted_tick accepted_with controller_output alarms alarms_armed
decided_alike (Ok _) box k e = rw e
decided_alike (Err reason) box k e = refl

tick_alike : (box : AirBox) (k : Tick) → ArmsAlike box k → tick box k ≡ old_tick box k
unfolding tick tick_with
tick_alike box k e = decided_alike (questions box.last_time k) box k e

plain_untouched : PlainUntouched
plain_untouched box k plain = tick_alike box k (rw plain)

-- ---- once the arming delay has had a tick it steps alike
abbrev HasTicked : AirBox → Type 0
HasTicked box = (p : Float) × (box.state.alarms.fan_armed.previous_time ≡ Some p)

accepted_ticked : (box : AirBox) (k : Tick) → HasTicked (accepted_tick box k).state
unfolding accepted_tick controller_output alarms true_delay
accepted_ticked box k = (k.t, refl)

still_ticked : (v : Result ⊤ Refusal) (box : AirBox) (k : Tick) → HasTicked box → HasTicked (decided v box k).state
still_ticked (Ok _) box k e = accepted_ticked box k
still_ticked (Err reason) box k e = e

-- two nights go on alike after a tick that is alike
steps_from : (new old : AirBox) (k : Tick) (rest : List Tick) → tick new k ≡ old_tick old k → steps (tick new k).state rest ≡ old_steps (tick new k).state rest
    → steps new (k ∷ rest) ≡ old_steps old (k ∷ rest)
steps_from new old k rest alike after =
    rw (sym alike) (ap (λ (l : List NightStep). record { ticked = k; given = outputs_or_number (tick new k).answer; box = (tick new k).state } ∷ l) after)

steps_alike : (box : AirBox) (ks : List Tick) → HasTicked box → steps box ks ≡ old_steps box ks
unfolding tick
steps_alike box [] e = refl
steps_alike box (k ∷ ks) e =
    steps_from box box k ks
    (tick_alike box k (on_init_at_the_first_alone _ k.t (fan k) (decimal 1800 1) box.choices.quiet e.0 e.1))
    (steps_alike (tick box k).state ks (still_ticked (questions box.last_time k) box k e))

-- ---- one accepted tick of two boxes that hold the same but for the three delays
abbrev with_alarms : AlarmsState → AirBox → AirBox
with_alarms a box =
    record {
      state = record {
        time_suppression = box.state.time_suppression;
        control_loops = box.state.control_loops;
        setpoints = box.state.setpoints;
        zone_states = box.state.zone_states;
        dampers = box.state.dampers;
        system_requests = box.state.system_requests;
        alarms = a;
      };
      last_time = box.last_time;
      choices = box.choices;
      last_tick = box.last_tick;
    }

abbrev old_step_of : AirBox → Tick → Step ControllerState ControllerOutput
old_step_of box k = controller_with old_alarms box.state k.t k.input box.choices

-- the old box is the new one with its own alarms
old_box : (new old : AirBox) → SameFields new old → old ≡ with_alarms old.state.alarms new
old_box new old same =
    rw (
      same.time_suppression,
      same.control_loops,
      same.setpoints,
      same.zone_states,
      same.dampers,
      same.system_requests,
      same.last_time,
      same.choices,
      same.last_tick,
    )

fields_of : (new old : AirBox) (k : Tick) → SameFields new old → SameFields (accepted_tick new k).state (accepted_with old_alarms old k).state
unfolding accepted_tick accepted_with controller_output alarms alarms_armed
fields_of new old k same =
    subst (λ (o : AirBox). SameFields (accepted_tick new k).state (accepted_with old_alarms o k).state) (sym (old_box new old same)) record {
      time_suppression = refl;
      control_loops = refl;
      setpoints = refl;
      zone_states = refl;
      dampers = refl;
      system_requests = refl;
      setpoint_nonzero = rw same.setpoint_nonzero;
      setpoint_on = rw (same.setpoint_nonzero, same.setpoint_on);
      low_half = rw same.low_half;
      low_seventy = rw same.low_seventy;
      flow_high = rw same.flow_high;
      sensor_delay = rw (same.flow_high, same.sensor_delay);
      damper_closed = rw same.damper_closed;
      leak_delay = rw (same.damper_closed, same.flow_high, same.leak_delay);
      last_time = refl;
      choices = refl;
      last_tick = rw (same.flow_high, same.damper_closed);
    }

outputs_of : (new old : AirBox) (k : Tick) → SameFields new old → NineOutputs (controller_step_of new k).output (old_step_of old k).output
unfolding controller_output alarms alarms_armed
outputs_of new old k same =
    subst (λ (o : AirBox). NineOutputs (controller_step_of new k).output (old_step_of o k).output) (sym (old_box new old same)) record {
      airflow_setpoint = refl;
      damper_command = refl;
      adjusted_population_flow = refl;
      adjusted_area_flow = refl;
      minimum_outdoor_airflow = refl;
      temperature_request = refl;
      pressure_request = refl;
      airflow_sensor_alarm = rw (same.flow_high, same.sensor_delay);
      leaking_damper_alarm = rw (same.damper_closed, same.flow_high, same.leak_delay);
    }

-- With the fan off the three delays are given false, and what they held is nothing to them.
stop_alike : (new old : AirBox) (k : Tick) → SameFields new old → fan k ≡ false → accepted_tick new k ≡ accepted_with old_alarms old k
unfolding accepted_tick accepted_with controller_output alarms alarms_armed true_delay true_delay_output
stop_alike new old k same off =
    subst (λ (o : AirBox). accepted_tick new k ≡ accepted_with old_alarms o k) (sym (old_box new old same))
    (rw (off, same.setpoint_nonzero, same.setpoint_on, same.low_half, same.low_seventy, same.flow_high, same.sensor_delay, same.damper_closed, and_false, and_false))

-- ---- both boxes after a history of accepted ticks
abbrev old_grown : Choices → List Tick → AirBox
old_grown choices [] = unticked choices
old_grown choices (k ∷ h) = (accepted_with old_alarms (old_grown choices h) k).state

fields_kept : (choices : Choices) (h : List Tick) → SameFields (grown choices h) (old_grown choices h)
fields_kept choices [] = record {
  time_suppression = refl;
  control_loops = refl;
  setpoints = refl;
  zone_states = refl;
  dampers = refl;
  system_requests = refl;
  setpoint_nonzero = refl;
  setpoint_on = refl;
  low_half = refl;
  low_seventy = refl;
  flow_high = refl;
  sensor_delay = refl;
  damper_closed = refl;
  leak_delay = refl;
  last_time = refl;
  choices = refl;
  last_tick = refl;
}
fields_kept choices (k ∷ h) = fields_of (grown choices h) (old_grown choices h) k (fields_kept choices h)

-- ---- the low airflow alarm of both

new_taken : (box : AirBox) (k : Tick)
    → Taken false box.choices k box.state.alarms (accepted_tick box k).state.state.alarms (controller_step_of box k).output.low_airflow_alarm
unfolding accepted_tick accepted_with controller_output alarms alarms_armed
new_taken box k = (_, refl, refl, refl, refl)

old_taken : (box : AirBox) (k : Tick)
    → Taken box.choices.quiet box.choices k box.state.alarms (accepted_with old_alarms box k).state.state.alarms (old_step_of box k).output.low_airflow_alarm
unfolding accepted_with
old_taken box k = (_, refl, refl, refl, refl)

abbrev new_along : (choices : Choices) → AlarmsAlong false choices
new_along choices = record {
  after = λ h. (grown choices h).state.alarms;
  level = λ h k. (controller_step_of (grown choices h) k).output.low_airflow_alarm;
  fresh = refl;
  taken = λ h k. subst (λ (c : Choices). Taken false c k (grown choices h).state.alarms (grown choices (k ∷ h)).state.alarms (controller_step_of (grown choices h) k).output.low_airflow_alarm) (grown_choices choices h) (new_taken (grown choices h) k);
}

abbrev old_along : (choices : Choices) → AlarmsAlong choices.quiet choices
old_along choices = record {
  after = λ h. (old_grown choices h).state.alarms;
  level = λ h k. (old_step_of (old_grown choices h) k).output.low_airflow_alarm;
  fresh = refl;
  taken = λ h k. subst (λ (c : Choices). Taken c.quiet c k (old_grown choices h).state.alarms (old_grown choices (k ∷ h)).state.alarms (old_step_of (old_grown choices h) k).output.low_airflow_alarm) (sym (fields_kept choices h).choices ∙ grown_choices choices h) (old_taken (old_grown choices h) k);
}

earlier_or_same : (choices : Choices) (h : List Tick) (k : Tick) → AllAccepted (k ∷ h) → NeverLater (controller_step_of (grown choices h) k).output (old_step_of (old_grown choices h) k).output
earlier_or_same choices = never_later choices (new_along choices) (old_along choices) (λ h.
    let same = fields_kept choices h in record { low_half = same.low_half; low_seventy = same.low_seventy; setpoint_on = same.setpoint_on })

-- ---- along a night
old_last : (choices : Choices) (h : List Tick) → (old_grown choices h).last_time ≡ newest_time h
old_last choices h = sym (fields_kept choices h).last_time ∙ grown_last choices h

old_accepts : (choices : Choices) (h : List Tick) (k : Tick) → AllYes (newest_time h) k → old_tick (old_grown choices h) k ≡ accepted_with old_alarms (old_grown choices h) k
unfolding tick_with
old_accepts choices h k all = rw (old_last choices h, (questions_accept (newest_time h) k).1 all)

old_refuses : (choices : Choices) (h : List Tick) (k : Tick) (reason : Refusal) → FirstNo reason (newest_time h) k → old_tick (old_grown choices h) k ≡ record { state = old_grown choices h; answer = Err reason }
unfolding tick_with
old_refuses choices h k reason first = rw (old_last choices h, (questions_refuse (newest_time h) k reason).1 first)

old_grows : (choices : Choices) → Grows old_tick (old_grown choices) (λ h k. accepted_with old_alarms (old_grown choices h) k)
old_grows choices = record { next = λ h k. refl; accepts = old_accepts choices; refuses = old_refuses choices }

along_both : (choices : Choices) (h ks : List Tick) → AllAccepted h → Related SameButLowAirflow (steps (grown choices h) ks) (old_steps (old_grown choices h) ks)
unfolding accepted_tick accepted_with
along_both choices =
    along_two tick old_tick (grown choices) (old_grown choices) (λ h k. accepted_tick (grown choices h) k) (λ h k. accepted_with old_alarms (old_grown choices h) k)
    (grows choices) (old_grows choices) SameButLowAirflow
    (λ h k a. record { ticked = refl; given = (outputs_of _ _ k (fields_kept choices h), earlier_or_same choices h k a); fields = fields_kept choices (k ∷ h) })
    (λ h k reason. record { ticked = refl; given = refl; fields = fields_kept choices h })

every_night : EveryNight
every_night choices night = along_both choices [] night tt

-- ---- from the fan's stop on
-- what a night has come to: a history that both boxes have accepted
abbrev Reached : Choices → List Tick → AirBox → AirBox → Type 0
Reached choices ks new old = (g : List Tick) × AllAccepted g × (box_after tick new ks ≡ grown choices g) × (box_after old_tick old ks ≡ old_grown choices g)

reached : (choices : Choices) (h ks : List Tick) → AllAccepted h → Reached choices ks (grown choices h) (old_grown choices h)
reached choices h [] a = (h, a, refl, refl)
reached choices h (k ∷ ks) a =
    by_verdict (newest_time h) k
    (λ all.
    subst (λ (new : AirBoxStep). Reached choices ks new.state (old_tick (old_grown choices h) k).state) (sym (grown_accepts choices h k all))
    (subst (λ (old : AirBoxStep). Reached choices ks (grown choices (k ∷ h)) old.state) (sym (old_accepts choices h k all)) (reached choices (k ∷ h) ks (all, a))))
    (λ reason first.
    subst (λ (new : AirBoxStep). Reached choices ks new.state (old_tick (old_grown choices h) k).state) (sym (grown_refuses choices h k reason first))
    (subst (λ (old : AirBoxStep). Reached choices ks (grown choices h) old.state) (sym (old_refuses choices h k reason first)) (reached choices h ks a)))

stopped : (choices : Choices) (h : List Tick) (k : Tick) (rest : List Tick) → AllYes (newest_time h) k → fan k ≡ false → steps (grown choices h) (k ∷ rest) ≡ old_steps (old_grown choices h) (k ∷ rest)
stopped choices h k rest all off =
    let new = grown choices h in
    let old = old_grown choices h in
    steps_from new old k rest
    (grown_accepts choices h k all ∙ stop_alike new old k (fields_kept choices h) off ∙ sym (old_accepts choices h k all))
    (steps_alike (tick new k).state rest (rw (grown_accepts choices h k all) (accepted_ticked new k)))

same_from_a_stop : SameFromAStop
same_from_a_stop choices before k rest all off =
    let (g, a, new, old) = reached choices [] before tt in
    rw (new, old) (stopped choices g k rest (subst (λ (last : Option Float). AllYes last k) (ap (λ (b : AirBox). b.last_time) new ∙ grown_last choices g) all) off)

bench_case : BenchCase
unfolding questions accepted_tick tick controller_output damper alarms accepted_with tick_with alarms_armed
    true_delay true_delay_output hysteresis less_hysteretic greater_hysteretic max round neg sub add mul lt le eq is_nan
bench_case = record { armed = refl; low = refl; armed_before = refl; low_before = refl }

pub quiet_start : QuietStart
quiet_start = record { one_place = one_place; plain_untouched = plain_untouched; every_night = every_night; same_from_a_stop = same_from_a_stop; bench_case = bench_case }
