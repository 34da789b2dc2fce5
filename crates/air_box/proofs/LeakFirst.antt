-- N7. The alarms of an accepted tick are those of the alarms stage, whose laws leave seven lines; each claim about a tick is then a claim about those seven. Assumes nothing.
use mathlib.Core.Path.{◌≡◌, refl, sym, ap, ◌∙◌, subst}
use mathlib.Core.Logic.{◌⊎◌, inl, inr}
use Prim.Native.Nat.{ℕ}
use mathlib.Core.Bool.{Bool, true, false}
use lib.IntN.{pos}
use lib.Dec.{not_T}
use lib.Ieee.{Float, round, neg, sub, mul, lt, le, eq, is_nan}
use lib.Ieee.Bits.{is_true, is_false}
use Rattle.f64_helpers.specs.F64.{decimal}
use Rattle.f64_helpers.specs.Helpers.{max}
use Rattle.f64_helpers.specs.Integers.{◌==ᶻ◌}
use Rattle.f64_helpers.proofs.Integers.{equals_means}
use Rattle.box_choices.specs.declared.Choices.{Choices}
use Rattle.cdl_recurrences.specs.CdlRecurrences.{hysteresis, less_hysteretic, greater_hysteretic, true_delay_output}
use Rattle.cooling_only_controller_timing.specs.Timing.{true_delay}
use Rattle.cooling_only_controller_airflow.specs.Airflow.{damper, alarms}
use Rattle.cooling_only_controller_airflow.specs.declared.AlarmInput.{AlarmInput}
use Rattle.cooling_only_controller_airflow.specs.declared.AlarmOutput.{AlarmOutput}
use Rattle.cooling_only_controller_airflow.specs.declared.AlarmsState.{AlarmsState}
use Rattle.cooling_only_controller_airflow.proofs.AlarmsByFan.{low_levels, sensor_levels, leak_levels, sensor_with_fan_on, low_with_fan_off, leak_with_fan_off}
use Rattle.cooling_only_controller.specs.Controller.{controller_output}
use Rattle.air_box.specs.AirBox.{questions, accepted_tick, tick, fresh_box, desk_code}
use Rattle.air_box.specs.Demand2.{controller_step_of}
use Rattle.air_box.specs.BenchTick.{bench_tick}
use Rattle.air_box.specs.LeakFirst.{alarms_of, Shows, AtEveryTick, code, old_code, Low, ListOfChanges, SensorAlone, levels, Line, line_of, together, Among, Tells, OfAnyThree, LeakFirst}
use Rattle.air_box.specs.declared.Tick.{Tick}
use Rattle.air_box.specs.declared.AirBox.{AirBox}
use Rattle.air_box.specs.declared.Start.TheVariants.{Plain}
use Rattle.air_box.proofs.Demands.{demand_1, demand_2}

-- ---- the alarms of an accepted tick are those of the stage
stage : (box : AirBox) (k : Tick) → (input : AlarmInput) × (alarms_of (controller_step_of box k).output ≡ (alarms box.state.alarms k.t input box.choices).output)
unfolding controller_output
stage box k = (_, refl)

shown_by_stage : (box : AirBox) (k : Tick) (a : AlarmOutput) → Shows box k a → (alarms box.state.alarms k.t (stage box k).0 box.choices).output ≡ a
shown_by_stage box k a (output, given, same) =
    let all = (demand_1.outputs_if_all_yes box k).0 (output, given) in
    let alike : (controller_step_of box k).output ≡ output = cc ((demand_2 box k all).outputs, given) in
    sym (stage box k).1 ∙ ap alarms_of alike ∙ same

-- ---- the list is complete
three_of : (a : AlarmOutput) (low sensor leak : ℕ) → a.low_airflow ≡ pos low → a.airflow_sensor ≡ pos sensor → a.leaking_damper ≡ pos leak → line_of a ≡ line_of (levels low sensor leak)
three_of a low sensor leak e f g = ap line_of (rw (sym e, sym f, sym g))

with_fan_on : (a : AlarmOutput) → a.airflow_sensor ≡ pos 0
    → (a.low_airflow ≡ pos 2) ⊎ ((a.low_airflow ≡ pos 3) ⊎ (a.low_airflow ≡ pos 0))
    → (a.leaking_damper ≡ pos 4) ⊎ (a.leaking_damper ≡ pos 0)
    → Among (line_of a) together
unfolding desk_code
with_fan_on a sensor (inr (inr low)) (inr leak) = inl (three_of a 0 0 0 low sensor leak)
with_fan_on a sensor (inl low) (inr leak) = inr (inl (three_of a 2 0 0 low sensor leak))
with_fan_on a sensor (inr (inl low)) (inr leak) = inr (inr (inl (three_of a 3 0 0 low sensor leak)))
with_fan_on a sensor (inr (inr low)) (inl leak) = inr (inr (inr (inr (inl (three_of a 0 0 4 low sensor leak)))))
with_fan_on a sensor (inl low) (inl leak) = inr (inr (inr (inr (inr (inl (three_of a 2 0 4 low sensor leak))))))
with_fan_on a sensor (inr (inl low)) (inl leak) = inr (inr (inr (inr (inr (inr (inl (three_of a 3 0 4 low sensor leak)))))))

with_fan_off : (a : AlarmOutput) → a.low_airflow ≡ pos 0 → a.leaking_damper ≡ pos 0
    → (a.airflow_sensor ≡ pos 3) ⊎ (a.airflow_sensor ≡ pos 0)
    → Among (line_of a) together
unfolding desk_code
with_fan_off a low leak (inr sensor) = inl (three_of a 0 0 0 low sensor leak)
with_fan_off a low leak (inl sensor) = inr (inr (inr (inl (three_of a 0 3 0 low sensor leak))))

of_stage : (s : AlarmsState) (t : Float) (input : AlarmInput) (choices : Choices) → Among (line_of (alarms s t input choices).output) together
of_stage s t input choices = by_fan input.supply_fan_status refl
  where
    by_fan : (fan : Bool) → input.supply_fan_status ≡ fan → Among (line_of (alarms s t input choices).output) together
    by_fan true e = with_fan_on _ (sensor_with_fan_on s t input choices e) (low_levels s t input choices) (leak_levels s t input choices)
    by_fan false e = with_fan_off _ (low_with_fan_off s t input choices e) (leak_with_fan_off s t input choices e) (sensor_levels s t input choices)

complete : AtEveryTick (λ a. Among (line_of a) together)
complete box k a shows = subst (λ (x : AlarmOutput). Among (line_of x) together) (shown_by_stage box k a shows) (of_stage _ _ _ _)

-- ---- what holds of the seven holds of every accepted tick
by_lines : (P : AlarmOutput → Type 0) → P (levels 0 0 0) → P (levels 2 0 0) → P (levels 3 0 0) → P (levels 0 3 0) → P (levels 0 0 4) → P (levels 2 0 4) → P (levels 3 0 4)
    → AtEveryTick P
by_lines P p000 p200 p300 p030 p004 p204 p304 box k a shows = go (complete box k a shows)
  where
    at : (l : Line) → P l.standing → line_of a ≡ l → P a
    at l p e = subst P (ap (λ (m : Line). m.standing) (sym e)) p

    go : Among (line_of a) together → P a
    go (inl e) = at _ p000 e
    go (inr (inl e)) = at _ p200 e
    go (inr (inr (inl e))) = at _ p300 e
    go (inr (inr (inr (inl e)))) = at _ p030 e
    go (inr (inr (inr (inr (inl e))))) = at _ p004 e
    go (inr (inr (inr (inr (inr (inl e)))))) = at _ p204 e
    go (inr (inr (inr (inr (inr (inr (inl e))))))) = at _ p304 e
    go (inr (inr (inr (inr (inr (inr (inr e))))))) = absurd e

-- ---- the list of changes, of a line that stays and of the two that move
kept : (a : AlarmOutput) → code a ≡ old_code a → ¬ ((a.leaking_damper ≡ pos 4) × Low a) → ListOfChanges a
kept a same none = record {
  changed = (λ other. absurd (other same), λ both. absurd (none both));
  from_12 = λ leak low. absurd (none (leak, inl low));
  from_13 = λ leak low. absurd (none (leak, inr low));
  no_other = λ n. same;
}

without_a_leak : (low sensor : ℕ) → ¬ ((pos 0 ≡ pos 4) × Low (levels low sensor 0))
without_a_leak low sensor both = cc

without_low : (sensor leak : ℕ) → ¬ Low (levels 0 sensor leak)
without_low sensor leak (inl e) = cc
without_low sensor leak (inr e) = cc

list_of_changes : AtEveryTick ListOfChanges
unfolding desk_code
list_of_changes =
    by_lines ListOfChanges
    (kept (levels 0 0 0) refl (without_a_leak 0 0))
    (kept (levels 2 0 0) refl (without_a_leak 2 0))
    (kept (levels 3 0 0) refl (without_a_leak 3 0))
    (kept (levels 0 3 0) refl (without_a_leak 0 3))
    (kept (levels 0 0 4) refl (λ both. without_low 0 4 both.1))
    record {
      changed = (λ other. (refl, inl refl), λ both e. cc);
      from_12 = λ leak low. (refl, refl);
      from_13 = λ leak low. cc;
      no_other = λ none. absurd (none (refl, inl refl));
    }
    record {
      changed = (λ other. (refl, inr refl), λ both e. cc);
      from_12 = λ leak low. cc;
      from_13 = λ leak low. (refl, refl);
      no_other = λ none. absurd (none (refl, inr refl));
    }

-- ---- the sensor rule overlaps neither
without_sensor : (low leak : ℕ) → SensorAlone (levels low 0 leak)
without_sensor low leak = record {
  without_leak = λ sensor. cc;
  without_low = λ sensor. cc;
}

sensor_alone : AtEveryTick SensorAlone
sensor_alone =
    by_lines SensorAlone (without_sensor 0 0) (without_sensor 2 0) (without_sensor 3 0)
    record { without_leak = λ sensor leak. cc; without_low = λ sensor. without_low 3 0 }
    (without_sensor 0 4) (without_sensor 2 4) (without_sensor 3 4)

-- ---- what a code tells: its own alarms, and nothing of another code's
tells_leak : (low : ℕ) → Tells (levels low 0 4)
unfolding desk_code
tells_leak low = record {
  code_0 = λ e. cc;
  code_12 = λ e. cc;
  code_13 = λ e. cc;
  code_23 = λ e. cc;
  code_34 = λ e. (refl, refl);
}

tells : AtEveryTick Tells
unfolding desk_code
tells =
    by_lines Tells
    record { code_0 = λ e. refl; code_12 = λ e. cc; code_13 = λ e. cc; code_23 = λ e. cc; code_34 = λ e. cc }
    record { code_0 = λ e. cc; code_12 = λ e. refl; code_13 = λ e. cc; code_23 = λ e. cc; code_34 = λ e. cc }
    record { code_0 = λ e. cc; code_12 = λ e. cc; code_13 = λ e. refl; code_23 = λ e. cc; code_34 = λ e. cc }
    record { code_0 = λ e. cc; code_12 = λ e. cc; code_13 = λ e. cc; code_23 = λ e. refl; code_34 = λ e. cc }
    (tells_leak 0) (tells_leak 2) (tells_leak 3)

-- ---- of any three numbers, by the test that comes first
any_three : (a : AlarmOutput) → OfAnyThree a
unfolding desk_code
any_three a =
    let test = a.leaking_damper ==ᶻ 4 in
    let leak = equals_means a.leaking_damper 4 in
    record {
      leak_4 = λ e. rw (is_true test (leak.1 e));
      other_leak = λ other. rw (is_false test (not_T test (λ t. other (leak.0 t))));
    }

-- ---- each line is shown, by a first tick with flow 0.3, these overrides and this fan
abbrev First : ℕ → ℕ → Bool → AlarmOutput → Type 0
First airflow_override damper_override fan a = Shows (fresh_box Plain) (bench_tick (decimal 3 10) (pos airflow_override) (pos damper_override) fan) a

first_ticks : First 1 2 true (levels 0 0 0) × First 2 2 true (levels 2 0 0) × First 3 2 true (levels 3 0 0) × First 1 2 false (levels 0 3 0)
    × First 1 1 true (levels 0 0 4) × First 2 1 true (levels 2 0 4) × First 3 1 true (levels 3 0 4)
unfolding questions accepted_tick tick controller_output damper alarms
    true_delay true_delay_output hysteresis less_hysteretic greater_hysteretic max round neg sub mul lt le eq is_nan
first_ticks = ((_, refl, refl), (_, refl, refl), (_, refl, refl), (_, refl, refl), (_, refl, refl), (_, refl, refl), (_, refl, refl))

each_shown : (l : Line) → Among l together → (k : Tick) × (a : AlarmOutput) × Shows (fresh_box Plain) k a × (line_of a ≡ l)
unfolding desk_code
each_shown l (inl e) = (_, _, first_ticks.0, sym e)
each_shown l (inr (inl e)) = (_, _, first_ticks.1, sym e)
each_shown l (inr (inr (inl e))) = (_, _, first_ticks.2, sym e)
each_shown l (inr (inr (inr (inl e)))) = (_, _, first_ticks.3, sym e)
each_shown l (inr (inr (inr (inr (inl e))))) = (_, _, first_ticks.4, sym e)
each_shown l (inr (inr (inr (inr (inr (inl e)))))) = (_, _, first_ticks.5, sym e)
each_shown l (inr (inr (inr (inr (inr (inr (inl e))))))) = (_, _, first_ticks.6, sym e)
each_shown l (inr (inr (inr (inr (inr (inr (inr e))))))) = absurd e

pub leak_first : LeakFirst
leak_first = record {
  list_of_changes = list_of_changes;
  sensor_alone = sensor_alone;
  complete = complete;
  each_shown = each_shown;
  tells = tells;
  any_three = any_three;
  document_02 = first_ticks.6;
}
