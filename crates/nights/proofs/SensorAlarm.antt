-- The airflow sensor alarm of a box after a history of accepted ticks, in either reading and from either start: its memories are those of the dead band and of the true delay over that history, and the alarm is 3 by them. Assumes nothing.
use mathlib.Core.Path.{◌≡◌, refl}
use mathlib.Core.Logic.{◌↔◌, ◌⊎◌}
use mathlib.Core.List.{List, [], ◌∷◌}
use Prim.Native.Nat.{ℕ, suc}
use native.Mathlib.Omega.{arith}
use mathlib.Core.Bool.{Bool, true, false, not, ◌&&◌}
use lib.IntN.{ℤ, pos}
use lib.Dec.{T}
use lib.Ieee.{Float, binary64, fits}
use lib.Ieee.Fits.{and_i, and_l, and_r}
use Rattle.f64_helpers.specs.F64.{decimal}
use Rattle.std.specs.Prelude.{if◌then◌else◌}
use Rattle.f64_helpers.specs.Integers.{◌==ᶻ◌}
use Rattle.f64_helpers.proofs.Integers.{equals_means}
use Rattle.f64_helpers.proofs.WholeSeconds.{Reach}
use Rattle.box_choices.specs.declared.Choices.{Choices}
use Rattle.cooling_only_controller_timing.specs.History.{true_delay_after}
use Rattle.cooling_only_controller_timing.specs.declared.TrueDelayState.{TrueDelayState}
use Rattle.cooling_only_controller_timing.proofs.TrueDelayLaw.{held_is_output}
use Rattle.cooling_only_controller_airflow.specs.Airflow.{alarms}
use Rattle.cooling_only_controller_airflow.proofs.AlarmsByFan.{level_or_none}
use Rattle.cooling_only_controller.specs.Controller.{controller_output}
use Rattle.air_box.specs.AirBox.{accepted_tick}
use Rattle.air_box.specs.Demand2.{controller_step_of}
use Rattle.air_box.specs.declared.Tick.{Tick}
use Rattle.nights.specs.Nights.{fan, mode, HighFanOff}
use Rattle.nights.specs.Demand3.{H}
use Rattle.nights.proofs.Histories.{in_order}
use Rattle.nights.proofs.AcceptedTicks.{decimal_reached}
use Rattle.nights.proofs.Grown.{grown, grown_choices}
use Rattle.nights.proofs.FlowHighRule.{high_after, high_law}
use Rattle.nights.proofs.Conditions.{samples}

-- ---- the delay's input in the first reading: flow is high with the fan off
abbrev pub high_fan_off : Float → List Tick → Bool
high_fan_off limit [] = false
high_fan_off limit (k ∷ h) = high_after limit (k ∷ h) && not (fan k)

pub high_fan_off_means : (limit : Float) → T (fits binary64 limit) → (h : List Tick) (k : Tick) → T (high_fan_off limit (k ∷ h)) ↔ HighFanOff limit (in_order h) k
high_fan_off_means limit held h k =
    let high = high_after limit (k ∷ h) in
    let law = high_law limit held (k ∷ h) in (
      λ u. (law.0 (and_l high (not (fan k)) u), and_r high (not (fan k)) u),
      λ f. and_i high (not (fan k)) (law.1 f.0) f.1,
    )

-- ---- in the second: the fan is off
abbrev pub fan_off : List Tick → Bool
fan_off [] = false
fan_off (k ∷ h) = not (fan k)

-- ---- by whether the reading is the second
abbrev pub sensor_input : Bool → Float → List Tick → Bool
sensor_input second limit h = if second then fan_off h else high_fan_off limit h

pub delay_reached : Reach (decimal 600 1) 600
delay_reached = decimal_reached 600 (omega arith)

-- ---- the memories
abbrev pub sensor_delay_after : Bool → (List Tick → Bool) → List Tick → TrueDelayState
sensor_delay_after quiet input h = true_delay_after (decimal 600 1) quiet (samples input h)

abbrev pub sensor_held : Bool → (List Tick → Bool) → List Tick → Bool
sensor_held quiet input h = (sensor_delay_after quiet input h).held

-- whether the alarm is on by them, in any mode, by whether the reading is the second
abbrev pub on_after : Bool → Bool → Float → List Tick → Bool
on_after second quiet limit h =
    let held = sensor_held quiet (sensor_input second limit) h in
    if second then held && high_after limit h else held

abbrev pub sensor_on_after : Choices → List Tick → Bool
sensor_on_after choices h = on_after choices.second_reading choices.quiet (H choices) h

pub flow_high_kept : (choices : Choices) (h : List Tick) → (grown choices h).state.alarms.flow_high ≡ high_after (H choices) h
unfolding accepted_tick controller_output alarms
flow_high_kept choices [] = refl
flow_high_kept choices (k ∷ h) = rw (flow_high_kept choices h, grown_choices choices h)

pub sensor_delay_kept : (choices : Choices) (h : List Tick) → (grown choices h).state.alarms.sensor_delay ≡ sensor_delay_after choices.quiet (sensor_input choices.second_reading (H choices)) h
unfolding accepted_tick controller_output alarms
sensor_delay_kept choices [] = refl
sensor_delay_kept choices (k ∷ h) = rw (sensor_delay_kept choices h, flow_high_kept choices h, grown_choices choices h)

-- ---- the alarm at the accepted tick k after the history h
abbrev alarm_at : Choices → List Tick → Tick → ℤ
alarm_at choices h k = (controller_step_of (grown choices h) k).output.airflow_sensor_alarm

alarm_by_memories : (choices : Choices) (h : List Tick) (k : Tick) → alarm_at choices h k ≡ (if sensor_on_after choices (k ∷ h) && (mode k ==ᶻ 1) then pos 3 else pos 0)
unfolding controller_output alarms
alarm_by_memories choices h k = rw (held_is_output, sensor_delay_kept choices h, flow_high_kept choices h, grown_choices choices h)

-- an alarm's level stands exactly if the alarm is on
pub level_if : (n : ℕ) (b : Bool) → ((if b then pos (suc n) else pos 0) ≡ pos (suc n)) ↔ T b
level_if n true = (λ e. tt, λ t. refl)
level_if n false = (λ e. cc, λ t. absurd t)

-- it is 3 exactly if the mode is 1 and the alarm is on; else it is 0
pub alarm_is_three : (choices : Choices) (h : List Tick) (k : Tick) → (alarm_at choices h k ≡ pos 3) ↔ ((mode k ≡ pos 1) × T (sensor_on_after choices (k ∷ h)))
alarm_is_three choices h k =
    let on = sensor_on_after choices (k ∷ h) in
    let level = level_if 2 (on && (mode k ==ᶻ 1)) in
    rw (alarm_by_memories choices h k) (
      λ e. ((equals_means (mode k) 1).0 (and_r on (mode k ==ᶻ 1) (level.0 e)), and_l on (mode k ==ᶻ 1) (level.0 e)),
      λ p. level.1 (and_i on (mode k ==ᶻ 1) p.1 ((equals_means (mode k) 1).1 p.0)),
    )

pub alarm_three_or_none : (choices : Choices) (h : List Tick) (k : Tick) → (alarm_at choices h k ≡ pos 3) ⊎ (alarm_at choices h k ≡ pos 0)
alarm_three_or_none choices h k = rw (alarm_by_memories choices h k) (level_or_none 3 (sensor_on_after choices (k ∷ h) && (mode k ==ᶻ 1)))
