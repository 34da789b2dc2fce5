-- Document 02, N3: small nights and what is told after each of their ticks, where a wrong rule would tell something else; and the seconds that are told
-- where a delay's timer is no number that a box comes to. Each is computed.
use Rattle.std.specs.Prelude.{◌≡◌, List, [], ◌∷◌, ℕ, Bool, true, false, ℤ, pos, Float, None}
use Rattle.std.specs.Float.{nan, inf}
use Rattle.std.specs.Float.Ieee.{neg}
use Rattle.f64_helpers.specs.F64.{decimal, zero}
use Rattle.box_choices.specs.BoxChoices.{chosen}
use Rattle.air_box.specs.AirBox.{unticked, tick}
use Rattle.air_box.specs.BenchTick.{bench_tick}
use Rattle.air_box.specs.NoAlarm.{seconds_lacking}
use Rattle.air_box.specs.declared.Tick.{Tick}
use Rattle.air_box.specs.declared.AirBox.{AirBox}
use Rattle.air_box.specs.declared.NoAlarmReason.{NoAlarmReason}
use Rattle.air_box.specs.declared.NoAlarmReason.TheVariants.{AlarmStands, NotOccupied, FanOn, FanOff, DamperNotClosed, FlowNotHigh, Held}
use Rattle.air_box.specs.declared.SensorReason.{SensorReason}
use Rattle.air_box.specs.declared.LeakReason.{LeakReason}
use Rattle.nights.specs.WhyNoAlarm.{sensor_reason_of, leak_reason_of}

-- ---- a night, and the reasons after each of its ticks, refused ones among them

abbrev pub told_after : {A : Type 0} → (AirBox → A) → AirBox → List Tick → List A
told_after reason_of box [] = []
told_after reason_of box (k ∷ ks) = reason_of (tick box k).state ∷ told_after reason_of (tick box k).state ks

-- of a box of the usual size, by its start and whether it has the second reading
abbrev pub sensor_told : Bool → Bool → List Tick → List SensorReason
sensor_told quiet second_reading night = told_after sensor_reason_of (unticked (chosen quiet (decimal 5 10) (decimal 15 10) second_reading)) night

abbrev pub leak_told : Bool → List Tick → List LeakReason
leak_told quiet night = told_after leak_reason_of (unticked (chosen quiet (decimal 5 10) (decimal 15 10) false)) night

-- `bench_tick` at another time and in another mode
abbrev pub at_time : Float → ℤ → Tick → Tick
at_time t mode k =
    let input = k.input in
    record {
      t = t;
      input = record {
        zone_temperature = input.zone_temperature;
        cooling_setpoint = input.cooling_setpoint;
        heating_setpoint = input.heating_setpoint;
        window_status = input.window_status;
        occupancy_status = input.occupancy_status;
        operating_mode = mode;
        co2_setpoint = input.co2_setpoint;
        co2_concentration = input.co2_concentration;
        discharge_air_temperature = input.discharge_air_temperature;
        supply_air_temperature = input.supply_air_temperature;
        discharge_airflow = input.discharge_airflow;
        airflow_override_index = input.airflow_override_index;
        damper_override_index = input.damper_override_index;
        supply_fan_status = input.supply_fan_status;
      };
    }

-- a tick with this flow, the fan off or on, in mode 1; the damper is closed by its override where the fan is on
abbrev pub with_fan_off : ℕ → Float → Tick
with_fan_off t flow = at_time (decimal t 1) (pos 1) (bench_tick flow (pos 0) (pos 0) false)

abbrev pub with_fan_on : ℕ → Float → Tick
with_fan_on t flow = at_time (decimal t 1) (pos 1) (bench_tick flow (pos 0) (pos 1) true)

abbrev pub in_mode_2 : Tick → Tick
in_mode_2 k = at_time k.t (pos 2) k

-- flows above H, in its dead band, and below that
abbrev pub high : Float
high = decimal 2 10

abbrev pub between : Float
between = decimal 145 1000

abbrev pub low : Float
low = decimal 1 10

abbrev pub sensor : NoAlarmReason → Bool → SensorReason
sensor reason flow_by_memory = record { reason = reason; flow_by_memory = flow_by_memory }

abbrev pub leak : NoAlarmReason → Bool → Bool → LeakReason
leak reason damper_by_memory flow_by_memory = record { reason = reason; damper_by_memory = damper_by_memory; flow_by_memory = flow_by_memory }

-- ---- the nights
pub record ReasonNights : Type 0 where
  -- The mode is left aside in the rise: after ten minutes in mode 2 the alarm stands at once in mode 1.
  pub mode_left_aside :
      sensor_told true false
      (in_mode_2 (with_fan_off 0 high) ∷ in_mode_2 (with_fan_off 240 high) ∷ in_mode_2 (with_fan_off 480 high) ∷ with_fan_off 600 high ∷ [])
      ≡ sensor NotOccupied false ∷ sensor NotOccupied false ∷ sensor NotOccupied false ∷ sensor AlarmStands false ∷ []
  -- Two ticks in the same second, and -0.0 after 0.0; then flow in the dead band: high by memory.
  pub same_second :
      sensor_told true false
      (with_fan_off 0 high ∷ at_time (neg zero) (pos 1) (with_fan_off 0 high) ∷ with_fan_off 60 between ∷ with_fan_off 60 between ∷ [])
      ≡ sensor (Held 600) false ∷ sensor (Held 600) false ∷ sensor (Held 540) true ∷ sensor (Held 540) true ∷ []
  -- A plain start's first tick with the condition true: the alarm stands.
  pub plain_first_tick : sensor_told false false (with_fan_off 0 high ∷ []) ≡ sensor AlarmStands false ∷ []
  -- A refused tick with the fan on, one with too large a flow, is no fall.
  pub refused_is_no_fall :
      sensor_told true false (with_fan_off 0 high ∷ with_fan_on 60 (decimal 11 1) ∷ with_fan_off 120 high ∷ [])
      ≡ sensor (Held 600) false ∷ sensor (Held 600) false ∷ sensor (Held 480) false ∷ []
  -- It is the condition's rise that counts, not the flow's: the fan is on first. An accepted fall begins the count anew.
  pub fan_in_the_rise :
      sensor_told true false (with_fan_on 0 high ∷ with_fan_off 60 high ∷ with_fan_off 180 high ∷ with_fan_on 240 high ∷ with_fan_off 300 high ∷ [])
      ≡ sensor FanOn false ∷ sensor (Held 600) false ∷ sensor (Held 480) false ∷ sensor FanOn false ∷ sensor (Held 600) false ∷ []
  -- The second reading counts from the fan's last stop, also while flow is not high, which is asked first.
  pub from_the_last_stop :
      sensor_told true true (with_fan_off 0 low ∷ with_fan_off 60 between ∷ with_fan_off 120 high ∷ [])
      ≡ sensor FlowNotHigh false ∷ sensor FlowNotHigh true ∷ sensor (Held 480) false ∷ []
  -- In a plain start with the fan off since the very first tick nothing is held there.
  pub plain_second : sensor_told false true (with_fan_off 0 low ∷ with_fan_off 60 high ∷ []) ≡ sensor FlowNotHigh false ∷ sensor AlarmStands false ∷ []
  -- The leak: the mode is not asked.
  pub leak_in_mode_2 :
      leak_told true (with_fan_off 0 high ∷ in_mode_2 (with_fan_on 60 high) ∷ in_mode_2 (with_fan_on 180 between) ∷ [])
      ≡ leak FanOff false false ∷ leak (Held 600) false false ∷ leak (Held 480) false true ∷ []
  -- Of several that are true the first is told: the mode before the fan, and that before the flow,
  pub first_told :
      sensor_told true false (in_mode_2 (with_fan_on 0 low) ∷ with_fan_on 60 low ∷ with_fan_off 120 low ∷ [])
      ≡ sensor NotOccupied false ∷ sensor FanOn false ∷ sensor FlowNotHigh false ∷ []
  -- and of the leak the damper before the flow: opened by its override here, and then closed by it.
  pub damper_open :
      leak_told true (at_time zero (pos 1) (bench_tick low (pos 2) (pos 2) true) ∷ with_fan_on 60 low ∷ [])
      ≡ leak DamperNotClosed false false ∷ leak FlowNotHigh false false ∷ []

-- ---- seconds told of any timer

-- of a delay with this timer
abbrev pub lacking_at : Float → ℕ
lacking_at timer = seconds_lacking (record { previous_time = None; previous_input = true; held = false; timer = timer })

pub record AnyTimer : Type 0 where
  pub of_nan : lacking_at nan ≡ 0
  pub of_infinity : lacking_at (inf false) ≡ 0
  pub of_minus_infinity : lacking_at (inf true) ≡ 65535
  pub of_600 : lacking_at (decimal 600 1) ≡ 0
  pub of_huge : lacking_at (decimal 1000000 1) ≡ 0
  pub of_negative : lacking_at (neg (decimal 1 1)) ≡ 601
  pub of_huge_negative : lacking_at (neg (decimal 1000000 1)) ≡ 65535
  -- what is left of a second is left out
  pub of_fraction : lacking_at (decimal 5995 10) ≡ 0
