-- Document 02, N3: why there is no sensor alarm, and why there is no leak alarm, of a box and its last accepted tick: one reason, the first that is true.
-- What is asked is what the box keeps: of the last accepted tick (`last_tick` of AirBox.antt), and the memories of the alarms stage after it.
-- That the reasons are true of the history of the box is the claim WhyNoAlarm.antt of nights.
use Rattle.std.specs.Prelude.{ℕ, false, not, Option, Some, None, codes, List, if◌then◌else◌}
use Rattle.std.specs.Float.Ieee.{to_unsigned}
use Rattle.f64_helpers.specs.F64.{◌⊖◌, decimal}
use Rattle.f64_helpers.specs.Integers.{◌==ᶻ◌}
use Rattle.cooling_only_controller_timing.specs.declared.TrueDelayState.{TrueDelayState}
use Rattle.cooling_only_controller_airflow.specs.declared.AlarmsState.{AlarmsState}
use Rattle.air_box.specs.declared.LastTick.{LastTick}
use Rattle.air_box.specs.declared.NoAlarmReason.{NoAlarmReason}
use Rattle.air_box.specs.declared.NoAlarmReason.TheVariants.{AlarmStands, NoTick, NotOccupied, FanOn, FanOff, DamperNotClosed, FlowNotHigh, Held}
use Rattle.air_box.specs.declared.SensorReason.{SensorReason}
use Rattle.air_box.specs.declared.LeakReason.{LeakReason}

-- ---- a reason's number, seconds and words

-- None of the numbers is that of a refusal or a desk code, 0 apart: there nothing is wrong, here the alarm stands.
abbrev pub reason_number : NoAlarmReason → ℕ
reason_number AlarmStands = 0
reason_number NoTick = 60
reason_number NotOccupied = 61
reason_number FanOn = 62
reason_number FanOff = 63
reason_number DamperNotClosed = 64
reason_number FlowNotHigh = 65
reason_number (Held seconds_lacking) = 66

-- the seconds still lacking; 0 with any reason but `Held`
abbrev pub reason_seconds : NoAlarmReason → ℕ
reason_seconds (Held seconds_lacking) = seconds_lacking
reason_seconds _ = 0

abbrev pub reason_words : NoAlarmReason → List ℕ
reason_words AlarmStands = codes "the alarm stands"
reason_words NoTick = codes "no tick yet"
reason_words NotOccupied = codes "mode not 1"
reason_words FanOn = codes "fan on"
reason_words FanOff = codes "fan off"
reason_words DamperNotClosed = codes "damper not closed"
reason_words FlowNotHigh = codes "flow not high"
reason_words (Held seconds_lacking) = codes "held"

-- ---- what the alarm's delay of 600 seconds says

-- 600 less the delay's timer, as a whole number: toward zero, 0 for a NaN or a timer above 600, and at most 65,535, for a timer far below 0.
-- The timer of a box that was built and has had nothing but ticks is a whole number from 0 to 599 here.
abbrev pub seconds_lacking : TrueDelayState → ℕ
seconds_lacking delay = to_unsigned 16 (decimal 600 1 ⊖ delay.timer)

abbrev pub held_or_stands : TrueDelayState → NoAlarmReason
held_or_stands delay = if delay.held then AlarmStands else Held (seconds_lacking delay)

-- ---- the sensor alarm

-- In the first reading the delay runs on flow that is high with the fan off, in the second on the fan alone (document 02, N12). So the same words serve both.
abbrev pub no_sensor_alarm : LastTick → AlarmsState → NoAlarmReason
no_sensor_alarm last s =
    if not (last.mode ==ᶻ 1) then NotOccupied
    else (if last.fan then FanOn
    else (if not s.flow_high then FlowNotHigh
    else held_or_stands s.sensor_delay))

unfoldable pub sensor_reason : Option LastTick → AlarmsState → SensorReason
sensor_reason None s = record { reason = NoTick; flow_by_memory = false }
sensor_reason (Some last) s = record { reason = no_sensor_alarm last s; flow_by_memory = last.flow_by_memory }

-- ---- the leak alarm. The mode is not asked: the Rust's rule for the leak does not ask it.

abbrev pub no_leak_alarm : LastTick → AlarmsState → NoAlarmReason
no_leak_alarm last s =
    if not last.fan then FanOff
    else (if not s.damper_closed then DamperNotClosed
    else (if not s.flow_high then FlowNotHigh
    else held_or_stands s.leak_delay))

unfoldable pub leak_reason : Option LastTick → AlarmsState → LeakReason
leak_reason None s = record { reason = NoTick; damper_by_memory = false; flow_by_memory = false }
leak_reason (Some last) s =
    record { reason = no_leak_alarm last s; damper_by_memory = last.damper_by_memory; flow_by_memory = last.flow_by_memory }
