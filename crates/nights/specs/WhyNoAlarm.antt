-- Document 02, N3: why there is no sensor alarm, and why there is no leak alarm. The reasons (NoAlarm.antt of air_box) are true of the history.
-- A night is any list of ticks, of a box of either start, of every size and with either reading of the sensor alarm. Its accepted ticks, each with its
-- own outputs, are what is asked of; the ticks that were refused count for nothing. What is said after a night is said at every tick of it, since a
-- night that ends there is a night.
-- The methods `AirBox::sensor_reason` and `AirBox::leak_reason` are proved to return `sensor_reason` and `leak_reason`, and `AirBox::tick` to return `tick`.
use Rattle.std.specs.Prelude.{◌≡◌, ◌≢◌, ◌↔◌, ◌⊎◌, List, [], ◌∷◌, ◌++◌, map, ℕ, ◌+◌, ◌≤◌, Bool, true, false, not, pos, T, Float, Option}
use Rattle.f64_helpers.specs.F64.{◌⊕◌, ◌⊗◌, ◌<ᶠ◌, decimal}
use Rattle.f64_helpers.specs.Seconds.{seconds}
use Rattle.box_choices.specs.declared.Choices.{Choices}
use Rattle.cdl_recurrences.specs.CdlRecurrences.{greater_hysteretic, less_hysteretic}
use Rattle.cdl_recurrences.specs.DeadBand.{AllStay}
use Rattle.cooling_only_controller_airflow.specs.Airflow.{FLOW_HYSTERESIS, DAMPER_POSITION_HYSTERESIS}
use Rattle.air_box.specs.AirBox.{unticked, tick}
use Rattle.air_box.specs.Demand1.{AllYes}
use Rattle.air_box.specs.NoAlarm.{sensor_reason, leak_reason}
use Rattle.air_box.specs.declared.Tick.{Tick}
use Rattle.air_box.specs.declared.AirBox.{AirBox}
use Rattle.air_box.specs.declared.NoAlarmReason.TheVariants.{AlarmStands, NoTick, NotOccupied, FanOn, FanOff, DamperNotClosed, FlowNotHigh, Held}
use Rattle.air_box.specs.declared.SensorReason.{SensorReason}
use Rattle.air_box.specs.declared.LeakReason.{LeakReason}
use Rattle.nights.specs.Nights.{night_of, box_after, Shown, shown, flow, fan, mode, FlowHigh, HoldsAlong}
use Rattle.nights.specs.Demand3.{H}

-- ---- what is asked at the accepted tick `now`, before which those of `earlier` were accepted

-- what the ticks carry
abbrev pub ticks : List Shown → List Tick
ticks accepted = map (λ (s : Shown). s.ticked) accepted

abbrev pub Occupied : Shown → Type 0
Occupied now = mode now.ticked ≡ pos 1

abbrev pub FanRuns : Shown → Type 0
FanRuns now = T (fan now.ticked)

abbrev pub FanIsOff : Shown → Type 0
FanIsOff now = T (not (fan now.ticked))

-- by document 01's flow-high rule
abbrev pub High : Choices → List Shown → Shown → Type 0
High choices earlier now = FlowHigh (H choices) (ticks (earlier ++ (now ∷ [])))

-- the damper command, which is among the outputs
abbrev pub command : Shown → Float
command s = s.output.damper_command

-- The damper is closed at the last of the accepted ticks: at it, or at some earlier one, the command was below 0.01,
-- and at every one from that to the last it was below 0.01 + 0.005.
pub record DamperClosed (accepted : List Shown) : Type 0 where
  pub before : List Shown
  pub closing : Shown
  pub since : List Shown
  pub parts : accepted ≡ before ++ (closing ∷ since)
  pub below : T (command closing <ᶠ decimal 1 100)
  pub stays_below : AllStay (λ (s : Shown). command s <ᶠ decimal 1 100 ⊕ (decimal 5 10 ⊗ decimal 1 100)) (closing ∷ since)

abbrev pub Closed : List Shown → Shown → Type 0
Closed earlier now = DamperClosed (earlier ++ (now ∷ []))

-- ---- since when a condition has held

-- It did not hold at the last of the accepted ticks `earlier`.
pub record FalseBefore (Holds : List Shown → Shown → Type 0) (earlier : List Shown) : Type 0 where
  pub before : List Shown
  pub last : Shown
  pub parts : earlier ≡ before ++ (last ∷ [])
  pub is_false : ¬ Holds before last

-- So it rises at the tick after these, if it holds there. The first accepted tick counts as a rise in a quiet start, and not in a plain one.
abbrev pub Rose : (List Shown → Shown → Type 0) → Bool → List Shown → Type 0
Rose Holds quiet earlier = FalseBefore Holds earlier ⊎ ((earlier ≡ []) × T quiet)

-- It last rose at `rise`: it has held at every accepted tick from there to the last, and did not at the one before.
pub record LastRise (Holds : List Shown → Shown → Type 0) (quiet : Bool) (accepted : List Shown) (rise : Shown) : Type 0 where
  pub earlier : List Shown
  pub since : List Shown
  pub parts : accepted ≡ earlier ++ (rise ∷ since)
  pub held : HoldsAlong Holds earlier (rise ∷ since)
  pub rose : Rose Holds quiet earlier

-- `lacking` is 600 less the seconds from there to `now`
pub record Lacks (Holds : List Shown → Shown → Type 0) (quiet : Bool) (earlier : List Shown) (now : Shown) (lacking : ℕ) : Type 0 where
  pub rise : Shown
  pub last_rise : LastRise Holds quiet (earlier ++ (now ∷ [])) rise
  pub seconds_told : lacking + seconds now.ticked.t ≡ 600 + seconds rise.ticked.t

-- ---- N2's answer: whether the other memory would have given another answer. The memory is what was so (`Was`) at the accepted tick before, and
-- with it the answer is what is so now (`Is`).
pub record ByMemory (answer : Bool → Bool) (Was Is : Type 0) (told : Bool) : Type 0 where
  pub memory : Bool
  pub memory_is : T memory ↔ Was
  pub answer_is : T (answer memory) ↔ Is
  pub exactly : T told ↔ (answer (not memory) ≡ not (answer memory))

abbrev pub FlowByMemory : Choices → List Shown → Shown → Bool → Type 0
FlowByMemory choices earlier now told =
    ByMemory (greater_hysteretic (flow now.ticked) (H choices) FLOW_HYSTERESIS) (FlowHigh (H choices) (ticks earlier)) (High choices earlier now) told

abbrev pub DamperByMemory : List Shown → Shown → Bool → Type 0
DamperByMemory earlier now told =
    ByMemory (less_hysteretic (command now) DAMPER_POSITION_HYSTERESIS (decimal 5 10 ⊗ DAMPER_POSITION_HYSTERESIS)) (DamperClosed earlier) (Closed earlier now) told

-- ---- the sensor alarm

-- What has to hold for 600 seconds, by whether the reading is the second: in the first flow is high with the fan off, in the second the fan is off.
-- The mode is in neither. The second's last rise is the fan's last stop.
abbrev pub SensorCondition : Bool → Choices → List Shown → Shown → Type 0
SensorCondition false choices earlier now = High choices earlier now × FanIsOff now
SensorCondition true choices earlier now = FanIsOff now

-- the reason r at `now`: the first that is true of mode, fan, flow and time
pub record SensorReasonTrue (choices : Choices) (earlier : List Shown) (now : Shown) (r : SensorReason) : Type 0 where
  pub not_occupied : (r.reason ≡ NotOccupied) ↔ (¬ Occupied now)
  pub fan_on : (r.reason ≡ FanOn) ↔ (Occupied now × FanRuns now)
  pub flow_not_high : (r.reason ≡ FlowNotHigh) ↔ (Occupied now × FanIsOff now × ¬ High choices earlier now)
  -- the mode is 1, flow is high with the fan off, the alarm does not stand, and so much is lacking since the condition last rose
  pub held : (lacking : ℕ) → (r.reason ≡ Held lacking)
      ↔ (Occupied now × FanIsOff now × High choices earlier now × (now.output.airflow_sensor_alarm ≢ pos 3)
      × Lacks (SensorCondition choices.second_reading choices) choices.quiet earlier now lacking)
  pub from_1_to_600 : (lacking : ℕ) → r.reason ≡ Held lacking → (1 ≤ lacking) × (lacking ≤ 600)
  pub alarm_stands : (r.reason ≡ AlarmStands) ↔ (now.output.airflow_sensor_alarm ≡ pos 3)
  pub no_other : (r.reason ≢ NoTick) × (r.reason ≢ FanOff) × (r.reason ≢ DamperNotClosed)
  pub flow_by_memory : FlowByMemory choices earlier now r.flow_by_memory

-- ---- the leak alarm

abbrev pub LeakCondition : Choices → List Shown → Shown → Type 0
LeakCondition choices earlier now = FanRuns now × Closed earlier now × High choices earlier now

-- the first that is true of fan, damper, flow and time
pub record LeakReasonTrue (choices : Choices) (earlier : List Shown) (now : Shown) (r : LeakReason) : Type 0 where
  pub fan_off : (r.reason ≡ FanOff) ↔ FanIsOff now
  pub damper_not_closed : (r.reason ≡ DamperNotClosed) ↔ (FanRuns now × ¬ Closed earlier now)
  pub flow_not_high : (r.reason ≡ FlowNotHigh) ↔ (FanRuns now × Closed earlier now × ¬ High choices earlier now)
  -- fan, damper and flow are as a leak has them, the alarm does not stand, and so much is lacking since they last came to be so
  pub held : (lacking : ℕ) → (r.reason ≡ Held lacking)
      ↔ (LeakCondition choices earlier now × (now.output.leaking_damper_alarm ≢ pos 4)
      × Lacks (LeakCondition choices) choices.quiet earlier now lacking)
  pub from_1_to_600 : (lacking : ℕ) → r.reason ≡ Held lacking → (1 ≤ lacking) × (lacking ≤ 600)
  pub alarm_stands : (r.reason ≡ AlarmStands) ↔ (now.output.leaking_damper_alarm ≡ pos 4)
  pub no_other : (r.reason ≢ NoTick) × (r.reason ≢ NotOccupied) × (r.reason ≢ FanOn)
  pub damper_by_memory : DamperByMemory earlier now r.damper_by_memory
  pub flow_by_memory : FlowByMemory choices earlier now r.flow_by_memory

-- ---- after any night

-- the reasons of a box
abbrev pub sensor_reason_of : AirBox → SensorReason
sensor_reason_of box = sensor_reason box.last_tick box.state.alarms

abbrev pub leak_reason_of : AirBox → LeakReason
leak_reason_of box = leak_reason box.last_tick box.state.alarms

-- of a box that has accepted these ticks
pub record ReasonsTrue (choices : Choices) (accepted : List Shown) (box : AirBox) : Type 0 where
  -- where there was none: the reason of its own, and no flag
  pub no_tick : accepted ≡ []
      → (sensor_reason_of box ≡ record { reason = NoTick; flow_by_memory = false })
      × (leak_reason_of box ≡ record { reason = NoTick; damper_by_memory = false; flow_by_memory = false })
  -- where `now` is the last
  pub sensor : (earlier : List Shown) (now : Shown) → accepted ≡ earlier ++ (now ∷ []) → SensorReasonTrue choices earlier now (sensor_reason_of box)
  pub leak : (earlier : List Shown) (now : Shown) → accepted ≡ earlier ++ (now ∷ []) → LeakReasonTrue choices earlier now (leak_reason_of box)

-- ---- refused ticks, any number of them, of any box

abbrev pub AllRefused : Option Float → List Tick → Type 0
AllRefused last [] = Unit
AllRefused last (k ∷ ks) = (¬ AllYes last k) × AllRefused last ks

-- ---- N3
pub record WhyNoAlarm : Type 0 where
  pub true_of_the_history : (choices : Choices) (night : List Tick)
      → ReasonsTrue choices (shown (night_of choices night)) (box_after tick (unticked choices) night)
  pub refused_ticks_leave_it : (box : AirBox) (refused : List Tick) → AllRefused box.last_time refused
      → (sensor_reason_of (box_after tick box refused) ≡ sensor_reason_of box) × (leak_reason_of (box_after tick box refused) ≡ leak_reason_of box)
